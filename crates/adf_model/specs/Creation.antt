-- The texts that a created child is written with: its header, and the entries of a longer table.
use Rattle.std.specs.Prelude.{ℕ, ◌+◌, ◌*◌, Bool, List, [], replicate, Option, Some, None}
use Rattle.adf_format.specs.declared.types.DataType.TheVariants.{Mt}
use Rattle.adf_format.specs.Pointer.{Blank}
use Rattle.adf_format.specs.Fields.{field, text_field}
use Rattle.adf_format.specs.Parts.{dimension_digits}
use Rattle.adf_format.specs.Placement.{TablePart}
use Rattle.adf_format.specs.Records.{NodeRecord}

-- the header of a node without shape, data and children
abbrev pub empty_node : Bool → List ℕ → List ℕ → NodeRecord
empty_node wide name label = record {
  name = text_field 32 name;
  label = text_field 32 label;
  children = 0;
  entries = 0;
  table = Blank;
  kind = Mt;
  rank = 0;
  dims = replicate 12 (replicate (dimension_digits wide) 48);
  chunks = 0;
  chunk = Blank;
}

-- so many unused entries
abbrev pub unused_entries : ℕ → List ℕ
unused_entries count = replicate (44 * count) 0

-- the entries in use of a table, as they stand
abbrev pub used_entries : List ℕ → Option TablePart → ℕ → List ℕ
used_entries image None count = []
used_entries image (Some t) count = field image (t.place + 16) (44 * count)
