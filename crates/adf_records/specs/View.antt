-- What the records in code say.
use Rattle.std.specs.Prelude.{◌≡◌, ℕ, Bool, true, false, List, [], ◌∷◌, take, drop, map, replicate, ⊤}
use Rattle.std.specs.List.{AllByRecursion}
use Rattle.adf_format.specs.Pointer.{Pointer}
use Rattle.adf_format.specs.Checks.{Fault}
use Rattle.adf_format.specs.Parts.{dimension_digits}
use Rattle.adf_format.specs.Records.{HeaderRecord, NodeRecord}
use Rattle.disk_ptr.specs.View.{view, HasOffset}
use Rattle.adf_records.specs.declared.BadField.{BadField}
use Rattle.adf_records.specs.declared.FileHeader.{FileHeader}
use Rattle.adf_records.specs.declared.FreeTable.{FreeTable}
use Rattle.adf_records.specs.declared.NodeHeader.{NodeHeader}

-- a broken rule, and where
abbrev pub fault : BadField → Fault
fault b = record { rule = b.rule; place = b.offset }

-- ---- the file header

abbrev pub header_of : FileHeader → HeaderRecord
header_of h = record {
  what = h.what;
  created = h.created;
  modified = h.modified;
  format = h.format;
  size_letter = h.size_letter ∷ [];
  sizes = h.sizes;
  root = view h.root;
  end = view h.end;
  free_table = view h.free_table;
  extra = h.extra;
}

-- each pointer's offset is within a block
abbrev pub HasHeaderOffsets : FileHeader → Type 0
HasHeaderOffsets h = HasOffset h.root × HasOffset h.end × HasOffset h.free_table

-- ---- the free table: its six pointers in their order

abbrev pub pointers_of : FreeTable → List Pointer
pointers_of t = view t.small_first ∷ view t.small_last ∷ view t.medium_first ∷ view t.medium_last ∷ view t.large_first ∷ view t.large_last ∷ []

abbrev pub HasFreeOffsets : FreeTable → Type 0
HasFreeOffsets t = HasOffset t.small_first × HasOffset t.small_last × HasOffset t.medium_first × HasOffset t.medium_last × HasOffset t.large_first × HasOffset t.large_last

-- ---- a node header

abbrev pub record_of : NodeHeader → NodeRecord
record_of n = record {
  name = n.name;
  label = n.label;
  children = n.children;
  entries = n.entries;
  table = view n.table;
  kind = n.kind;
  rank = n.rank;
  dims = map (take (dimension_digits n.wide)) n.dims;
  chunks = n.chunks;
  chunk = view n.chunk;
}

abbrev pub HasOffsets : NodeHeader → Type 0
HasOffsets n = HasOffset n.table × HasOffset n.chunk

-- in a narrow header the bytes of a dimension from 8 on are zeros
abbrev pub zeros_behind : Bool → List ℕ → Type 0
zeros_behind true d = ⊤
zeros_behind false d = drop 8 d ≡ replicate 8 0

abbrev pub IsNarrow : NodeHeader → Type 0
IsNarrow n = AllByRecursion (zeros_behind n.wide) n.dims
