-- The fresh file, as the writer spells it: a header, a free table without lists, and the root alone.
use Rattle.std.specs.Prelude.{ℕ, ◌+◌, ◌-◌, Bool, List, [], ◌∷◌, ◌++◌, replicate, codes, Some}
use Rattle.adf_format.specs.Pointer.{Blank, To}
use Rattle.adf_format.specs.Fields.{text_field}
use Rattle.adf_format.specs.declared.fields.TheConstants.{HEADER_CREATED, HEADER_MODIFIED, HEADER_SIZES, PRODUCT, CLOSING, FREE_TABLE_PLACE, NODE_NAME, NODE_LABEL}
use Rattle.adf_format.specs.RecordFields.{dimension_digits, node_length}
use Rattle.adf_format.specs.declared.types.Format.{Format}
use Rattle.adf_format.specs.Tree.{fresh_root}
use Rattle.adf_format.specs.Parts.{version_letter}
use Rattle.adf_format.specs.Placement.{Placement}
use Rattle.adf_format.specs.HeapRule.{no_parts}
use Rattle.adf_format.specs.Records.{HeaderRecord, NodeRecord, header_text, free_table_text, node_text}

-- the last byte: 511, or 607 in a wide file
abbrev pub fresh_end : Bool → ℕ
fresh_end wide = 265 + node_length wide

abbrev pub fresh_header : Bool → HeaderRecord
fresh_header wide = record {
  what = PRODUCT ++ version_letter wide ++ codes "02007" ++ CLOSING;
  created = replicate HEADER_CREATED.length 32;
  modified = replicate HEADER_MODIFIED.length 32;
  format = Format.Little;
  size_letter = codes "L";
  sizes = replicate HEADER_SIZES.length 48;
  root = To 266;
  end = To (fresh_end wide);
  free_table = To FREE_TABLE_PLACE;
  extra = codes "000000001000";
}

abbrev pub fresh_node : Bool → NodeRecord
fresh_node wide = record {
  name = text_field NODE_NAME.length fresh_root.name;
  label = text_field NODE_LABEL.length fresh_root.label;
  children = 0;
  entries = 0;
  table = Blank;
  kind = fresh_root.kind;
  rank = 0;
  dims = replicate 12 (replicate (dimension_digits wide) 48);
  chunks = 0;
  chunk = Blank;
}

-- the bytes up to the last one
unfoldable pub fresh_text : Bool → List ℕ
fresh_text wide = header_text (fresh_header wide) ++ free_table_text (replicate 6 Blank) ++ node_text (fresh_node wide)

-- the one block that is written: these bytes, and zeros
unfoldable pub fresh_block : Bool → List ℕ
fresh_block wide = fresh_text wide ++ replicate (4095 - fresh_end wide) 0

abbrev pub fresh_placement : Bool → Placement
fresh_placement wide = record { parts = Some (record no_parts { header = 266 }) ∷ []; heap = record { gaps = []; end = fresh_end wide } }
