-- The causes of refused children, and how often the table of a parent is read.
use Rattle.std.proofs.Common.{◌≡◌, inl, inr, ℕ, ◌+◌, ◌*◌, arith, List, length, Bool, true, false, Option, None, Some}
use Rattle.adf_format.specs.Fields.{text_field}
use Rattle.adf_format.specs.Names.{is_name, is_label, is_lk}
use Rattle.adf_format.specs.RecordFields.{node_length}
use Rattle.adf_model.specs.declared.error.AdfError.{AdfError}
use Rattle.adf_model.specs.declared.error.AdfError.TheVariants as error
use Rattle.adf_model.specs.declared.tree.NodeId.{NodeId}
use Rattle.adf_records.specs.declared.NodeHeader.{NodeHeader}
use Rattle.cg_io.specs.Blocks.{ReadsFew, blocks_of}
use Rattle.cg_io.specs.Device.{DeviceState}
use Rattle.cg_io.proofs.ReadLaws.{reads_then, reads_more}
use Rattle.node_reads.specs.declared.find.Wanted.TheVariants.{Name}
use Rattle.node_reads.specs.declared.header.ChildTable.{ChildTable}
use Rattle.node_reads.specs.Reads.{ReadAt, IsUnread}
use Rattle.node_reads.specs.Headers.{IsHeader}
use Rattle.node_reads.specs.Entries.{pieces_of}
use Rattle.tree_edits.specs.declared.memory.Core.{Core}
use Rattle.tree_edits.specs.declared.rows.Row.{Row}
use Rattle.tree_edits.specs.Causes.{named_row}
use Rattle.tree_edits.specs.Listed.{NamesTable, TableBreaks, IsTableOf, FindsFirst, ReadsTable}
use Rattle.tree_edits.specs.Room.{SaysKind, HasAsked, IsRoomRefusal, IsRoomCause}
use Rattle.tree_edits.proofs.Causes.{row_there, header_blocks}

module _ (core : Core) (at : NodeId) (name label : List ℕ) (held : Option (List ℕ)) (row : Row) (found : named_row core at ≡ Some row) where
  pub table_cause : (before now : ℕ) (e : AdfError) → IsUnread (TableBreaks core.wide held row.place) before now e → IsRoomCause core at name label held before now e
  table_cause before now error.ReadFault h = (row_there (named_row core at) row found, h)
  table_cause before now (error.Layout rule place) h = (row, found, h)
  table_cause before now other h = absurd h

  pub table_is : (table : ChildTable) → NamesTable core.wide held row.place table → IsTableOf core held at.serial table
  table_is table n = record { above = row; found = found; named = n }

  -- the header alone was read
  pub header_read : (a b : DeviceState) → ReadsFew (blocks_of row.place (node_length core.wide)) a b → ReadsTable (IsTableOf core held at.serial) 1 2 a b
  header_read a b few = inl (reads_more _ 2 a b few (header_blocks core.wide row.place))

  pub soon : (table : ChildTable) (a b z : DeviceState) → ReadsFew (blocks_of row.place (node_length core.wide)) a b → ReadsFew (2 * pieces_of table.count) b z → ReadsFew (2 * pieces_of table.count + 2) a z
  soon table a b z one two = let few = header_blocks core.wide row.place in reads_then _ _ (2 * pieces_of table.count + 2) a b z one two (omega (arith, few))

  -- the table was read too
  pub table_read : (table : ChildTable) → NamesTable core.wide held row.place table → (a b z : DeviceState) → ReadsFew (blocks_of row.place (node_length core.wide)) a b → ReadsFew (2 * pieces_of table.count) b z → ReadsTable (IsTableOf core held at.serial) 1 2 a z
  table_read table n a b z one two = let few = header_blocks core.wide row.place in inr (table, table_is table n, reads_then _ _ (2 * 1 * pieces_of table.count + 2) a b z one two (omega (arith, few)))

  module _ (header : NodeHeader) (read : ReadAt held row.place (node_length core.wide) (IsHeader core.wide row.place None header)) (link : Bool) (is : is_lk header.kind ≡ link) where
    pub says_kind : SaysKind core at held link row
    says_kind = record { found = found; header = header; read = read; kind = is }

  module _ (node : SaysKind core at held false row) (may : core.writable ≡ true) (good : is_name name ≡ true) (fine : is_label label ≡ true) (table : ChildTable) (named_by : NamesTable core.wide held row.place table) where
    pub asked : (o : Option ℕ) → FindsFirst held table (Name (text_field 32 name)) o → HasAsked core at name label held row table o
    asked o first = record { may = record { node = node; allowed = may; named = good; labelled = fine }; named_by = named_by; first = first }

    pub room_cause : (before now : ℕ) → FindsFirst held table (Name (text_field 32 name)) None → (e : AdfError) → IsRoomRefusal table.count row.depth (length core.rows.items) e → IsRoomCause core at name label held before now e
    room_cause before now first error.TooManyChildren h = record { row = row; table = table; asked = asked None first; lacks = h }
    room_cause before now first error.TooDeep h = record { row = row; table = table; asked = asked None first; lacks = h }
    room_cause before now first error.TooLarge h = record { row = row; table = table; asked = asked None first; lacks = h }
    room_cause before now first other h = absurd h
