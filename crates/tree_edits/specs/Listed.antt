-- Where a node is listed: the table that its parent's header names, and the first entry in use that names the node.
use Rattle.std.specs.Prelude.{◌≡◌, ◌⊎◌, ℕ, ◌+◌, ◌*◌, ◌≤◌, ◌<◌, ◌==◌, Bool, false, not, List, length, Option, Some, None, IfSome}
use Rattle.adf_format.specs.RecordFields.{node_length}
use Rattle.adf_format.specs.Checks.{first_broken}
use Rattle.adf_records.specs.declared.NodeHeader.{NodeHeader}
use Rattle.cg_io.specs.Blocks.{ReadsFew}
use Rattle.cg_io.specs.Device.{DeviceState}
use Rattle.node_reads.specs.declared.find.Wanted.{Wanted}
use Rattle.node_reads.specs.declared.find.Wanted.TheVariants.{Place}
use Rattle.node_reads.specs.declared.header.ChildTable.{ChildTable}
use Rattle.node_reads.specs.Reads.{ReadAt, Breaks, IsFirst}
use Rattle.node_reads.specs.Headers.{IsHeader, header_rows, table_rows, table_named}
use Rattle.node_reads.specs.Entries.{is_wanted_at, pieces_of}
use Rattle.tree_edits.specs.declared.listed.Listed.{Listed}
use Rattle.tree_edits.specs.declared.memory.Core.{Core}
use Rattle.tree_edits.specs.declared.rows.Row.{Row}
use Rattle.tree_edits.specs.Rows.{row_of}

-- a table is the one that the header at a place names
pub record NamesTable (wide : Bool) (held : Option (List ℕ)) (place : ℕ) (table : ChildTable) : Type 0 where
  pub header : NodeHeader
  pub read : ReadAt held place (node_length wide) (IsHeader wide place None header)
  pub kept : first_broken (table_rows header place) ≡ None
  pub is : table ≡ table_named header

-- the header at a place breaks no rule, and its table breaks one, as far as the header tells
pub record TableFails (wide : Bool) (held : Option (List ℕ)) (place rule at : ℕ) : Type 0 where
  pub header : NodeHeader
  pub read : ReadAt held place (node_length wide) (IsHeader wide place None header)
  pub fails : first_broken (table_rows header place) ≡ Some (record { rule = rule; place = at })

-- the header at a place breaks a rule, or its table does
abbrev pub TableBreaks : Bool → Option (List ℕ) → ℕ → ℕ → ℕ → Type 0
TableBreaks wide held place rule at =
    Breaks held place (node_length wide) (header_rows wide place None) rule at ⊎ TableFails wide held place rule at

-- a table is that of the node of a serial
pub record IsTableOf (core : Core) (held : Option (List ℕ)) (parent : ℕ) (table : ChildTable) : Type 0 where
  pub above : Row
  pub found : row_of core.rows.items parent ≡ Some above
  pub named : NamesTable core.wide held above.place table

-- the first of the entries in use that is wanted, where the bytes are told and have them
abbrev pub FindsFirst : Option (List ℕ) → ChildTable → Wanted → Option ℕ → Type 0
FindsFirst held table wanted found = IfSome held (λ image.
    table.place + 16 + 44 * table.count ≤ length image
    → IsFirst (is_wanted_at wanted image table.place) 0 table.count found)

-- the table of a parent, and the first entry in it that names the header at a place
pub record IsListed (core : Core) (held : Option (List ℕ)) (place parent : ℕ) (listed : Listed) : Type 0 where
  pub table : IsTableOf core held parent listed.table
  pub first : FindsFirst held listed.table (Place place) (Some listed.position)
  pub within : listed.position < listed.table.count
  pub few : listed.table.count ≤ listed.table.entries

-- the header of a parent breaks a rule, or its table does
pub record ParentBreaks (core : Core) (held : Option (List ℕ)) (parent rule at : ℕ) : Type 0 where
  pub above : Row
  pub found : row_of core.rows.items parent ≡ Some above
  pub breaks : TableBreaks core.wide held above.place rule at

-- a parent has no row, or no entry in use of its table names the header at a place
abbrev pub NamesNone : Core → Option (List ℕ) → ℕ → ℕ → Type 0
NamesNone core held place parent =
    (row_of core.rows.items parent ≡ None)
    ⊎ ((table : ChildTable) × IsTableOf core held parent table × FindsFirst held table (Place place) None)

-- why the entry of the header at a place is not found: a rule that the parent breaks; or none names it, so that the header
-- is a part of no node (rule 30)
abbrev pub IsUnlisted : Core → Option (List ℕ) → ℕ → ℕ → ℕ → ℕ → Type 0
IsUnlisted core held place parent rule at =
    ParentBreaks core held parent rule at ⊎ ((rule ≡ 30) × (at ≡ place) × NamesNone core held place parent)

-- what was found is an entry, and another than the one at a position
abbrev pub is_another : Option ℕ → ℕ → Bool
is_another None position = false
is_another (Some other) position = not (other == position)

-- few reads; or the entries of a table were read, so many times, and few reads more
abbrev pub ReadsTable : (ChildTable → Type 0) → ℕ → ℕ → DeviceState → DeviceState → Type 0
ReadsTable IsIts times few old new =
    ReadsFew few old new ⊎ ((table : ChildTable) × IsIts table × ReadsFew (2 * times * pieces_of table.count + few) old new)
