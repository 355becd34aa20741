-- Tables of children: entries that move up, and a longer table in the place of a full one.
use Rattle.std.specs.Prelude.{◌≡◌, ℕ, suc, ◌+◌, ◌-◌, ◌*◌, ◌^◌, ◌<◌, ◌≤◌, List, ◌∷◌, ◌++◌, length, slice_set, Some}
use Rattle.adf_format.specs.declared.types.Extent.{Extent}
use Rattle.adf_format.specs.declared.types.ExtentKind.{ExtentKind}
use Rattle.adf_format.specs.Hex.{hex_text}
use Rattle.adf_format.specs.Pointer.{To, pointer_text}
use Rattle.adf_format.specs.Fields.{field}
use Rattle.adf_format.specs.Tree.{Tree, children_at}
use Rattle.adf_format.specs.Parts.{table_length}
use Rattle.adf_format.specs.Placement.{Placement, NodeParts, extent, parts_of, table_extents}
use Rattle.adf_format.specs.Changes.{Writes}
use Rattle.adf_format.specs.Records.{SubNodes}
use Rattle.adf_format.specs.Spelled.{framed_text}
use Rattle.adf_model.specs.Creation.{used_entries}
use Rattle.tree_laws.specs.Holding.{Holds}

-- the entries behind one are moved up, in a table that lists so many, and the header of its node counts one less
pub record ClosesUp (header table count i : ℕ) (old middle new : List ℕ) : Type 0 where
  pub entries : Writes (table + 16 + 44 * i) (field old (table + 16 + 44 * (i + 1)) (44 * (count - suc i))) old middle
  pub counted : Writes (header + 68) (hex_text 8 (count - 1)) middle new

-- a full table is replaced by a longer one of the same entries: no node changes; then a move goes on as with an
-- unused entry
abbrev pub TableIsReplaced : Type 0
TableIsReplaced =
    (kind : ExtentKind) (old new rest : List ℕ) (tree : Tree) (p : Placement) (taken : List Extent)
    (serial table entries : ℕ) (from : NodeParts)
    → Holds old tree p (extent kind table (table_length entries) ∷ taken) → parts_of p serial ≡ Some from
    → length (children_at tree serial) < entries → entries < 16 ^ 8 → table + table_length entries ≤ 2 ^ 44
    → length rest ≡ 44 * (entries - length (children_at tree serial))
    → field old table (table_length entries) ≡ framed_text SubNodes table (used_entries old from.table (length (children_at tree serial)) ++ rest)
    → Writes (from.header + 68) (hex_text 8 (length (children_at tree serial)) ++ hex_text 8 entries ++ pointer_text (To table)) old new
    → Holds new tree (record p { parts = slice_set p.parts serial (Some (record from { table = Some (record { place = table; entries = entries }) })) }) (table_extents from.table ++ taken)
