-- Children that are kept in memory, beside the table that has them.
use Rattle.std.specs.Prelude.{◌≡◌, ℕ, ◌+◌, ◌*◌, ◌≤◌, ◌<◌, [], List, length, Option, Some, IfSome, slice_index_or}
use Rattle.adf_format.specs.FirstFault.{entry_name}
use Rattle.node_reads.specs.declared.header.ChildTable.{ChildTable}
use Rattle.tree_edits.specs.declared.memory.Core.{Core}
use Rattle.tree_edits.specs.declared.rows.Row.{Row}
use Rattle.tree_edits.specs.Listed.{IsTableOf}
use Rattle.tree_edits.specs.Rows.{row_of}

-- a list has one child for each entry in use of a table, in order, with the name field of that entry
pub record IsListOf (image : List ℕ) (table : ChildTable) (list : List (List ℕ × ℕ)) : Type 0 where
  pub many : length list ≡ table.count
  pub named : (i : ℕ) → i < table.count → entry_name image table.place i ≡ (slice_index_or list i ([], 0)).0

-- where the bytes are told and have the entries
abbrev pub ListsTable : Option (List ℕ) → ChildTable → List (List ℕ × ℕ) → Type 0
ListsTable held table list = IfSome held (λ image.
    table.place + 16 + 44 * table.count ≤ length image → IsListOf image table list)

-- it is so of each table that is that of the node of a serial
abbrev pub ListsChildren : Core → Option (List ℕ) → ℕ → List (List ℕ × ℕ) → Type 0
ListsChildren core held parent list =
    (table : ChildTable) → IsTableOf core held parent table → ListsTable held table list

-- and those of the parent that the row of a node names
abbrev pub ListsSiblings : Core → Option (List ℕ) → ℕ → List (List ℕ × ℕ) → Type 0
ListsSiblings core held serial list =
    (row : Row) (parent : ℕ) → row_of core.rows.items serial ≡ Some row → row.parent ≡ Some parent
    → ListsChildren core held parent list
