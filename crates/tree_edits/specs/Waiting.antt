-- Which blocks an edit makes wait: those with bytes of the heap's fields, of gaps, of what the file grew by, and of ranges of its own.
use Rattle.std.specs.Prelude.{ℕ, ◌+◌, ◌≤◌, List, [], ◌∷◌, ◌++◌, Option, Some, None, IfSome}
use Rattle.adf_format.specs.declared.types.Extent.{Extent}
use Rattle.adf_format.specs.Changes.{heap_fields}
use Rattle.adf_format.specs.Tree.{Tree}
use Rattle.adf_format.specs.Placement.{Placement, Heap}
use Rattle.adf_model.specs.declared.tree.Edit.{Edit}
use Rattle.adf_model.specs.Untouched.{touched_extents}
use Rattle.cg_io.specs.Waits.{WaitsOnly}
use Rattle.field_access.specs.Fields.{IsWithin, WaitsWithin, range}
use Rattle.node_reads.specs.declared.header.ChildTable.{ChildTable}
use Rattle.tree_laws.specs.MidEdit.{room}
use Rattle.tree_laws.specs.Reached.{CanReach}
use Rattle.tree_edits.specs.declared.memory.Core.{Core}
use Rattle.tree_edits.specs.declared.room.Parent.{Parent}
use Rattle.tree_edits.specs.declared.link_rooms.Rooms.{Rooms}
use Rattle.tree_edits.specs.Rows.{Means}
use Rattle.tree_edits.specs.Edits.{memory_of}
use Rattle.tree_edits.specs.Joined.{extents_of_table}
use Rattle.tree_edits.specs.Linked.{longer_length}

-- from one state of the heap to another: blocks wait anew only of what may be written between them, in which the gaps stay too
pub record WaitsInRoom (ranges : List Extent) (before after : Heap) (old new : List ℕ) : Type 0 where
  pub grows : before.end ≤ after.end
  pub gaps : IsWithin after.gaps (room ranges before after)
  pub only : WaitsWithin (heap_fields ++ room ranges before after) old new

-- some ranges are taken, of the gaps and behind the end
pub record TakesInRoom (taken : List Extent) (before after : Heap) (old new : List ℕ) : Type 0 where
  pub waits : WaitsInRoom [] before after old new
  pub inside : IsWithin taken (room [] before after)

-- where bytes are told
abbrev pub IfTold : Option (List ℕ) → Type 0 → Type 0
IfTold held P = IfSome held (λ bytes. P)

-- the fields of the header at a place that count children and entries and name the table, and the table
abbrev pub list_ranges : ℕ → ChildTable → List Extent
list_ranges header table = range (header + 68) 28 ∷ extents_of_table table

-- the same of a node that gets a child
abbrev pub parent_ranges : Parent → List Extent
parent_ranges parent = list_ranges parent.row.place parent.table

-- room for a longer table, where it is taken
abbrev pub table_room : Parent → Option ℕ → List Extent
table_room parent None = []
table_room parent (Some place) = range place (longer_length parent) ∷ []

-- room for a header of n bytes, a table and a chunk of m bytes
abbrev pub link_rooms : ℕ → ℕ → Parent → Rooms → List Extent
link_rooms n m parent rooms = range rooms.header n ∷ table_room parent rooms.table ++ range rooms.chunk m ∷ []

-- An edit that is done makes blocks wait anew only where it may write, of each tree and placement that the bytes and the memory
-- mean.
abbrev pub Reaches : Edit → Core → Core → List ℕ → List ℕ → List ℕ → Type 0
Reaches edit was now before after image =
    (tree : Tree) (p : Placement) → Means image tree p (memory_of was)
    → WaitsOnly (CanReach (touched_extents tree p edit) tree.wide p now.heap.work.heap.end) before after
