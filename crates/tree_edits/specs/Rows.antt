-- What the table of nodes by serial says of a tree and of where its parts stand, and what an open file means.
use Rattle.std.specs.Prelude.{◌≡◌, ℕ, ◌+◌, ◌^◌, ◌≤◌, Bool, List, length, Option, Some, None, slice_index_or, IsSome, IfSome}
use Rattle.adf_format.specs.RecordFields.{node_length}
use Rattle.adf_format.specs.Tree.{Tree, node_at, next_serial, parent_of, depth_of}
use Rattle.adf_format.specs.Placement.{Placement}
use Rattle.adf_format.specs.LaysOut.{LaysOut}
use Rattle.adf_format.specs.HeapRule.{parts_at}
use Rattle.file_heap.specs.Heap.{FreeSpace, IsThreaded}
use Rattle.tree_edits.specs.declared.rows.Row.{Row}

-- a row says where the node of a serial stands, and what is above it
pub record SaysRow (tree : Tree) (p : Placement) (serial : ℕ) (row : Row) : Type 0 where
  pub live : IsSome (node_at tree serial)
  pub place : row.place ≡ (parts_at p serial).header
  pub parent : row.parent ≡ parent_of tree serial
  pub depth : row.depth ≡ depth_of tree serial

-- the table has a row for a live node, and none for another
abbrev pub IsRowOf : Tree → Placement → ℕ → Option Row → Type 0
IsRowOf tree p serial None = node_at tree serial ≡ None
IsRowOf tree p serial (Some row) = SaysRow tree p serial row

pub record IsTable (tree : Tree) (p : Placement) (rows : List (Option Row)) : Type 0 where
  pub count : length rows ≡ next_serial tree
  pub each : (serial : ℕ) → IsRowOf tree p serial (slice_index_or rows serial None)

-- the row of a serial
abbrev pub row_of : List (Option Row) → ℕ → Option Row
row_of rows serial = slice_index_or rows serial None

-- each header ends below the greatest place, also where the bytes are not told
abbrev pub AreNear : Bool → List (Option Row) → Type 0
AreNear wide rows = (serial : ℕ) → IfSome (row_of rows serial) (λ row. row.place + node_length wide ≤ 2 ^ 44)

-- what is kept in memory of an open file, beside its bytes
pub record Memory : Type 0 where
  pub wide : Bool
  pub rows : List (Option Row)
  pub free : FreeSpace

-- the bytes lay out this tree at this placement, and what is kept in memory is its
pub record Means (image : List ℕ) (tree : Tree) (p : Placement) (memory : Memory) : Type 0 where
  pub laid_out : LaysOut image tree p
  pub wide : tree.wide ≡ memory.wide
  pub table : IsTable tree p memory.rows
  pub heap : p.heap ≡ memory.free.heap
  pub threads : IsThreaded memory.free image
