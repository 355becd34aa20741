-- The nodes that a deletion takes, each with its parts.
use Rattle.std.specs.Prelude.{◌≡◌, ℕ, ◌+◌, ◌^◌, ◌≤◌, ◌<◌, ◌∷◌, ◌++◌, List, length, take, Option, Some, IsSome, slice_get}
use Rattle.std.specs.List.{All, flat_map}
use Rattle.adf_data.specs.Chunks.{AreNamed}
use Rattle.adf_format.specs.RecordFields.{node_length, table_length}
use Rattle.adf_format.specs.Tree.{Tree, children_at, subtree}
use Rattle.adf_format.specs.Placement.{Placement, NodeParts, parts_of, table_extents}
use Rattle.disk_ptr.specs.View.{HasOffset}
use Rattle.node_reads.specs.declared.header.ChildTable.{ChildTable}
use Rattle.tree_asks.specs.Told.{OfEach}
use Rattle.tree_edits.specs.declared.memory.Core.{Core}
use Rattle.tree_edits.specs.Joined.{extents_of_table}
use Rattle.tree_edits.specs.Listed.{IsTableOf}
use Rattle.tree_edits.specs.Rows.{row_of}
use Rattle.tree_deletes.specs.declared.doomed.Doomed.{Doomed}
use Rattle.tree_deletes.specs.Erased.{serials_of}

-- ---- of bytes that may not be told

-- a node's parts end below the greatest place, and its serial was drawn
pub record IsSane (core : Core) (d : Doomed) : Type 0 where
  pub offset : HasOffset d.chunks.pointer
  pub table : d.table.place + table_length d.table.entries ≤ 2 ^ 44
  pub header : d.place + node_length core.wide ≤ 2 ^ 44
  pub drawn : d.serial < length core.rows.items

-- serials of rows that are there
abbrev pub HaveRows : Core → List ℕ → Type 0
HaveRows core serials = All (λ s. IsSome (row_of core.rows.items s)) serials

-- the bytes are not told, or they and the memory mean no tree
abbrev pub MeansNone : Core → Option (List ℕ) → Type 0
MeansNone core held = OfEach core held (λ image tree p. ⊥)

-- ---- of each tree and placement that is meant

-- a serial is that of the child at a position of a table, of whichever node the table is
abbrev pub IsChildAt : Core → Option (List ℕ) → ChildTable → ℕ → ℕ → Type 0
IsChildAt core held table position s =
    (parent : ℕ) → IsTableOf core held parent table
    → OfEach core held (λ image tree p. slice_get (children_at tree parent) position ≡ Some s)

-- the serials of the children of a table are added
abbrev pub AddsChildren : Core → Option (List ℕ) → ChildTable → List ℕ → List ℕ → Type 0
AddsChildren core held table old new =
    (parent : ℕ) → IsTableOf core held parent table
    → OfEach core held (λ image tree p. new ≡ old ++ children_at tree parent)

-- a table is that of no node
abbrev pub IsLost : Core → Option (List ℕ) → ChildTable → Type 0
IsLost core held table = (parent : ℕ) → IsTableOf core held parent table → MeansNone core held

-- the header, the table and the data of a node stand where its parts say
pub record Stands (bytes : List ℕ) (parts : NodeParts) (d : Doomed) : Type 0 where
  pub header : d.place ≡ parts.header
  pub table : extents_of_table d.table ≡ table_extents parts.table
  pub chunks : AreNamed d.chunks parts bytes

pub record IsDoomed (bytes : List ℕ) (tree : Tree) (p : Placement) (d : Doomed) : Type 0 where
  pub parts : NodeParts
  pub placed : parts_of p d.serial ≡ Some parts
  pub stands : Stands bytes parts d

-- a walk down from a node, level by level: of the nodes that were visited all children are found
pub record IsWalk (bytes : List ℕ) (tree : Tree) (p : Placement) (top : ℕ) (found : List ℕ) (nodes : List Doomed) : Type 0 where
  pub reached : found ≡ top ∷ flat_map (children_at tree) (serials_of nodes)
  pub visited : serials_of nodes ≡ take (length nodes) found
  pub each : All (IsDoomed bytes tree p) nodes

-- the nodes of a subtree, by serial
pub record AreDoomed (bytes : List ℕ) (tree : Tree) (p : Placement) (top : ℕ) (nodes : List Doomed) : Type 0 where
  pub serials : serials_of nodes ≡ subtree tree top
  pub each : All (IsDoomed bytes tree p) nodes

abbrev pub IsSubtree : Core → Option (List ℕ) → ℕ → List Doomed → Type 0
IsSubtree core held top nodes = OfEach core held (λ image tree p. AreDoomed image tree p top nodes)
