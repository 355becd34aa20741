-- Laws of moves: a node leaves one list and joins another, or the end of its own, by one switch of the writes.
use Rattle.std.specs.Prelude.{nat_lt, ◌≡◌, ◌≢◌, ℕ, suc, ◌+◌, ◌-◌, ◌*◌, ◌^◌, ◌<◌, ◌≤◌, true, false, List, [], ◌∷◌, ◌++◌, length, slice_get, slice_set, Some, Ok, Err}
use Rattle.std.specs.List.{list_any}
use Rattle.adf_format.specs.declared.types.Extent.{Extent}
use Rattle.adf_format.specs.declared.types.ExtentKind.{ExtentKind}
use Rattle.adf_format.specs.Hex.{hex_text}
use Rattle.adf_format.specs.Pointer.{To, pointer_text}
use Rattle.adf_format.specs.Fields.{field, text_field}
use Rattle.adf_format.specs.Tree.{Tree, IsTree, node_at, is_live, children_at, next_serial, parent_of, depth_of, lineage, is_within, subtree, name_at}
use Rattle.adf_format.specs.Parts.{table_length}
use Rattle.adf_format.specs.Placement.{Placement, NodeParts, TablePart, Heap, extent, parts_of, table_extents}
use Rattle.adf_format.specs.LaysOut.{entry_count}
use Rattle.adf_format.specs.HeapRule.{Placed, LimitReached, heap_take, grown_entries}
use Rattle.adf_format.specs.Changes.{Writes}
use Rattle.adf_format.specs.Records.{SubNodes, entry_text}
use Rattle.adf_format.specs.Spelled.{framed_text}
use Rattle.adf_model.specs.declared.tree.Edit.{Edit}
use Rattle.adf_model.specs.declared.tree.NodeId.{NodeId}
use Rattle.adf_model.specs.Edits.{IsReached, apply, other_children}
use Rattle.adf_model.specs.Creation.{used_entries}
use Rattle.adf_model.specs.Untouched.{touched_extents, list_of}
use Rattle.tree_laws.specs.Holding.{Holds}
use Rattle.tree_laws.specs.Leaving.{Leaves}
use Rattle.tree_laws.specs.Tables.{ClosesUp}
use Rattle.tree_laws.specs.Plans.{plan_edit}

-- ---- the bytes

-- what is said of a move: the bytes before and after it, the trees, the placements, the ranges that are taken from
-- then on, and the nodes of the edit
abbrev pub SaysMove : Type 1
SaysMove =
    (old new : List ℕ) (tree after : Tree) (p q : Placement) (kept : List Extent) (node to : NodeId)
    → Type 0

-- the placement with a longer table of a node
abbrev pub with_longer : Placement → ℕ → NodeParts → ℕ → ℕ → Placement
with_longer p serial parts table entries =
    record p { parts = slice_set p.parts serial (Some (record parts { table = Some (record { place = table; entries = entries }) })) }

-- A full table of a node is replaced by a longer one of the same entries, which stands in a range that was taken.
pub record IsReplaced (old grown : List ℕ) (parts : NodeParts) (count table entries : ℕ) : Type 0 where
  pub rest : List ℕ
  pub room : count < entries
  pub few : entries < 16 ^ 8
  pub near : table + table_length entries ≤ 2 ^ 44
  pub long : length rest ≡ 44 * (entries - count)
  pub list : field old table (table_length entries) ≡ framed_text SubNodes table (used_entries old parts.table count ++ rest)
  pub switched : Writes (parts.header + 68) (hex_text 8 count ++ hex_text 8 entries ++ pointer_text (To table)) old grown

-- to the end of its own list: the entries behind it move up, and its own is written last
abbrev pub ByLast : SaysMove → Type 0
ByLast Says =
    (old new : List ℕ) (tree after : Tree) (p : Placement) (taken : List Extent) (node to : NodeId) (i : ℕ)
    (from its : NodeParts) (t : TablePart)
    → Holds old tree p taken → apply tree (Edit.Move node to) ≡ Ok after
    → parent_of tree node.serial ≡ Some to.serial
    → slice_get (children_at tree to.serial) i ≡ Some node.serial
    → parts_of p to.serial ≡ Some from → parts_of p node.serial ≡ Some its → from.table ≡ Some t
    → Writes (t.place + 16 + 44 * i) (field old (t.place + 16 + 44 * (i + 1)) (44 * (length (children_at tree to.serial) - suc i)) ++ entry_text (text_field 32 (name_at tree node.serial)) (To its.header)) old new
    → Says old new tree after p p taken node to

-- the same where the table was full
abbrev pub ByLastLonger : SaysMove → Type 0
ByLastLonger Says =
    (kind : ExtentKind) (old grown new : List ℕ) (tree after : Tree) (p : Placement) (taken : List Extent)
    (node to : NodeId) (i table entries : ℕ) (from its : NodeParts)
    → Holds old tree p (extent kind table (table_length entries) ∷ taken)
    → apply tree (Edit.Move node to) ≡ Ok after → parent_of tree node.serial ≡ Some to.serial
    → slice_get (children_at tree to.serial) i ≡ Some node.serial
    → parts_of p to.serial ≡ Some from → parts_of p node.serial ≡ Some its
    → IsReplaced old grown from (length (children_at tree to.serial)) table entries
    → Writes (table + 16 + 44 * i) (field grown (table + 16 + 44 * (i + 1)) (44 * (length (children_at tree to.serial) - suc i)) ++ entry_text (text_field 32 (name_at tree node.serial)) (To its.header)) grown new
    → Says old new tree after p (with_longer p to.serial from table entries) (table_extents from.table ++ taken) node to

-- to another parent with an unused entry
abbrev pub ByOver : SaysMove → Type 0
ByOver Says =
    (old a b c new : List ℕ) (tree after : Tree) (p : Placement) (taken : List Extent) (node to : NodeId)
    (parent i : ℕ) (from its other : NodeParts) (t u : TablePart)
    → Holds old tree p taken → apply tree (Edit.Move node to) ≡ Ok after
    → IsReached tree (Edit.Move node to) → parent_of tree node.serial ≡ Some parent → parent ≢ to.serial
    → slice_get (children_at tree parent) i ≡ Some node.serial
    → parts_of p parent ≡ Some from → from.table ≡ Some t → parts_of p node.serial ≡ Some its
    → parts_of p to.serial ≡ Some other → other.table ≡ Some u
    → length (children_at tree to.serial) < u.entries
    → ClosesUp from.header t.place (length (children_at tree parent)) i old a b
    → Writes (u.place + 16 + 44 * length (children_at tree to.serial)) (entry_text (text_field 32 (name_at tree node.serial)) (To its.header)) b c
    → Writes (other.header + 68) (hex_text 8 (suc (length (children_at tree to.serial)))) c new
    → Says old new tree after p p taken node to

-- to another parent, whose table was full
abbrev pub ByOverLonger : SaysMove → Type 0
ByOverLonger Says =
    (kind : ExtentKind) (old grown a b c new : List ℕ) (tree after : Tree) (p : Placement)
    (taken : List Extent) (node to : NodeId) (parent i table entries : ℕ) (from its other : NodeParts)
    (t : TablePart)
    → Holds old tree p (extent kind table (table_length entries) ∷ taken)
    → apply tree (Edit.Move node to) ≡ Ok after → IsReached tree (Edit.Move node to)
    → parent_of tree node.serial ≡ Some parent → parent ≢ to.serial
    → slice_get (children_at tree parent) i ≡ Some node.serial → parts_of p parent ≡ Some from
    → from.table ≡ Some t → parts_of p node.serial ≡ Some its → parts_of p to.serial ≡ Some other
    → IsReplaced old grown other (length (children_at tree to.serial)) table entries
    → ClosesUp from.header t.place (length (children_at tree parent)) i grown a b
    → Writes (table + 16 + 44 * length (children_at tree to.serial)) (entry_text (text_field 32 (name_at tree node.serial)) (To its.header)) b c
    → Writes (other.header + 68) (hex_text 8 (suc (length (children_at tree to.serial)))) c new
    → Says old new tree after p (with_longer p to.serial other table entries) (table_extents other.table ++ taken) node to

-- the file then holds the tree of the edit; an old table that was replaced is taken
abbrev pub HoldsMoved : SaysMove
HoldsMoved old new tree after p q kept node to = Holds new after q kept

-- and all parts stay but those that a move may touch
abbrev pub LeavesMoved : SaysMove
LeavesMoved old new tree after p q kept node to =
    Leaves (touched_extents tree p (Edit.Move node to)) [] tree.wide p q old new

abbrev pub MovesLast : Type 0
MovesLast = ByLast HoldsMoved

abbrev pub MovesLastLonger : Type 0
MovesLastLonger = ByLastLonger HoldsMoved

abbrev pub MovesOver : Type 0
MovesOver = ByOver HoldsMoved

abbrev pub MovesOverLonger : Type 0
MovesOverLonger = ByOverLonger HoldsMoved

-- ---- what the longer table before the switch leaves

-- a longer table of a node leaves all but its header and its old table
abbrev pub LongerLeaves : Type 0
LongerLeaves =
    (old grown text : List ℕ) (tree : Tree) (p : Placement) (taken : List Extent) (serial table entries : ℕ)
    (parts : NodeParts) → Holds old tree p taken → parts_of p serial ≡ Some parts
    → Writes (parts.header + 68) text old grown
    → length text ≡ 28
    → Leaves (list_of tree.wide p serial) [] tree.wide p (with_longer p serial parts table entries) old grown

-- ---- the plan

-- a node with a child has a table, and one that has not as many children as entries has an unused one
abbrev pub HasRoom : Type 0
HasRoom =
    (image : List ℕ) (tree : Tree) (p : Placement) (taken : List Extent) (k : ℕ) (parts : NodeParts)
    → Holds image tree p taken → parts_of p k ≡ Some parts
    → ((i c : ℕ) → slice_get (children_at tree k) i ≡ Some c → (t : TablePart) × (parts.table ≡ Some t))
    × (entry_count parts.table ≢ length (children_at tree k) → (t : TablePart) × (parts.table ≡ Some t) × (length (children_at tree k) < t.entries))

-- with an unused entry nothing is taken; else a longer table is, or the limit is reached
abbrev pub PlansMove : Type 0
PlansMove =
    (limit : ℕ) (tree after : Tree) (p : Placement) (to : ℕ) (parts : NodeParts)
    → parts_of p to ≡ Some parts
    → (entry_count parts.table ≢ length (children_at tree to) → plan_edit limit tree after (Placed.Move to) p ≡ Ok (record { placed = p; given = [] }))
    × (entry_count parts.table ≡ length (children_at tree to) → (place : ℕ) (heap : Heap) → heap_take limit (table_length (grown_entries (length (children_at tree to)))) p.heap ≡ Ok (place, heap)
    → plan_edit limit tree after (Placed.Move to) p ≡ Ok (record { placed = with_longer (record p { heap = heap }) to parts place (grown_entries (length (children_at tree to))); given = table_extents parts.table }))
    × (entry_count parts.table ≡ length (children_at tree to) → (full : LimitReached) → heap_take limit (table_length (grown_entries (length (children_at tree to)))) p.heap ≡ Err full → plan_edit limit tree after (Placed.Move to) p ≡ Err full)

-- ---- the tree, as the table of the nodes needs it

-- A node, with all below it, has left its parent's list and stands last in another's, or in the same: serials and
-- names stay, and so do all nodes but the two parents; above the node stands the new parent, and in the
-- subtree all depths shift by one difference.
pub record IsMoved (tree after : Tree) (from s to : ℕ) : Type 0 where
  pub wide : after.wide ≡ tree.wide
  pub format : after.format ≡ tree.format
  pub serials : next_serial after ≡ next_serial tree
  pub sound : IsTree after
  pub live : (k : ℕ) → is_live after k ≡ is_live tree k
  pub names : (k : ℕ) → name_at after k ≡ name_at tree k
  pub parent : parent_of after s ≡ Some to
  pub parents : (k : ℕ) → k ≢ s → parent_of after k ≡ parent_of tree k
  pub joined : children_at after to ≡ other_children tree to s ++ s ∷ []
  pub lists : (k : ℕ) → k ≢ to → children_at after k ≡ other_children tree k s
  pub others : (k : ℕ) → k ≢ from → k ≢ to → node_at after k ≡ node_at tree k
  pub outside : (k : ℕ) → is_live tree k ≡ true → is_within tree s k ≡ false
      → lineage after k ≡ lineage tree k
  pub top : lineage after s ≡ s ∷ lineage tree to
  pub depths : (k : ℕ) → is_live tree k ≡ true → is_within tree s k ≡ false
      → depth_of after k ≡ depth_of tree k
  pub below : (k : ℕ) → is_live tree k ≡ true → is_within tree s k ≡ true
      → depth_of tree s ≤ depth_of tree k
  pub shifted : (k : ℕ) → is_live tree k ≡ true → is_within tree s k ≡ true
      → depth_of after k + depth_of tree s ≡ depth_of tree k + depth_of tree to + 1
  pub small : (k : ℕ) → depth_of after k ≤ 255

abbrev pub MovedInItsTree : Type 0
MovedInItsTree =
    (tree after : Tree) (node to : NodeId) (from : ℕ) → IsTree tree → IsReached tree (Edit.Move node to)
    → apply tree (Edit.Move node to) ≡ Ok after → parent_of tree node.serial ≡ Some from
    → IsMoved tree after from node.serial to.serial

-- whether the subtree fits below its new parent is decided by its deepest node
abbrev pub DeepestDecides : Type 0
DeepestDecides =
    (tree : Tree) (s to deepest : ℕ) → is_live tree deepest ≡ true → is_within tree s deepest ≡ true
    → ((k : ℕ) → is_live tree k ≡ true → is_within tree s k ≡ true → depth_of tree k ≤ depth_of tree deepest)
    → list_any (λ below. nat_lt 255 (depth_of tree to + 1 + (depth_of tree below - depth_of tree s))) (subtree tree s) ≡ nat_lt 255 (depth_of tree to + 1 + (depth_of tree deepest - depth_of tree s))
