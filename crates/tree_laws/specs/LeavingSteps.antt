-- What each step of an edit leaves, said of its ranges alone: no step is proved twice for it.
use Rattle.std.specs.Prelude.{◌≡◌, ℕ, suc, ◌+◌, ◌*◌, ◌<◌, ◌≤◌, Bool, List, [], ◌∷◌, ◌++◌, length, slice_get, slice_set, Option, Some, Ok}
use Rattle.std.specs.List.{Contains, AllByRecursion}
use Rattle.adf_format.specs.declared.types.Extent.{Extent}
use Rattle.adf_format.specs.Hex.{hex_text}
use Rattle.adf_format.specs.Pointer.{To, pointer_text}
use Rattle.adf_format.specs.Fields.{text_field}
use Rattle.adf_format.specs.Tree.{Tree, Node, node_at, children_at, parent_of}
use Rattle.adf_format.specs.Tiles.{cover}
use Rattle.adf_format.specs.Parts.{dimension_digits}
use Rattle.adf_format.specs.Placement.{Placement, NodeParts, TablePart, ChunkPart, Heap, parts_of, node_extents, live_extents}
use Rattle.adf_format.specs.Changes.{Writes, heap_fields}
use Rattle.adf_format.specs.HeapRule.{after_gives, with_parts}
use Rattle.adf_format.specs.Records.{entry_text}
use Rattle.adf_model.specs.declared.tree.Edit.{Edit}
use Rattle.adf_model.specs.declared.tree.NodeId.{NodeId}
use Rattle.adf_model.specs.Edits.{apply}
use Rattle.adf_model.specs.Untouched.{touched_extents, data_of, list_of}
use Rattle.tree_laws.specs.Holding.{Holds, ChangesIn, MeetsNothing}
use Rattle.tree_laws.specs.Leaving.{Leaves}
use Rattle.tree_laws.specs.Tables.{ClosesUp}
use Rattle.tree_laws.specs.Plans.{plan_deleted}
use Rattle.tree_laws.specs.Gifts.{GivesEach}
use Rattle.tree_laws.specs.DataSwitch.{Switches, with_data}
use Rattle.tree_laws.specs.NodeJoin.{with_parts_of_new}

-- Ranges that spare what a step leaves: the head but for the heap's fields, each part that is not excepted, and the
-- dimensions of each header whose shape is not set.
pub record SparesAll (ranges except : List Extent) (shaped : List ℕ) (wide : Bool)
    (p q : Placement) : Type 0 where
  pub head : (b : ℕ) → b ≤ 265 → cover heap_fields b ≡ 0 → cover ranges b ≡ 0
  pub parts : (k : ℕ) (from : NodeParts) (e : Extent) → parts_of p k ≡ Some from
      → Contains (node_extents wide from) e → (Contains except e → ⊥) → Contains (live_extents wide q) e
      × MeetsNothing ranges (e ∷ [])
  pub dims : (k : ℕ) (from to : NodeParts) → (Contains shaped k → ⊥) → parts_of p k ≡ Some from
      → parts_of q k ≡ Some to
      → (to.header ≡ from.header)
      × ((b : ℕ) → from.header + 130 ≤ b → b < from.header + 130 + 12 * dimension_digits wide → cover ranges b ≡ 0)
  pub drawn : length p.parts ≤ length q.parts
  pub before : (k : ℕ) (to : NodeParts) → k < length p.parts → parts_of q k ≡ Some to → (from : NodeParts)
      × (parts_of p k ≡ Some from)

abbrev pub LeavesBySparing : Type 0
LeavesBySparing =
    (ranges except : List Extent) (shaped : List ℕ) (tree : Tree) (p q : Placement) (taken : List Extent)
    (old new : List ℕ)
    → Holds old tree p taken → ChangesIn ranges old new → SparesAll ranges except shaped tree.wide p q
    → Leaves except shaped tree.wide p q old new

-- ---- takes, writes into what was taken, and gifts leave all

abbrev pub TakeLeaves : Type 0
TakeLeaves =
    (old new : List ℕ) (tree : Tree) (p : Placement) (heap : Heap) (taken : List Extent)
    → Holds old tree p taken → ChangesIn (heap_fields ++ p.heap.gaps) old new
    → Leaves [] [] tree.wide p (record p { heap = heap }) old new

abbrev pub TakenLeaves : Type 0
TakenLeaves =
    (ranges : List Extent) (old new : List ℕ) (tree : Tree) (p : Placement) (taken : List Extent)
    → Holds old tree p taken → ChangesIn ranges old new → ((b : ℕ) → 0 < cover ranges b → 0 < cover taken b)
    → Leaves [] [] tree.wide p p old new

abbrev pub GiftsLeave : Type 0
GiftsLeave = (given : List Extent) (old new : List ℕ) (tree : Tree) (p : Placement) (taken : List Extent)
    → AllByRecursion (λ (e : Extent). 0 < e.length) given → Holds old tree p (given ++ taken)
    → GivesEach given p.heap old new → Leaves [] [] tree.wide p (after_gives p given) old new

-- ---- the switches

abbrev pub DataLeaves : Type 0
DataLeaves =
    (ranges : List Extent) (old new : List ℕ) (tree : Tree) (p : Placement) (taken kept : List Extent)
    (s : ℕ) (now : Node) (from : NodeParts) (chunks : List ChunkPart) (table : Option ℕ) (shaped : List ℕ)
    → Holds old tree p taken → parts_of p s ≡ Some from
    → Switches ranges tree.wide now from chunks table taken kept old new
    → ((Contains shaped s → ⊥) → (b : ℕ) → from.header + 130 ≤ b → b < from.header + 130 + 12 * dimension_digits tree.wide → cover ranges b ≡ 0)
    → Leaves (data_of tree.wide p s) shaped tree.wide p (with_parts p s (with_data from chunks table)) old new

abbrev pub DeletionLeaves : Type 0
DeletionLeaves =
    (old middle new : List ℕ) (tree after : Tree) (p : Placement) (taken : List Extent) (node : NodeId)
    (parent i : ℕ) (at : NodeParts) (t : TablePart)
    → Holds old tree p taken → apply tree (Edit.Delete node) ≡ Ok after
    → parent_of tree node.serial ≡ Some parent → slice_get (children_at tree parent) i ≡ Some node.serial
    → parts_of p parent ≡ Some at → at.table ≡ Some t
    → ClosesUp at.header t.place (length (children_at tree parent)) i old middle new
    → Leaves (touched_extents tree p (Edit.Delete node)) [] tree.wide p (plan_deleted after p).placed old new

-- in an unused entry, and with a longer table
abbrev pub JoinLeaves : Type 0
JoinLeaves =
    (old middle new : List ℕ) (tree : Tree) (p : Placement) (taken : List Extent) (s child : ℕ)
    (parent : Node) (name : List ℕ) (from parts : NodeParts) (t : TablePart)
    → Holds old tree p taken → node_at tree s ≡ Some parent → parts_of p s ≡ Some from → from.table ≡ Some t
    → length parent.children < t.entries → length name ≤ 32
    → Writes (t.place + 16 + 44 * length parent.children) (entry_text (text_field 32 name) (To child)) old middle
    → Writes (from.header + 68) (hex_text 8 (suc (length parent.children))) middle new
    → Leaves (list_of tree.wide p s) [] tree.wide p (with_parts_of_new p parts) old new

abbrev pub TableJoinLeaves : Type 0
TableJoinLeaves =
    (old new : List ℕ) (tree : Tree) (p : Placement) (taken : List Extent) (s count table entries : ℕ)
    (from parts : NodeParts)
    → Holds old tree p taken → parts_of p s ≡ Some from
    → Writes (from.header + 68) (hex_text 8 count ++ hex_text 8 entries ++ pointer_text (To table)) old new
    → Leaves (list_of tree.wide p s) [] tree.wide p (with_parts_of_new (record p { parts = slice_set p.parts s (Some (record from { table = Some (record { place = table; entries = entries }) })) }) parts) old new
