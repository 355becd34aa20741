-- Which parts of a file an edit may move or change; all others stay where they are, with all their bytes.
use Rattle.std.specs.Prelude.{◌≡◌, ◌≢◌, ◌⊎◌, ◌<◌, ◌≤◌, ◌+◌, ◌-◌, ◌*◌, ◌/◌, max, slice_get, slice_index_or, ℕ, Bool, List, [], ◌∷◌, ◌++◌, length, Option, Some, None}
use Rattle.std.specs.List.{flat_map, Contains}
use Rattle.std.specs.Result.{result_unwrap_or}
use Rattle.adf_format.specs.declared.types.Extent.{Extent}
use Rattle.adf_format.specs.declared.types.ExtentKind.{ExtentKind}
use Rattle.adf_format.specs.Fields.{field}
use Rattle.adf_format.specs.Tree.{Node, Tree, node_at, children_at, parent_of, subtree}
use Rattle.adf_format.specs.Tiles.{end_of}
use Rattle.adf_format.specs.Parts.{node_length, dimension_digits}
use Rattle.adf_format.specs.Placement.{Placement, NodeParts, TablePart, extent, parts_of, extents_of, table_extents, live_extents}
use Rattle.adf_format.specs.Changes.{KeepsBut, heap_fields}
use Rattle.adf_format.specs.HeapRule.{parts_at, data_extents, place_edit}
use Rattle.adf_model.specs.Placing.{placed_as}
use Rattle.adf_model.specs.declared.tree.Edit.{Edit}
use Rattle.adf_model.specs.declared.tree.Edit.TheVariants.{Create, Delete, Rename, Move, SetLabel, SetDims, PutAll, PutPart, Link}

abbrev pub header_extent : Bool → Placement → ℕ → Extent
header_extent wide p serial = extent ExtentKind.Node (parts_at p serial).header (node_length wide)

abbrev pub table_of : Placement → ℕ → List Extent
table_of p serial = table_extents (parts_at p serial).table

-- the header and the sub-node table of a node
abbrev pub list_of : Bool → Placement → ℕ → List Extent
list_of wide p serial = header_extent wide p serial ∷ table_of p serial

abbrev pub of_parent : (ℕ → List Extent) → Option ℕ → List Extent
of_parent parts None = []
of_parent parts (Some serial) = parts serial

-- the header, the chunks and the chunk table of a node
abbrev pub data_of : Bool → Placement → ℕ → List Extent
data_of wide p serial = header_extent wide p serial ∷ data_extents (parts_at p serial)

-- the parts that an edit of these very nodes may move or change, in the tree and at the placement before it
abbrev pub touched_extents : Tree → Placement → Edit → List Extent
touched_extents tree p (Create at wanted label) = list_of tree.wide p at.serial
touched_extents tree p (Link at wanted file path) = list_of tree.wide p at.serial
touched_extents tree p (Delete node) = of_parent (list_of tree.wide p) (parent_of tree node.serial) ++ flat_map (λ serial. extents_of tree.wide (parts_of p serial)) (subtree tree node.serial)
touched_extents tree p (Move node to) = of_parent (list_of tree.wide p) (parent_of tree node.serial) ++ list_of tree.wide p to.serial
touched_extents tree p (Rename node wanted) = header_extent tree.wide p node.serial ∷ of_parent (table_of p) (parent_of tree node.serial)
touched_extents tree p (SetLabel node label) = header_extent tree.wide p node.serial ∷ []
touched_extents tree p (SetDims node shape) = data_of tree.wide p node.serial
touched_extents tree p (PutAll node given) = data_of tree.wide p node.serial
touched_extents tree p (PutPart node selection given) = data_of tree.wide p node.serial

-- the parts that a group may move or change, each edit in the tree and at the placement before it
abbrev pub group_touched : ℕ → Tree → Placement → List (Edit × Tree) → List Extent
group_touched limit tree p [] = []
group_touched limit tree p (e ∷ done) = touched_extents tree p e.0 ++ group_touched limit e.1 (result_unwrap_or (place_edit limit tree e.1 (placed_as e.0) p) p) done

-- each live part but these is live afterwards, with the same bytes
abbrev pub StaysBut : List Extent → Bool → Placement → Placement → List ℕ → List ℕ → Type 0
StaysBut touched wide before after old new =
    (e : Extent) → Contains (live_extents wide before) e → (Contains touched e → ⊥)
    → Contains (live_extents wide after) e × (field new e.place e.length ≡ field old e.place e.length)

-- of the file header and the free table only the end pointer and the lists may change: the other bytes, free ones too, are kept
abbrev pub KeepsHead : List ℕ → List ℕ → Type 0
KeepsHead old new = KeepsBut heap_fields 265 old new

-- the nodes whose shapes a group sets
abbrev pub group_shaped : List (Edit × Tree) → List ℕ
group_shaped [] = []
group_shaped ((SetDims node shape, tree) ∷ done) = node.serial ∷ group_shaped done
group_shaped (e ∷ done) = group_shaped done

-- the dimensions of all other headers are kept byte for byte, those past the rank too
abbrev pub KeepsDims : List ℕ → Bool → Placement → Placement → List ℕ → List ℕ → Type 0
KeepsDims shaped wide before after old new =
    (serial : ℕ) (from to : NodeParts) → (Contains shaped serial → ⊥) → parts_of before serial ≡ Some from → parts_of after serial ≡ Some to
    → field new (to.header + 130) (12 * dimension_digits wide) ≡ field old (from.header + 130) (12 * dimension_digits wide)

-- the most that is counted of any of the trees from this one to that behind the last edit
abbrev pub most_in : (Tree → ℕ) → Tree → List (Edit × Tree) → ℕ
most_in count tree [] = count tree
most_in count tree (e ∷ done) = max (count tree) (most_in count e.1 done)

abbrev pub rank_of : Option Node → ℕ
rank_of None = 0
rank_of (Some node) = length node.dims

-- the highest rank of a node over a group
abbrev pub most_dims : Tree → List (Edit × Tree) → ℕ → ℕ
most_dims tree done serial = most_in (λ (t : Tree). rank_of (node_at t serial)) tree done

-- and where it has the most children
abbrev pub most_children : Tree → List (Edit × Tree) → ℕ → ℕ
most_children tree done serial = most_in (λ (t : Tree). length (children_at t serial)) tree done

-- the dimensions past every rank that a node has over a group are kept, those of nodes whose shapes are set too
abbrev pub KeepsPastRank : Tree → List (Edit × Tree) → Placement → Placement → List ℕ → List ℕ → Type 0
KeepsPastRank tree done before after old new =
    (serial : ℕ) (from to : NodeParts) → parts_of before serial ≡ Some from → parts_of after serial ≡ Some to
    → let past = most_dims tree done serial * dimension_digits tree.wide in let all = 12 * dimension_digits tree.wide in
    field new (to.header + 130 + past) (all - past) ≡ field old (from.header + 130 + past) (all - past)

-- of a table that stays where it is, the entries behind all that are in use over a group are kept
abbrev pub KeepsUnused : Tree → List (Edit × Tree) → Placement → Placement → List ℕ → List ℕ → Type 0
KeepsUnused tree done before after old new =
    (serial : ℕ) (from to : NodeParts) (table : TablePart) → parts_of before serial ≡ Some from → parts_of after serial ≡ Some to → from.table ≡ Some table → to.table ≡ Some table
    → let used = 16 + 44 * most_children tree done serial in let all = 16 + 44 * table.entries in
    field new (table.place + used) (all - used) ≡ field old (table.place + used) (all - used)

-- What a group of edits leaves of the bytes of its file, up to the end.
pub record KeepsRest (limit : ℕ) (tree : Tree) (p : Placement) (done : List (Edit × Tree)) (q : Placement) (old new : List ℕ) : Type 0 where
  pub parts : StaysBut (group_touched limit tree p done) tree.wide p q old new
  pub head : KeepsHead old new
  pub dims : KeepsDims (group_shaped done) tree.wide p q old new
  pub past_rank : KeepsPastRank tree done p q old new
  pub unused : KeepsUnused tree done p q old new

-- no byte is lost, and those behind an end read as before: where the file grew there are zeros, at most to the end of that end's block
pub record KeepsTail (end : ℕ) (old new : List ℕ) : Type 0 where
  pub longer : length old ≤ length new
  pub grown : length new ≤ max (length old) ((end / 4096 + 1) * 4096)
  pub tail : (b : ℕ) → end < b → slice_index_or new b 0 ≡ slice_index_or old b 0

-- a byte that a group may write: it stands within the end, and in no live part that the group does not touch
abbrev pub MayWrite : List Extent → Bool → Placement → ℕ → ℕ → Type 0
MayWrite touched wide before end b = (b ≤ end) × ((e : Extent) → Contains (live_extents wide before) e → (Contains touched e → ⊥) → (b < e.place) ⊎ (end_of e ≤ b))

-- after a write that failed, each byte of such a part outside one block is as before
abbrev pub StaysBeside : ℕ → List Extent → Bool → Placement → List ℕ → List ℕ → Type 0
StaysBeside torn touched wide before old new =
    (e : Extent) (b : ℕ) → Contains (live_extents wide before) e → (Contains touched e → ⊥) → e.place ≤ b → b < end_of e → b / 4096 ≢ torn → slice_get new b ≡ slice_get old b

-- over one edit, in the tree before it
abbrev pub Stays : Tree → Placement → Edit → Placement → List ℕ → List ℕ → Type 0
Stays tree p edit q old new = StaysBut (touched_extents tree p edit) tree.wide p q old new
