-- The shape of what the linter says of a sound file: it holds of any file, whether bytes are told or not.
use Rattle.std.specs.Prelude.{◌≡◌, ◌⊎◌, ℕ, ◌+◌, ◌*◌, ◌<◌, ◌≤◌, ◌^◌, Bool, not, List, [], ◌∷◌, ◌++◌, map, filter, length, slice_get, Some, ⊤}
use Rattle.std.specs.List.{All, AllByRecursion}
use Rattle.adf_format.specs.declared.types.Extent.{Extent}
use Rattle.adf_format.specs.declared.types.ExtentKind.{ExtentKind}
use Rattle.adf_format.specs.Tiles.{cover, end_of, is_free}
use Rattle.adf_format.specs.LaysOut.{AreGapsInOrder}
use Rattle.adf_format.specs.Parts.{node_length}
use Rattle.adf_format.specs.Placement.{extent, head_extents}
use Rattle.adf_format.specs.Verdict.{NodePlace}
use Rattle.layout_laws.specs.NodePass.{named_node}
use Rattle.layout_lint.specs.Gaps.{IsSolid}
use Rattle.layout_lint.specs.Walks.{waiting_of, node_place, IsOpen, AreStepped, left_in}
use Rattle.layout_lint.specs.declared.node.Met.{Met}
use Rattle.layout_lint.specs.declared.stack.Family.{Family}
use Rattle.layout_lint.specs.declared.walk.Search.{Search}
use Rattle.layout_lint.specs.declared.walk.FoundNodes.{FoundNodes}
use Rattle.layout_lint.specs.declared.verdict.Verdict.{Verdict}
use Rattle.layout_lint.specs.declared.verdict.Verdict.TheVariants as says

-- ---- the nodes

-- the root is below none
pub record IsTop (n : NodePlace) : Type 0 where
  pub parent : n.parent ≡ 0
  pub position : n.position ≡ 0
  pub depth : n.depth ≡ 0

-- the parent of a node is one of the first nodes, so many of them, and stands one step above it
pub record IsBelow (nodes : List NodePlace) (count : ℕ) (n : NodePlace) : Type 0 where
  pub parent : NodePlace
  pub stands : slice_get nodes n.parent ≡ Some parent
  pub before : n.parent < count
  pub step : n.depth ≡ parent.depth + 1
  pub near : n.depth ≤ 255

-- the first node is the root, and the parent of each other one is a node before it
pub record AreLinked (nodes : List NodePlace) : Type 0 where
  pub root : (n : NodePlace) → slice_get nodes 0 ≡ Some n → IsTop n
  pub others : (k : ℕ) (n : NodePlace) → slice_get nodes k ≡ Some n → 0 < k → IsBelow nodes k n

-- each header lies behind the free table, and ends by the last byte
abbrev pub AreWithin : Bool → ℕ → List NodePlace → Type 0
AreWithin wide end nodes = (k : ℕ) (n : NodePlace) → slice_get nodes k ≡ Some n → (266 ≤ n.place) × (n.place + node_length wide ≤ end + 1)

-- the header of a node
abbrev pub header_of : Bool → NodePlace → Extent
header_of wide n = extent ExtentKind.Node n.place (node_length wide)

-- ---- the answer

-- A tree of nodes, whose headers lie behind the free table with the gaps between them: no byte lies in two of these. The gaps
-- stand by place, and two fillers do not touch. The end is at least that of a fresh file.
pub record IsShaped (nodes : List NodePlace) (gaps : List Extent) (end : ℕ) (wide : Bool) : Type 0 where
  pub some : 0 < length nodes
  pub linked : AreLinked nodes
  pub headers : AreWithin wide end nodes
  pub apart : (b : ℕ) → cover (map (header_of wide) nodes ++ gaps) b ≤ 1
  pub order : AreGapsInOrder gaps
  pub within : AllByRecursion (λ (g : Extent). (266 ≤ g.place) × (end_of g ≤ end + 1)) gaps
  pub low : 265 + node_length wide ≤ end
  pub high : end < 2 ^ 44

-- what is said of a sound file has this shape
abbrev pub HasShape : Verdict → Type 0
HasShape (says.Sound nodes gaps end format wide) = IsShaped (map node_place nodes) gaps end wide
HasShape (says.Unsound rule place) = ⊤

-- ---- the extents

-- some extents are put behind those found so far
pub record Adds (old new : List Extent) : Type 0 where
  pub more : List Extent
  pub added : new ≡ old ++ more

-- the header of a node and other extents are put behind those found so far
abbrev pub AddsNode : Bool → ℕ → List Extent → List Extent → Type 0
AddsNode wide place old new = Adds (old ++ extent ExtentKind.Node place (node_length wide) ∷ []) new

abbrev pub is_used : Extent → Bool
is_used e = not (is_free e)

-- the extents that are no free chunks hold each byte of the head, and of the headers of the nodes, as often as these do
abbrev pub HoldsHeaders : Bool → List NodePlace → List Extent → Type 0
HoldsHeaders wide nodes extents = (b : ℕ) → cover (head_extents ++ map (header_of wide) nodes) b ≤ cover (filter is_used extents) b

-- The gaps stand by place, and lie, with the extents that are no free chunks, around each byte up to the end once.
pub record AreSet (extents : List Extent) (end : ℕ) (gaps : List Extent) : Type 0 where
  pub order : AreGapsInOrder gaps
  pub once : (b : ℕ) → b ≤ end → cover (filter is_used extents) b + cover gaps b ≡ 1
  pub beyond : (b : ℕ) → end < b → cover gaps b ≡ 0

-- ---- the walk

-- a child of a family: its parent is that node, and it stands one step below it
pub record IsChildIn (family : Family) (m : Met) : Type 0 where
  pub parent : m.parent ≡ family.number
  pub step : m.depth ≡ family.depth + 1
  pub near : m.depth ≤ 255

abbrev pub met_place : Met → NodePlace
met_place m = named_node (waiting_of m)

-- a family is that of a node that was looked at
pub record IsFamilyOf (nodes : List NodePlace) (f : Family) : Type 0 where
  pub parent : NodePlace
  pub stands : slice_get nodes f.number ≡ Some parent
  pub depth : parent.depth ≡ f.depth

-- a node may be the next: the root where none was looked at, and else one below a node that was
abbrev pub MayFollow : List NodePlace → NodePlace → Type 0
MayFollow nodes n = ((nodes ≡ []) × IsTop n) ⊎ ((0 < length nodes) × IsBelow nodes (length nodes) n)

-- The nodes that were looked at are linked, their headers lie within the file, and the extents hold these.
pub record IsRooted (wide : Bool) (end : ℕ) (nodes : List NodePlace) (extents : List Extent) : Type 0 where
  pub linked : AreLinked nodes
  pub headers : AreWithin wide end nodes
  pub held : HoldsHeaders wide nodes extents

-- so it is where a walk stands, and the families that wait are those of these nodes
pub record IsSteady (wide : Bool) (end : ℕ) (search : Search) : Type 0 where
  pub rooted : IsRooted wide end (map node_place search.nodes.items) search.extents.items
  pub families : All (IsFamilyOf (map node_place search.nodes.items)) search.families.items

-- What holds between two turns of a walk: the children that wait can be read, there are at most 256 families, and two bytes of
-- those found are left for each child.
pub record IsGoing (wide : Bool) (end : ℕ) (search : Search) : Type 0 where
  pub solid : All (IsSolid end) search.extents.items
  pub readable : All (IsOpen end) search.families.items
  pub stepped : AreStepped search.families.items
  pub few : length search.families.items ≤ 256
  pub steady : IsSteady wide end search
  pub left : 2 * left_in search.families.items ≤ search.used
  pub room : search.used ≤ end + 1
  pub some : 0 < length search.nodes.items

-- and so where it has ended
pub record IsWhole (wide : Bool) (end : ℕ) (found : FoundNodes) : Type 0 where
  pub rooted : IsRooted wide end (map node_place found.nodes.items) found.extents.items
  pub some : 0 < length found.nodes.items
