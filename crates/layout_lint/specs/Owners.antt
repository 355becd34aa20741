-- The extents of a sound file, each with the node that it is a part of.
use Rattle.std.specs.Prelude.{◌≡◌, ℕ, ◌+◌, ◌<◌, Bool, false, List, [], ◌∷◌, ◌++◌, map, slice_get, Option, Some, None, IfSome, ⊤}
use Rattle.std.specs.List.{Contains, flat_map}
use Rattle.std.specs.List.Sorted.{IsPermutation}
pub use Rattle.cg_io.specs.Answers.{OnlyReads}
use Rattle.adf_model.specs.declared.error.AdfError.{AdfError}
use Rattle.adf_model.specs.declared.error.AdfError.TheVariants as error
use Rattle.adf_format.specs.declared.types.Extent.{Extent}
use Rattle.adf_format.specs.Checks.{first_broken}
use Rattle.adf_format.specs.Tree.{Tree, name_at}
use Rattle.adf_format.specs.Tiles.{total_length}
use Rattle.adf_format.specs.Placement.{Placement, NodeParts, parts_of, node_extents, head_extents}
use Rattle.adf_format.specs.Fields.{field, trimmed}
use Rattle.adf_format.specs.LaysOut.{LaysOut}
use Rattle.adf_format.specs.Verdict.{ListsExtents}
use Rattle.layout_lint.specs.declared.verdict.NodePlace as code
use Rattle.adf_format.specs.FirstFault.{node_rows_at}
use Rattle.layout_lint.specs.Nodes.{extents_at}
use Rattle.layout_lint.specs.declared.owners.Owned.{Owned}
use Rattle.layout_lint.specs.declared.verdict.Halt.{Halt}
use Rattle.layout_lint.specs.declared.verdict.Halt.TheVariants as halt

abbrev pub extent_of : Owned → Extent
extent_of o = o.extent

-- the owner of an extent, if it has one, is a number below this
abbrev pub IsThere : ℕ → Owned → Type 0
IsThere count o = IfSome o.owner (λ number. number < count)

-- some extents of one owner
abbrev pub owned_by : Option ℕ → List Extent → List Owned
owned_by owner extents = map (λ (e : Extent). record { extent = e; owner = owner }) extents

-- the extents of the nodes at some places, of which the first has this number
abbrev pub owned_from : List ℕ → Bool → ℕ → List ℕ → List Owned
owned_from image wide number [] = []
owned_from image wide number (place ∷ places) = owned_by (Some number) (extents_at image wide place) ++ owned_from image wide (number + 1) places

-- the name field of the node at a place
abbrev pub name_of : List ℕ → ℕ → List ℕ
name_of image place = field image (place + 4) 32

-- the nodes at some places keep the rules of a node one by one, where so many bytes are found before them; each looked at by itself
abbrev pub KeepRules : List ℕ → Bool → ℕ → ℕ → List ℕ → Type 0
KeepRules image wide end used [] = ⊤
KeepRules image wide end used (place ∷ places) =
    (first_broken (node_rows_at image wide end false used place None 0) ≡ None) × KeepRules image wide end (used + total_length (extents_at image wide place)) places

-- ---- the nodes of a layout by their places

-- the place of a header, if there is one
abbrev pub header_at : Option NodeParts → List ℕ
header_at None = []
header_at (Some parts) = parts.header ∷ []

-- the places of all headers
abbrev pub header_places : Placement → List ℕ
header_places p = flat_map header_at p.parts

abbrev pub place_of_node : code.NodePlace → ℕ
place_of_node n = n.place

-- a tree is laid out in an image, its headers stand at these places, in any order, and these are its gaps
pub record IsLaidAt (image : List ℕ) (tree : Tree) (p : Placement) (places : List ℕ) (gaps : List Extent) : Type 0 where
  pub laid_out : LaysOut image tree p
  pub headers : IsPermutation (header_places p) places
  pub free : p.heap.gaps ≡ gaps

-- an extent is a part of the node whose header stands at the place with this number
pub record IsPartAt (wide : Bool) (p : Placement) (places : List ℕ) (i : ℕ) (e : Extent) : Type 0 where
  pub number : ℕ
  pub parts : NodeParts
  pub has : parts_of p number ≡ Some parts
  pub stands : slice_get places i ≡ Some parts.header
  pub part : Contains (node_extents wide parts) e

-- All extents of a layout by place. One that has an owner is a part of the node at that place, and any other is one of the head's or a gap.
pub record OwnsPlaces (tree : Tree) (p : Placement) (places : List ℕ) (owned : List Owned) : Type 0 where
  pub lists : ListsExtents tree.wide p (map extent_of owned)
  pub parts : (k i : ℕ) (o : Owned) → slice_get owned k ≡ Some o → o.owner ≡ Some i → IsPartAt tree.wide p places i o.extent
  pub others : (k : ℕ) (o : Owned) → slice_get owned k ≡ Some o → o.owner ≡ None → Contains (head_extents ++ p.heap.gaps) o.extent

-- the name fields of the nodes at these places
abbrev pub AreNamesAt : Tree → Placement → List ℕ → List (List ℕ) → Type 0
AreNamesAt tree p places names = (i : ℕ) (name : List ℕ) (number : ℕ) (parts : NodeParts) → slice_get names i ≡ Some name → slice_get places i ≡ Some parts.header → parts_of p number ≡ Some parts
    → trimmed name ≡ name_at tree number

-- ---- by numbers

-- All extents of a layout by place. One that has an owner is a part of that node, and any other is one of the head's or a gap.
pub record OwnsAll (tree : Tree) (p : Placement) (owned : List Owned) : Type 0 where
  pub lists : ListsExtents tree.wide p (map extent_of owned)
  pub parts : (k number : ℕ) (o : Owned) → slice_get owned k ≡ Some o → o.owner ≡ Some number → (parts : NodeParts) × (parts_of p number ≡ Some parts) × Contains (node_extents tree.wide parts) o.extent
  pub others : (k : ℕ) (o : Owned) → slice_get owned k ≡ Some o → o.owner ≡ None → Contains (head_extents ++ p.heap.gaps) o.extent

-- ---- refusals

abbrev pub refusal_of : Halt → AdfError
refusal_of (halt.Broken b) = error.Layout b.rule b.place
refusal_of halt.Memory = error.Memory
refusal_of halt.Read = error.ReadFault

-- it names no rule of a layout
abbrev pub IsNoLayout : AdfError → Type 0
IsNoLayout (error.Layout rule place) = ⊥
IsNoLayout other = ⊤
