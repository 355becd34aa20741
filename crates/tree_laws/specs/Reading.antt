-- The tree of an image as a function of its bytes and of the places where its headers stand.
use Rattle.std.specs.Prelude.{◌≡◌, ◌≢◌, ℕ, suc, Bool, cond, ◌==◌, List, [], ◌∷◌, length, map, take, slice_index_or, Option, Some, None, IsSome}
use Rattle.std.specs.Option.{option_map}
use Rattle.adf_format.specs.declared.types.Extent.{Extent}
use Rattle.adf_format.specs.declared.types.Format.{Format}
use Rattle.adf_format.specs.Verdict.{NodePlace, IsLaidOutAs}
use Rattle.adf_format.specs.declared.fields.TheConstants.{NODE_NAME, NODE_LABEL, NODE_TYPE}
use Rattle.adf_format.specs.Fields.{trimmed}
use Rattle.adf_format.specs.Pointer.{place_of}
use Rattle.adf_format.specs.RecordFields.{field_in, at_place}
use Rattle.adf_format.specs.Names.{data_size}
use Rattle.adf_format.specs.Tree.{Tree, Node, node_at, next_serial}
use Rattle.adf_format.specs.Placement.{Placement, NodeParts, Heap, parts_of}
use Rattle.adf_format.specs.LaysOut.{LaysOut}
use Rattle.adf_format.specs.FirstFault.{is_wide, type_or_mt, dims_in, chunks_in, payloads_in, children_in, table_in, entry_pointer, count_up}
use Rattle.adf_format.specs.SoundPart.{format_in, data_when}
use Rattle.adf_format.specs.HeapRule.{parts_at as its_parts}
use Rattle.layout_laws.specs.FoundLayout.{parts_at}

-- a table has at each serial the place of its header, or none: the first serial, counted from k, that stands at a
-- place
abbrev pub serial_from : ℕ → List (Option ℕ) → ℕ → ℕ
serial_from k [] place = k
serial_from k (None ∷ places) place = serial_from (suc k) places place
serial_from k (Some p ∷ places) place = cond (p == place) k (serial_from (suc k) places place)

-- the node whose header stands at a place, its children by the serials of theirs
abbrev pub node_in : List ℕ → Bool → List (Option ℕ) → ℕ → Node
node_in image wide places place =
    let kind = type_or_mt (field_in image (at_place place NODE_TYPE)) in
    let dims = dims_in image wide place in
    let chunks = chunks_in image wide place in
    record {
      name = trimmed (field_in image (at_place place NODE_NAME));
      label = trimmed (field_in image (at_place place NODE_LABEL));
      kind = kind;
      dims = dims;
      bytes = data_when (length chunks) (take (data_size kind dims) (payloads_in image chunks));
      children = map (λ i. serial_from 0 places (place_of (entry_pointer image (table_in image place) i))) (count_up (children_in image place));
    }

abbrev pub tree_in : List ℕ → List (Option ℕ) → Tree
tree_in image places =
    record { wide = is_wide image; format = format_in image; nodes = map (option_map (λ place. node_in image (is_wide image) places place)) places }

abbrev pub placement_in : List ℕ → List (Option ℕ) → Heap → Placement
placement_in image places heap =
    record { parts = map (option_map (λ place. parts_at image (is_wide image) place)) places; heap = heap }

-- where the headers of a placement stand
abbrev pub places_of : Placement → List (Option ℕ)
places_of p = map (option_map (λ (parts : NodeParts). parts.header)) p.parts

-- a table of as many serials that has the place of each header
pub record ArePlaces (p : Placement) (places : List (Option ℕ)) : Type 0 where
  pub count : length places ≡ length p.parts
  pub each : (serial : ℕ)
      → slice_index_or places serial None ≡ option_map (λ (parts : NodeParts). parts.header) (parts_of p serial)

-- that is the table of its headers
abbrev pub PlacesAre : Type 0
PlacesAre = (p : Placement) (places : List (Option ℕ)) → ArePlaces p places → places ≡ places_of p

-- what an image lays out is what is read from it by the places of the headers
abbrev pub TreeIsRead : Type 0
TreeIsRead =
    (image : List ℕ) (tree : Tree) (p : Placement) (places : List (Option ℕ)) → LaysOut image tree p
    → ArePlaces p places → (tree ≡ tree_in image places) × (p ≡ placement_in image places p.heap)

-- so one image and one table have one tree and one placement
abbrev pub OneTree : Type 0
OneTree =
    (image : List ℕ) (t u : Tree) (p q : Placement) (places : List (Option ℕ)) → LaysOut image t p
    → LaysOut image u q → ArePlaces p places → ArePlaces q places → (t ≡ u) × (p ≡ q)

-- and one image and one tree have one placement
abbrev pub OnePlacement : Type 0
OnePlacement = (image : List ℕ) (tree : Tree) (p q : Placement) → LaysOut image tree p → LaysOut image tree q → p ≡ q

-- the headers of two live serials differ
abbrev pub HeadersDiffer : Type 0
HeadersDiffer =
    (image : List ℕ) (tree : Tree) (p : Placement) (i j : ℕ) (a b : NodeParts) → LaysOut image tree p
    → parts_of p i ≡ Some a → parts_of p j ≡ Some b → i ≢ j → a.header ≢ b.header

-- so the place of a header finds its serial
abbrev pub PlacesFind : Type 0
PlacesFind =
    (image : List ℕ) (tree : Tree) (p : Placement) (places : List (Option ℕ)) (serial : ℕ)
    (parts : NodeParts) → LaysOut image tree p → ArePlaces p places → parts_of p serial ≡ Some parts
    → serial_from 0 places parts.header ≡ serial

-- what a table of the nodes says of a serial: no place of a node that is not live, and the place of the header of
-- one that is
abbrev pub SaysPlace : Tree → Placement → ℕ → Option ℕ → Type 0
SaysPlace tree p serial None = node_at tree serial ≡ None
SaysPlace tree p serial (Some place) = IsSome (node_at tree serial) × (place ≡ (its_parts p serial).header)

-- a table of as many serials that says so is a table of places
abbrev pub TableIsPlaces : Type 0
TableIsPlaces =
    (image : List ℕ) (tree : Tree) (p : Placement) (places : List (Option ℕ)) → LaysOut image tree p
    → length places ≡ next_serial tree
    → ((serial : ℕ) → SaysPlace tree p serial (slice_index_or places serial None)) → ArePlaces p places

-- ---- the nodes of a verdict

abbrev pub listed_places : List NodePlace → List (Option ℕ)
listed_places nodes = map (λ (n : NodePlace). Some n.place) nodes

-- the tree and the placement of a verdict are read by the places of its nodes
abbrev pub VerdictIsRead : Type 0
VerdictIsRead =
    (image : List ℕ) (nodes : List NodePlace) (gaps : List Extent) (end : ℕ) (format : Format) (wide : Bool)
    (v : IsLaidOutAs image nodes gaps end format wide)
    → ArePlaces v.placement (listed_places nodes) × (v.tree ≡ tree_in image (listed_places nodes))
    × (v.placement ≡ placement_in image (listed_places nodes) (record { gaps = gaps; end = end }))
