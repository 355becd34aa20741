-- What a call may change of the bytes that it is lent, and what stays of the parts in them.
use Rattle.std.specs.Prelude.{◌≡◌, ◌⊎◌, ℕ, ◌+◌, ◌<◌, ◌≤◌, List, [], ◌∷◌, length, Some, slice_get}
use Rattle.std.specs.List.{AllByRecursion}
use Rattle.adf_format.specs.declared.types.Extent.{Extent}
use Rattle.adf_format.specs.declared.types.ExtentKind.{ExtentKind}
use Rattle.adf_format.specs.Fields.{field}
use Rattle.adf_format.specs.declared.fields.TheConstants.{HEADER_END, FREE_TABLE_LENGTH, FREE_TABLE_PLACE}
use Rattle.adf_format.specs.Tree.{Tree, Node, node_at}
use Rattle.adf_format.specs.Tiles.{cover, end_of, MeetsNone}
use Rattle.adf_format.specs.Placement.{Placement, NodeParts, extent, parts_of}

-- up to a byte, each that lies in none of the ranges is as before
abbrev pub KeepsBut : List Extent → ℕ → List ℕ → List ℕ → Type 0
KeepsBut ranges end old new = (b : ℕ) → b ≤ end → cover ranges b ≡ 0 → slice_get new b ≡ slice_get old b

-- the end pointer and the free table, which the heap alone writes
abbrev pub heap_fields : List Extent
heap_fields = extent ExtentKind.Header HEADER_END.offset HEADER_END.length ∷ extent ExtentKind.FreeTable FREE_TABLE_PLACE FREE_TABLE_LENGTH ∷ []

-- a text stands in the new bytes at a place, and each other byte of the old ones is as before
pub record Writes (place : ℕ) (text old new : List ℕ) : Type 0 where
  pub longer : length old ≤ length new
  pub stands : field new place (length text) ≡ text
  pub others : (b : ℕ) → b < length old → (b < place) ⊎ (place + length text ≤ b) → slice_get new b ≡ slice_get old b

-- an extent lies up to the end and meets no range that changes
abbrev pub IsApart : List Extent → ℕ → Extent → Type 0
IsApart ranges end e = MeetsNone e.place e.length ranges × (end_of e ≤ end + 1)

abbrev pub AllApart : List Extent → ℕ → List Extent → Type 0
AllApart ranges end xs = AllByRecursion (IsApart ranges end) xs

-- the children of a node have the names and the headers that they had
abbrev pub SameChildren : Tree → Placement → Tree → Placement → List ℕ → Type 0
SameChildren tree p after q children =
    (i child : ℕ) (now : Node) (at : NodeParts) → slice_get children i ≡ Some child → node_at after child ≡ Some now → parts_of q child ≡ Some at
    → (was : Node) × (from : NodeParts) × (node_at tree child ≡ Some was) × (parts_of p child ≡ Some from) × (was.name ≡ now.name) × (from.header ≡ at.header)
