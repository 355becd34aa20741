-- The paths of the nodes of a tree, as they are printed.
use Rattle.std.specs.Prelude.{◌≡◌, ℕ, List, [], ◌∷◌, ◌++◌, slice_get, Some}
use Rattle.adf_format.specs.Tree.{Tree, children_at, name_at}
use Rattle.adf_format.specs.Fields.{trimmed}
use Rattle.adf_model.specs.Spelling.{spelled}

-- The names on the way from the root to a node, each spelled and behind a slash: none for the root.
pub data IsWay (tree : Tree) : ℕ → List ℕ → Type 0 where
  to_root : IsWay tree 0 []
  to_child : {parent child : ℕ} {way : List ℕ} (position : ℕ) → IsWay tree parent way → slice_get (children_at tree parent) position ≡ Some child → IsWay tree child (way ++ 47 ∷ spelled (name_at tree child))

-- A node and those above it, up to the one below the root: none for the root.
pub data IsWayUp (tree : Tree) : ℕ → List ℕ → Type 0 where
  from_root : IsWayUp tree 0 []
  from_child : {parent child : ℕ} {up : List ℕ} (position : ℕ) → IsWayUp tree parent up → slice_get (children_at tree parent) position ≡ Some child → IsWayUp tree child (child ∷ up)

-- a way as it is printed: a slash for the root
abbrev pub printed_way : List ℕ → List ℕ
printed_way [] = 47 ∷ []
printed_way (b ∷ way) = b ∷ way

-- a text is the path of a node
pub record IsPath (tree : Tree) (node : ℕ) (text : List ℕ) : Type 0 where
  pub way : List ℕ
  pub leads : IsWay tree node way
  pub printed : text ≡ printed_way way

-- the name fields of the nodes of a tree, by their numbers
abbrev pub AreNames : Tree → List (List ℕ) → Type 0
AreNames tree names = (k : ℕ) (name : List ℕ) → slice_get names k ≡ Some name → trimmed name ≡ name_at tree k
