-- The nodes of a tree in tree order, each with the way to it from the root.
use Rattle.std.specs.Prelude.{ℕ, zero, suc, List, [], ◌∷◌, ◌++◌, map}
use Rattle.std.specs.List.{flat_map}
use Rattle.adf_format.specs.Tree.{Tree, name_at, children_at}
use Rattle.adf_model.specs.Spelling.{spelled}

-- a node by its serial, and the way to it: the names from the root, each spelled and behind a slash; none for the root
pub record Place : Type 0 where
  pub way : List ℕ
  pub serial : ℕ

abbrev pub root_place : Place
root_place = record { way = []; serial = 0 }

abbrev pub child_place : Tree → Place → ℕ → Place
child_place tree place child = record { way = place.way ++ 47 ∷ spelled (name_at tree child); serial = child }

-- the children of a node, in their order
abbrev pub places_below : Tree → Place → List Place
places_below tree place = map (child_place tree place) (children_at tree place.serial)

-- a node and all below it, down to n levels: a node before its children, and these in their order
abbrev pub places_from : ℕ → Tree → Place → List Place
places_from zero tree place = []
places_from (suc n) tree place = place ∷ flat_map (λ below. places_from n tree below) (places_below tree place)

-- all nodes of a tree in tree order
unfoldable pub tree_places : Tree → List Place
tree_places tree = places_from 256 tree root_place
