-- The children of nodes that are listed in tree order, and linked lists of them.
use Rattle.std.specs.Prelude.{◌≡◌, ℕ, ◌-◌, ◌<◌, ◌==◌, Bool, false, List, [], ◌∷◌, length, filter, get_or, slice_get, Option, Some, None}
use Rattle.std.specs.List.{range_with_len}
use Rattle.layout_lint.specs.declared.verdict.NodePlace.{NodePlace}

-- whether it is a node of this parent
abbrev pub is_under : ℕ → Option NodePlace → Bool
is_under parent None = false
is_under parent (Some n) = n.parent == parent

-- the numbers, from one on, of the nodes whose parent is this one
abbrev pub children_from : ℕ → List NodePlace → ℕ → List ℕ
children_from from nodes parent = filter (λ k. is_under parent (slice_get nodes k)) (range_with_len from (length nodes - from))

-- the children of a node: the first node is the root, and a child of none
abbrev pub children_of : List NodePlace → ℕ → List ℕ
children_of nodes parent = children_from 1 nodes parent

-- the parent of each node is one of the nodes
abbrev pub AreParents : List NodePlace → Type 0
AreParents nodes = (k : ℕ) (n : NodePlace) → slice_get nodes k ≡ Some n → n.parent < length nodes

-- from a start on the links lead through these numbers, none of which is 0, and then to 0
abbrev pub IsChain : List ℕ → ℕ → List ℕ → Type 0
IsChain links start [] = start ≡ 0
IsChain links start (k ∷ ks) = (start ≡ k) × (0 < k) × IsChain links (get_or links k 0) ks
