-- A group of edits that goes on by one more: its tree, its placement, what it touches, costs and needs.
use Rattle.std.specs.Prelude.{◌≡◌, ℕ, suc, ◌+◌, Bool, List, [], ◌∷◌, ◌++◌, length, map, take, slice_get, Some, Result, Ok, ⊤}
use Rattle.std.specs.Result.{result_unwrap_or}
use Rattle.adf_format.specs.Tree.{Tree}
use Rattle.adf_format.specs.Placement.{Placement}
use Rattle.adf_format.specs.HeapRule.{LimitReached, place_edit, ◌>>=◌}
use Rattle.adf_model.specs.declared.tree.Edit.{Edit}
use Rattle.adf_model.specs.Tests.{and_then}
use Rattle.adf_model.specs.Edits.{Work, IsReached, apply, at_edit, created_by, file_step, file_group}
use Rattle.adf_model.specs.FileGroup.{done_by}
use Rattle.adf_model.specs.Need.{need, cost}
use Rattle.adf_model.specs.Placing.{placed_as, place_group, chunk_number, group_cost}
use Rattle.adf_model.specs.Untouched.{touched_extents, group_touched, group_shaped}
use Rattle.tree_laws.specs.Plans.{end_of_plan, plan_edit}

-- ---- where a group stands: edits that were done, each with the tree that it left

-- the tree that they leave
abbrev pub tree_left : Tree → List (Edit × Tree) → Tree
tree_left tree [] = tree
tree_left tree (e ∷ done) = tree_left e.1 done

-- the placement that they leave; an edit that is not placed leaves it
abbrev pub placement_left : ℕ → Tree → Placement → List (Edit × Tree) → Placement
placement_left limit tree p [] = p
placement_left limit tree p (e ∷ done) = placement_left limit e.1 (result_unwrap_or (place_edit limit tree e.1 (placed_as e.0) p) p) done

-- the most bytes by which they make a file grow
abbrev pub group_need : Tree → List (Edit × Tree) → ℕ
group_need tree [] = 0
group_need tree (e ∷ done) = need tree e.0 + group_need e.1 done

-- each is an edit of nodes that are reached, and leaves its tree
abbrev pub AreDone : Tree → List (Edit × Tree) → Type 0
AreDone tree [] = ⊤
AreDone tree (e ∷ done) = IsReached tree e.0 × (apply tree e.0 ≡ Ok e.1) × AreDone e.1 done

-- the placement by plans: after each edit what it takes stands, and what it gives is given
abbrev pub place_plans : ℕ → Tree → Placement → List (Edit × Tree) → Result Placement LimitReached
place_plans limit tree p [] = Ok p
place_plans limit tree p (e ∷ done) = end_of_plan (plan_edit limit tree e.1 (placed_as e.0) p) >>= λ (q : Placement). place_plans limit e.1 q done

-- ---- one more

-- a group of edits and one more is the group, and then that one
abbrev pub GroupGrows : Type 0
GroupGrows = (writable : Bool) (tree : Tree) (edits : List Edit) (edit : Edit)
    → file_group writable tree (edits ++ edit ∷ []) ≡ and_then (file_group writable tree edits)
    (λ (work : Work).
    at_edit (length edits) (file_step writable work.tree edit)
    (λ (after : Tree). Ok (record { tree = after; created = work.created ++ created_by work.tree edit })))

-- where a group is done, so are all its edits, and its tree is the one that they leave
abbrev pub GroupIsDone : Type 0
GroupIsDone =
    (writable : Bool) (tree : Tree) (edits : List Edit) (work : Work)
    → file_group writable tree edits ≡ Ok work
    → (tree_left tree (done_by writable tree edits) ≡ work.tree)
    × (map (λ (e : Edit × Tree). e.0) (done_by writable tree edits) ≡ edits)
    × AreDone tree (done_by writable tree edits)

-- and one more edit that is done is the last of them
abbrev pub DoneGrow : Type 0
DoneGrow =
    (writable : Bool) (tree after : Tree) (edits : List Edit) (edit : Edit) (work : Work)
    → file_group writable tree edits ≡ Ok work → file_step writable work.tree edit ≡ Ok after
    → done_by writable tree (edits ++ edit ∷ []) ≡ done_by writable tree edits ++ (edit, after) ∷ []

-- the first edits of a list and the next
abbrev pub FirstsGrow : Type 0
FirstsGrow =
    (edits : List Edit) (i : ℕ) (edit : Edit) → slice_get edits i ≡ Some edit
    → take (suc i) edits ≡ take i edits ++ edit ∷ []

abbrev pub TreeGrows : Type 0
TreeGrows =
    (tree : Tree) (done : List (Edit × Tree)) (e : Edit × Tree) → tree_left tree (done ++ e ∷ []) ≡ e.1

-- the placement of a group and one more edit is that of the group, and then of the edit
abbrev pub PlacementGrows : Type 0
PlacementGrows = (limit : ℕ) (tree : Tree) (p : Placement) (done : List (Edit × Tree)) (e : Edit × Tree)
    → place_group limit tree p (done ++ e ∷ []) ≡ (place_group limit tree p done >>= λ (q : Placement). place_edit limit (tree_left tree done) e.1 (placed_as e.0) q)

-- the same by plans
abbrev pub PlansGrow : Type 0
PlansGrow = (limit : ℕ) (tree : Tree) (p : Placement) (done : List (Edit × Tree)) (e : Edit × Tree)
    → place_plans limit tree p (done ++ e ∷ []) ≡ (place_plans limit tree p done >>= λ (q : Placement). end_of_plan (plan_edit limit (tree_left tree done) e.1 (placed_as e.0) q))

-- a group that is placed leaves that placement
abbrev pub PlacementIsLeft : Type 0
PlacementIsLeft =
    (limit : ℕ) (tree : Tree) (p q : Placement) (done : List (Edit × Tree))
    → place_group limit tree p done ≡ Ok q → placement_left limit tree p done ≡ q

-- what a group touches, shapes, costs and needs, and one more edit on the tree and the placement that it leaves
abbrev pub TouchedGrow : Type 0
TouchedGrow = (limit : ℕ) (tree : Tree) (p : Placement) (done : List (Edit × Tree)) (e : Edit × Tree)
    → group_touched limit tree p (done ++ e ∷ []) ≡ group_touched limit tree p done ++ touched_extents (tree_left tree done) (placement_left limit tree p done) e.0

abbrev pub ShapedGrow : Type 0
ShapedGrow =
    (done : List (Edit × Tree)) (e : Edit × Tree)
    → group_shaped (done ++ e ∷ []) ≡ group_shaped done ++ group_shaped (e ∷ [])

abbrev pub CostGrows : Type 0
CostGrows = (limit : ℕ) (tree : Tree) (p : Placement) (done : List (Edit × Tree)) (e : Edit × Tree)
    → group_cost limit tree p (done ++ e ∷ []) ≡ group_cost limit tree p done + cost (tree_left tree done) (chunk_number (placement_left limit tree p done)) e.0

abbrev pub NeedGrows : Type 0
NeedGrows =
    (tree : Tree) (done : List (Edit × Tree)) (e : Edit × Tree)
    → group_need tree (done ++ e ∷ []) ≡ group_need tree done + need (tree_left tree done) e.0

-- edits that were done, and one more of what they leave
abbrev pub AreDoneGrow : Type 0
AreDoneGrow =
    (tree : Tree) (done : List (Edit × Tree)) (e : Edit × Tree) → AreDone tree done
    → IsReached (tree_left tree done) e.0 → apply (tree_left tree done) e.0 ≡ Ok e.1
    → AreDone tree (done ++ e ∷ [])
