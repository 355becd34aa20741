-- How much edits and groups make a file grow.
use Rattle.std.specs.Prelude.{◌≡◌, ℕ, ◌+◌, ◌*◌, ◌<◌, ◌≤◌, List, length, Result, Ok, Err}
use Rattle.adf_format.specs.Tree.{Tree, IsTree}
use Rattle.adf_format.specs.Placement.{Placement}
use Rattle.adf_format.specs.HeapRule.{LimitReached, place_edit}
use Rattle.adf_model.specs.declared.tree.Edit.{Edit}
use Rattle.adf_model.specs.Edits.{IsReached, apply}
use Rattle.adf_model.specs.Need.{need}
use Rattle.adf_model.specs.Placing.{placed_as, place_group}
use Rattle.tree_laws.specs.Groups.{tree_left, group_need, AreDone}

-- a placement of which the end rose by so many at most; a refusal wants more than the limit leaves
abbrev pub Grows : ℕ → ℕ → ℕ → Result Placement LimitReached → Type 0
Grows limit end most (Ok q) = (end ≤ q.heap.end) × (q.heap.end ≤ end + most)
Grows limit end most (Err full) = limit * 4096 < end + 1 + most

-- an edit that is placed grows the file by its need at most, and one whose take is refused wants more than the
-- limit leaves
abbrev pub NeedsBound : Type 0
NeedsBound =
    (limit : ℕ) (tree after : Tree) (p : Placement) (edit : Edit) → IsTree tree → IsReached tree edit
    → length p.parts ≡ length tree.nodes → apply tree edit ≡ Ok after
    → Grows limit p.heap.end (need tree edit) (place_edit limit tree after (placed_as edit) p)

-- a placement has parts for each serial that was drawn, before an edit and after it
abbrev pub PartsAreMany : Type 0
PartsAreMany =
    (limit : ℕ) (tree after : Tree) (p q : Placement) (edit : Edit) → length p.parts ≡ length tree.nodes
    → apply tree edit ≡ Ok after → place_edit limit tree after (placed_as edit) p ≡ Ok q
    → length q.parts ≡ length after.nodes

-- the same of edits one after another, with the sum of what they need
abbrev pub GroupNeedsBound : Type 0
GroupNeedsBound =
    (limit : ℕ) (tree : Tree) (p : Placement) (done : List (Edit × Tree)) → IsTree tree
    → length p.parts ≡ length tree.nodes → AreDone tree done
    → Grows limit p.heap.end (group_need tree done) (place_group limit tree p done)

-- and after them a tree with parts for each serial
abbrev pub GroupStaysTree : Type 0
GroupStaysTree =
    (limit : ℕ) (tree : Tree) (p q : Placement) (done : List (Edit × Tree)) → IsTree tree
    → length p.parts ≡ length tree.nodes → AreDone tree done → place_group limit tree p done ≡ Ok q
    → IsTree (tree_left tree done) × (length q.parts ≡ length (tree_left tree done).nodes)
