-- A group of edits as far as it was done, between the bytes before it and those after it.
use Rattle.std.specs.Prelude.{◌≡◌, ℕ, suc, ◌+◌, ◌*◌, ◌<◌, ◌≤◌, Bool, List, [], ◌∷◌, ◌++◌, length, take, slice_get, Some, Ok, Err}
use Rattle.adf_format.specs.Tree.{Tree, IsTree}
use Rattle.adf_format.specs.Placement.{Placement}
use Rattle.adf_format.specs.HeapRule.{LimitReached, place_edit}
use Rattle.adf_model.specs.declared.error.AdfError.{AdfError}
use Rattle.adf_model.specs.declared.tree.Edit.{Edit}
use Rattle.adf_model.specs.Edits.{Work, created_by, file_step, file_group}
use Rattle.adf_model.specs.Need.{cost}
use Rattle.adf_model.specs.Placing.{placed_as, place_group, chunk_number, group_cost}
use Rattle.adf_model.specs.Untouched.{touched_extents, group_touched, group_shaped}
use Rattle.tree_laws.specs.Leaving.{Leaves}
use Rattle.adf_model.specs.FileGroup.{done_by}
use Rattle.tree_laws.specs.Groups.{group_need}
use Rattle.tree_laws.specs.Tails.{KeepsTail}

-- an edit of one file was done: its tree and its placement, what it leaves and the bytes behind the end
pub record IsEditDone (limit : ℕ) (writable : Bool) (edit : Edit) (tree : Tree) (p : Placement)
    (after : Tree) (q : Placement) (old new : List ℕ) : Type 0 where
  pub made : file_step writable tree edit ≡ Ok after
  pub placed : place_edit limit tree after (placed_as edit) p ≡ Ok q
  pub leaves : Leaves (touched_extents tree p edit) (group_shaped ((edit, after) ∷ [])) tree.wide p q old new
  pub tail : KeepsTail q.heap.end old new

-- and so were some edits one after another
pub record IsGroupDone (limit : ℕ) (writable : Bool) (edits : List Edit) (tree : Tree) (p : Placement)
    (work : Work) (q : Placement) (old new : List ℕ) : Type 0 where
  pub made : file_group writable tree edits ≡ Ok work
  pub placed : place_group limit tree p (done_by writable tree edits) ≡ Ok q
  pub leaves : Leaves (group_touched limit tree p (done_by writable tree edits)) (group_shaped (done_by writable tree edits)) tree.wide p q old new
  pub tail : KeepsTail q.heap.end old new

abbrev pub GroupBegins : Type 0
GroupBegins =
    (limit : ℕ) (writable : Bool) (tree : Tree) (p : Placement) (image : List ℕ)
    → IsGroupDone limit writable [] tree p (record { tree = tree; created = [] }) p image image

-- the turn of a loop over the edits
abbrev pub GroupGoesOn : Type 0
GroupGoesOn =
    (limit : ℕ) (writable : Bool) (edits : List Edit) (i : ℕ) (edit : Edit) (tree : Tree) (p : Placement)
    (work : Work) (after : Tree) (q r : Placement) (a b c : List ℕ)
    → slice_get edits i ≡ Some edit → IsGroupDone limit writable (take i edits) tree p work q a b
    → IsEditDone limit writable edit work.tree q after r b c
    → IsGroupDone limit writable (take (suc i) edits) tree p (record { tree = after; created = work.created ++ created_by work.tree edit }) r a c

-- with what it costs so far, by the placement before the edit
abbrev pub GroupPays : Type 0
GroupPays =
    (limit : ℕ) (writable : Bool) (edits : List Edit) (i : ℕ) (edit : Edit) (tree : Tree) (p : Placement)
    (work : Work) (after : Tree) (q : Placement)
    → slice_get edits i ≡ Some edit → file_group writable tree (take i edits) ≡ Ok work
    → place_group limit tree p (done_by writable tree (take i edits)) ≡ Ok q
    → file_step writable work.tree edit ≡ Ok after
    → group_cost limit tree p (done_by writable tree (take (suc i) edits)) ≡ group_cost limit tree p (done_by writable tree (take i edits)) + cost work.tree (chunk_number q) edit

-- a group is refused at the first edit that is
abbrev pub GroupStops : Type 0
GroupStops =
    (writable : Bool) (edits : List Edit) (i : ℕ) (edit : Edit) (tree : Tree) (work : Work)
    (error : AdfError) → slice_get edits i ≡ Some edit → file_group writable tree (take i edits) ≡ Ok work
    → file_step writable work.tree edit ≡ Err error
    → file_group writable tree edits ≡ Err (record { at = i; error = error })

-- where the take of an edit is refused, so is that of the group up to it, and its needs exceed the room
abbrev pub GroupIsFull : Type 0
GroupIsFull =
    (limit : ℕ) (writable : Bool) (edits : List Edit) (i : ℕ) (edit : Edit) (tree : Tree) (p : Placement)
    (work : Work) (after : Tree) (q : Placement) (full : LimitReached)
    → IsTree tree → length p.parts ≡ length tree.nodes → slice_get edits i ≡ Some edit
    → file_group writable tree (take i edits) ≡ Ok work
    → place_group limit tree p (done_by writable tree (take i edits)) ≡ Ok q
    → file_step writable work.tree edit ≡ Ok after
    → place_edit limit work.tree after (placed_as edit) q ≡ Err full
    → (place_group limit tree p (done_by writable tree (take (suc i) edits)) ≡ Err full)
    × (limit * 4096 < p.heap.end + 1 + group_need tree (done_by writable tree (take (suc i) edits)))

-- and a group that is done to its end is the whole
abbrev pub GroupEnds : Type 0
GroupEnds = (edits : List Edit) (i : ℕ) → length edits ≤ i → take i edits ≡ edits
