-- A group of edits on many files, edit by edit.
use Rattle.std.specs.Prelude.{◌≡◌, ℕ, suc, List, [], ◌∷◌, ◌++◌, take, slice_get, Some, Ok, Err}
use Rattle.adf_format.specs.Tree.{Tree}
use Rattle.adf_format.specs.Placement.{Placement}
use Rattle.adf_format.specs.HeapRule.{place_edit}
use Rattle.adf_model.specs.declared.error.AdfError.{AdfError}
use Rattle.adf_model.specs.declared.tree.Edit.{Edit}
use Rattle.adf_model.specs.Placing.{placed_as, place_group}
use Rattle.adf_model.specs.Untouched.{touched_extents, group_touched, group_shaped}
use Rattle.adf_model.specs.Slots.{Files}
use Rattle.adf_model.specs.Calls.{Group, group_step, edit_group}
use Rattle.tree_laws.specs.Leaving.{Leaves}
use Rattle.tree_laws.specs.Groups.{tree_left, AreDone}
use Rattle.tree_laws.specs.Tails.{KeepsTail}

-- the first edits of a group are done, and then the next
abbrev pub FilesGoOn : Type 0
FilesGoOn =
    (files : Files) (edits : List Edit) (i : ℕ) (edit : Edit) (group next : Group)
    → slice_get edits i ≡ Some edit → edit_group files (take i edits) ≡ Ok group
    → group_step group edit ≡ Ok next
    → edit_group files (take (suc i) edits) ≡ Ok next

-- or the next is refused, and so is the group
abbrev pub FilesStop : Type 0
FilesStop =
    (files : Files) (edits : List Edit) (i : ℕ) (edit : Edit) (group : Group) (error : AdfError)
    → slice_get edits i ≡ Some edit → edit_group files (take i edits) ≡ Ok group
    → group_step group edit ≡ Err error
    → edit_group files edits ≡ Err (record { at = i; error = error })

-- edits that were done in the tree of one file are placed, leave what they do not touch and the bytes behind the end
pub record ArePlaced (limit : ℕ) (tree : Tree) (p : Placement) (done : List (Edit × Tree)) (q : Placement)
    (old new : List ℕ) : Type 0 where
  pub placed : place_group limit tree p done ≡ Ok q
  pub leaves : Leaves (group_touched limit tree p done) (group_shaped done) tree.wide p q old new
  pub tail : KeepsTail q.heap.end old new

abbrev pub NoneArePlaced : Type 0
NoneArePlaced =
    (limit : ℕ) (tree : Tree) (p : Placement) (image : List ℕ) → ArePlaced limit tree p [] p image image

-- and so is one more
abbrev pub OneMoreIsPlaced : Type 0
OneMoreIsPlaced =
    (limit : ℕ) (tree : Tree) (p q r : Placement) (done : List (Edit × Tree)) (e : Edit × Tree)
    (a b c : List ℕ) → AreDone tree done → ArePlaced limit tree p done q a b
    → place_edit limit (tree_left tree done) e.1 (placed_as e.0) q ≡ Ok r
    → Leaves (touched_extents (tree_left tree done) q e.0) (group_shaped (e ∷ [])) (tree_left tree done).wide q r b c
    → KeepsTail r.heap.end b c
    → ArePlaced limit tree p (done ++ e ∷ []) r a c
