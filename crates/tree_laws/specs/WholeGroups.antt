-- Groups of edits whole: edits that are done one after another leave what a group leaves.
use Rattle.std.specs.Prelude.{◌≡◌, ℕ, suc, Bool, List, [], ◌++◌, take, slice_get, Some, Ok}
use Rattle.adf_format.specs.Tree.{Tree}
use Rattle.adf_format.specs.Placement.{Placement}
use Rattle.adf_format.specs.LaysOut.{LaysOut}
use Rattle.adf_model.specs.declared.tree.Edit.{Edit}
use Rattle.adf_model.specs.Edits.{Work, created_by, file_group}
use Rattle.adf_model.specs.Placing.{place_group}
use Rattle.adf_model.specs.Untouched.{group_touched, KeepsRest, KeepsTail}
use Rattle.adf_model.specs.FileGroup.{done_by}
use Rattle.tree_laws.specs.Spared.{IsEditWhole, KeepsPlaces}

-- some edits of one file are done: the tree and its placement, what the file then holds, and what is left of it
pub record IsGroupWhole (limit : ℕ) (writable : Bool) (edits : List Edit) (tree : Tree) (p : Placement) (work : Work)
    (q : Placement) (old new : List ℕ) : Type 0 where
  pub made : file_group writable tree edits ≡ Ok work
  pub placed : place_group limit tree p (done_by writable tree edits) ≡ Ok q
  pub laid_out : LaysOut new work.tree q
  pub rest : KeepsRest limit tree p (done_by writable tree edits) q old new
  pub tail : KeepsTail q.heap.end old new
  pub places : KeepsPlaces (group_touched limit tree p (done_by writable tree edits)) tree.wide p q

abbrev pub WholeGroupBegins : Type 0
WholeGroupBegins =
    (limit : ℕ) (writable : Bool) (tree : Tree) (p : Placement) (image : List ℕ) → LaysOut image tree p
    → IsGroupWhole limit writable [] tree p (record { tree = tree; created = [] }) p image image

-- the turn of a loop over the edits
abbrev pub WholeGroupGoesOn : Type 0
WholeGroupGoesOn =
    (limit : ℕ) (writable : Bool) (edits : List Edit) (i : ℕ) (edit : Edit) (tree : Tree) (p : Placement)
    (work : Work) (after : Tree) (q r : Placement) (a b c : List ℕ)
    → slice_get edits i ≡ Some edit → IsGroupWhole limit writable (take i edits) tree p work q a b
    → IsEditWhole limit writable edit work.tree q after r b c
    → IsGroupWhole limit writable (take (suc i) edits) tree p
    (record { tree = after; created = work.created ++ created_by work.tree edit }) r a c
