-- A loop over the edits of a group on many files does the group, or stops where it is refused.
use Rattle.std.proofs.Common.{◌≡◌, ℕ, zero, suc, refl, ◌∙◌, ap, subst, arith, Bool, List, [], ◌∷◌, take, ◌+◌}
use Rattle.std.specs.Prelude.{Some, slice_get, Result, Ok, Err}
use Rattle.adf_format.specs.Placement.{Placement}
use Rattle.adf_format.specs.HeapRule.{LimitReached, place_edit, ◌>>=◌}
use Rattle.adf_model.specs.declared.error.AdfError.{AdfError}
use Rattle.adf_model.specs.declared.tree.Edit.{Edit}
use Rattle.adf_model.specs.Edits.{at_edit}
use Rattle.adf_model.specs.Placing.{placed_as}
use Rattle.adf_model.specs.Untouched.{touched_extents, group_shaped}
use Rattle.adf_model.specs.Calls.{Group, group_of, group_step, group_from}
use Rattle.adf_model.proofs.Basics.{not_there, same_Some, same_Ok}
use Rattle.adf_model.proofs.Keeping.GroupKeeps.{one_step}
use Rattle.tree_laws.specs.Leaving.{Leaves}
use Rattle.tree_laws.specs.Groups.{tree_left}
use Rattle.tree_laws.specs.FileLoop.{FilesGoOn, FilesStop, NoneArePlaced, OneMoreIsPlaced}
use Rattle.tree_laws.proofs.Groups.GroupsGrow.{placement_grows}
use Rattle.tree_laws.proofs.Groups.GroupLeft.{group_keeps_format, nothing_leaves, one_more_leaves}
use Rattle.tree_laws.proofs.Leaving.TailsKept.{tail_stays, one_more_tail}

go_on_from : (at : ℕ) (group last next : Group) (edits : List Edit) (i : ℕ) (edit : Edit) → slice_get edits i ≡ Some edit → group_from at group (take i edits) ≡ Ok last → group_step last edit ≡ Ok next
    → group_from at group (take (suc i) edits) ≡ Ok next
go_on_from at group last next [] i edit there made step = absurd (not_there edit there)
go_on_from at group last next (x ∷ edits) zero edit there made step =
    ap (λ (r : Result Group AdfError). at_edit at r (λ (g : Group). group_from (suc at) g [])) (ap (group_step group) (same_Some x edit there) ∙ ap (λ (g : Group). group_step g edit) (same_Ok made) ∙ step)
go_on_from at group last next (x ∷ edits) (suc i) edit there made step =
    let s = one_step (group_step group x) at (λ (g : Group). group_from (suc at) g (take i edits)) last made in
    ap (λ (r : Result Group AdfError). at_edit at r (λ (g : Group). group_from (suc at) g (take (suc i) edits))) s.1 ∙ go_on_from (suc at) s.0 last next edits i edit there s.2 step

pub files_go_on : FilesGoOn
files_go_on files edits i edit group next there made step = go_on_from 0 (group_of files) group next edits i edit there made step

stop_from : (at n : ℕ) (group last : Group) (edits : List Edit) (i : ℕ) (edit : Edit) (error : AdfError) → n ≡ at + i → slice_get edits i ≡ Some edit → group_from at group (take i edits) ≡ Ok last → group_step last edit ≡ Err error
    → group_from at group edits ≡ Err (record { at = n; error = error })
stop_from at n group last [] i edit error e there made step = absurd (not_there edit there)
stop_from at n group last (x ∷ edits) zero edit error e there made step =
    ap (λ (r : Result Group AdfError). at_edit at r (λ (g : Group). group_from (suc at) g edits)) (ap (group_step group) (same_Some x edit there) ∙ ap (λ (g : Group). group_step g edit) (same_Ok made) ∙ step)
    ∙ ap (λ (k : ℕ). Err (record { at = k; error = error })) (plain at n e)
  where
    plain : (a n : ℕ) → n ≡ a + 0 → a ≡ n
    plain a n e = omega (arith, e)
stop_from at n group last (x ∷ edits) (suc i) edit error e there made step =
    let s = one_step (group_step group x) at (λ (g : Group). group_from (suc at) g (take i edits)) last made in
    ap (λ (r : Result Group AdfError). at_edit at r (λ (g : Group). group_from (suc at) g edits)) s.1 ∙ stop_from (suc at) n s.0 last edits i edit error (shift at n i e) there s.2 step
  where
    shift : (a n k : ℕ) → n ≡ a + suc k → n ≡ suc a + k
    shift a n k e = omega (arith, e)

pub files_stop : FilesStop
files_stop files edits i edit group error there made step = stop_from 0 i (group_of files) group edits i edit error (plain i) there made step
  where
    plain : (n : ℕ) → n ≡ 0 + n
    plain n = omega arith

-- ---- in the tree of one file

pub none_are_placed : NoneArePlaced
none_are_placed limit tree p image = record { placed = refl; leaves = nothing_leaves tree.wide p image; tail = tail_stays p.heap.end image }

pub one_more_is_placed : OneMoreIsPlaced
one_more_is_placed limit tree p q r done e a b c all was placed leaves tail = record {
  placed = placement_grows limit tree p done e ∙ ap (λ (x : Result Placement LimitReached). x >>= λ (m : Placement). place_edit limit (tree_left tree done) e.1 (placed_as e.0) m) was.placed ∙ placed;
  leaves = one_more_leaves limit tree tree.wide p q r done e a b c was.placed was.leaves
      (subst (λ (w : Bool). Leaves (touched_extents (tree_left tree done) q e.0) (group_shaped (e ∷ [])) w q r b c) (group_keeps_format tree done all).0 leaves);
  tail = one_more_tail limit tree q r done e a b c placed was.tail tail;
}
