-- A loop over the edits of a group does the group, or stops where it is refused.
use Rattle.std.proofs.Common.{◌≡◌, ℕ, zero, suc, refl, sym, ◌∙◌, ap, subst, arith, Bool, List, [], ◌∷◌, ◌++◌, length, take, ◌+◌, ◌*◌, ◌<◌}
use Rattle.std.specs.Prelude.{Some, slice_get, Result, Ok, Err}
use Rattle.adf_format.specs.Tree.{Tree}
use Rattle.adf_format.specs.Placement.{Placement}
use Rattle.adf_format.specs.HeapRule.{LimitReached, place_edit, ◌>>=◌}
use Rattle.adf_model.specs.declared.error.AdfError.{AdfError}
use Rattle.adf_model.specs.declared.error.EditError.{EditError}
use Rattle.adf_model.specs.declared.tree.Edit.{Edit}
use Rattle.adf_model.specs.Tests.{and_then}
use Rattle.adf_model.specs.Edits.{Work, created_by, at_edit, file_step, file_group_from, file_group}
use Rattle.adf_model.specs.Need.{cost}
use Rattle.adf_model.specs.Placing.{placed_as, place_group, chunk_number, group_cost}
use Rattle.adf_model.specs.Untouched.{touched_extents, group_touched, group_shaped}
use Rattle.adf_model.proofs.Basics.{not_there, same_Some, same_Ok, not_Err}
use Rattle.tree_laws.specs.Leaving.{Leaves}
use Rattle.adf_model.specs.FileGroup.{done_by}
use Rattle.tree_laws.specs.Groups.{tree_left, placement_left, group_need, AreDone}
use Rattle.tree_laws.specs.Needs.{Grows}
use Rattle.tree_laws.specs.GroupLoop.{GroupBegins, GroupGoesOn, GroupPays, GroupStops, GroupIsFull, GroupEnds}
use Rattle.tree_laws.proofs.Groups.GroupsGrow.{group_grows, group_is_done, done_grow, firsts_grow, placement_grows, placement_is_left, cost_grows}
use Rattle.tree_laws.proofs.Groups.GroupLeft.{group_keeps_format, nothing_leaves, one_more_leaves}
use Rattle.tree_laws.proofs.Groups.NeedsOfGroups.{group_needs_bound}
use Rattle.tree_laws.proofs.Leaving.TailsKept.{tail_stays, one_more_tail}
use Rattle.adf_model.proofs.Keeping.EditsKeep.{one_step}
use Rattle.tree_laws.proofs.Groups.FileGroups.{refused}

pub group_begins : GroupBegins
group_begins limit writable tree p image = record { made = refl; placed = refl; leaves = nothing_leaves tree.wide p image; tail = tail_stays p.heap.end image }

pub group_ends : GroupEnds
group_ends [] zero le = refl
group_ends [] (suc i) le = refl
group_ends (e ∷ edits) zero le = absurd (omega (arith, le))
group_ends (e ∷ edits) (suc i) le = ap (λ es. e ∷ es) (group_ends edits i (omega (arith, le)))

-- ---- one more edit of a group

module _ (writable : Bool) (edits : List Edit) (i : ℕ) (edit : Edit) (tree : Tree) (work : Work) (after : Tree) (there : slice_get edits i ≡ Some edit) (made : file_group writable tree (take i edits) ≡ Ok work)
    (step : file_step writable work.tree edit ≡ Ok after) where
  abbrev before : List (Edit × Tree)
  before = done_by writable tree (take i edits)

  pub made_more : file_group writable tree (take (suc i) edits) ≡ Ok (record { tree = after; created = work.created ++ created_by work.tree edit })
  made_more =
      ap (file_group writable tree) (firsts_grow edits i edit there) ∙ group_grows writable tree (take i edits) edit
      ∙ ap (λ (r : Result Work EditError). and_then r (λ (w : Work). at_edit (length (take i edits)) (file_step writable w.tree edit) (λ (t : Tree). Ok (record { tree = t; created = w.created ++ created_by w.tree edit })))) made
      ∙ ap (λ (r : Result Tree AdfError). at_edit (length (take i edits)) r (λ (t : Tree). Ok (record { tree = t; created = work.created ++ created_by work.tree edit }))) step

  pub done_more : done_by writable tree (take (suc i) edits) ≡ before ++ (edit, after) ∷ []
  done_more = ap (done_by writable tree) (firsts_grow edits i edit there) ∙ done_grow writable tree after (take i edits) edit work made step

  pub left_before : tree_left tree before ≡ work.tree
  left_before = (group_is_done writable tree (take i edits) work made).0

  pub are_before : AreDone tree before
  are_before = (group_is_done writable tree (take i edits) work made).2

  pub wide_before : work.tree.wide ≡ tree.wide
  wide_before = ap (λ (t : Tree). t.wide) (sym left_before) ∙ (group_keeps_format tree before are_before).0

  module _ (limit : ℕ) (p q : Placement) (placed : place_group limit tree p before ≡ Ok q) where
    pub placed_more : place_group limit tree p (done_by writable tree (take (suc i) edits)) ≡ place_edit limit work.tree after (placed_as edit) q
    placed_more =
        ap (place_group limit tree p) done_more ∙ placement_grows limit tree p before (edit, after)
        ∙ ap (λ (r : Result Placement LimitReached). r >>= λ (m : Placement). place_edit limit (tree_left tree before) after (placed_as edit) m) placed
        ∙ ap (λ (t : Tree). place_edit limit t after (placed_as edit) q) left_before

    pub paid_more : group_cost limit tree p (done_by writable tree (take (suc i) edits)) ≡ group_cost limit tree p before + cost work.tree (chunk_number q) edit
    paid_more =
        ap (group_cost limit tree p) done_more ∙ cost_grows limit tree p before (edit, after)
        ∙ ap (λ (t : Tree). group_cost limit tree p before + cost t (chunk_number (placement_left limit tree p before)) edit) left_before
        ∙ ap (λ (m : Placement). group_cost limit tree p before + cost work.tree (chunk_number m) edit) (placement_is_left limit tree p q before placed)

    module _ (r : Placement) (a b c : List ℕ) where
      pub leaves_now : Leaves (group_touched limit tree p before) (group_shaped before) tree.wide p q a b → Leaves (touched_extents work.tree q edit) (group_shaped ((edit, after) ∷ [])) work.tree.wide q r b c
          → Leaves (group_touched limit tree p (done_by writable tree (take (suc i) edits))) (group_shaped (done_by writable tree (take (suc i) edits))) tree.wide p r a c
      leaves_now x y =
          subst (λ (ds : List (Edit × Tree)). Leaves (group_touched limit tree p ds) (group_shaped ds) tree.wide p r a c) (sym done_more)
          (one_more_leaves limit tree tree.wide p q r before (edit, after) a b c placed x
          (subst (λ (t : Tree). Leaves (touched_extents t q edit) (group_shaped ((edit, after) ∷ [])) tree.wide q r b c) (sym left_before)
          (subst (λ (w : Bool). Leaves (touched_extents work.tree q edit) (group_shaped ((edit, after) ∷ [])) w q r b c) wide_before y)))

pub group_goes_on : GroupGoesOn
group_goes_on limit writable edits i edit tree p work after q r a b c there g e = record {
  made = made_more writable edits i edit tree work after there g.made e.made;
  placed = placed_more writable edits i edit tree work after there g.made e.made limit p q g.placed ∙ e.placed;
  leaves = leaves_now writable edits i edit tree work after there g.made e.made limit p q g.placed r a b c g.leaves e.leaves;
  tail = one_more_tail limit tree q r (done_by writable tree (take i edits)) (edit, after) a b c
      (ap (λ (t : Tree). place_edit limit t after (placed_as edit) q) (left_before writable edits i edit tree work after there g.made e.made) ∙ e.placed) g.tail e.tail;
}

pub group_pays : GroupPays
group_pays limit writable edits i edit tree p work after q there made placed step = paid_more writable edits i edit tree work after there made step limit p q placed

pub group_is_full : GroupIsFull
group_is_full limit writable edits i edit tree p work after q full is many there made placed step over =
    let now = placed_more writable edits i edit tree work after there made step limit p q placed ∙ over in
    let more = made_more writable edits i edit tree work after there made step in (
      now,
      refused limit p.heap.end (group_need tree (done_by writable tree (take (suc i) edits))) full (place_group limit tree p (done_by writable tree (take (suc i) edits))) now
          (group_needs_bound limit tree p (done_by writable tree (take (suc i) edits)) is many (group_is_done writable tree (take (suc i) edits) _ more).2),
    )

-- ---- a group that is refused

abbrev work_with : Work → Edit → Tree → Work
work_with work edit after = record { tree = after; created = work.created ++ created_by work.tree edit }

stops_from : (writable : Bool) (at n : ℕ) (before work : Work) (edits : List Edit) (i : ℕ) (edit : Edit) (error : AdfError) → n ≡ at + i → slice_get edits i ≡ Some edit → file_group_from writable at before (take i edits) ≡ Ok work
    → file_step writable work.tree edit ≡ Err error → file_group_from writable at before edits ≡ Err (record { at = n; error = error })
stops_from writable at n before work [] i edit error e there made step = absurd (not_there edit there)
stops_from writable at n before work (x ∷ edits) zero edit error e there made step =
    ap (λ (r : Result Tree AdfError). at_edit at r (λ (tree : Tree). file_group_from writable (suc at) (work_with before x tree) edits))
    (ap (file_step writable before.tree) (same_Some x edit there) ∙ ap (λ (w : Work). file_step writable w.tree edit) (same_Ok made) ∙ step)
    ∙ ap (λ (k : ℕ). Err (record { at = k; error = error })) (plain at n e)
  where
    plain : (a n : ℕ) → n ≡ a + 0 → a ≡ n
    plain a n e = omega (arith, e)
stops_from writable at n before work (x ∷ edits) (suc i) edit error e there made step =
    let s = one_step (file_step writable before.tree x) at (λ (tree : Tree). file_group_from writable (suc at) (work_with before x tree) (take i edits)) work made in
    ap (λ (r : Result Tree AdfError). at_edit at r (λ (tree : Tree). file_group_from writable (suc at) (work_with before x tree) edits)) s.1
    ∙ stops_from writable (suc at) n (work_with before x s.0) work edits i edit error (shift at n i e) there s.2 step
  where
    shift : (a n k : ℕ) → n ≡ a + suc k → n ≡ suc a + k
    shift a n k e = omega (arith, e)

pub group_stops : GroupStops
group_stops writable edits i edit tree work error there made step = stops_from writable 0 i (record { tree = tree; created = [] }) work edits i edit error (plain i) there made step
  where
    plain : (n : ℕ) → n ≡ 0 + n
    plain n = omega arith
