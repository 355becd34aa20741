-- What a group of edits is with one more.
use Rattle.std.proofs.Common.{◌≡◌, ℕ, zero, suc, refl, sym, ◌∙◌, ap, subst, arith, Bool, not, List, [], ◌∷◌, ◌++◌, length, map, ◌+◌}
use Rattle.std.specs.Prelude.{Option, Some, Result, Ok, Err, IsSome, ◌||◌, false, true}
use Rattle.std.specs.Result.{result_unwrap_or}
use Rattle.adf_format.specs.Tree.{Tree, node_at, is_live}
use Rattle.adf_format.specs.Placement.{Placement}
use Rattle.adf_format.specs.HeapRule.{LimitReached, place_edit, ◌>>=◌}
use Rattle.adf_model.specs.declared.error.AdfError.{AdfError}
use Rattle.adf_model.specs.declared.error.EditError.{EditError}
use Rattle.adf_model.specs.declared.tree.Edit.{Edit}
use Rattle.adf_model.specs.declared.tree.Edit.TheVariants.{Create, Delete, Rename, Move, SetLabel, SetDims, PutAll, PutPart, Link}
use Rattle.adf_model.specs.declared.tree.NodeId.{NodeId}
use Rattle.adf_model.specs.Tests.{and_then}
use Rattle.adf_model.specs.Edits.{Work, IsReached, apply, at_edit, created_by, file_step, file_group_from, reach_tests, named_nodes, followed}
use Rattle.adf_model.specs.Need.{need, cost}
use Rattle.adf_model.specs.Placing.{placed_as, place_group, chunk_number, group_cost}
use Rattle.adf_model.specs.Untouched.{touched_extents, group_touched}
use Rattle.adf_model.proofs.Following.StepTests.{step_tests}
use Rattle.adf_model.proofs.Basics.{not_there, not_Err, same_Ok, same_Some, passed, not_false, or_none}
use Rattle.std.proofs.lemmas.List.{append_assoc, append-nil}
use Rattle.std.specs.List.{list_any}
use Rattle.tree_laws.specs.Plans.{end_of_plan, plan_edit}
use Rattle.adf_model.specs.FileGroup.{done_then, done_by}
use Rattle.tree_laws.specs.Groups.{tree_left, placement_left, group_need, AreDone, place_plans, GroupGrows, GroupIsDone, DoneGrow, FirstsGrow, TreeGrows, PlacementGrows, PlansGrow, PlacementIsLeft, TouchedGrow, ShapedGrow, CostGrows, NeedGrows, AreDoneGrow}
use Rattle.adf_model.proofs.Keeping.EditsKeep.{one_step, at_followed}
use Rattle.adf_model.proofs.Answering.PlacingLemmas.{same_further, further}

-- ---- an edit of one file that is done is one of nodes that are reached

first_live : (a b : Bool) → (not a || b) ≡ false → a ≡ true
first_live a b e = not_false a (or_none (not a) b e).0

followed_live : (tree : Tree) (edit : Edit) → list_any (λ (node : NodeId). not (is_live tree node.serial)) (named_nodes edit) ≡ false → (node : NodeId) → followed edit ≡ Some node → IsSome (node_at tree node.serial)
followed_live tree (Create at wanted label) e node f = at_followed tree at node f (first_live _ _ e)
followed_live tree (Delete at) e node f = absurd (not_there node f)
followed_live tree (Rename at wanted) e node f = absurd (not_there node f)
followed_live tree (Move at to) e node f = at_followed tree to node f (first_live _ _ (or_none (not (is_live tree at.serial)) _ e).1)
followed_live tree (SetLabel at label) e node f = at_followed tree at node f (first_live _ _ e)
followed_live tree (SetDims at shape) e node f = at_followed tree at node f (first_live _ _ e)
followed_live tree (PutAll at given) e node f = at_followed tree at node f (first_live _ _ e)
followed_live tree (PutPart at selection given) e node f = at_followed tree at node f (first_live _ _ e)
followed_live tree (Link at wanted file path) e node f = at_followed tree at node f (first_live _ _ e)

pub step_reaches : (writable : Bool) (tree after : Tree) (edit : Edit) → file_step writable tree edit ≡ Ok after → IsReached tree edit × (apply tree edit ≡ Ok after)
step_reaches writable tree after edit e =
    let all = passed (reach_tests tree edit ++ (not writable, AdfError.ReadOnly) ∷ []) (apply tree edit) after (sym (step_tests writable tree edit) ∙ e) in
    (record { live = followed_live tree edit all.0.0; no_link = all.0.1.0 }, all.1)

-- ---- the group

abbrev work_with : Work → Edit → Tree → Work
work_with work edit after = record { tree = after; created = work.created ++ created_by work.tree edit }

abbrev last_step : Bool → ℕ → Edit → Work → Result Work EditError
last_step writable at edit work = at_edit at (file_step writable work.tree edit) (λ (after : Tree). Ok (work_with work edit after))

-- one step, and then what follows it
step_then : (r : Result Tree AdfError) (at : ℕ) (f g : Tree → Result Work EditError) (h : Work → Result Work EditError) → ((tree : Tree) → f tree ≡ and_then (g tree) h) → at_edit at r f ≡ and_then (at_edit at r g) h
step_then (Ok tree) at f g h same = same tree
step_then (Err error) at f g h same = refl

grows_from : (writable : Bool) (at n : ℕ) (work : Work) (edits : List Edit) (edit : Edit) → n ≡ at + length edits → file_group_from writable at work (edits ++ edit ∷ []) ≡ and_then (file_group_from writable at work edits) (last_step writable n edit)
grows_from writable at n work [] edit e = ap (λ k. last_step writable k edit work) (plain at n e)
  where
    plain : (a n : ℕ) → n ≡ a + 0 → a ≡ n
    plain a n e = omega (arith, e)
grows_from writable at n work (x ∷ edits) edit e =
    step_then (file_step writable work.tree x) at _ _ (last_step writable n edit) (λ (tree : Tree). grows_from writable (suc at) n (work_with work x tree) edits edit (shift at n (length edits) e))
  where
    shift : (a n k : ℕ) → n ≡ a + suc k → n ≡ suc a + k
    shift a n k e = omega (arith, e)

pub group_grows : GroupGrows
group_grows writable tree edits edit = grows_from writable 0 (length edits) (record { tree = tree; created = [] }) edits edit (plain (length edits))
  where
    plain : (n : ℕ) → n ≡ 0 + n
    plain n = omega arith

pub done_with : (writable : Bool) (tree after : Tree) (edit : Edit) (edits : List Edit) → file_step writable tree edit ≡ Ok after → done_by writable tree (edit ∷ edits) ≡ (edit, after) ∷ done_by writable after edits
done_with writable tree after edit edits e = ap (λ (r : Result Tree AdfError). done_then r (λ (after : Tree). (edit, after) ∷ done_by writable after edits)) e

abbrev IsDoneBy : Bool → Tree → List Edit → Work → List (Edit × Tree) → Type 0
IsDoneBy writable tree edits work done = (tree_left tree done ≡ work.tree) × (map (λ (e : Edit × Tree). e.0) done ≡ edits) × AreDone tree done

done_from : (writable : Bool) (at : ℕ) (before work : Work) (edits : List Edit) → file_group_from writable at before edits ≡ Ok work → IsDoneBy writable before.tree edits work (done_by writable before.tree edits)
done_from writable at before work [] e = (ap (λ (w : Work). w.tree) (same_Ok e), refl, tt)
done_from writable at before work (edit ∷ edits) e =
    let s = one_step (file_step writable before.tree edit) at (λ (tree : Tree). file_group_from writable (suc at) (work_with before edit tree) edits) work e in
    let r = done_from writable (suc at) (work_with before edit s.0) work edits s.2 in
    let good = step_reaches writable before.tree s.0 edit s.1 in
    subst (IsDoneBy writable before.tree (edit ∷ edits) work) (sym (done_with writable before.tree s.0 edit edits s.1)) (r.0, ap (λ xs. edit ∷ xs) r.1, (good.0, good.1, r.2))

pub group_is_done : GroupIsDone
group_is_done writable tree edits work e = done_from writable 0 (record { tree = tree; created = [] }) work edits e

done_grow_from : (writable : Bool) (at : ℕ) (before work : Work) (edits : List Edit) (edit : Edit) (after : Tree) → file_group_from writable at before edits ≡ Ok work → file_step writable work.tree edit ≡ Ok after
    → done_by writable before.tree (edits ++ edit ∷ []) ≡ done_by writable before.tree edits ++ (edit, after) ∷ []
done_grow_from writable at before work [] edit after e s = done_with writable before.tree after edit [] (ap (λ (w : Work). file_step writable w.tree edit) (same_Ok e) ∙ s)
done_grow_from writable at before work (x ∷ edits) edit after e s =
    let f = one_step (file_step writable before.tree x) at (λ (tree : Tree). file_group_from writable (suc at) (work_with before x tree) edits) work e in
    done_with writable before.tree f.0 x (edits ++ edit ∷ []) f.1
    ∙ ap (λ (ds : List (Edit × Tree)). (x, f.0) ∷ ds) (done_grow_from writable (suc at) (work_with before x f.0) work edits edit after f.2 s)
    ∙ sym (ap (λ (ds : List (Edit × Tree)). ds ++ (edit, after) ∷ []) (done_with writable before.tree f.0 x edits f.1))

pub done_grow : DoneGrow
done_grow writable tree after edits edit work e s = done_grow_from writable 0 (record { tree = tree; created = [] }) work edits edit after e s

pub firsts_grow : FirstsGrow
firsts_grow [] i edit e = absurd (not_there edit e)
firsts_grow (x ∷ edits) zero edit e = ap (λ y. y ∷ []) (same_Some x edit e)
firsts_grow (x ∷ edits) (suc i) edit e = ap (λ ys. x ∷ ys) (firsts_grow edits i edit e)

-- ---- trees and placements

pub tree_grows : TreeGrows
tree_grows tree [] e = refl
tree_grows tree (x ∷ done) e = tree_grows x.1 done e

nothing_more : (r : Result Placement LimitReached) → (r >>= λ (q : Placement). Ok q) ≡ r
nothing_more (Ok p) = refl
nothing_more (Err full) = refl

pub placement_grows : PlacementGrows
placement_grows limit tree p [] e = nothing_more (place_edit limit tree e.1 (placed_as e.0) p)
placement_grows limit tree p (x ∷ done) e =
    same_further (place_edit limit tree x.1 (placed_as x.0) p) _ _ (λ q. placement_grows limit x.1 q done e)
    ∙ sym (further (place_edit limit tree x.1 (placed_as x.0) p) (λ q. place_group limit x.1 q done) (λ q. place_edit limit (tree_left x.1 done) e.1 (placed_as e.0) q))

pub plans_grow : PlansGrow
plans_grow limit tree p [] e = nothing_more (end_of_plan (plan_edit limit tree e.1 (placed_as e.0) p))
plans_grow limit tree p (x ∷ done) e =
    same_further (end_of_plan (plan_edit limit tree x.1 (placed_as x.0) p)) _ _ (λ q. plans_grow limit x.1 q done e)
    ∙ sym (further (end_of_plan (plan_edit limit tree x.1 (placed_as x.0) p)) (λ q. place_plans limit x.1 q done) (λ q. end_of_plan (plan_edit limit (tree_left x.1 done) e.1 (placed_as e.0) q)))

-- a chain that ends has its middle
pub placed_first : (r : Result Placement LimitReached) (next : Placement → Result Placement LimitReached) (q : Placement) → (r >>= next) ≡ Ok q → (m : Placement) × (r ≡ Ok m) × (next m ≡ Ok q)
placed_first (Ok m) next q e = (m, refl, e)
placed_first (Err full) next q e = absurd (not_Err e)

pub placement_is_left : PlacementIsLeft
placement_is_left limit tree p q [] e = same_Ok e
placement_is_left limit tree p q (x ∷ done) e =
    let m = placed_first (place_edit limit tree x.1 (placed_as x.0) p) (λ (q : Placement). place_group limit x.1 q done) q e in
    ap (λ (r : Result Placement LimitReached). placement_left limit x.1 (result_unwrap_or r p) done) m.1 ∙ placement_is_left limit x.1 m.0 q done m.2

-- ---- what is touched, shaped, paid and needed

abbrev now_at : ℕ → Tree → Placement → Edit × Tree → Placement
now_at limit tree p x = result_unwrap_or (place_edit limit tree x.1 (placed_as x.0) p) p

pub touched_grow : TouchedGrow
touched_grow limit tree p [] e = append-nil (touched_extents tree p e.0)
touched_grow limit tree p (x ∷ done) e =
    ap (λ es. touched_extents tree p x.0 ++ es) (touched_grow limit x.1 (now_at limit tree p x) done e)
    ∙ sym (append_assoc (touched_extents tree p x.0) (group_touched limit x.1 (now_at limit tree p x) done) (touched_extents (tree_left x.1 done) (placement_left limit x.1 (now_at limit tree p x) done) e.0))

pub shaped_grow : ShapedGrow
shaped_grow [] e = refl
shaped_grow ((SetDims node shape, tree) ∷ done) e = ap (λ xs. node.serial ∷ xs) (shaped_grow done e)
shaped_grow ((Create at wanted label, tree) ∷ done) e = shaped_grow done e
shaped_grow ((Delete node, tree) ∷ done) e = shaped_grow done e
shaped_grow ((Rename node wanted, tree) ∷ done) e = shaped_grow done e
shaped_grow ((Move node to, tree) ∷ done) e = shaped_grow done e
shaped_grow ((SetLabel node label, tree) ∷ done) e = shaped_grow done e
shaped_grow ((PutAll node given, tree) ∷ done) e = shaped_grow done e
shaped_grow ((PutPart node selection given, tree) ∷ done) e = shaped_grow done e
shaped_grow ((Link at wanted file path, tree) ∷ done) e = shaped_grow done e

add_up : (a b c d : ℕ) → b ≡ c + d → a + b ≡ a + c + d
add_up a b c d e = omega (arith, e)

last_sum : (n : ℕ) → n + 0 ≡ 0 + n
last_sum n = omega arith

pub cost_grows : CostGrows
cost_grows limit tree p [] e = last_sum (cost tree (chunk_number p) e.0)
cost_grows limit tree p (x ∷ done) e =
    add_up (cost tree (chunk_number p) x.0) _ (group_cost limit x.1 (now_at limit tree p x) done) (cost (tree_left x.1 done) (chunk_number (placement_left limit x.1 (now_at limit tree p x) done)) e.0)
    (cost_grows limit x.1 (now_at limit tree p x) done e)

pub need_grows : NeedGrows
need_grows tree [] e = last_sum (need tree e.0)
need_grows tree (x ∷ done) e = add_up (need tree x.0) _ (group_need x.1 done) (need (tree_left x.1 done) e.0) (need_grows x.1 done e)

pub are_done_grow : AreDoneGrow
are_done_grow tree [] e all reached made = (reached, made, tt)
are_done_grow tree (x ∷ done) e all reached made = (all.0, all.1, are_done_grow x.1 done e all.2 reached made)
