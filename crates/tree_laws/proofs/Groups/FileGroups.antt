-- A group of edits on many files is done in the tree of its own file.
use Rattle.std.proofs.Common.{◌≡◌, ◌≢◌, ◌⊎◌, inl, inr, ℕ, zero, suc, refl, sym, ◌∙◌, ap, subst, arith, Bool, false, not, List, [], ◌∷◌, ◌++◌, length, take, ◌+◌, ◌*◌, ◌<◌}
use Rattle.std.proofs.lemmas.List.{length-map, append_assoc, append-nil}
use Rattle.std.specs.Prelude.{Option, Some, None, IsSome, is_some, ◌==◌, ◌||◌, unwrap_or, Result, Ok, Err}
use Rattle.std.specs.List.{list_any, AllByRecursion}
use Rattle.adf_format.specs.Tree.{Tree}
use Rattle.adf_format.specs.Placement.{Placement}
use Rattle.adf_format.specs.HeapRule.{LimitReached, place_edit, ◌>>=◌}
use Rattle.adf_model.specs.declared.error.AdfError.{AdfError}
use Rattle.adf_model.specs.declared.error.AdfError.TheVariants.{LinkMissing}
use Rattle.adf_model.specs.declared.error.EditError.{EditError}
use Rattle.adf_model.specs.declared.tree.Edit.{Edit}
use Rattle.adf_model.specs.declared.tree.Edit.TheVariants.{Create, Delete, Rename, Move, SetLabel, SetDims, PutAll, PutPart, Link}
use Rattle.adf_model.specs.declared.tree.NodeId.{NodeId}
use Rattle.adf_model.specs.Edits.{Work, IsReached, apply, named_nodes, followed, created_by, at_edit, file_step, file_group_from}
use Rattle.adf_model.specs.Need.{need}
use Rattle.adf_model.specs.Placing.{placed_as, place_group}
use Rattle.adf_model.specs.Slots.{Open, Files, Device, AreTrees, open_at, with_slot, device_at}
use Rattle.adf_model.specs.Slots.Slot.{Live}
use Rattle.adf_model.specs.Calls.{Group, tests_at_entry, resolve, group_of, file_of, file_of_group, group_after, edit_reached, group_step, group_from}
use Rattle.adf_model.specs.OneFile.{StandsIn}
use Rattle.adf_model.specs.Steps.{IsLaidOut}
use Rattle.adf_model.proofs.Basics.{not_true, not_false, or_none, equal, not_there, same_Some, same_Ok, passed, found, done}
use Rattle.adf_model.proofs.Keeping.GroupKeeps.{followed_live, resolve_reaches, reached_in_tree, group_step_keeps, one_step, followed_in}
use Rattle.adf_model.proofs.Following.OneFileLaws.{in_its_file, opened_now}
use Rattle.adf_model.proofs.Answering.LayoutLemmas.{end_of_open}
use Rattle.adf_model.specs.FileGroup.{done_by}
use Rattle.tree_laws.specs.Groups.{tree_left, group_need, AreDone, place_plans}
use Rattle.tree_laws.specs.Needs.{Grows}
use Rattle.tree_laws.specs.FileGroups.{IsDoneIn, GroupsAreDone, DoneAsMany, RoomIsNeeded, TakesStop, EditByPlan, GroupByPlans}
use Rattle.tree_laws.proofs.Groups.GroupsGrow.{tree_grows, need_grows, are_done_grow, done_with}
use Rattle.tree_laws.proofs.Groups.NeedsOfGroups.{group_needs_bound}
use Rattle.tree_laws.proofs.Groups.PartsMany.{parts_are_many}
use Rattle.tree_laws.proofs.Edits.Plans.{plans_others}
use Rattle.tree_laws.proofs.Edits.PlanNew.{plans_create}

-- ---- a group as it goes on

-- as long as a group has no file it has done nothing; then it was done in the tree of that file
record IsOnItsWay (files : Files) (group : Group) : Type 0 where
  none : group.file ≡ None → (group.files ≡ files) × (group.done ≡ []) × (group.needed ≡ 0)
  some : (number : ℕ) (opened : Open) → group.file ≡ Some number → open_at files number ≡ Some opened → IsDoneIn group number opened

module _ (files : Files) (group : Group) (edit : Edit) (tree : Tree) (at : Open) (reached : IsReached at.tree edit) (made : apply at.tree edit ≡ Ok tree) where
  -- the first edit of a group
  first_done : (number : ℕ) (opened : Open) → open_at group.files number ≡ Some at → (group.files ≡ files) × (group.done ≡ []) × (group.needed ≡ 0) → open_at files number ≡ Some opened → IsDoneIn (group_after group number at edit tree) number opened
  first_done number opened here begun there =
      subst (IsDoneIn (group_after group number at edit tree) number) (same_Some at opened (sym here ∙ ap (λ (f : Files). open_at f number) begun.0 ∙ there)) (record {
        steps = subst (AreDone at.tree) (sym (ap (λ ds. ds ++ (edit, tree) ∷ []) begun.1)) (reached, made, tt);
        needed = ap (λ n. n + need at.tree edit) begun.2 ∙ plain (need at.tree edit) ∙ ap (group_need at.tree) (sym (ap (λ ds. ds ++ (edit, tree) ∷ []) begun.1));
        left = opened_now group.files number at (record at { tree = tree }) here ∙ ap (λ ds. Some (record at { tree = tree_left at.tree ds })) (sym (ap (λ ds. ds ++ (edit, tree) ∷ []) begun.1));
      })
    where
      plain : (n : ℕ) → 0 + n ≡ n + 0
      plain n = omega arith

  -- a later one
  later_done : (number : ℕ) (opened : Open) → open_at group.files number ≡ Some at → IsDoneIn group number opened → IsDoneIn (group_after group number at edit tree) number opened
  later_done number opened here was =
      let same : record opened { tree = tree_left opened.tree group.done } ≡ at = same_Some (record opened { tree = tree_left opened.tree group.done }) at (sym was.left ∙ here) in
      let its : at.tree ≡ tree_left opened.tree group.done = sym (ap (λ (o : Open). o.tree) same) in record {
        steps = are_done_grow opened.tree group.done (edit, tree) was.steps (subst (λ t. IsReached t edit) its reached) (subst (λ t. apply t edit ≡ Ok tree) its made);
        needed = ap (λ n. n + need at.tree edit) was.needed ∙ ap (λ t. group_need opened.tree group.done + need t edit) its ∙ sym (need_grows opened.tree group.done (edit, tree));
        left = opened_now group.files number at (record at { tree = tree }) here ∙ ap (λ (o : Open). Some (record o { tree = tree })) (sym same) ∙ ap (λ t. Some (record opened { tree = t })) (sym (tree_grows opened.tree group.done (edit, tree)));
      }

on_its_way_step : (files : Files) (group next : Group) (edit : Edit) → AreTrees group.files → IsOnItsWay files group → group_step group edit ≡ Ok next → IsOnItsWay files next
on_its_way_step files group next edit trees way e =
    let entry = passed (tests_at_entry group.files (named_nodes edit)) _ next e in
    let reached = done (resolve group.files edit) (λ reached. edit_reached group reached) next entry.1 in
    let number = file_of_group group reached.0 in
    let at = found (open_at group.files number) AdfError.NotOpen _ next reached.2 in
    let tests = passed ((list_any (λ (node : NodeId). not (node.file == number)) (named_nodes reached.0), AdfError.OtherFile) ∷ (not at.0.writable, AdfError.ReadOnly) ∷ []) _ next at.2 in
    let tree = done (apply at.0.tree reached.0) (λ tree. Ok (group_after group number at.0 reached.0 tree)) next tests.1 in
    let good = resolve_reaches group.files trees edit reached.0 (followed_live group.files edit entry.0.1.1.1.0) reached.1 in
    let here : IsReached at.0.tree reached.0 = reached_in_tree group.files at.0 number (trees number at.0 at.1) at.1 reached.0 (followed_in reached.0 number tests.0.0) good in
    subst (IsOnItsWay files) (same_Ok tree.2) (record {
      none = λ f. absurd (some_none number f);
      some = λ n opened f there. subst (λ k. open_at files k ≡ Some opened → IsDoneIn (group_after group number at.0 reached.0 tree.0) k opened) (same_Some number n f) (by_file group.file refl reached.0 at.0 tree.0 here tree.1 at.1 opened) there;
    })
  where
    some_none : (n : ℕ) → ◌≡◌ {A = Option ℕ} (Some n) None → ⊥
    some_none n e = cc

    by_file : (file : Option ℕ) → group.file ≡ file → (d : Edit) (at : Open) (tree : Tree) → IsReached at.tree d → apply at.tree d ≡ Ok tree → open_at group.files (file_of_group group d) ≡ Some at → (opened : Open) → open_at files (file_of_group group d) ≡ Some opened
        → IsDoneIn (group_after group (file_of_group group d) at d tree) (file_of_group group d) opened
    by_file None f d at tree reached made here opened there = first_done files group d tree at reached made (file_of_group group d) opened here (way.none f) there
    by_file (Some n) f d at tree reached made here opened there =
        let same : file_of_group group d ≡ n = ap (λ o. unwrap_or o (file_of (named_nodes d))) f in
        later_done files group d tree at reached made (file_of_group group d) opened here (subst (λ k. IsDoneIn group k opened) (sym same) (way.some n opened f (ap (open_at files) (sym same) ∙ there)))

on_its_way : (files : Files) (at : ℕ) (group last : Group) (edits : List Edit) → AreTrees group.files → IsOnItsWay files group → group_from at group edits ≡ Ok last → IsOnItsWay files last
on_its_way files at group last [] trees way e = subst (IsOnItsWay files) (same_Ok e) way
on_its_way files at group last (edit ∷ edits) trees way e =
    let s = one_step (group_step group edit) at (λ next. group_from (suc at) next edits) last e in
    on_its_way files (suc at) s.0 last edits (group_step_keeps group s.0 edit trees s.1) (on_its_way_step files group s.0 edit trees way s.1) s.2

pub groups_are_done : GroupsAreDone
groups_are_done files edits group number opened trees through file there =
    (on_its_way files 0 (group_of files) group edits trees (record { none = λ e. (refl, refl, refl); some = λ n o f h. absurd (not_there n f) }) through).some number opened file there

-- ---- a group on one file, where no link is met

abbrev NoLink : Bool → ℕ → Work → List Edit → Type 0
NoLink writable from work edits = (at : ℕ) → file_group_from writable from work edits ≢ Err (record { at = at; error = LinkMissing })

-- the edits after one that left this tree
abbrev further : ℕ → Group → Open → Edit → List Edit → Tree → Result Work EditError
further from group opened edit edits tree = file_group_from opened.writable (suc from) (record { tree = tree; created = group.created ++ created_by opened.tree edit }) edits

done_as : (from : ℕ) (group last : Group) (number : ℕ) (opened : Open) (edits : List Edit) → open_at group.files number ≡ Some opened → (group.file ≡ None) ⊎ (group.file ≡ Some number) → AllByRecursion (StandsIn number) edits
    → NoLink opened.writable from (record { tree = opened.tree; created = group.created }) edits → group_from from group edits ≡ Ok last → last.done ≡ group.done ++ done_by opened.writable opened.tree edits
done_as from group last number opened [] here own stand no_link e = sym (ap (λ (g : Group). g.done) (same_Ok e)) ∙ sym (append-nil group.done)
done_as from group last number opened (edit ∷ edits) here own stand no_link e =
    let s = one_step (group_step group edit) from (λ next. group_from (suc from) next edits) last e in
    let step = sym (in_its_file group number opened edit here own stand.0 (λ f. no_link from (ap (λ r. at_edit from r (further from group opened edit edits)) f))) ∙ s.1 in
    let t = done (file_step opened.writable opened.tree edit) (λ tree. Ok (group_after group number opened edit tree)) s.0 step in
    let rest = done_as (suc from) (group_after group number opened edit t.0) last number (record opened { tree = t.0 }) edits (opened_now group.files number opened (record opened { tree = t.0 }) here) (inr refl) stand.1
    (λ at f. no_link at (ap (λ r. at_edit from r (further from group opened edit edits)) t.1 ∙ f)) (ap (λ (g : Group). group_from (suc from) g edits) (same_Ok t.2) ∙ s.2) in
    rest ∙ append_assoc group.done ((edit, t.0) ∷ []) (done_by opened.writable t.0 edits) ∙ ap (λ ds. group.done ++ ds) (sym (done_with opened.writable opened.tree t.0 edit edits t.1))

pub done_as_many : DoneAsMany
done_as_many files edits group number opened here stand no_link through = done_as 0 (group_of files) group number opened edits here (inl refl) stand no_link through

-- ---- room

pub refused : (limit end most : ℕ) (full : LimitReached) (r : Result Placement LimitReached) → r ≡ Err full → Grows limit end most r → limit * 4096 < end + 1 + most
refused limit end most full r e g = subst (Grows limit end most) e g

pub room_is_needed : RoomIsNeeded
room_is_needed files edits group number opened p full trees through file there many over =
    let is = groups_are_done files edits group number opened trees through file there in
    subst (λ n. opened.limit * 4096 < p.heap.end + 1 + n) (sym is.needed)
    (refused opened.limit p.heap.end (group_need opened.tree group.done) full (place_group opened.limit opened.tree p group.done) over
    (group_needs_bound opened.limit opened.tree p group.done (trees number opened there) many is.steps))

laid_many : (opened : Open) (device : Device) (held : Option (List ℕ)) → IsSome held → IsLaidOut (Live opened) device held → length device.placement.parts ≡ length opened.tree.nodes
laid_many opened device None some l = absurd (not_true some)
laid_many opened device (Some image) some l = sym (length-map device.placement.parts is_some) ∙ ap (λ (bs : List Bool). length bs) l.same_nodes ∙ length-map opened.tree.nodes is_some

pub takes_stop : TakesStop
takes_stop files devices edits at number group opened full trees exists through file there told laid over = record {
  exists = exists;
  group = group;
  through = through;
  number = number;
  file = file;
  opened = opened;
  live = there;
  over = subst (λ n. opened.limit * 4096 < n + 1 + group.needed) (sym (end_of_open opened (device_at devices number) told laid))
      (room_is_needed files (take (at + 1) edits) group number opened (device_at devices number).placement full trees through file there (laid_many opened (device_at devices number) (device_at devices number).held told laid) over);
}

-- ---- plans

pub edit_by_plan : EditByPlan
edit_by_plan limit tree after p (Create at name label) is many made = plans_create limit tree after p at name label many made
edit_by_plan limit tree after p (Delete node) is many made = (plans_others limit tree after p).0
edit_by_plan limit tree after p (Rename node wanted) is many made = (plans_others limit tree after p).1
edit_by_plan limit tree after p (SetLabel node label) is many made = (plans_others limit tree after p).1
edit_by_plan limit tree after p (Move node to) is many made = (plans_others limit tree after p).2 to.serial
edit_by_plan limit tree after p (SetDims node shape) is many made = absurd is
edit_by_plan limit tree after p (PutAll node given) is many made = absurd is
edit_by_plan limit tree after p (PutPart node selection given) is many made = absurd is
edit_by_plan limit tree after p (Link at name file path) is many made = absurd is

same_after : (r : Result Placement LimitReached) (f g : Placement → Result Placement LimitReached) → ((q : Placement) → r ≡ Ok q → f q ≡ g q) → (r >>= f) ≡ (r >>= g)
same_after (Ok q) f g same = same q refl
same_after (Err full) f g same = refl

pub group_by_plans : GroupByPlans
group_by_plans limit tree p [] are many all = refl
group_by_plans limit tree p (e ∷ done) are many all =
    same_after (place_edit limit tree e.1 (placed_as e.0) p) (λ (q : Placement). place_group limit e.1 q done) (λ (q : Placement). place_plans limit e.1 q done)
    (λ q at. group_by_plans limit e.1 q done are.1 (parts_are_many limit tree e.1 p q e.0 many all.1 at) all.2)
    ∙ ap (λ (r : Result Placement LimitReached). r >>= λ (q : Placement). place_plans limit e.1 q done) (edit_by_plan limit tree e.1 p e.0 are.0 many all.1)
