-- Edits in work, and one more.
use Rattle.std.proofs.Common.{◌≡◌, inl, inr, ℕ, suc, refl, sym, ◌∙◌, ap, subst, arith, List, [], ◌∷◌, ◌++◌, length, take, ◌+◌, ◌≤◌, Bool, true, false}
use Rattle.std.specs.Prelude.{Option, Some, None, IfSome, slice_get, Ok, Err}
use Rattle.adf_format.specs.Tree.{Tree}
use Rattle.adf_format.specs.Placement.{Placement, Heap}
use Rattle.adf_model.specs.Counts.{DeviceState, OnlyReads}
use Rattle.adf_model.specs.Edits.{created_by, file_step}
use Rattle.adf_model.specs.FileGroup.{done_by}
use Rattle.adf_model.specs.Need.{cost}
use Rattle.adf_model.specs.Placing.{chunk_number, group_cost}
use Rattle.adf_model.specs.Untouched.{touched_extents, group_touched}
use Rattle.adf_model.specs.declared.error.AdfError.{AdfError}
use Rattle.adf_model.specs.declared.error.AdfError.TheVariants as error
use Rattle.adf_model.specs.declared.tree.Edit.{Edit}
use Rattle.block_cache.specs.Cache.{IsCache}
use Rattle.block_draft.specs.Draft.{blocks_below, changes_in, waiting_in}
use Rattle.cg_io.specs.Blocks.{Both}
use Rattle.cg_io.specs.Waits.{Waits, how_many}
use Rattle.file_heap.specs.Heap.{FreeSpace}
use Rattle.tree_laws.specs.Groups.{tree_left, placement_left}
use Rattle.tree_laws.specs.Reached.{CanReach}
use Rattle.tree_laws.specs.WholeGroups.{IsGroupWhole}
use Rattle.tree_laws.proofs.Groups.GroupsGrow.{group_is_done, done_grow, placement_is_left, cost_grows}
use Rattle.tree_laws.proofs.Whole.GroupsWhole.{whole_group_goes_on}
use Rattle.tree_laws.proofs.Whole.Reached.{group_reaches_more}
use Rattle.tree_edits.specs.declared.memory.Core.{Core}
use Rattle.tree_edits.specs.declared.rows.Row.{Row}
use Rattle.tree_edits.specs.Edits.{Does, Follows, KeepsCore, memory_of}
use Rattle.tree_edits.specs.Rows.{AreNear}
use Rattle.tree_edits.specs.Waiting.{Reaches}
use Rattle.adf_tree.specs.declared.file.AdfFile.{AdfFile}
use Rattle.adf_tree.specs.Files.{FileState, steps_in, device_of, image_in, state_of, accepted, HasMeaning, FollowsAll, DoesAll, IsWorking, IsFile, KeepsNames}
use Rattle.adf_tree.specs.Commits.{committed}
use Rattle.adf_tree.specs.Steps.{IsWithinCost, Refused, StepEnds, undone_over}
use Rattle.kept_names.specs.Kept.{AreKept, Children}
use Rattle.adf_tree.proofs.KeptNames.{committed_names, undone_names}
use Rattle.adf_tree.proofs.Starting.{idle_file, idle_state, no_steps}

-- ---- lists

pub first_steps : {A : Type 0} (xs : List A) (x : A) → take (length xs) (xs ++ x ∷ []) ≡ xs
first_steps [] x = refl
first_steps (y ∷ xs) x = ap (λ rest. y ∷ rest) (first_steps xs x)

pub all_steps : {A : Type 0} (xs : List A) (x : A) → take (suc (length xs)) (xs ++ x ∷ []) ≡ xs ++ x ∷ []
all_steps [] x = refl
all_steps (y ∷ xs) x = ap (λ rest. y ∷ rest) (all_steps xs x)

pub last_step : {A : Type 0} (xs : List A) (x : A) → slice_get (xs ++ x ∷ []) (length xs) ≡ Some x
last_step [] x = refl
last_step (y ∷ xs) x = last_step xs x

pub not_empty : {A : Type 0} (xs : List A) (x : A) → xs ++ x ∷ [] ≡ [] → ⊥
not_empty [] x e = cc
not_empty (y ∷ xs) x e = cc

-- ---- what is done, and one more

-- what the bytes mean after the edits in work
pub work_means : (steps : List Edit) (n : List ℕ) (was now : Core) (held image : Option (List ℕ)) → Both (DoesAll steps n was now) held image → HasMeaning was held → HasMeaning now image
work_means steps n was now None None b m = tt
work_means steps n was now None (Some image) b m = absurd b
work_means steps n was now (Some held) None b m = absurd b
work_means steps n was now (Some held) (Some image) b m = let f = b m.0 m.1 m.2 in (f.work.tree, f.placement, f.means)

module _ (steps : List Edit) (edit : Edit) (n m : List ℕ) (core after : Core) (a b c : List ℕ) (all : DoesAll steps n (accepted core) core a b) (does : Does edit core after b c)
    (within : IsWithinCost edit core n m b) (reaches : Reaches edit core after n m b)
  where
    one_more : DoesAll (steps ++ edit ∷ []) m (accepted core) after a c
    one_more tree p means =
        let f = all tree p means in
        let g = does f.work.tree f.placement f.means in
        let limit = core.heap.limit in
        let writable = core.writable in
        record {
          work = record { tree = g.after; created = f.work.created ++ created_by f.work.tree edit };
          placement = g.placement;
          whole = subst (λ (es : List Edit). IsGroupWhole limit writable es tree p (record { tree = g.after; created = f.work.created ++ created_by f.work.tree edit }) g.placement a c) (all_steps steps edit)
              (whole_group_goes_on limit writable (steps ++ edit ∷ []) (length steps) edit tree p f.work g.after f.placement g.placement a b c (last_step steps edit)
              (subst (λ (es : List Edit). IsGroupWhole limit writable es tree p f.work f.placement a b) (sym (first_steps steps edit)) f.whole) g.whole);
          means = g.means;
          cost = costs tree p f g.after g.whole.made (within f.work.tree f.placement f.means);
          reached = reach tree p f g;
        }
      where
        costs : (tree : Tree) (p : Placement) (f : FollowsAll core.heap.limit core.writable steps n tree p (memory_of core) a b) (next : Tree) (made : file_step core.writable f.work.tree edit ≡ Ok next)
            → how_many m ≤ how_many n + cost f.work.tree (chunk_number f.placement) edit
            → how_many m ≤ group_cost core.heap.limit tree p (done_by core.writable tree (steps ++ edit ∷ []))
        costs tree p f next made few =
            let limit = core.heap.limit in
            let done = done_by core.writable tree steps in
            let grown : done_by core.writable tree (steps ++ edit ∷ []) ≡ done ++ (edit, next) ∷ [] = done_grow core.writable tree next steps edit f.work f.whole.made made in
            let total = ap (group_cost limit tree p) grown ∙ cost_grows limit tree p done (edit, next) in
            let left : tree_left tree done ≡ f.work.tree = (group_is_done core.writable tree steps f.work f.whole.made).0 in
            let stands : placement_left limit tree p done ≡ f.placement = placement_is_left limit tree p f.placement done f.whole.placed in
            let last : cost (tree_left tree done) (chunk_number (placement_left limit tree p done)) edit ≡ cost f.work.tree (chunk_number f.placement) edit
            = ap (λ (t : Tree). cost t (chunk_number (placement_left limit tree p done)) edit) left ∙ ap (λ (q : Placement). cost f.work.tree (chunk_number q) edit) stands in
            let before = f.cost in
            omega (arith, few, before, total, last)

        -- what waited before can be reached by the edits before this one, and what waits anew by this one
        reach : (tree : Tree) (p : Placement) (f : FollowsAll core.heap.limit core.writable steps n tree p (memory_of core) a b) (g : Follows core.heap.limit core.writable edit f.work.tree f.placement (memory_of after) b c)
            → (k : ℕ) → Waits m k → CanReach (group_touched core.heap.limit tree p (done_by core.writable tree (steps ++ edit ∷ []))) tree.wide p g.placement.heap.end k
        reach tree p f g k waits =
            let limit = core.heap.limit in
            let writable = core.writable in
            let more = group_reaches_more limit writable (steps ++ edit ∷ []) (length steps) edit tree p f.work g.after f.placement g.placement a b c (last_step steps edit)
            (subst (λ (es : List Edit). IsGroupWhole limit writable es tree p f.work f.placement a b) (sym (first_steps steps edit)) f.whole) g.whole in
            subst (λ (es : List Edit). CanReach (group_touched limit tree p (done_by writable tree es)) tree.wide p g.placement.heap.end k) (all_steps steps edit)
            (elim (reaches f.work.tree f.placement f.means k waits) [
              | inl before ↦ more.0 k (subst (λ (es : List Edit). CanReach (group_touched limit tree p (done_by writable tree es)) tree.wide p f.placement.heap.end k) (sym (first_steps steps edit)) (f.reached k before))
              | inr anew ↦ more.1 k (subst (λ (h : Heap). CanReach (touched_extents f.work.tree f.placement edit) f.work.tree.wide f.placement h.end k) (sym g.means.heap) anew)
            ])

pub one_more_both : (steps : List Edit) (edit : Edit) (n m : List ℕ) (core after : Core) (held image new : Option (List ℕ)) → Both (DoesAll steps n (accepted core) core) held image
    → Both (Does edit core after) image new → IfSome image (IsWithinCost edit core n m) → IfSome image (Reaches edit core after n m) → Both (DoesAll (steps ++ edit ∷ []) m (accepted core) after) held new
one_more_both steps edit n m core after None None None all does within reaches = tt
one_more_both steps edit n m core after None None (Some new) all does within reaches = absurd does
one_more_both steps edit n m core after None (Some image) new all does within reaches = absurd all
one_more_both steps edit n m core after (Some held) None new all does within reaches = absurd all
one_more_both steps edit n m core after (Some held) (Some image) None all does within reaches = absurd does
one_more_both steps edit n m core after (Some held) (Some image) (Some new) all does within reaches = one_more steps edit n m core after held image new all does within reaches

-- ---- the memory

-- what was accepted decides what is in memory as it was last accepted
made : FreeSpace → ℕ → List (Option Row) → Bool → Bool → Core
made free limit rows wide writable = record { heap = record { work = free; kept = free; limit = limit }; rows = record { items = rows; kept = rows }; wide = wide; writable = writable }

pub same_accepted : (was now : Core) → KeepsCore was now → accepted now ≡ accepted was
unfolding made
same_accepted was now k =
    ap (λ free. made free now.heap.limit now.rows.kept now.wide now.writable) k.heap
    ∙ ap (λ limit. made was.heap.kept limit now.rows.kept now.wide now.writable) k.limit
    ∙ ap (λ rows. made was.heap.kept was.heap.limit rows now.wide now.writable) k.rows
    ∙ ap (λ wide. made was.heap.kept was.heap.limit was.rows.kept wide now.writable) k.wide
    ∙ ap (λ writable. made was.heap.kept was.heap.limit was.rows.kept was.wide writable) k.writable

-- ---- a file

module _ {D : Type 0} (state : D → DeviceState) (old new : AdfFile D) (w : IsWorking state old) (live : old.broken ≡ false) (kept : KeepsCore old.core new.core)
    (reads : OnlyReads (device_of state old) (device_of state new))
  where
    same_core : accepted new.core ≡ accepted old.core
    same_core = same_accepted old.core new.core kept

    pub kept_near : AreNear new.core.wide new.core.rows.kept
    kept_near = subst (λ (core : Core). AreNear core.wide core.rows.items) (sym same_core) w.kept_near

    pub kept_means : HasMeaning (accepted new.core) (device_of state new).held
    kept_means = subst (HasMeaning (accepted new.core)) (sym reads.held) (subst (λ (core : Core). HasMeaning core (device_of state old).held) (sym same_core) (w.means live))

    -- once one more edit is done
    pub one_more_works : (edit : Edit) → new.broken ≡ false → IsCache state (blocks_below new.draft) → AreNear new.core.wide new.core.rows.items
        → steps_in new ≡ steps_in old ++ edit ∷ [] → Both (Does edit old.core new.core) (image_in state old) (image_in state new)
        → IfSome (image_in state old) (IsWithinCost edit old.core (waiting_in old.draft) (waiting_in new.draft)) → IfSome (image_in state old) (Reaches edit old.core new.core (waiting_in old.draft) (waiting_in new.draft))
        → KeepsNames new.names new.core (device_of state new).held (image_in state new) → IsWorking state new
    one_more_works edit still cache near steps does within reaches names = record {
      cache = cache;
      near = near;
      kept_near = kept_near;
      means = λ e. kept_means;
      work = λ e.
          subst (λ (held : Option (List ℕ)). Both (DoesAll (steps_in new) (waiting_in new.draft) (accepted new.core) new.core) held (image_in state new)) (sym reads.held)
          (subst (λ (core : Core). Both (DoesAll (steps_in new) (waiting_in new.draft) core new.core) (device_of state old).held (image_in state new)) (sym same_core)
          (subst (λ (es : List Edit). Both (DoesAll es (waiting_in new.draft) (accepted old.core) new.core) (device_of state old).held (image_in state new)) (sym steps)
          (one_more_both (steps_in old) edit (waiting_in old.draft) (waiting_in new.draft) old.core new.core (device_of state old).held (image_in state old) (image_in state new) (w.work live) does within reaches)));
      names = λ e. names;
      idle = λ e. absurd (not_empty (steps_in old) edit (sym steps ∙ e));
      stopped = λ e. absurd (not_both new.broken still e);
    }
      where
        not_both : (b : Bool) → b ≡ false → b ≡ true → ⊥
        not_both b e f = cc

-- ---- a file whose edits in work are dropped

abbrev idle_over : DeviceState → Core → Bool → FileState
idle_over device core broken = record { device = device; image = device.held; waiting = []; core = core; steps = []; broken = broken }

module _ {D : Type 0} (state : D → DeviceState) (old new : AdfFile D) (w : IsWorking state old) (same : new.core ≡ accepted old.core) (settled : changes_in new.draft ≡ []) (steps : new.steps.items ≡ [])
    (cache : IsCache state (blocks_below new.draft)) (held : (device_of state new).held ≡ (device_of state old).held) (broken : new.broken ≡ old.broken)
    (tied : (now was : Children) → AreKept old.names now was → AreKept new.names was was)
  where
    pub dropped_file : IsFile state new
    dropped_file = idle_file state new settled (no_steps new.steps.items steps) (same ∙ sym (ap accepted same)) cache
        (subst (λ (core : Core). AreNear core.wide core.rows.items) (sym same) w.kept_near)
        (λ live. subst (λ (h : Option (List ℕ)). HasMeaning new.core h) (sym held) (subst (λ (core : Core). HasMeaning core (device_of state old).held) (sym same) (w.means (sym broken ∙ live))))
        (λ live. subst (λ (h : Option (List ℕ)). KeepsNames new.names new.core h h) (sym held)
        (subst (λ (core : Core). KeepsNames new.names core (device_of state old).held (device_of state old).held) (sym same)
        (undone_names old.names new.names old.core (steps_in old) (waiting_in old.draft) (device_of state old).held (image_in state old) tied (w.names (sym broken ∙ live)) (w.work (sym broken ∙ live)))))

    pub dropped_state : state_of state new ≡ undone_over (device_of state new) (state_of state old)
    dropped_state = idle_state state new dropped_file
        ∙ ap (λ (core : Core). idle_over (device_of state new) core new.broken) (ap accepted same)
        ∙ ap (λ (b : Bool). idle_over (device_of state new) (accepted old.core) b) broken

-- an edit is refused, and by no failed write
pub refused_ends : (edit : Edit) (e : AdfError) (old new : FileState) → Refused edit e old new → StepEnds edit (Err e) old new
refused_ends edit error.Broken old new r = absurd r.cause
refused_ends edit e old new r = r

-- ---- a file whose edits in work are committed

module _ {D : Type 0} (state : D → DeviceState) (old new : AdfFile D) (w : IsWorking state old) (live : old.broken ≡ false) (same : new.core ≡ committed old.core) (settled : changes_in new.draft ≡ []) (steps : new.steps.items ≡ [])
    (cache : IsCache state (blocks_below new.draft)) (held : (device_of state new).held ≡ image_in state old)
    (tied : (now was : Children) → AreKept old.names now was → AreKept new.names now now)
  where
    pub committed_file : IsFile state new
    committed_file = idle_file state new settled (no_steps new.steps.items steps) (same ∙ sym (ap accepted same)) cache
        (subst (λ (core : Core). AreNear core.wide core.rows.items) (sym same) w.near)
        (λ e. subst (λ (h : Option (List ℕ)). HasMeaning new.core h) (sym held)
        (subst (λ (core : Core). HasMeaning core (image_in state old)) (sym same)
        (work_means (steps_in old) (waiting_in old.draft) (accepted old.core) old.core (device_of state old).held (image_in state old) (w.work live) (w.means live))))
        (λ e. subst (λ (h : Option (List ℕ)). KeepsNames new.names new.core h h) (sym held)
        (subst (λ (core : Core). KeepsNames new.names core (image_in state old) (image_in state old)) (sym same)
        (committed_names old.names new.names old.core (steps_in old) (waiting_in old.draft) (device_of state old).held (image_in state old) tied (w.names live) (w.means live) (w.work live))))
