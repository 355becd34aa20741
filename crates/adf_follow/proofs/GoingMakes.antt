-- What a group of edits makes in all: stopped at an edit, without edits, done, or with a commit that failed.
use Rattle.std.proofs.Common.{◌≡◌, ◌≢◌, inl, inr, ℕ, zero, suc, ◌+◌, ◌≤◌, false, List, [], ◌∷◌, ◌++◌, length, refl, sym, ◌∙◌, ap, subst, arith}
use Rattle.std.specs.Prelude.{Option, Some, None, IsSome, IfSome, IfOk, slice_get, Ok, Err}
use Rattle.std.proofs.lemmas.Bool.Decides.{eqb_tells}
use Rattle.adf_format.specs.Placement.{Placement}
use Rattle.adf_format.specs.LaysOut.{LaysOut}
use Rattle.adf_model.specs.declared.error.AdfError.{AdfError}
use Rattle.adf_model.specs.declared.error.AdfError.TheVariants.{WriteFault}
use Rattle.adf_model.specs.declared.tree.Edit.{Edit}
use Rattle.adf_model.specs.declared.tree.NodeId.{NodeId}
use Rattle.adf_model.specs.Slots.{Open, Slot, Files, Device, Devices, slot_at, is_gone, open_at, with_slot, device_at}
use Rattle.adf_model.specs.Slots.Slot.{Saved, Live}
use Rattle.adf_model.specs.Calls.{Group, edit_group}
use Rattle.adf_model.specs.Steps.{OthersOnlyRead, OthersStayPlaced, WriteFailed, OfGroup, IsPlaced, LeavesUntouched, IsLaidOut, IsLaidOutAt, AllLaidOut, Changed, Step}
use Rattle.adf_model.specs.Runs.{KeepsLayouts, Makes}
use Rattle.adf_model.proofs.Basics.{not_true, not_there, same_Some}
use Rattle.adf_model.proofs.Answering.AskLaws.{asks_keep}
use Rattle.adf_model.proofs.Answering.LayoutLemmas.{live_slot}
use Rattle.adf_model.proofs.Following.OneFileLaws.{slot_twice}
use Rattle.tree_laws.proofs.Groups.GroupLoop.{group_ends}
use Rattle.adf_follow.specs.Looking.{IsToldIn}
use Rattle.adf_follow.specs.Groups.{FileWork, Pending, at_rest, OnlyWaits, made_in, IsToldBy, IsDone, IsDoneAnyway, IsEditRefusal, IsRefusedAnyway, IsCommitted, IsTornCommit, IsUnderWay, WaitsIn}
use Rattle.adf_follow.proofs.GroupEnds.{ends, breaks}
use Rattle.adf_follow.proofs.Standings.{same_gone}
use Rattle.adf_follow.proofs.Going.{IsGoing, waits_more, group_is_open, goes_on, stops_anyway, none_anyway, ends_anyway, breaks_anyway}
use Rattle.adf_follow.proofs.GoingTold.{IsGoingTold, IsGroupTold, next_told, file_told, told_on, stops_told}

-- ---- an edit is done

pub goes_further : (files now after : Files) (before mid later : Devices) (edits : List Edit) (i : ℕ) (group : Option ℕ) (was next : ℕ → FileWork) (edit : Edit) (number : ℕ) → IsGoing files before edits i group mid now → slice_get edits i ≡ Some edit → OnlyWaits now mid later after → IsDoneAnyway now after was next group edit number
    → IsGoing files before edits (i + 1) (Some number) later after
goes_further files now after before mid later edits i group was next edit number going is waits anyway =
    let one : suc i ≡ i + 1 = omega arith in
    subst (λ k. IsGoing files before edits k (Some number) later after) one (goes_on files now before mid edits i group going edit later after was next number is waits anyway)

pub told_further : (files now after : Files) (before mid : Devices) (edits : List Edit) (i : ℕ) (group : Option ℕ) (created made : List NodeId) (work next : ℕ → FileWork) (edit : Edit) (number : ℕ) → AllLaidOut files before → IsGoing files before edits i group mid now
    → (IsGroupTold files before edits → IsGoingTold files before edits i group created work now) → slice_get edits i ≡ Some edit → ((serial : Option ℕ) × (made ≡ created ++ made_in number serial) × (IsToldBy now mid edit → IsDone now after work next group edit number serial))
    → IsGroupTold files before edits → IsGoingTold files before edits (i + 1) (Some number) made next after
told_further files now after before mid edits i group created made work next edit number laid going told is done known =
    let one : suc i ≡ i + 1 = omega arith in
    let so_far = told known in
    subst (λ k. IsGoingTold files before edits k (Some number) made next after) one
    (told_on files now before mid edits i group created work going so_far edit is after next number done.0 (done.2 (next_told files now before mid edits i group created work going so_far laid edit is known)) laid known made done.1)

-- so it stands behind the loop
pub going_end : (files now : Files) (before mid : Devices) (edits : List Edit) (i k : ℕ) (group file : Option ℕ) → i ≡ k → group ≡ file → IsGoing files before edits i group mid now → IsGoing files before edits k file mid now
going_end files now before mid edits i k group file at own h = subst (λ n. IsGoing files before edits n file mid now) at (subst (λ g. IsGoing files before edits i g mid now) own h)

pub told_end : (files now : Files) (before : Devices) (edits : List Edit) (i k : ℕ) (group file : Option ℕ) (created : List NodeId) (work : ℕ → FileWork) → i ≡ k → group ≡ file → (IsGroupTold files before edits → IsGoingTold files before edits i group created work now)
    → IsGroupTold files before edits → IsGoingTold files before edits k file created work now
told_end files now before edits i k group file created work at own h known = subst (λ n. IsGoingTold files before edits n file created work now) at (subst (λ g. IsGoingTold files before edits i g created work now) own (h known))

pub waits_end : (now : Files) (mid : Devices) (pending : Pending) (group file : Option ℕ) → group ≡ file → WaitsIn group now mid pending → WaitsIn file now mid pending
waits_end now mid pending group file own h = subst (λ g. WaitsIn g now mid pending) own h

-- ---- an edit is refused

pub stops_make : (files now after : Files) (before mid later : Devices) (edits : List Edit) (i : ℕ) (group : Option ℕ) (created : List NodeId) (work : ℕ → FileWork) (edit : Edit) (error : AdfError) → AllLaidOut files before → IsGoing files before edits i group mid now
    → (IsGroupTold files before edits → IsGoingTold files before edits i group created work now) → slice_get edits i ≡ Some edit → OnlyWaits now mid later after → (IsToldBy now mid edit → IsEditRefusal now work group edit error) → IsRefusedAnyway now mid later edit error → after ≡ files
    → Makes files before (Changed edits (Err (record { at = i; error = error }))) later after
stops_make files now after before mid later edits i group created work edit error laid going told is waits refusal anyway same =
    let all = waits_more files now after before mid later going.waits waits in
    record {
      step = λ known. stops_told files now before mid edits i group created work going (told known) laid known edit later after after error is waits (refusal (next_told files now before mid edits i group created work going (told known) laid edit is known)) anyway same;
      layouts = asks_keep files after before later (record { files_stay = same; devices_stay = all.devices; placed = all.placed });
      anyway = stops_anyway files now before mid edits i group going edit later after after error is waits anyway same;
    }

-- ---- a group without a file

le_itself : (k : ℕ) → k ≤ k
le_itself k = omega arith

none_told : (files now : Files) (before mid : Devices) (edits : List Edit) (created : List NodeId) (work : ℕ → FileWork) → IsUnderWay files before edits (length edits) None created work now → OnlyWaits files before mid now → Step files before (Changed edits (Ok created)) mid now
none_told files now before mid edits created work way waits = (
  record {
    group = way.group;
    through = through;
    made = way.made;
    trees = way.trees;
    others = subst (λ (f : Option ℕ). OthersOnlyRead f before mid) (sym way.file) waits.devices;
    placed = subst (λ (f : Option ℕ). OthersStayPlaced f before mid) (sym way.file) waits.placed;
    own = λ k e. absurd (not_there k (sym way.file ∙ e));
    told = λ k e. absurd (not_there k (sym way.file ∙ e));
  },
  of_nothing (IsPlaced before mid),
  of_nothing (LeavesUntouched before mid),
)
  where
    through : edit_group files edits ≡ Ok way.group
    through = ap (edit_group files) (sym (group_ends edits (length edits) (le_itself (length edits)))) ∙ way.through

    of_nothing : (Fact : ℕ → Open → Group → Type 0) → OfGroup files edits Fact
    of_nothing Fact = subst (λ r. IfOk r (λ (g : Group). IfSome g.file (λ number. IfSome (open_at files number) (λ opened. Fact number opened g)))) (sym through)
        (subst (λ (f : Option ℕ). IfSome f (λ number. IfSome (open_at files number) (λ opened. Fact number opened way.group))) (sym way.file) tt)

pub none_make : (files now : Files) (before mid : Devices) (edits : List Edit) (created : List NodeId) (work : ℕ → FileWork) → IsGoing files before edits (length edits) None mid now
    → (IsGroupTold files before edits → IsGoingTold files before edits (length edits) None created work now) → now ≡ files → Makes files before (Changed edits (Ok created)) mid now
none_make files now before mid edits created work going told same = record {
  step = λ known. none_told files now before mid edits created work (told known).way going.waits;
  layouts = asks_keep files now before mid (record { files_stay = same; devices_stay = going.waits.devices; placed = going.waits.placed });
  anyway = none_anyway files now before mid edits None going created refl;
}

-- ---- a commit

slot_other : (files : Files) (number n : ℕ) (slot : Slot) → n ≢ number → slot_at (with_slot files number slot) n ≡ slot_at files n
slot_other [] number n slot apart = refl
slot_other (file ∷ files) zero zero slot apart = absurd (apart refl)
slot_other (file ∷ files) zero (suc n) slot apart = refl
slot_other (file ∷ files) (suc number) zero slot apart = refl
slot_other (file ∷ files) (suc number) (suc n) slot apart = slot_other files number n slot (λ e. apart (ap suc e))

-- a layout hangs on the bytes and the placement alone
laid_still : (slot : Slot) (before now : Device) (held : Option (List ℕ)) → now.placement ≡ before.placement → IsLaidOut slot before held → IsLaidOut slot now held
laid_still (Saved tree) before now (Some image) placed laid = laid
laid_still (Live opened) before now (Some image) placed laid = subst (LaysOut image opened.tree) (sym placed) laid
laid_still slot before now held placed laid = search

apart_of : (k n : ℕ) → k ≢ n → ◌≢◌ {A = Option ℕ} (Some k) (Some n)
apart_of k n apart e = apart (same_Some k n e)

-- one file is told and laid out after it as it was, and the others are not written
commit_keeps : (files last : Files) (mid later : Devices) (n : ℕ) (slot : Slot) → last ≡ with_slot files n slot → OthersOnlyRead (Some n) mid later → OthersStayPlaced (Some n) mid later → (IsToldIn files mid n → IsToldIn last later n)
    → (IsLaidOutAt (slot_at files n) (device_at mid n) → IsLaidOutAt (slot_at last n) (device_at later n)) → KeepsLayouts files mid later last
commit_keeps files last mid later n slot set others placed told laid = record {
  told = λ k h. elim (eqb_tells k n) [
    | inl is ↦ subst (λ m. IsToldIn last later m) (sym is.1) (told (subst (λ m. IsToldIn files mid m) is.1 h))
    | inr apart ↦ (λ there. subst IsSome (sym (others.others k (apart_of k n apart.1)).held) (h (ap is_gone (sym (still k apart.1)) ∙ there)))
  ];
  laid_out = λ k h. elim (eqb_tells k n) [
    | inl is ↦ subst (λ m. IsLaidOutAt (slot_at last m) (device_at later m)) (sym is.1) (laid (subst (λ m. IsLaidOutAt (slot_at files m) (device_at mid m)) is.1 h))
    | inr apart ↦ subst (λ (s : Slot). IsLaidOutAt s (device_at later k)) (sym (still k apart.1)) (subst (IsLaidOut (slot_at files k) (device_at later k)) (sym (others.others k (apart_of k n apart.1)).held)
        (laid_still (slot_at files k) (device_at mid k) (device_at later k) (device_at mid k).held (placed k (apart_of k n apart.1)) h))
  ];
}
  where
    still : (k : ℕ) → k ≢ n → slot_at last k ≡ slot_at files k
    still k apart = ap (λ (f : Files). slot_at f k) set ∙ slot_other files n k slot apart

-- nothing waits after it
pub waits_committed : (now last : Files) (mid later : Devices) (was pending : Pending) (n : ℕ) (slot : Slot) → WaitsIn (Some n) now mid was → last ≡ with_slot now n slot → pending.kept ≡ with_slot was.kept n slot → ((k : ℕ) → k ≢ n → pending.work k ≡ was.work k) → pending.work n ≡ at_rest (device_at later n)
    → OthersStayPlaced (Some n) mid later → WaitsIn None last later pending
waits_committed now last mid later was pending n slot waits left kept others rest placed = record {
  others = left ∙ sym (kept ∙ ap (λ (f : Files). with_slot f n slot) (sym waits.others) ∙ slot_twice now n (slot_at was.kept n) slot);
  rest = λ k any. elim (eqb_tells k n) [
    | inl is ↦ subst (λ m. pending.work m ≡ at_rest (device_at later m)) (sym is.1) rest
    | inr apart ↦ others k apart.1 ∙ waits.rest k (apart_of k n apart.1) ∙ ap (λ (p : Placement). record { done = []; placement = p; cost = 0 }) (sym (placed k (apart_of k n apart.1)))
  ];
}

module _ (files now last : Files) (before mid later : Devices) (edits : List Edit) (n : ℕ) (created : List NodeId) (work : ℕ → FileWork) (kept left : Files) (slot : Slot) (laid : AllLaidOut files before) (going : IsGoing files before edits (length edits) (Some n) mid now)
    (told : IsGroupTold files before edits → IsGoingTold files before edits (length edits) (Some n) created work now) (is_kept : kept ≡ files) (is_left : last ≡ left) (set : left ≡ with_slot kept n slot) (others : OthersOnlyRead (Some n) mid later) (placed : OthersStayPlaced (Some n) mid later)
    (layouts : IsLaidOutAt (slot_at kept n) (device_at mid n) → IsLaidOutAt (slot_at left n) (device_at later n)) (telling : IsToldIn now mid n → IsToldIn last later n) where
  set_last : last ≡ with_slot files n slot
  set_last = is_left ∙ set ∙ ap (λ (f : Files). with_slot f n slot) is_kept

  keeps : KeepsLayouts files before later last
  keeps =
      let first = asks_keep files files before mid (record { files_stay = refl; devices_stay = going.waits.devices; placed = going.waits.placed }) in
      let then = commit_keeps files last mid later n slot set_last others placed (λ h. telling (λ there. h (sym (same_gone now files going.waits.standing n) ∙ there)))
      (λ h. subst (λ (f : Files). IsLaidOutAt (slot_at f n) (device_at later n)) (sym is_left) (layouts (subst (λ (f : Files). IsLaidOutAt (slot_at f n) (device_at mid n)) (sym is_kept) h))) in
      record { told = λ k h. then.told k (first.told k h); laid_out = λ k h. then.laid_out k (first.laid_out k h) }

  live : IsSome (open_at now n)
  live = group_is_open files now before mid edits (length edits) (Some n) going n refl

  own_told : IsGroupTold files before edits → IsToldIn now mid n
  own_told known = file_told files now before mid edits (length edits) (Some n) created work going (told known) n refl known

  pub done_make : last ≡ now → ((was : Open) → IsToldIn now mid n → open_at kept n ≡ Some was → IsCommitted was (work n) (device_at mid n) (device_at later n)) → Makes files before (Changed edits (Ok created)) later last
  done_make same committed = record {
    step = λ known. subst (λ (f : Files). Step files before (Changed edits (Ok created)) later f) (sym same)
        (ends files now before mid later edits n created work (told known).way live going.waits (going.own n refl) others placed (λ held. telling (λ there. held) not_gone)
        (λ was here. committed was (own_told known) (ap (λ (f : Files). open_at f n) is_kept ∙ here)));
    layouts = keeps;
    anyway = ends_anyway files now before mid edits (Some n) going n refl later others placed last created same;
  }
    where
      not_gone : is_gone (slot_at last n) ≡ false
      not_gone = ap (λ (f : Files). is_gone (slot_at f n)) same ∙ by_open (open_at now n) live refl
        where
          by_open : (o : Option Open) → IsSome o → open_at now n ≡ o → is_gone (slot_at now n) ≡ false
          by_open None some e = absurd (not_true some)
          by_open (Some opened) some e = ap is_gone (live_slot (slot_at now n) opened e)

  pub break_make : (error : AdfError) → error ≡ WriteFault → slot ≡ Slot.Broken → last ≡ with_slot now n Slot.Broken → WriteFailed (device_at mid n) (device_at later n)
      → ((was opened : Open) → IsToldIn now mid n → open_at kept n ≡ Some was → open_at now n ≡ Some opened → IsTornCommit was opened.tree (work n) (device_at mid n) (device_at later n)) → Makes files before (Changed edits (Err (record { at = length edits; error = error }))) later last
  break_make error write broken same failed torn = record {
    step = λ known. subst (λ x. Step files before (Changed edits (Err (record { at = length edits; error = x }))) later last) (sym write)
        (subst (λ (f : Files). Step files before (Changed edits (Err (record { at = length edits; error = WriteFault }))) later f) (sym (set_last ∙ ap (with_slot files n) broken))
        (breaks files now before mid later edits n created work (told known).way live going.waits (going.own n refl) others placed failed
        (λ was opened here there. torn was opened (own_told known) (ap (λ (f : Files). open_at f n) is_kept ∙ here) there)));
    layouts = keeps;
    anyway = breaks_anyway files now before mid edits (Some n) going n refl later others placed last error write same failed;
  }
