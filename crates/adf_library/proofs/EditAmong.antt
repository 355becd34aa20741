-- A step, a commit and an undo in one slot are those of its file among all files.
use Rattle.std.proofs.Common.{◌≡◌, ◌≢◌, ℕ, zero, suc, ◌<◌, ◌≤◌, List, [], ◌∷◌, length, get_or, set, map, refl, sym, ◌∙◌, ap, subst, arith}
use Rattle.std.proofs.lemmas.List.{length-set, length-map}
use Rattle.std.specs.Prelude.{Option, Some, None, Result, Ok, Err, OnOk, OnErr, IfOk, IfErr}
use Rattle.adf_follow.proofs.Standings.{gone_alike}
use Rattle.adf_follow.specs.Groups.{FileWork, OnlyWaits, IsStepped, IsStepRefusal, IsCommitted, IsTornCommit, at_rest}
use Rattle.adf_follow.specs.Looking.{IsToldIn, HasStepCause}
use Rattle.adf_library.specs.Edits.{StaysWaiting, IsDropped, StepsPlace, RefusesPlace, CommitsPlace, CommitEndsAt}
use Rattle.adf_library.specs.Library.{AreReady, files_in_work, files_kept, devices_in, pending_in, work_at}
use Rattle.adf_library.specs.Places.{committed, in_work, file_of, device_of_slot, work_of_slot, IsReadySlot}
use Rattle.adf_library.specs.declared.places.Slot.{Slot}
use Rattle.adf_library.proofs.Among.{OneSet, all_read, all_placed, none_set, others_read, others_placed, slot_here, device_here, device_now, slot_changed}
use Rattle.adf_library.proofs.LookLaws.{fault_among}
use Rattle.adf_library.proofs.SlotLaws.{All-set, kept, at_slot, at_new, at_other}
use Rattle.adf_model.proofs.Answering.StandingLaws.{same_standings, names_with}
use Rattle.adf_model.specs.Slots.{Open, Standing, File, Files, Device, Devices, standings, standing_of, names_there, device_at, no_device, slot_at, open_of, open_at, with_slot}
use Rattle.adf_model.specs.Slots as model
use Rattle.adf_model.specs.Steps.{OthersOnlyRead, OthersStayPlaced, WriteFailed, IsLaidOutAt}
use Rattle.adf_model.specs.declared.error.AdfError.{AdfError}
use Rattle.adf_model.specs.declared.error.AdfError.TheVariants.{Memory, ReadFault, NotOpen, NoSuchFile, LinkChain, Layout, OtherFile, WriteFault}
use Rattle.adf_model.specs.declared.tree.Edit.{Edit}
use Rattle.cg_io.specs.Device.{DeviceState}

-- ---- causes

module _ (files : Files) (before now : Devices) (n : ℕ) (file : File) (old new : Device)
    (own : slot_at files n ≡ file.slot) (was : device_at before n ≡ old) (is : device_at now n ≡ new) where
  pub step_among : (edit : Edit) (error : AdfError) → HasStepCause (file ∷ []) edit 0 (old ∷ []) (new ∷ []) error → HasStepCause files edit n before now error
  step_among edit Memory h = tt
  step_among edit ReadFault h = fault_among files before now n file old new own was is h
  step_among edit (Layout rule place) h = h
  step_among edit AdfError.Broken h = absurd h
  step_among edit NotOpen h = absurd h
  step_among edit NoSuchFile h = absurd h
  step_among edit OtherFile h = absurd h
  step_among edit LinkChain h = absurd h
  step_among edit error h = h

-- ---- one slot of all

module _ {D : Type 0} (state : D → DeviceState) (slots : List (Slot D)) (n : ℕ) (old new : Slot D) (within : n < length slots) (is : old ≡ get_or slots n old)
    (name : new.name ≡ old.name) where
  abbrev files : Files
  files = files_in_work state slots

  abbrev before : Devices
  before = devices_in state slots

  abbrev now : Devices
  now = devices_in state (set slots n new)

  abbrev after : Files
  after = files_in_work state (set slots n new)

  abbrev was_kept : Files
  was_kept = files_kept state slots

  abbrev now_kept : Files
  now_kept = files_kept state (set slots n new)

  abbrev works : ℕ → FileWork
  works k = work_at (map (work_of_slot state) slots) k

  abbrev now_works : ℕ → FileWork
  now_works k = work_at (map (work_of_slot state) (set slots n new)) k

  one : OneSet n files before (file_of in_work state new).slot now after
  one = slot_changed in_work state slots n old new within is name

  kept_one : OneSet n was_kept before (file_of committed state new).slot now now_kept
  kept_one = slot_changed committed state slots n old new within is name

  was_device : device_at before n ≡ device_of_slot state old
  was_device = device_here in_work state slots n old new within is

  now_device : device_at now n ≡ device_of_slot state new
  now_device = device_now in_work state slots n old new within is

  own : slot_at files n ≡ (file_of in_work state old).slot
  own = slot_here in_work state slots n old new within is

  own_kept : slot_at was_kept n ≡ (file_of committed state old).slot
  own_kept = slot_here committed state slots n old new within is

  here_now : new ≡ get_or (set slots n new) n new
  here_now = at_set slots n within
    where
      at_set : (xs : List (Slot D)) (n : ℕ) → n < length xs → new ≡ get_or (set xs n new) n new
      at_set [] n lt = absurd (omega arith)
      at_set (x ∷ xs) zero lt = refl
      at_set (x ∷ xs) (suc n) lt = at_set xs n (omega (arith, lt))

  still_within : n < length (set slots n new)
  still_within = let l = length-set slots n new in omega (arith, l, within)

  own_now : slot_at after n ≡ (file_of in_work state new).slot
  own_now = slot_here in_work state (set slots n new) n new new still_within here_now

  own_now_kept : slot_at now_kept n ≡ (file_of committed state new).slot
  own_now_kept = slot_here committed state (set slots n new) n new new still_within here_now

  was_work : works n ≡ work_of_slot state old
  was_work = at_slot (work_of_slot state) slots n old (at_rest no_device) within is

  now_work : now_works n ≡ work_of_slot state new
  now_work = at_new (work_of_slot state) slots n new (at_rest no_device) within

  pub ready_set : IsReadySlot state new → AreReady state slots → AreReady state (set slots n new)
  ready_set ready all = (All-set (IsReadySlot state) slots n new all.0 ready, let l = length-set slots n new in omega (arith, l, all.1))

  pub others_work : (k : ℕ) → k ≢ n → now_works k ≡ works k
  others_work k ne = at_other (work_of_slot state) slots n k new (at_rest no_device) ne

  pub only_one : after ≡ with_slot files n (slot_at after n)
  only_one = one.made ∙ ap (with_slot files n) (sym own_now)

  -- ---- what waits

  pub kept_stays : StaysWaiting state old new → now_kept ≡ was_kept
  kept_stays stays = kept (file_of committed state) slots n old new within is stays.kept

  pub only_waits : StaysWaiting state old new → OnlyWaits files before now after
  only_waits stays =
      let same : standing_of (slot_at files n) ≡ standing_of (file_of in_work state new).slot = ap standing_of own ∙ sym stays.standing in
      record {
        devices = all_read n files before (file_of in_work state new).slot now after one (rw (was_device, now_device) stays.device);
        placed = all_placed n files before (file_of in_work state new).slot now after one (rw (was_device, now_device) stays.placed);
        standing = ap standings one.made ∙ same_standings files n (file_of in_work state new).slot same;
        names = ap names_there one.made ∙ names_with files n (file_of in_work state new).slot (gone_alike (file_of in_work state new).slot (slot_at files n) (sym same));
      }

  pub dropped : IsDropped state old new → (after ≡ with_slot files n (slot_at was_kept n)) × (now_works n ≡ at_rest (device_at now n))
  dropped drops = (
    one.made ∙ ap (with_slot files n) (drops.file ∙ sym own_kept),
    now_work ∙ drops.work ∙ ap at_rest (sym now_device),
  )

  told_here : IsToldIn files before n → model.IsToldAt (file_of in_work state old).slot (device_of_slot state old)
  told_here told = rw (own, was_device) at told

  -- ---- a step

  pub editing_among : (edit : Edit) (result : Result (Option ℕ) AdfError) → IfOk result (StepsPlace state edit old new) → OnOk result (standing_of (slot_at files n) ≡ Standing.Editing)
  editing_among edit (Ok serial) steps = ap standing_of own ∙ steps.editing
  editing_among edit (Err error) steps = tt

  pub done_among : (edit : Edit) (result : Result (Option ℕ) AdfError) → IfOk result (StepsPlace state edit old new)
      → IfOk result (λ serial. IsToldIn files before n → IsStepped files after works now_works n edit serial)
  done_among edit (Ok serial) steps = λ told. let step = steps.done (told_here told) in record {
    opened = step.opened;
    tree = step.tree;
    here = ap open_of own ∙ step.here;
    step = rw (was_work, now_work) step.step;
    left = one.made ∙ ap (with_slot files n) (ap (λ (fs : Files). slot_at fs 0) step.left);
    drawn = step.drawn;
  }
  done_among edit (Err error) steps = tt

  pub refused_among : (edit reached : Edit) (result : Result (Option ℕ) AdfError) → IfErr result (RefusesPlace state edit reached old new)
      → IfErr result (λ error. IsToldIn files before n → IsStepRefusal files works n reached error)
  refused_among edit reached (Ok serial) refuses = tt
  refused_among edit reached (Err error) refuses = λ told. let why = refuses.why (told_here told) in record {
    opened = why.opened;
    here = ap open_of own ∙ why.here;
    why = rw was_work why.why;
  }

  pub cause_among : (edit reached : Edit) (result : Result (Option ℕ) AdfError) → IfErr result (RefusesPlace state edit reached old new)
      → IfErr result (HasStepCause files edit n before now)
  cause_among edit reached (Ok serial) refuses = tt
  cause_among edit reached (Err error) refuses =
      step_among files before now n (file_of in_work state old) (device_of_slot state old) (device_of_slot state new) own was_device now_device edit error refuses.cause

  pub undone_among : {A : Type 0} (result : Result A AdfError) → OnErr result (IsDropped state old new)
      → OnErr result ((after ≡ with_slot files n (slot_at was_kept n)) × (now_works n ≡ at_rest (device_at now n)))
  undone_among (Ok value) drops = tt
  undone_among (Err error) drops = dropped drops

  -- ---- a commit

  module _ (result : Result Unit AdfError) (commits : CommitsPlace state old new result) where
    pub rest_among : now_works n ≡ at_rest (device_at now n)
    rest_among = now_work ∙ commits.rest ∙ ap at_rest (sym now_device)

    pub devices_among : OthersOnlyRead (Some n) before now
    devices_among = others_read n files before (file_of in_work state new).slot now after one (rw (was_device, now_device) commits.device)

    pub placed_among : OthersStayPlaced (Some n) before now
    placed_among = others_placed n files before (file_of in_work state new).slot now after one

    pub layouts_among : IsLaidOutAt (slot_at was_kept n) (device_at before n) → IsLaidOutAt (slot_at now_kept n) (device_at now n)
    layouts_among laid = rw (own_now_kept, now_device) commits.laid_out

    pub told_among : IsToldIn files before n → IsToldIn after now n
    told_among told = rw (own_now, now_device) (commits.told (told_here told))

  pub fault_of : (result : Result Unit AdfError) → CommitEndsAt state old new result → IfErr result (λ error. error ≡ WriteFault)
  fault_of (Ok done) ends = tt
  fault_of (Err error) ends = ends.fault

  pub written_among : (result : Result Unit AdfError) → CommitEndsAt state old new result → OnOk result ((after ≡ files) × (now_kept ≡ with_slot was_kept n (slot_at files n)))
  written_among (Ok done) ends = (
    kept (file_of in_work state) slots n old new within is ends.now,
    kept_one.made ∙ ap (with_slot was_kept n) (ends.kept ∙ sym own),
  )
  written_among (Err error) ends = tt

  pub broken_among : (result : Result Unit AdfError) → CommitEndsAt state old new result
      → OnErr result ((after ≡ with_slot files n model.Slot.Broken) × (now_kept ≡ with_slot was_kept n model.Slot.Broken))
  broken_among (Ok done) ends = tt
  broken_among (Err error) ends = (one.made ∙ ap (with_slot files n) ends.now, kept_one.made ∙ ap (with_slot was_kept n) ends.kept)

  pub failed_among : (result : Result Unit AdfError) → CommitEndsAt state old new result → OnErr result (WriteFailed (device_at before n) (device_at now n))
  failed_among (Ok done) ends = tt
  failed_among (Err error) ends = rw (was_device, now_device) ends.failed

  pub committed_among : (result : Result Unit AdfError) → CommitEndsAt state old new result
      → OnOk result ((was : Open) → IsToldIn files before n → open_at was_kept n ≡ Some was → IsCommitted was (works n) (device_at before n) (device_at now n))
  committed_among (Ok done) ends = λ was told here. rw (was_work, was_device, now_device) (ends.committed_is was (told_here told) (ap open_of (sym own_kept) ∙ here))
  committed_among (Err error) ends = tt

  pub torn_among : (result : Result Unit AdfError) → CommitEndsAt state old new result
      → OnErr result ((was opened : Open) → IsToldIn files before n → open_at was_kept n ≡ Some was → open_at files n ≡ Some opened → IsTornCommit was opened.tree (works n) (device_at before n) (device_at now n))
  torn_among (Ok done) ends = tt
  torn_among (Err error) ends = λ was opened told here work.
      rw (was_work, was_device, now_device) (ends.torn was opened (told_here told) (ap open_of (sym own_kept) ∙ here) (ap open_of (sym own) ∙ work))

-- ---- past the last file

module _ {D : Type 0} (state : D → DeviceState) (slots : List (Slot D)) (n : ℕ) (past : length slots ≤ n) where
  -- there nothing waits, and nothing is dropped
  pub none_dropped : (files_in_work state slots ≡ with_slot (files_in_work state slots) n (slot_at (files_kept state slots) n)) × (work_at (map (work_of_slot state) slots) n ≡ at_rest (device_at (devices_in state slots) n))
  none_dropped = (
    sym (none_set (files_in_work state slots) n (slot_at (files_kept state slots) n) (let l = length-map slots (file_of in_work state) in omega (arith, l, past))),
    by_list slots n past,
  )
    where
      by_list : (xs : List (Slot D)) (n : ℕ) → length xs ≤ n → work_at (map (work_of_slot state) xs) n ≡ at_rest (device_at (devices_in state xs) n)
      by_list [] n past = refl
      by_list (x ∷ xs) zero past = absurd (omega arith)
      by_list (x ∷ xs) (suc n) past = by_list xs n (omega (arith, past))
