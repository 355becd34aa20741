-- What holds of each state of a run, and what a fresh file is.
use Rattle.std.proofs.Common.{◌≡◌, ◌⊎◌, inl, inr, ℕ, zero, suc, ◌<◌, arith, Bool, true, false, not, List, [], ◌∷◌, ◌++◌, length, length-append, refl, sym, ◌∙◌, ap, subst}
use Rattle.std.specs.Prelude.{Option, Some, None, IsSome, is_some, option_map, Result, Ok, Err}
use Rattle.std.proofs.lemmas.Bool.Decides.{eqb_tells}
use Rattle.adf_format.specs.Fresh.{fresh_text, fresh_block, fresh_end, fresh_placement}
use Rattle.adf_format.proofs.FreshLaidOut.{fresh_length}
use Rattle.adf_model.specs.declared.error.AdfError.{AdfError}
use Rattle.adf_model.specs.declared.error.AdfError.TheVariants.{Memory, ReadFault, WriteFault, NotEmpty}
use Rattle.adf_model.specs.declared.tree.Edit.{Edit}
use Rattle.adf_model.specs.Tests.{first_refusal}
use Rattle.adf_model.specs.Slots.{Open, Slot, Files, Device, Devices, slot_at, device_at, open_of, open_at, with_slot, is_gone, is_open, recorded_end, IsToldAt, IsTold}
use Rattle.adf_model.specs.Slots.Slot.{Gone, Raw, Saved, Live}
use Rattle.adf_model.specs.Steps.{AllLaidOut, IsLaidOut, Fresh, IsFirstOr, IsOpenRefusal, IsOpening, closed, open_tests, WriteStops, Call, Opened, Closed, Discarded, Asked, Changed, Skipped, Misread, Step}
use Rattle.adf_model.specs.Runs.{IsToldFor, Run}
use Rattle.adf_model.proofs.Answering.StandingLaws.{not_gone}
use Rattle.adf_model.proofs.Basics.{not_true, not_there, same_Some}
use Rattle.adf_model.proofs.Answering.LayoutLemmas.{live_slot, end_of_open}

-- ---- all states

-- where all devices tell, those that a call touches do
pub told_for : (files : Files) (devices : Devices) (call : Call) → IsTold files devices → IsToldFor files devices call
told_for files devices (Opened number opening limit result) told = told number
told_for files devices (Closed number result) told = told number
told_for files devices (Discarded number result) told = told number
told_for files devices (Asked query result) told = inl told
told_for files devices (Changed edits result) told = inl told
told_for files devices Skipped told = tt
told_for files devices (Misread error) told = tt

pub run_told : (files after : Files) (before now : Devices) (calls : List Call) → Run files before calls now after → (number : ℕ) → IsToldAt (slot_at files number) (device_at before number) → IsToldAt (slot_at after number) (device_at now number)
run_told files after before now [] h number told =
    subst (λ (f : Files). IsToldAt (slot_at f number) (device_at now number)) (sym h.1) (subst (λ (d : Devices). IsToldAt (slot_at files number) (device_at d number)) (sym h.0) told)
run_told files after before now (call ∷ calls) h number told = run_told h.0 after h.1 now calls h.3 number (h.2.layouts.told number told)

pub run_laid_out : (files after : Files) (before now : Devices) (calls : List Call) → Run files before calls now after → AllLaidOut files before → AllLaidOut after now
run_laid_out files after before now [] h laid = subst (λ (f : Files). AllLaidOut f now) (sym h.1) (subst (λ (d : Devices). AllLaidOut files d) (sym h.0) laid)
run_laid_out files after before now (call ∷ calls) h laid = run_laid_out h.0 after h.1 now calls h.3 (λ number. h.2.layouts.laid_out number (laid number))

-- a run of calls and then of more
pub run_parts : (files after : Files) (before now : Devices) (calls more : List Call) → Run files before (calls ++ more) now after → (middle : Files) × (between : Devices) × Run files before calls between middle × Run middle between more now after
run_parts files after before now [] more h = (files, before, (refl, refl), h)
run_parts files after before now (call ∷ calls) more h =
    let rest = run_parts h.0 after h.1 now calls more h.3 in
    (rest.0, rest.1, (h.0, h.1, h.2, rest.2), rest.3)

end_at : (files : Files) (devices : Devices) (number : ℕ) (opened : Open) → AllLaidOut files devices → open_at files number ≡ Some opened → IsSome (device_at devices number).held
    → recorded_end (device_at devices number) ≡ (device_at devices number).placement.heap.end
end_at files devices number opened laid here told =
    end_of_open opened (device_at devices number) told
    (subst (λ (s : Slot). IsLaidOut s (device_at devices number) (device_at devices number).held) (live_slot (slot_at files number) opened here) (laid number))

-- the recorded end of an open file is that of its parts, in each state
pub run_ends : (files after : Files) (before now : Devices) (calls : List Call) → Run files before calls now after → AllLaidOut files before → (number : ℕ) (opened : Open) → open_at after number ≡ Some opened → IsSome (device_at now number).held
    → recorded_end (device_at now number) ≡ (device_at now number).placement.heap.end
run_ends files after before now calls h laid number opened = end_at after now number opened (run_laid_out files after before now calls h laid)

-- ---- fresh files

pub fresh_held : (files after : Files) (before now : Devices) (number limit : ℕ) (wide : Bool) → Step files before (Opened number (Fresh wide) limit (Ok tt)) now after → IsSome (device_at before number).held → (device_at now number).held ≡ Some (fresh_block wide)
fresh_held files after before now number limit wide h told = h.0.6.0 ∙ by_held (device_at before number).held told
  where
    by_held : (held : Option (List ℕ)) → IsSome held → option_map (λ (none : List ℕ). fresh_block wide) held ≡ Some (fresh_block wide)
    by_held None some = absurd (not_true some)
    by_held (Some image) some = refl

pub fresh_placed : (files after : Files) (before now : Devices) (number limit : ℕ) (wide : Bool) → Step files before (Opened number (Fresh wide) limit (Ok tt)) now after → (device_at now number).placement ≡ fresh_placement wide
fresh_placed files after before now number limit wide h = h.0.6.1

pub block_length : (wide : Bool) → length (fresh_block wide) ≡ 4096
unfolding fresh_block
block_length false = length-append (fresh_text false) _ ∙ (let e = fresh_length false in omega (arith, e))
block_length true = length-append (fresh_text true) _ ∙ (let e = fresh_length true in omega (arith, e))

-- a file that is there gets the state
set_there : (files : Files) (number : ℕ) (slot : Slot) → is_gone (slot_at files number) ≡ false → slot_at (with_slot files number slot) number ≡ slot
set_there [] number slot there = absurd (not_true (sym there))
set_there (file ∷ files) zero slot there = refl
set_there (file ∷ files) (suc number) slot there = set_there files number slot there

pub fresh_ends : (files after : Files) (before now : Devices) (number limit : ℕ) (wide : Bool) (calls : List Call) → Run files before (Opened number (Fresh wide) limit (Ok tt) ∷ calls) now after → AllLaidOut files before → IsSome (device_at before number).held
    → (middle : Files) × (between : Devices) × (recorded_end (device_at between number) ≡ fresh_end wide) × Run middle between calls now after
fresh_ends files after before now number limit wide calls h laid told = (h.0, h.1, ends ∙ ap (λ p. p.heap.end) (fresh_placed files h.0 before h.1 number limit wide step), h.3)
  where
    step : Step files before (Opened number (Fresh wide) limit (Ok tt)) h.1 h.0
    step = h.2.step (λ there. told)

    opened : Open
    opened = step.0.0

    there : is_gone (slot_at files number) ≡ false
    there = not_gone (slot_at files number) step.0.1

    here : open_at h.0 number ≡ Some opened
    here = ap (λ (f : Files). open_at f number) step.0.4 ∙ ap open_of (set_there files number (Live opened) there)

    some : IsSome (device_at h.1 number).held
    some = ap is_some (fresh_held files h.0 before h.1 number limit wide step told)

    ends : recorded_end (device_at h.1 number) ≡ (device_at h.1 number).placement.heap.end
    ends = end_at h.0 h.1 number opened (λ k. h.2.layouts.laid_out k (laid k)) here some

-- ---- no fresh file over bytes

-- a file that was closed is there, and is not open
shut : (slot : Slot) → first_refusal ((is_gone slot, AdfError.NoSuchFile) ∷ (not (is_open slot), AdfError.NotOpen) ∷ []) ≡ None
    → (is_gone slot ≡ false) × (first_refusal ((is_gone (closed slot), AdfError.NoSuchFile) ∷ (is_open (closed slot), AdfError.AlreadyOpen) ∷ []) ≡ None)
shut Gone e = absurd (not_there _ (sym e))
shut Raw e = absurd (not_there _ (sym e))
shut (Saved tree) e = absurd (not_there _ (sym e))
shut (Live opened) e = (refl, refl)
shut Slot.Broken e = (refl, refl)

abbrev IsRefusedFresh : Result Unit AdfError → Type 0
IsRefusedFresh result = (result ≡ Err Memory) ⊎ ((result ≡ Err ReadFault) ⊎ (result ≡ Err NotEmpty))

-- a device that holds bytes is opened as no fresh file
refused_over : (files after : Files) (before now : Devices) (number limit : ℕ) (wide : Bool) (result : Result Unit AdfError) (bytes : List ℕ) → first_refusal (open_tests files number) ≡ None → (device_at before number).held ≡ Some bytes → 0 < length bytes
    → IsOpening files before number (Fresh wide) limit result now after → IsRefusedFresh result
refused_over files after before now number limit wide result bytes free held some h = by_result result h
  where
    none : ((image : List ℕ) → (device_at before number).held ≡ Some image → image ≡ []) → ⊥
    none empty = let e = ap length (empty bytes held) in omega (arith, e, some)

    by_error : (error : AdfError) → IsOpenRefusal (Fresh wide) (slot_at files number) (device_at before number) (device_at now number) error → IsRefusedFresh (Err error)
    by_error Memory why = inl refl
    by_error ReadFault why = inr (inl refl)
    by_error NotEmpty why = inr (inr refl)
    by_error WriteFault why = absurd (none why.1)
    by_error error why = absurd why

    by_result : (result : Result Unit AdfError) → IsOpening files before number (Fresh wide) limit result now after → IsRefusedFresh result
    by_result (Ok done) h = absurd (none h.3.2)
    by_result (Err Memory) h = inl refl
    by_result (Err error) h = by_error error (subst (λ (o : Option AdfError). IsFirstOr o error (IsOpenRefusal (Fresh wide) (slot_at files number) (device_at before number) (device_at now number) error)) free h.0)

-- what a device holds that held bytes, after a failed group
failed_holds : (files after : Files) (before now : Devices) (edits : List Edit) (at number : ℕ) (old new : List ℕ) → WriteStops files before now edits at after → (device_at before number).held ≡ Some old → (device_at now number).held ≡ Some new
    → 0 < length old → 0 < length new
failed_holds files after before now edits at number old new h held held_now some = elim (eqb_tells number h.stop.number) [
  | inl same ↦ (let torn = h.torn old new (ap (λ k. (device_at before k).held) (sym same.1) ∙ held) (ap (λ k. (device_at now k).held) (sym same.1) ∙ held_now) in let kept = torn.file.torn.kept in omega (arith, kept, some))
  | inr apart ↦ (
      let read = h.stop.others.others number (λ e. apart.1 (same_Some number h.stop.number e)) in
      let e = ap length (same_Some old new (sym held ∙ sym read.held ∙ held_now)) in omega (arith, e, some))
]

held_there : (slot : Slot) (device : Device) → IsToldAt slot device → is_gone slot ≡ false → (bytes : List ℕ) × (device.held ≡ Some bytes)
held_there slot device told there = by_held device.held (told there)
  where
    by_held : (held : Option (List ℕ)) → IsSome held → (bytes : List ℕ) × (held ≡ Some bytes)
    by_held None some = absurd (not_true some)
    by_held (Some bytes) some = (bytes, refl)

pub not_fresh_again : (files after : Files) (before now : Devices) (number limit more at : ℕ) (wide other : Bool) (edits : List Edit) (result : Result Unit AdfError) → IsTold files before
    → Run files before (Opened number (Fresh wide) limit (Ok tt) ∷ Changed edits (Err (record { at = at; error = WriteFault })) ∷ Closed number (Ok tt) ∷ Opened number (Fresh other) more result ∷ []) now after
    → (result ≡ Err Memory) ⊎ ((result ≡ Err ReadFault) ⊎ (result ≡ Err NotEmpty))
not_fresh_again files after before now number limit more at wide other edits result told opens =
    let fails = opens.3 in
    let closes = fails.3 in
    let again = closes.3 in
    let told_then : IsTold opens.0 opens.1 = λ k. opens.2.layouts.told k (told k) in
    let told_now : IsTold fails.0 fails.1 = λ k. fails.2.layouts.told k (told_then k) in
    let told_last : IsTold closes.0 closes.1 = λ k. closes.2.layouts.told k (told_now k) in
    let opened : Step files before (Opened number (Fresh wide) limit (Ok tt)) opens.1 opens.0 = opens.2.step (told number) in
    let failed : Step opens.0 opens.1 (Changed edits (Err (record { at = at; error = WriteFault }))) fails.1 fails.0 = fails.2.step (inl told_then) in
    let shuts : Step fails.0 fails.1 (Closed number (Ok tt)) closes.1 closes.0 = closes.2.step (told_now number) in
    let last : Step closes.0 closes.1 (Opened number (Fresh other) more result) again.1 again.0 = again.2.step (told_last number) in
    let fresh = fresh_held files opens.0 before opens.1 number limit wide opened (told number (not_gone (slot_at files number) opened.0.1)) in
    let was = shut (slot_at fails.0 number) shuts.0.0 in
    let torn = held_there (slot_at fails.0 number) (device_at fails.1 number) (told_now number) was.0 in
    let some = failed_holds opens.0 fails.0 opens.1 fails.1 edits at number (fresh_block wide) torn.0 failed.0 fresh torn.1 (let e = block_length wide in omega (arith, e)) in
    let left = ap (λ (f : Files). slot_at f number) shuts.0.1 ∙ set_there fails.0 number (closed (slot_at fails.0 number)) was.0 in
    let free = ap (λ (s : Slot). first_refusal ((is_gone s, AdfError.NoSuchFile) ∷ (is_open s, AdfError.AlreadyOpen) ∷ [])) left ∙ was.1 in
    let held = (shuts.1.others number (λ e. some_none number e)).held ∙ torn.1 in
    refused_over closes.0 again.0 closes.1 again.1 number more other result torn.0 free held some last.0
  where
    some_none : (n : ℕ) → ◌≡◌ {A = Option ℕ} (Some n) None → ⊥
    some_none n e = cc
