-- Where nothing waits in any slot nothing waits in the files, and so it stays.
use Rattle.std.proofs.Common.{◌≡◌, inl, inr, ℕ, zero, suc, ◌<◌, List, [], ◌∷◌, length, get_or, set, map, refl, sym, ◌∙◌, ap, subst, arith}
use Rattle.std.proofs.lemmas.Bool.{cases_eq}
use Rattle.std.specs.List.{All}
use Rattle.std.specs.Prelude.{None}
use Rattle.adf_follow.specs.Groups.{Pending, WaitsIn, at_rest}
use Rattle.adf_format.specs.Placement.{Placement}
use Rattle.adf_library.specs.Calls.{IsAtRest}
use Rattle.adf_library.specs.Library.{files_in_work, files_kept, devices_in, pending_in, work_at}
use Rattle.adf_library.specs.Places.{committed, in_work, file_of, slot_in, device_of_slot, work_of_slot}
use Rattle.adf_library.specs.declared.places.Slot.{Slot}
use Rattle.adf_library.proofs.Among.{slot_changed, slot_here}
use Rattle.adf_library.proofs.SlotLaws.{at_slot, at_new, at_other}
use Rattle.adf_model.specs.Causes.{OnlyAsks}
use Rattle.adf_model.specs.Slots.{File, Files, Device, Devices, device_at, slot_at, with_slot, no_device}
use Rattle.adf_model.specs.Slots as model
use Rattle.cg_io.specs.Device.{DeviceState}

-- a call that only asks leaves that nothing waits
pub rest_asked : (files after : Files) (before now : Devices) (pending left : Pending) → WaitsIn None files before pending → OnlyAsks files before now after → left ≡ pending → WaitsIn None after now left
rest_asked files after before now pending left rest leaves same = record {
  others = leaves.files_stay ∙ rest.others ∙ sym (ap (λ (p : Pending). p.kept) same);
  rest = λ n ne. ap (λ (p : Pending). p.work n) same ∙ rest.rest n ne ∙ ap (λ (p : Placement). record { done = []; placement = p; cost = 0 }) (sym (leaves.placed n ne));
}

module _ {D : Type 0} (state : D → DeviceState) where
  pub all_rest : (slots : List (Slot D)) → All (λ (s : Slot D). IsAtRest state s.place) slots → WaitsIn None (files_in_work state slots) (devices_in state slots) (pending_in state slots)
  all_rest slots all = record { others = same slots all; rest = λ n ne. each slots all n }
    where
      same : (xs : List (Slot D)) → All (λ (s : Slot D). IsAtRest state s.place) xs → files_in_work state xs ≡ files_kept state xs
      same [] all = refl
      same (x ∷ xs) all =
          ap (λ (s : model.Slot). record { name = x.name; slot = s } ∷ files_in_work state xs) (all 0 x (omega arith)).file
          ∙ ap (λ (fs : Files). file_of committed state x ∷ fs) (same xs (λ k d lt. all (suc k) d (omega (arith, lt))))

      each : (xs : List (Slot D)) → All (λ (s : Slot D). IsAtRest state s.place) xs → (n : ℕ) → work_at (map (work_of_slot state) xs) n ≡ at_rest (device_at (devices_in state xs) n)
      each [] all n = refl
      each (x ∷ xs) all zero = (all 0 x (omega arith)).work
      each (x ∷ xs) all (suc n) = each xs (λ k d lt. all (suc k) d (omega (arith, lt))) n

  module _ (slots : List (Slot D)) (n : ℕ) (old new : Slot D) (within : n < length slots) (is : old ≡ get_or slots n old) (rest : WaitsIn None (files_in_work state slots) (devices_in state slots) (pending_in state slots)) where
    -- in each slot nothing waits
    pub slot_rests : IsAtRest state old.place
    slot_rests = record {
      file = sym (slot_here in_work state slots n old old within is) ∙ ap (λ (fs : Files). slot_at fs n) rest.others ∙ slot_here committed state slots n old old within is;
      work = sym (at_slot (work_of_slot state) slots n old (at_rest no_device) within is) ∙ rest.rest n (λ e. cc) ∙ ap at_rest (at_slot (device_of_slot state) slots n old no_device within is);
    }

    -- a slot is set in which nothing waits
    pub rest_set : new.name ≡ old.name → IsAtRest state new.place → WaitsIn None (files_in_work state (set slots n new)) (devices_in state (set slots n new)) (pending_in state (set slots n new))
    rest_set same new_rests = record {
      others = (slot_changed in_work state slots n old new within is same).made ∙ ap (λ (fs : Files). with_slot fs n (slot_in in_work state new.place)) rest.others
          ∙ ap (with_slot (files_kept state slots) n) new_rests.file ∙ sym (slot_changed committed state slots n old new within is same).made;
      rest = λ k ne. elim (cases_eq k n) [
        | inl here ↦ subst (λ (i : ℕ). work_at (map (work_of_slot state) (set slots n new)) i ≡ at_rest (device_at (devices_in state (set slots n new)) i)) (sym here)
            (at_new (work_of_slot state) slots n new (at_rest no_device) within ∙ new_rests.work ∙ ap at_rest (sym (at_new (device_of_slot state) slots n new no_device within)))
        | inr other ↦ at_other (work_of_slot state) slots n k new (at_rest no_device) other ∙ rest.rest k ne ∙ ap at_rest (sym (at_other (device_of_slot state) slots n k new no_device other))
      ];
    }
