-- What is laid out are trees, and before the first call all is laid out.
use Rattle.std.proofs.Common.{◌≡◌, ◌⊎◌, inl, inr, ℕ, List, sym, ap, subst, zero, suc, ◌∷◌, [], refl}
use Rattle.std.specs.Prelude.{Option, Some, None, IsSome}
use Rattle.adf_format.specs.Tree.{IsTree}
use Rattle.adf_model.specs.Slots.{Open, Slot, Files, Device, Devices, slot_at, open_of, is_gone, device_at, IsTold, AreTrees, entry_files, recorded_end, end_of_held}
use Rattle.adf_model.specs.Slots.Slot.{Gone, Raw, Saved, Live}
use Rattle.adf_model.specs.Steps.{IsLaidOut, AllLaidOut}
use Rattle.adf_format.proofs.SameLayout.{end_recorded}
use Rattle.adf_model.proofs.Basics.{not_there, not_true, same_Some}

pub live_slot : (slot : Slot) (opened : Open) → open_of slot ≡ Some opened → slot ≡ Live opened
live_slot Gone opened e = absurd (not_there opened e)
live_slot Raw opened e = absurd (not_there opened e)
live_slot (Saved tree) opened e = absurd (not_there opened e)
live_slot (Live o) opened e = ap Live (same_Some o opened e)
live_slot Slot.Broken opened e = absurd (not_there opened e)

tree_of : (opened : Open) (device : Device) (held : Option (List ℕ)) → IsSome held → IsLaidOut (Live opened) device held → IsTree opened.tree
tree_of opened device None told h = absurd (not_true told)
tree_of opened device (Some image) told h = h.is_tree

-- what is open and laid out by devices that tell are trees
pub laid_out_trees : (files : Files) (devices : Devices) → IsTold files devices → AllLaidOut files devices → AreTrees files
laid_out_trees files devices told laid number opened e =
    let slot : slot_at files number ≡ Live opened = live_slot (slot_at files number) opened e in
    let device = device_at devices number in
    tree_of opened device device.held (told number (ap is_gone slot)) (subst (λ (s : Slot). IsLaidOut s device device.held) slot (laid number))

entry_laid_out : (slot : Slot) (device : Device) (held : Option (List ℕ)) → (slot ≡ Gone) ⊎ (slot ≡ Raw) → IsLaidOut slot device held
entry_laid_out slot device held (inl e) = subst (λ (s : Slot). IsLaidOut s device held) (sym e) tt
entry_laid_out slot device held (inr e) = subst (λ (s : Slot). IsLaidOut s device held) (sym e) tt

-- before the first call each file is discarded, or closed with any bytes
pub entry_slot : (names : List (Option (List ℕ))) (number : ℕ) → (slot_at (entry_files names) number ≡ Gone) ⊎ (slot_at (entry_files names) number ≡ Raw)
entry_slot [] number = inl refl
entry_slot (None ∷ names) zero = inl refl
entry_slot (Some name ∷ names) zero = inr refl
entry_slot (name ∷ names) (suc number) = entry_slot names number

pub laid_out_at_entry : (names : List (Option (List ℕ))) (devices : Devices) → AllLaidOut (entry_files names) devices
laid_out_at_entry names devices number = entry_laid_out (slot_at (entry_files names) number) (device_at devices number) (device_at devices number).held (entry_slot names number)

-- the recorded end of an open file that is laid out is that of its placement
pub end_of_open : (opened : Open) (device : Device) → IsSome device.held → IsLaidOut (Live opened) device device.held → recorded_end device ≡ device.placement.heap.end
end_of_open opened device told laid = by_held device.held told laid
  where
    by_held : (held : Option (List ℕ)) → IsSome held → IsLaidOut (Live opened) device held → end_of_held held ≡ device.placement.heap.end
    by_held None told laid = absurd (not_true told)
    by_held (Some image) told laid = end_recorded image opened.tree device.placement laid
