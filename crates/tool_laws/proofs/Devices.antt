-- The devices of a shelf, as the model counts them.
use Rattle.std.proofs.Common.{◌≡◌, ◌≢◌, ℕ, zero, suc, List, [], ◌∷◌, Some, refl, sym, ap, subst}
use Rattle.adf_model.proofs.Basics.{same_Some}
use Rattle.adf_model.specs.Counts.{Rose}
use Rattle.adf_model.specs.Slots as model
use Rattle.adf_model.specs.Slots.{no_device}
use Rattle.adf_model.specs.Steps.{NoFault}
use Rattle.adf_library.specs.Library.{shelf_devices}
use Rattle.adf_library.specs.Shelf.{SlotState, PlaceState, device_at, with_device}
use Rattle.adf_library.specs.Shelf.PlaceState.{There, Taken, Gone}
use Rattle.adf_tree.specs.Files.{device_with}
use Rattle.cg_io.specs.Device.{DeviceState}

-- the device that stands under a number
pub device_there : (slots : List SlotState) (n : ℕ) (device : DeviceState) → device_at slots n ≡ Some device → model.device_at (shelf_devices slots) n ≡ device_with no_device.placement device
device_there [] n device is = absurd cc
device_there (x ∷ xs) zero device is = by_place x.place is
  where
    by_place : (place : PlaceState) → device_at (record { name = x.name; place = place } ∷ xs) zero ≡ Some device
        → model.device_at (shelf_devices (record { name = x.name; place = place } ∷ xs)) zero ≡ device_with no_device.placement device
    by_place (There there) is = ap (device_with no_device.placement) (same_Some there device is)
    by_place Taken is = absurd cc
    by_place (Gone last) is = absurd cc
device_there (x ∷ xs) (suc n) device is = device_there xs n device is

-- the one that is put there
pub device_put : (slots : List SlotState) (n : ℕ) (was device : DeviceState) → device_at slots n ≡ Some was → device_at (with_device slots n device) n ≡ Some device
device_put [] n was device is = absurd cc
device_put (x ∷ xs) zero was device is = refl
device_put (x ∷ xs) (suc n) was device is = device_put xs n was device is

-- what is put under a number leaves the others
pub other_put : (slots : List SlotState) (n k : ℕ) (device : DeviceState) → n ≢ k → device_at (with_device slots n device) k ≡ device_at slots k
other_put [] n k device apart = refl
other_put (x ∷ xs) zero zero device apart = absurd (apart refl)
other_put (x ∷ xs) zero (suc k) device apart = refl
other_put (x ∷ xs) (suc n) zero device apart = refl
other_put (x ∷ xs) (suc n) (suc k) device apart = other_put xs n k device (λ is. apart (ap suc is))

-- where no device failed, that of a number did not
pub quiet_there : (old new : List SlotState) (n : ℕ) (device after : DeviceState) → NoFault (shelf_devices old) (shelf_devices new)
    → device_at old n ≡ Some device → device_at new n ≡ Some after → Rose device.faults after.faults → ⊥
quiet_there old new n device after quiet first last rose =
    quiet n (subst (λ (b : ℕ). Rose b (model.device_at (shelf_devices new) n).faults) (sym (ap (λ (d : model.Device). d.faults) (device_there old n device first)))
    (subst (λ (b : ℕ). Rose device.faults b) (sym (ap (λ (d : model.Device). d.faults) (device_there new n after last))) rose))
