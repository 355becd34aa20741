-- Two devices of a shelf that are taken together.
use Rattle.std.specs.Prelude.{◌≡◌, ℕ, List, slice_get, Some}
use Rattle.adf_library.specs.declared.places.Slot.{Slot}
use Rattle.adf_library.specs.declared.shelf.Shelf.{Shelf}
use Rattle.adf_library.specs.Shelf.{SlotState, changed_at, taken, IsNotTaken}

-- the devices of two numbers are taken
abbrev pub both_taken : List SlotState → ℕ → ℕ → List SlotState
both_taken slots n m = changed_at taken (changed_at taken slots n) m

-- no device is taken but those of two numbers
abbrev pub IsWholeButBoth : {D : Type 0} → ℕ → ℕ → Shelf D → Type 0
IsWholeButBoth n m shelf = (k : ℕ) (slot : Slot _) → slice_get shelf.slots.items k ≡ Some slot → (k ≡ n → ⊥) → (k ≡ m → ⊥) → IsNotTaken slot.place
