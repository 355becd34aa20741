-- Two devices of a shelf that are taken and put back.
use Rattle.std.proofs.Common.{◌≡◌, ◌≢◌, ℕ, zero, suc, List, [], ◌∷◌, slice_get, Option, Some, None, refl, sym, ◌∙◌, ap, subst}
use Rattle.std.specs.Option.{option_map, option_and_then}
use Rattle.std.proofs.lemmas.Option.{slice_get-map}
use Rattle.std.specs.Prelude.{IsSome}
use Rattle.adf_model.proofs.Basics.{not_true, same_Some}
use Rattle.adf_tree.specs.Files.{device_of}
use Rattle.cg_io.specs.Device.{DeviceState}
use Rattle.adf_library.specs.declared.places.Place as code
use Rattle.adf_library.specs.declared.places.Place.TheVariants as place
use Rattle.adf_library.specs.declared.shelf.Shelf.{Shelf}
use Rattle.adf_library.specs.declared.places.Slot.{Slot}
use Rattle.adf_library.specs.Shelf.{PlaceState, SlotState, place_of, slot_of, slots_of, device_in_place, device_at, changed_at, with_device, taken, IsTaken, IsNotTaken, IsWhole, IsWholeBut}
use Rattle.adf_library.specs.Shelf.PlaceState.{There, Taken}
use Rattle.adf_library.proofs.ShelfSlots.{taken_and_put_back, all_at}
use Rattle.tool_commands.specs.Pairs.{both_taken, IsWholeButBoth}
use Rattle.tool_commands.specs.Tool.{OnDevices}

-- ---- slots

-- what stands under another number stays
elsewhere : (change : PlaceState → PlaceState) (slots : List SlotState) (n k : ℕ) → n ≢ k → slice_get (changed_at change slots n) k ≡ slice_get slots k
elsewhere change [] n k apart = refl
elsewhere change (x ∷ xs) zero zero apart = absurd (apart refl)
elsewhere change (x ∷ xs) zero (suc k) apart = refl
elsewhere change (x ∷ xs) (suc n) zero apart = refl
elsewhere change (x ∷ xs) (suc n) (suc k) apart = elsewhere change xs n k (λ is. apart (ap suc is))

device_elsewhere : (change : PlaceState → PlaceState) (slots : List SlotState) (n k : ℕ) → n ≢ k → device_at (changed_at change slots n) k ≡ device_at slots k
device_elsewhere change slots n k apart = ap (option_and_then (λ (s : SlotState). device_in_place s.place)) (elsewhere change slots n k apart)

taken_elsewhere : (change : PlaceState → PlaceState) (slots : List SlotState) (n k : ℕ) → n ≢ k → IsTaken slots k → IsTaken (changed_at change slots n) k
taken_elsewhere change slots n k apart is = ap (option_map (λ (s : SlotState). s.place)) (elsewhere change slots n k apart) ∙ is

-- a device that is taken stays so while something else changes
pub still_taken : (change : PlaceState → PlaceState) (slots left : List SlotState) (n k : ℕ) → n ≢ k → left ≡ changed_at change slots n → IsTaken slots k → IsTaken left k
still_taken change slots left n k apart is taken_there = subst (λ (l : List SlotState). IsTaken l k) (sym is) (taken_elsewhere change slots n k apart taken_there)

-- a device stands there still once another one is taken
pub second_there : {D : Type 0} (state : D → DeviceState) (given : Option D) (slots left : List SlotState) (n m : ℕ) → n ≢ m → left ≡ changed_at taken slots n
    → option_map state given ≡ device_at left m → device_at slots m ≡ option_map state given
second_there state given slots left n m apart is said = sym (device_elsewhere taken slots n m apart) ∙ ap (λ (l : List SlotState). device_at l m) (sym is) ∙ sym said

pub second_is_some : {D : Type 0} (state : D → DeviceState) (given : Option D) (o : Option DeviceState) → o ≡ option_map state given → IsSome o → given ≡ None → ⊥
second_is_some state given o is some none = not_true (subst IsSome (is ∙ ap (option_map state) none) some)

-- changes under two numbers, in either order
changed_apart : (first then : PlaceState → PlaceState) (slots : List SlotState) (n m : ℕ) → n ≢ m → changed_at then (changed_at first slots n) m ≡ changed_at first (changed_at then slots m) n
changed_apart first then [] n m apart = refl
changed_apart first then (x ∷ xs) zero zero apart = absurd (apart refl)
changed_apart first then (x ∷ xs) zero (suc m) apart = refl
changed_apart first then (x ∷ xs) (suc n) zero apart = refl
changed_apart first then (x ∷ xs) (suc n) (suc m) apart = ap (λ (l : List SlotState). x ∷ l) (changed_apart first then xs n m (λ is. apart (ap suc is)))

-- two devices, taken and then put back as others
both_put_back : (slots : List SlotState) (n m : ℕ) (a b : DeviceState) → n ≢ m → with_device (with_device (both_taken slots n m) n a) m b ≡ with_device (with_device slots n a) m b
both_put_back slots n m a b apart =
    ap (λ (l : List SlotState). with_device l m b) (changed_apart taken (λ was. There a) (changed_at taken slots n) m n (λ is. apart (sym is)))
    ∙ taken_and_put_back (with_device (changed_at taken slots n) n a) m b
    ∙ ap (λ (l : List SlotState). with_device l m b) (taken_and_put_back slots n a)

-- what was done to two devices that were taken was done to those of the shelf
pub on_devices : (from to : ℕ) (Did : DeviceState → DeviceState → DeviceState → DeviceState → Type 0) (old left new : List SlotState) (source source_after target target_after : DeviceState) → from ≢ to
    → device_at old from ≡ Some source → device_at old to ≡ Some target → left ≡ both_taken old from to → new ≡ with_device (with_device left from source_after) to target_after
    → Did source source_after target target_after → OnDevices from to Did old new
on_devices from to Did old left new source source_after target target_after apart source_there target_there rest back did = record {
  source = source;
  source_after = source_after;
  target = target;
  target_after = target_after;
  source_there = source_there;
  target_there = target_there;
  left = back ∙ ap (λ (l : List SlotState). with_device (with_device l from source_after) to target_after) rest ∙ both_put_back old from to source_after target_after apart;
  did = did;
}

-- ---- which devices are taken

-- under a number no device is taken
abbrev IsFree : List SlotState → ℕ → Type 0
IsFree slots k = (s : SlotState) → slice_get slots k ≡ Some s → s.place ≢ Taken

there_free : (device : DeviceState) → There device ≢ Taken
there_free device is = absurd cc

-- once a device is put there, and where none is taken elsewhere
free_put : (slots : List SlotState) (n k : ℕ) (device : DeviceState) → (k ≢ n → IsFree slots k) → IsFree (with_device slots n device) k
free_put [] n k device free s e = absurd cc
free_put (x ∷ xs) zero zero device free s e = λ is. there_free device (ap (λ (z : SlotState). z.place) (same_Some (record { name = x.name; place = There device }) s e) ∙ is)
free_put (x ∷ xs) zero (suc k) device free s e = free (λ is. absurd cc) s e
free_put (x ∷ xs) (suc n) zero device free s e = free (λ is. absurd cc) s e
free_put (x ∷ xs) (suc n) (suc k) device free s e = free_put xs n k device (λ apart. free (λ is. apart (same_suc is))) s e
  where
    same_suc : suc k ≡ suc n → k ≡ n
    same_suc is = cc

free_elsewhere : (change : PlaceState → PlaceState) (slots : List SlotState) (n k : ℕ) → n ≢ k → IsFree slots k → IsFree (changed_at change slots n) k
free_elsewhere change slots n k apart free s e = free s (sym (elsewhere change slots n k apart) ∙ e)

module _ {D : Type 0} (state : D → DeviceState) where
  not_taken_free : (there : code.Place D) → IsNotTaken there → place_of state there ≢ Taken
  not_taken_free place.Taken free is = absurd free
  not_taken_free (place.Closed device) free is = there_free (state device) is
  not_taken_free (place.Saved device left) free is = there_free (state device) is
  not_taken_free (place.Open file) free is = there_free (device_of state file) is
  not_taken_free (place.Gone husk) free is = absurd cc

  free_not_taken : (there : code.Place D) → place_of state there ≢ Taken → IsNotTaken there
  free_not_taken place.Taken free = absurd (free refl)
  free_not_taken (place.Closed device) free = tt
  free_not_taken (place.Saved device left) free = tt
  free_not_taken (place.Open file) free = tt
  free_not_taken (place.Gone husk) free = tt

  -- what is known of the slot under a number is known of its meaning
  free_at : (shelf : Shelf D) (k : ℕ) → ((slot : Slot D) → slice_get shelf.slots.items k ≡ Some slot → IsNotTaken slot.place) → IsFree (slots_of state shelf) k
  free_at shelf k known s e = by_slot (slice_get shelf.slots.items k) refl (sym (slice_get-map (slot_of state) shelf.slots.items k) ∙ e)
    where
      by_slot : (o : Option (Slot D)) → slice_get shelf.slots.items k ≡ o → option_map (slot_of state) o ≡ Some s → s.place ≢ Taken
      by_slot None at is = absurd cc
      by_slot (Some slot) at is = subst (λ (z : SlotState). z.place ≢ Taken) (same_Some (slot_of state slot) s is) (not_taken_free slot.place (known slot at))

  -- and the other way round
  known_at : (shelf : Shelf D) (slots : List SlotState) (k : ℕ) (slot : Slot D) → slots_of state shelf ≡ slots → slice_get shelf.slots.items k ≡ Some slot → IsFree slots k → IsNotTaken slot.place
  known_at shelf slots k slot is e free =
      free_not_taken slot.place (free (slot_of state slot) (subst (λ (l : List SlotState). slice_get l k ≡ Some (slot_of state slot)) is (slice_get-map (slot_of state) shelf.slots.items k ∙ ap (option_map (slot_of state)) e)))

  -- once two devices are taken, no other one is
  pub whole_but_both : (before after : Shelf D) (n m : ℕ) → IsWhole before → slots_of state after ≡ both_taken (slots_of state before) n m → IsWholeButBoth n m after
  whole_but_both before after n m whole is k slot e first second =
      known_at after (both_taken (slots_of state before) n m) k slot is e
      (free_elsewhere taken (changed_at taken (slots_of state before) n) m k (λ same. second (sym same))
      (free_elsewhere taken (slots_of state before) n k (λ same. first (sym same))
      (free_at before k (λ there at. all_at (λ (z : Slot D). IsNotTaken z.place) before.slots.items k there whole at))))

  -- the first of the two is put back, so that only the second one is taken
  pub whole_but_second : (before after : Shelf D) (n m : ℕ) (device : DeviceState) → IsWholeButBoth n m before → slots_of state after ≡ with_device (slots_of state before) n device → IsWholeBut m after
  whole_but_second before after n m device whole is k slot e apart =
      known_at after (with_device (slots_of state before) n device) k slot is e
      (free_put (slots_of state before) n k device (λ other. free_at before k (λ there at. whole k there at other apart)))
