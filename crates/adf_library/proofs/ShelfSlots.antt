-- The slots of a shelf, seen by what their devices mean.
use Rattle.std.proofs.Common.{◌≡◌, ℕ, ◌+◌, cond, zero, suc, ◌<◌, ◌≤◌, List, [], ◌∷◌, length, get_or, set, map, slice_get, Option, Some, None, Bool, true, false, ◌-◌, refl, sym, ◌∙◌, ap, subst, arith}
use Rattle.std.specs.Prelude.{IsSome, IfSome, is_some}
use Rattle.std.specs.Option.{option_map, option_and_then}
use Rattle.std.specs.List.{position_from, All}
use Rattle.adf_model.proofs.Basics.{not_true, same_Some}
use Rattle.adf_model.specs.Counts.{dropped}
use Rattle.cg_io.specs.Device.{DeviceState}
use Rattle.adf_library.specs.declared.places.Place as code
use Rattle.adf_library.specs.declared.places.Place.TheVariants as place
use Rattle.adf_library.specs.declared.places.Slot.{Slot}
use Rattle.adf_library.specs.Shelf.{PlaceState, SlotState, place_of, slot_of, has_name, device_in_place, device_at, changed_at, with_device, taken, discarded, IsNotTaken}
use Rattle.adf_library.specs.Shelf.PlaceState.{There, Taken, Gone}

module _ {D : Type 0} (state : D → DeviceState) where
  -- a slot in which something else stands
  pub put_slot : (change : PlaceState → PlaceState) (slots : List (Slot D)) (n : ℕ) (s : Slot D) (p : code.Place D) → n < length slots → s ≡ get_or slots n s → place_of state p ≡ change (place_of state s.place)
      → map (slot_of state) (set slots n (record s { place = p })) ≡ changed_at change (map (slot_of state) slots) n
  put_slot change [] n s p lt is so = absurd (omega arith)
  put_slot change (x ∷ xs) zero s p lt is so =
      ap (λ (q : PlaceState). record { name = s.name; place = q } ∷ map (slot_of state) xs) so
      ∙ ap (λ (z : Slot D). record { name = z.name; place = change (place_of state z.place) } ∷ map (slot_of state) xs) is
  put_slot change (x ∷ xs) (suc n) s p lt is so = ap (λ (l : List SlotState). slot_of state x ∷ l) (put_slot change xs n s p (omega arith) is so)

  -- past the end there is none to change
  pub put_past : (change : PlaceState → PlaceState) (slots : List (Slot D)) (n : ℕ) → length slots ≤ n → map (slot_of state) slots ≡ changed_at change (map (slot_of state) slots) n
  put_past change [] n le = refl
  put_past change (x ∷ xs) zero le = absurd (omega arith)
  put_past change (x ∷ xs) (suc n) le = ap (λ (l : List SlotState). slot_of state x ∷ l) (put_past change xs n (omega arith))

  -- what stands under a number, and its name
  pub slot_at : (slots : List (Slot D)) (n : ℕ) (s : Slot D) → n < length slots → s ≡ get_or slots n s → slice_get (map (slot_of state) slots) n ≡ Some (slot_of state s)
  slot_at [] n s lt is = absurd (omega arith)
  slot_at (x ∷ xs) zero s lt is = ap (λ (z : Slot D). Some (slot_of state z)) (sym is)
  slot_at (x ∷ xs) (suc n) s lt is = slot_at xs n s (omega arith) is

  pub device_here : (slots : List (Slot D)) (n : ℕ) (s : Slot D) → n < length slots → s ≡ get_or slots n s → device_at (map (slot_of state) slots) n ≡ device_in_place (place_of state s.place)
  device_here slots n s lt is = ap (option_and_then (λ (z : SlotState). device_in_place z.place)) (slot_at slots n s lt is)

  pub device_past : (slots : List (Slot D)) (n : ℕ) → length slots ≤ n → device_at (map (slot_of state) slots) n ≡ None
  device_past [] n le = refl
  device_past (x ∷ xs) zero le = absurd (omega arith)
  device_past (x ∷ xs) (suc n) le = device_past xs n (omega arith)

  -- a number whose device is taken is one of the slots
  pub taken_within : (slots : List (Slot D)) (n : ℕ) → option_map (λ (s : SlotState). s.place) (slice_get (map (slot_of state) slots) n) ≡ Some Taken → n < length slots
  taken_within [] n taken = absurd (cc)
  taken_within (x ∷ xs) zero taken = omega arith
  taken_within (x ∷ xs) (suc n) taken = omega (arith, taken_within xs n taken)

  -- a slot whose device was taken
  pub taken_left : (slots : List (Slot D)) (n : ℕ) (s : Slot D) (p : code.Place D) → n < length slots → place_of state p ≡ taken (place_of state s.place) → IsSome (device_in_place (place_of state s.place))
      → option_map (λ (z : SlotState). z.place) (slice_get (map (slot_of state) (set slots n (record s { place = p }))) n) ≡ Some Taken
  taken_left [] n s p lt so some = absurd (omega arith)
  taken_left (x ∷ xs) zero s p lt so some = ap Some (so ∙ was_there (place_of state s.place) some)
    where
      was_there : (q : PlaceState) → IsSome (device_in_place q) → taken q ≡ Taken
      was_there (There device) some = refl
      was_there Taken some = refl
      was_there (Gone last) some = absurd (not_true some)
  taken_left (x ∷ xs) (suc n) s p lt so some = taken_left xs n s p (omega arith) so some

  -- the names are those of the slots
  pub same_names : (slots : List (Slot D)) (name : List ℕ) (i : ℕ) → position_from (has_name name) i (map (slot_of state) slots) ≡ position_from (λ (s : Slot D). has_name name (slot_of state s)) i slots
  same_names [] name i = refl
  same_names (x ∷ xs) name i = ap (λ (o : Option ℕ). cond (has_name name (slot_of state x)) (Some i) o) (same_names xs name (i + 1))

-- a device that was handed out stood there
pub stood : {D : Type 0} (state : D → DeviceState) (given : Option D) (o : Option DeviceState) → option_map state given ≡ o → IsSome given → IsSome o
stood state None o is some = absurd (not_true some)
stood state (Some d) o is some = ap is_some (sym is)

-- ---- which devices are taken

pub all_at : {X : Type 0} (P : X → Type 0) (xs : List X) (k : ℕ) (x : X) → All P xs → slice_get xs k ≡ Some x → P x
all_at P [] k x all e = absurd cc
all_at P (y ∷ ys) zero x all e = subst P (same_Some y x e) (all 0 y (omega arith))
all_at P (y ∷ ys) (suc k) x all e = all_at P ys k x (λ j d lt. all (suc j) d (omega (arith, lt))) e

-- all but one that is changed are as they were
pub others_at : {X : Type 0} (P : X → Type 0) (xs : List X) (n : ℕ) (new : X) → All P xs → (k : ℕ) (x : X) → slice_get (set xs n new) k ≡ Some x → (k ≡ n → ⊥) → P x
others_at P [] n new all k x e ne = absurd cc
others_at P (y ∷ ys) zero new all zero x e ne = absurd (ne refl)
others_at P (y ∷ ys) zero new all (suc k) x e ne = all_at P ys k x (λ j d lt. all (suc j) d (omega (arith, lt))) e
others_at P (y ∷ ys) (suc n) new all zero x e ne = subst P (same_Some y x e) (all 0 y (omega arith))
others_at P (y ∷ ys) (suc n) new all (suc k) x e ne = others_at P ys n new (λ j d lt. all (suc j) d (omega (arith, lt))) k x e (λ is. ne (ap suc is))

module _ {D : Type 0} (state : D → DeviceState) where
  named_place : (name : List ℕ) (slot : Slot D) → IsNotTaken slot.place → has_name name (slot_of state slot) ≡ true → IsSome (device_in_place (place_of state slot.place))
  named_place name slot free named = by_place slot.place free named
    where
      by_place : (there : code.Place D) → IsNotTaken there → has_name name (record { name = slot.name; place = place_of state there }) ≡ true → IsSome (device_in_place (place_of state there))
      by_place place.Taken free named = absurd free
      by_place (place.Closed device) free named = refl
      by_place (place.Saved device left) free named = refl
      by_place (place.Open file) free named = refl
      by_place (place.Gone husk) free named = absurd (not_true named)

  -- where no device is taken, one stands under each name that is there
  pub found_there : (name : List ℕ) (slots : List (Slot D)) (i n : ℕ) → All (λ (s : Slot D). IsNotTaken s.place) slots → position_from (has_name name) i (map (slot_of state) slots) ≡ Some n
      → (i ≤ n) × IsSome (device_at (map (slot_of state) slots) (n - i))
  found_there name [] i n all e = absurd cc
  found_there name (x ∷ xs) i n all e = by_test (found_there name xs (i + 1) n (λ j d lt. all (suc j) d (omega (arith, lt)))) (has_name name (slot_of state x)) refl e
    where
      by_test : (position_from (has_name name) (i + 1) (map (slot_of state) xs) ≡ Some n → (i + 1 ≤ n) × IsSome (device_at (map (slot_of state) xs) (n - (i + 1)))) → (b : Bool) → has_name name (slot_of state x) ≡ b → cond b (Some i) (position_from (has_name name) (i + 1) (map (slot_of state) xs)) ≡ Some n → (i ≤ n) × IsSome (device_at (map (slot_of state) (x ∷ xs)) (n - i))
      by_test further true named e =
          let same = same_Some i n e in
          (omega (arith, same), subst (λ k. IsSome (device_at (map (slot_of state) (x ∷ xs)) k)) (let z : 0 ≡ n - i = omega (arith, same) in z) (named_place name x (all 0 x (omega arith)) named))
      by_test further false named e =
          let rest = further e in
          let le = rest.0 in
          (omega (arith, le), subst (λ k. IsSome (device_at (map (slot_of state) (x ∷ xs)) k)) (let z : suc (n - (i + 1)) ≡ n - i = omega (arith, le) in z) rest.1)

  pub there : (slots : List (Slot D)) (name : List ℕ) → All (λ (s : Slot D). IsNotTaken s.place) slots → (found : Option ℕ) → found ≡ position_from (has_name name) 0 (map (slot_of state) slots)
      → IfSome found (λ n. IsSome (device_at (map (slot_of state) slots) n))
  there slots name all None is = tt
  there slots name all (Some n) is = subst (λ k. IsSome (device_at (map (slot_of state) slots) k)) (let z : n - 0 ≡ n = omega arith in z) (found_there name slots 0 n all (sym is)).1

-- what stands under a number, changed twice
changed_twice : (slots : List SlotState) (n : ℕ) (first then : PlaceState → PlaceState) → changed_at then (changed_at first slots n) n ≡ changed_at (λ p. then (first p)) slots n
changed_twice [] n first then = refl
changed_twice (x ∷ xs) zero first then = refl
changed_twice (x ∷ xs) (suc n) first then = ap (λ (l : List SlotState). x ∷ l) (changed_twice xs n first then)

-- the device under a number, taken and then put back as another
pub taken_and_put_back : (slots : List SlotState) (n : ℕ) (device : DeviceState) → with_device (changed_at taken slots n) n device ≡ with_device slots n device
taken_and_put_back slots n device = changed_twice slots n taken (λ was. There device)

-- ---- what stands under one number

-- a device that stood there is dropped
pub dropped_there : (p : PlaceState) (device : DeviceState) → Some device ≡ device_in_place p → Gone (dropped device) ≡ discarded p
dropped_there (There d) device is = ap (λ (s : DeviceState). Gone (dropped s)) (same_Some device d is)
dropped_there Taken device is = absurd cc
dropped_there (Gone last) device is = absurd cc

-- and where none did, all is as before
pub none_dropped : (p : PlaceState) → None ≡ device_in_place p → taken p ≡ discarded p
none_dropped (There d) is = absurd cc
none_dropped Taken is = refl
none_dropped (Gone last) is = refl
