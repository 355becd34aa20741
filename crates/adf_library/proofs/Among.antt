-- What holds of one file holds among all files, of which it alone is changed.
use Rattle.std.proofs.Common.{◌≡◌, ◌≢◌, inl, inr, ℕ, zero, suc, ◌<◌, ◌≤◌, List, [], ◌∷◌, length, get_or, set, map, refl, sym, ◌∙◌, ap, subst, arith, false}
use Rattle.std.proofs.lemmas.Bool.{cases_eq}
use Rattle.std.specs.Prelude.{Some, None, IsSome}
use Rattle.adf_model.specs.Slots.{Files, Device, Devices, no_device, device_at, slot_at, with_slot, is_gone, IsToldAt}
use Rattle.adf_model.specs.Slots as model
use Rattle.adf_model.specs.Steps.{OnlyRead, NoneFell, NoCountFell, OthersOnlyRead, OthersStayPlaced, IsLaidOutAt}
use Rattle.adf_model.specs.Runs.{KeepsLayouts}
use Rattle.adf_model.proofs.Basics.{not_true}
use Rattle.cg_io.specs.Device.{DeviceState}
use Rattle.adf_tree.specs.Files.{FileState}
use Rattle.adf_library.specs.declared.places.Slot.{Slot}
use Rattle.adf_library.specs.Places.{file_of, device_of_slot}
use Rattle.adf_library.proofs.SlotLaws.{at_slot, at_new, at_other, length_kept}

-- one file has another state, its device may be another, and all other devices stay
pub record OneSet (n : ℕ) (files : Files) (before : Devices) (slot : model.Slot) (now : Devices) (after : Files) : Type 0 where
  pub made : after ≡ with_slot files n slot
  pub others : (k : ℕ) → k ≢ n → device_at now k ≡ device_at before k
  pub count : length now ≡ length before

-- ---- states of files

pub with_same : (files : Files) (n : ℕ) → with_slot files n (slot_at files n) ≡ files
with_same [] n = refl
with_same (file ∷ files) zero = refl
with_same (file ∷ files) (suc n) = ap (λ (fs : Files). file ∷ fs) (with_same files n)

slot_other : (files : Files) (n k : ℕ) (slot : model.Slot) → k ≢ n → slot_at (with_slot files n slot) k ≡ slot_at files k
slot_other [] n k slot ne = refl
slot_other (file ∷ files) zero zero slot ne = absurd (ne refl)
slot_other (file ∷ files) zero (suc k) slot ne = refl
slot_other (file ∷ files) (suc n) zero slot ne = refl
slot_other (file ∷ files) (suc n) (suc k) slot ne = slot_other files n k slot (λ is. ne (ap suc is))

-- a file that is not there gets no state
pub none_set : (files : Files) (n : ℕ) (slot : model.Slot) → length files ≤ n → with_slot files n slot ≡ files
none_set [] n slot past = refl
none_set (file ∷ files) zero slot past = absurd (omega arith)
none_set (file ∷ files) (suc n) slot past = ap (λ (fs : Files). file ∷ fs) (none_set files n slot (omega arith))

pub gone_past : (files : Files) (n : ℕ) → length files ≤ n → slot_at files n ≡ model.Slot.Gone
gone_past [] n past = refl
gone_past (file ∷ files) zero past = absurd (omega arith)
gone_past (file ∷ files) (suc n) past = gone_past files n (omega arith)

new_slot : (files : Files) (n : ℕ) (slot : model.Slot) → n < length files → slot_at (with_slot files n slot) n ≡ slot
new_slot [] n slot lt = absurd (omega arith)
new_slot (file ∷ files) zero slot lt = refl
new_slot (file ∷ files) (suc n) slot lt = new_slot files n slot (omega arith)

-- a file that is there gets the state
pub set_there : (files : Files) (n : ℕ) (slot : model.Slot) → is_gone (slot_at files n) ≡ false → slot_at (with_slot files n slot) n ≡ slot
set_there [] n slot there = absurd (not_true (sym there))
set_there (file ∷ files) zero slot there = refl
set_there (file ∷ files) (suc n) slot there = set_there files n slot there

-- ---- devices

pub read_same : (a b : Device) → b ≡ a → OnlyRead a b
read_same a b is = subst (OnlyRead a) (sym is) (record { held = refl; faults = omega arith; lost = refl; reads = omega arith; writes = refl })

fell_not : (a b : Device) → b ≡ a → NoneFell a b
fell_not a b is = subst (NoneFell a) (sym is) (record { faults = omega arith; lost = omega arith; reads = omega arith; writes = omega arith })

pub unchanged : (files : Files) (before : Devices) (n : ℕ) → OneSet n files before (slot_at files n) before files
unchanged files before n = record { made = sym (with_same files n); others = λ k ne. refl; count = refl }

module _ (n : ℕ) (files : Files) (before : Devices) (slot : model.Slot) (now : Devices) (after : Files) (one : OneSet n files before slot now after) where
  pub same_files : slot ≡ slot_at files n → after ≡ files
  same_files is = one.made ∙ ap (with_slot files n) is ∙ with_same files n

  pub counts_among : NoneFell (device_at before n) (device_at now n) → NoCountFell before now
  counts_among fell k = elim (cases_eq k n) [
    | inl is ↦ subst (λ i. NoneFell (device_at before i) (device_at now i)) (sym is) fell
    | inr ne ↦ fell_not (device_at before k) (device_at now k) (one.others k ne)
  ]

  pub others_read : NoneFell (device_at before n) (device_at now n) → OthersOnlyRead (Some n) before now
  others_read fell = record {
    count = one.count;
    others = λ k ne. read_same (device_at before k) (device_at now k) (one.others k (λ is. ne (ap Some is)));
    counts = counts_among fell;
  }

  pub all_read : OnlyRead (device_at before n) (device_at now n) → OthersOnlyRead None before now
  all_read read = record {
    count = one.count;
    others = λ k ne. elim (cases_eq k n) [
      | inl is ↦ subst (λ i. OnlyRead (device_at before i) (device_at now i)) (sym is) read
      | inr other ↦ read_same (device_at before k) (device_at now k) (one.others k other)
    ];
    counts = counts_among (record { faults = read.faults; lost = omega (arith, read.lost); reads = read.reads; writes = omega (arith, read.writes) });
  }

  pub others_placed : OthersStayPlaced (Some n) before now
  others_placed k ne = ap (λ (d : Device). d.placement) (one.others k (λ is. ne (ap Some is)))

  pub all_placed : (device_at now n).placement ≡ (device_at before n).placement → OthersStayPlaced None before now
  all_placed same k ne = elim (cases_eq k n) [
    | inl is ↦ subst (λ i. (device_at now i).placement ≡ (device_at before i).placement) (sym is) same
    | inr other ↦ ap (λ (d : Device). d.placement) (one.others k other)
  ]

  module _ (within : n < length files) where
    there : slot_at after n ≡ slot
    there = ap (λ (fs : Files). slot_at fs n) one.made ∙ new_slot files n slot within

    elsewhere : (k : ℕ) → k ≢ n → slot_at after k ≡ slot_at files k
    elsewhere k ne = ap (λ (fs : Files). slot_at fs k) one.made ∙ slot_other files n k slot ne

    told_among : (IsToldAt (slot_at files n) (device_at before n) → IsToldAt slot (device_at now n)) → (k : ℕ) → IsToldAt (slot_at files k) (device_at before k) → IsToldAt (slot_at after k) (device_at now k)
    told_among tells k = elim (cases_eq k n) [
      | inl is ↦ subst (λ i. IsToldAt (slot_at files i) (device_at before i) → IsToldAt (slot_at after i) (device_at now i)) (sym is) (λ told. subst (λ (s : model.Slot). IsToldAt s (device_at now n)) (sym there) (tells told))
      | inr ne ↦ subst (λ (d : Device). IsToldAt (slot_at files k) (device_at before k) → IsToldAt (slot_at after k) d) (sym (one.others k ne))
          (subst (λ (s : model.Slot). IsToldAt (slot_at files k) (device_at before k) → IsToldAt s (device_at before k)) (sym (elsewhere k ne)) (λ told. told))
    ]

    laid_among : (IsLaidOutAt (slot_at files n) (device_at before n) → IsLaidOutAt slot (device_at now n)) → (k : ℕ) → IsLaidOutAt (slot_at files k) (device_at before k) → IsLaidOutAt (slot_at after k) (device_at now k)
    laid_among keeps k = elim (cases_eq k n) [
      | inl is ↦ subst (λ i. IsLaidOutAt (slot_at files i) (device_at before i) → IsLaidOutAt (slot_at after i) (device_at now i)) (sym is) (λ laid. subst (λ (s : model.Slot). IsLaidOutAt s (device_at now n)) (sym there) (keeps laid))
      | inr ne ↦ subst (λ (d : Device). IsLaidOutAt (slot_at files k) (device_at before k) → IsLaidOutAt (slot_at after k) d) (sym (one.others k ne))
          (subst (λ (s : model.Slot). IsLaidOutAt (slot_at files k) (device_at before k) → IsLaidOutAt s (device_at before k)) (sym (elsewhere k ne)) (λ laid. laid))
    ]

    pub layouts_by : (IsToldAt (slot_at files n) (device_at before n) → IsToldAt slot (device_at now n)) → (IsLaidOutAt (slot_at files n) (device_at before n) → IsLaidOutAt slot (device_at now n)) → KeepsLayouts files before now after
    layouts_by tells lays = record { told = told_among tells; laid_out = laid_among lays }

    pub layouts_among : is_gone slot ≡ is_gone (slot_at files n) → (IsSome (device_at before n).held → IsSome (device_at now n).held) → (IsLaidOutAt (slot_at files n) (device_at before n) → IsLaidOutAt slot (device_at now n)) → KeepsLayouts files before now after
    layouts_among same tells lays = layouts_by (λ told stands. tells (told (sym same ∙ stands))) lays

-- ---- slots

module _ {D : Type 0} (view : FileState → model.Open) (state : D → DeviceState) (slots : List (Slot D)) (n : ℕ) (old new : Slot D) (within : n < length slots) (is : old ≡ get_or slots n old) where
  pub slot_here : slot_at (map (file_of view state) slots) n ≡ (file_of view state old).slot
  slot_here = by_list slots n within is
    where
      by_list : (xs : List (Slot D)) (n : ℕ) → n < length xs → old ≡ get_or xs n old → slot_at (map (file_of view state) xs) n ≡ (file_of view state old).slot
      by_list [] n lt is = absurd (omega arith)
      by_list (x ∷ xs) zero lt is = ap (λ (s : Slot D). (file_of view state s).slot) (sym is)
      by_list (x ∷ xs) (suc n) lt is = by_list xs n (omega arith) is

  pub device_here : device_at (map (device_of_slot state) slots) n ≡ device_of_slot state old
  device_here = at_slot (device_of_slot state) slots n old no_device within is

  pub device_now : device_at (map (device_of_slot state) (set slots n new)) n ≡ device_of_slot state new
  device_now = at_new (device_of_slot state) slots n new no_device within

  pub slot_changed : new.name ≡ old.name → OneSet n (map (file_of view state) slots) (map (device_of_slot state) slots) (file_of view state new).slot (map (device_of_slot state) (set slots n new)) (map (file_of view state) (set slots n new))
  slot_changed same = record {
    made = by_list slots n within is;
    others = λ k ne. at_other (device_of_slot state) slots n k new no_device ne;
    count = length_kept (device_of_slot state) slots n new;
  }
    where
      by_list : (xs : List (Slot D)) (n : ℕ) → n < length xs → old ≡ get_or xs n old → map (file_of view state) (set xs n new) ≡ with_slot (map (file_of view state) xs) n (file_of view state new).slot
      by_list [] n lt is = absurd (omega arith)
      by_list (x ∷ xs) zero lt is = ap (λ (name : List ℕ). record { name = name; slot = (file_of view state new).slot } ∷ map (file_of view state) xs) (same ∙ ap (λ (s : Slot D). s.name) is)
      by_list (x ∷ xs) (suc n) lt is = ap (λ (fs : Files). file_of view state x ∷ fs) (by_list xs n (omega arith) is)
