-- A name is found among the slots as among the files.
use Rattle.std.proofs.Common.{◌≡◌, ℕ, suc, ◌+◌, List, [], ◌∷◌, length, map, cond, Bool, true, false, not, refl, sym, ◌∙◌, ap, arith}
use Rattle.std.specs.List.{All, position_from}
use Rattle.std.specs.Prelude.{◌==◌, ◌&&◌, bytes_eq, Option, Some, Ok, if◌then◌else◌}
use Rattle.adf_library.specs.Places.{in_work, file_of, slot_in, IsReadyPlace, IsReadySlot}
use Rattle.adf_library.specs.Shelf.{is_named, place_of, slot_of, has_name}
use Rattle.adf_library.specs.declared.places.Place.{Place}
use Rattle.adf_library.specs.declared.places.Place.TheVariants as place
use Rattle.adf_library.specs.declared.places.Slot.{Slot}
use Rattle.adf_model.proofs.Basics.{not_true}
use Rattle.adf_model.specs.Follow.{linked_file, open_file}
use Rattle.adf_model.specs.Slots.{Open, Files, number_from, number_of, slot_at, is_gone}
use Rattle.adf_model.specs.Slots as model
use Rattle.adf_model.specs.Tests.{if_there}
use Rattle.adf_model.specs.declared.error.AdfError.TheVariants.{LinkMissing}
use Rattle.adf_tree.specs.Files.{state_of}
use Rattle.cg_io.specs.Device.{DeviceState}

-- an open file is there, broken or not
pub not_gone : (b : Bool) (opened : Open) → is_gone (if b then model.Slot.Broken else model.Slot.Live opened) ≡ false
not_gone true opened = refl
not_gone false opened = refl

module _ {D : Type 0} (state : D → DeviceState) where
  named_there : (p : Place D) → IsReadyPlace state p → is_named (place_of state p) ≡ not (is_gone (slot_in in_work state p))
  named_there place.Taken ready = absurd ready
  named_there (place.Closed device) ready = refl
  named_there (place.Saved device left) ready = refl
  named_there (place.Open file) ready = ap not (sym (not_gone file.broken (in_work (state_of state file))))
  named_there (place.Gone husk) ready = refl

  by_tests : (gone same : Bool) (one rest : Option ℕ) → (if gone then rest else if same then one else rest) ≡ cond (not gone && same) one rest
  by_tests true same one rest = refl
  by_tests false true one rest = refl
  by_tests false false one rest = refl

  pub same_number : (slots : List (Slot D)) (k : ℕ) (name : List ℕ) → All (IsReadySlot state) slots
      → number_from k (map (file_of in_work state) slots) name ≡ position_from (λ (s : Slot D). has_name name (slot_of state s)) k slots
  same_number [] k name ready = refl
  same_number (x ∷ xs) k name ready =
      by_tests (is_gone (slot_in in_work state x.place)) (bytes_eq x.name name) (Some k) (number_from (suc k) (map (file_of in_work state) xs) name)
      ∙ ap (λ (b : Bool). cond (b && bytes_eq x.name name) (Some k) (number_from (suc k) (map (file_of in_work state) xs) name)) (sym (named_there x.place (ready 0 x (omega arith))))
      ∙ ap (λ (o : Option ℕ). cond (has_name name (slot_of state x)) (Some k) o)
      (ap (λ (j : ℕ). number_from j (map (file_of in_work state) xs) name) (let e : suc k ≡ k + 1 = omega arith in e)
      ∙ same_number xs (k + 1) name (λ j d lt. ready (suc j) d (omega (arith, lt))))

-- ---- the file that a link names

pub linked_own : (files : Files) (own : ℕ) (name : List ℕ) → name ≡ [] → Ok own ≡ linked_file files own name
linked_own files own name is = ap (linked_file files own) (sym is)

pub linked_found : (files : Files) (own : ℕ) (name : List ℕ) (found : Option ℕ) → (length name == 0) ≡ false → number_of files name ≡ found
    → linked_file files own name ≡ if_there found LinkMissing (λ number. open_file (slot_at files number) number)
linked_found files own [] found some is = absurd (not_true (sym some))
linked_found files own (b ∷ name) found some is = ap (λ (o : Option ℕ). if_there o LinkMissing (λ number. open_file (slot_at files number) number)) is
