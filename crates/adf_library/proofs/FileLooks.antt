-- Looks into an open file, as looks into its slot.
use Rattle.std.proofs.Common.{◌≡◌, ℕ, List, [], ◌∷◌, Bool, true, false, refl, sym, ◌∙◌, ap, subst, arith}
use Rattle.std.specs.Prelude.{Option, Some, None, IsSome, IfSome, Result, Ok, Err, if◌then◌else◌}
use Rattle.adf_follow.specs.Looking.{IsToldIn}
use Rattle.adf_format.specs.Tree.{Tree}
use Rattle.adf_library.specs.Calls.{Looks, Sees, Answers, field_in}
use Rattle.adf_library.specs.Places.{committed, in_work, slot_as, device_as, work_as, tree_by, placement_by, file_of, slot_in, device_of_slot}
use Rattle.adf_library.specs.declared.places.Place as code
use Rattle.adf_library.specs.declared.places.Place.TheVariants as place
use Rattle.adf_library.specs.declared.places.Slot.{Slot}
use Rattle.adf_library.proofs.Meaning.{core_meant, work_means, image_told}
use Rattle.adf_model.proofs.Basics.{not_true}
use Rattle.adf_model.specs.Answers.{field_within}
use Rattle.adf_model.specs.Follow.{open_file}
use Rattle.adf_model.specs.Slots.{Open, Device, is_open, is_gone, open_of}
use Rattle.adf_model.specs.Slots as model
use Rattle.adf_model.specs.declared.error.AdfError.{AdfError}
use Rattle.adf_model.specs.declared.error.AdfError.TheVariants.{Memory, ReadFault, NotOpen, NoSuchFile, LinkMissing, LinkChain, Layout}
use Rattle.adf_model.specs.declared.tree.NodeId.{NodeId}
use Rattle.adf_model.specs.declared.tree.Query.{Query}
use Rattle.adf_model.specs.declared.tree.Reply.{Reply}
use Rattle.adf_tree.specs.Asks.{IsLookCause, LookEnds}
use Rattle.adf_tree.specs.Files.{FileState, IsWorking, device_of, image_in, state_of}
use Rattle.adf_tree.specs.Headers as file
use Rattle.adf_tree.specs.declared.file.AdfFile.{AdfFile}
use Rattle.cg_io.specs.Device.{DeviceState}
use Rattle.tree_asks.specs.Refusals.{IsAskRefusal}
use Rattle.tree_asks.specs.Told.{OfEach, IsWanted, map_ok}
use Rattle.tree_edits.specs.declared.memory.Core.{Core}
use Rattle.tree_edits.specs.Edits.{memory_of}
use Rattle.tree_edits.specs.Rows.{Means}

-- ---- what a look leaves

pub looks_same : {D : Type 0} (state : D → DeviceState) (slot : Slot D) → Looks state slot slot
looks_same state slot = record {
  kept = refl;
  now = refl;
  work = refl;
  device = record { held = refl; lost = refl; writes = refl; reads = omega arith; faults = omega arith };
  placed = refl;
}

module _ {D : Type 0} (state : D → DeviceState) (name : List ℕ) (old new : AdfFile D) (looks : file.Looks (state_of state old) (state_of state new)) where
  abbrev was : FileState
  was = state_of state old

  abbrev slot_old : Slot D
  slot_old = record { name = name; place = place.Open old }

  abbrev slot_new : Slot D
  slot_new = record { name = name; place = place.Open new }

  looks_at : Looks state slot_old slot_new
  looks_at = record {
    kept = ap (λ (f : FileState). record { name = name; slot = slot_as committed f }) looks.stays
        ∙ ap (λ (h : Option (List ℕ)). record { name = name; slot = if was.broken then model.Slot.Broken else model.Slot.Live (record { tree = tree_by h was.core.rows.kept; writable = was.core.writable; limit = was.core.heap.limit }) }) looks.device.held;
    now = ap (λ (f : FileState). record { name = name; slot = slot_as in_work f }) looks.stays;
    work = ap work_as looks.stays ∙ ap (λ (h : Option (List ℕ)). work_as (record was { device = record was.device { held = h } })) looks.device.held;
    device = looks.device;
    placed = ap (λ (f : FileState). (device_as f).placement) looks.stays ∙ ap (λ (h : Option (List ℕ)). placement_by h was.core.rows.kept was.core.heap.kept.heap) looks.device.held;
  }

pub looks_open : {D : Type 0} (state : D → DeviceState) (slot : Slot D) (old new : AdfFile D) → slot.place ≡ place.Open old → file.Looks (state_of state old) (state_of state new) → Looks state slot (record slot { place = place.Open new })
looks_open state slot old new is looks = subst (λ (p : code.Place _). Looks state (record slot { place = p }) (record slot { place = place.Open new })) (sym is) (looks_at state slot.name old new looks)

-- ---- a file that is not open

-- nothing is seen
pub shut_sees : {D A B : Type 0} (state : D → DeviceState) (slot : Slot D) (view : A → B) (wanted : Option Open → Result B AdfError) (value : A) → wanted None ≡ Ok (view value)
    → open_of (file_of in_work state slot).slot ≡ None → Sees state slot slot view (wanted (open_of (file_of in_work state slot).slot)) (Ok value)
shut_sees state slot view wanted value none shut = λ told. ap wanted shut ∙ none

-- a broken one is not
pub broken_shut : (f : FileState) → f.broken ≡ true → open_of (slot_as in_work f) ≡ None
broken_shut f is = ap (λ (b : Bool). open_of (if b then model.Slot.Broken else model.Slot.Live (in_work f))) is

pub broken_number : (f : FileState) (number : ℕ) → f.broken ≡ true → Err AdfError.Broken ≡ open_file (slot_as in_work f) number
broken_number f number is = sym (ap (λ (b : Bool). open_file (if b then model.Slot.Broken else model.Slot.Live (in_work f)) number) is)

pub sound_number : (f : FileState) (number : ℕ) → f.broken ≡ false → Ok number ≡ open_file (slot_as in_work f) number
sound_number f number is = sym (ap (λ (b : Bool). open_file (if b then model.Slot.Broken else model.Slot.Live (in_work f)) number) is)

-- one that is open is not broken
pub open_sound : (f : FileState) → IsSome (open_of (slot_as in_work f)) → f.broken ≡ false
open_sound f some = by_test f.broken refl
  where
    by_test : (b : Bool) → f.broken ≡ b → b ≡ false
    by_test false is = refl
    by_test true is = absurd (not_true (subst IsSome (broken_shut f is) some))

-- ---- what an open file shows

wanted_of : (core : Core) (image : Option (List ℕ)) (P : Tree → Type 0) → IfSome image (λ i. Means i (tree_by (Some i) core.rows.items) (placement_by (Some i) core.rows.items core.heap.work.heap) (memory_of core))
    → OfEach core image (λ i tree p. P tree) → IsSome image → P (tree_by image core.rows.items)
wanted_of core None P means each some = absurd (not_true some)
wanted_of core (Some i) P means each some = each (tree_by (Some i) core.rows.items) (placement_by (Some i) core.rows.items core.heap.work.heap) means

module _ {D : Type 0} (state : D → DeviceState) (name : List ℕ) (old new : AdfFile D) (working : IsWorking state old) (sound : old.broken ≡ false) where
  abbrev before : Slot D
  before = record { name = name; place = place.Open old }

  abbrev after : Slot D
  after = record { name = name; place = place.Open new }

  abbrev shown : Tree
  shown = tree_by (image_in state old) old.core.rows.items

  abbrev there : Type 0
  there = IsToldIn (file_of in_work state before ∷ []) (device_of_slot state before ∷ []) 0

  live : slot_as in_work (state_of state old) ≡ model.Slot.Live (in_work (state_of state old))
  live = ap (λ (b : Bool). if b then model.Slot.Broken else model.Slot.Live (in_work (state_of state old))) sound

  opened : is_open (slot_as in_work (state_of state old)) ≡ true
  opened = ap is_open live

  told_held : there → IsSome (device_of state old).held
  told_held told = told (ap is_gone live)

  of_tree : (P : Tree → Type 0) → OfEach old.core (image_in state old) (λ i tree p. P tree) → there → P shown
  of_tree P each told = wanted_of old.core (image_in state old) P (core_meant old.core (image_in state old) (work_means state old working sound)) each (image_told state old working sound (told_held told))

  module _ {A B : Type 0} (view : A → B) (wanted : Tree → Result A AdfError) where
    sees_at : (result : Result A AdfError) → LookEnds wanted IsLookCause (state_of state old) (state_of state new) result → Sees state before after view (map_ok view (wanted shown)) result
    sees_at (Ok value) ends = λ told. ap (map_ok view) (of_tree (λ tree. wanted tree ≡ Ok value) (ends.told sound) told)
    sees_at (Err Memory) ends = tt
    sees_at (Err ReadFault) ends = (opened, ends.cause sound)
    sees_at (Err (Layout rule place)) ends = (ends.cause sound, λ told. ap (map_ok view) (of_tree (λ tree. wanted tree ≡ Err (Layout rule place)) (ends.told sound) told))
    sees_at (Err error) ends = absurd (ends.cause sound)

  module _ (at : NodeId) (query : Query) where
    abbrev wanted : Tree → Result Reply AdfError
    wanted tree = field_within tree at query

    answered : (result : Result Reply AdfError) → LookEnds wanted (IsAskRefusal query) (state_of state old) (state_of state new) result → there → IsWanted (wanted shown) result
    answered result ends told = of_tree (λ tree. IsWanted (wanted tree) result) (ends.told sound) told

    asked_here : field_in (slot_as in_work (state_of state old)) at query ≡ wanted shown
    asked_here = ap (λ (s : model.Slot). field_in s at query) live

    answers_at : (result : Result Reply AdfError) → LookEnds wanted (IsAskRefusal query) (state_of state old) (state_of state new) result → Answers state before after at query result
    answers_at (Ok reply) ends = λ told. asked_here ∙ answered (Ok reply) ends told
    answers_at (Err Memory) ends = tt
    answers_at (Err ReadFault) ends = (opened, ends.cause sound)
    answers_at (Err (Layout rule place)) ends = (ends.cause sound, λ told. asked_here ∙ answered (Err (Layout rule place)) ends told)
    answers_at (Err AdfError.Broken) ends = absurd (ends.cause sound)
    answers_at (Err NotOpen) ends = absurd (ends.cause sound)
    answers_at (Err NoSuchFile) ends = absurd (ends.cause sound)
    answers_at (Err LinkMissing) ends = absurd (ends.cause sound)
    answers_at (Err LinkChain) ends = absurd (ends.cause sound)
    answers_at (Err error) ends = (ends.cause sound, λ told. asked_here ∙ answered (Err error) ends told)

-- ---- as the code has it

module _ {D : Type 0} (state : D → DeviceState) (slot : Slot D) (old new : AdfFile D) (is : slot.place ≡ place.Open old) (working : IsWorking state old) where
  pub sees_open : {A B : Type 0} (view : A → B) (wanted : Tree → Result A AdfError) (whole : Option Open → Result B AdfError) (result : Result A AdfError) → (state_of state old).broken ≡ false
      → ((opened : Open) → whole (Some opened) ≡ map_ok view (wanted opened.tree)) → LookEnds wanted IsLookCause (state_of state old) (state_of state new) result
      → Sees state slot (record slot { place = place.Open new }) view (whole (open_of (file_of in_work state slot).slot)) result
  sees_open {A = A} {B = B} view wanted whole result sound same ends =
      subst (λ (p : code.Place D). Sees state (record slot { place = p }) (record slot { place = place.Open new }) view (whole (open_of (slot_in in_work state p))) result) (sym is)
      (subst (λ (r : Result B AdfError). Sees state (record slot { place = place.Open old }) (record slot { place = place.Open new }) view r result)
      (sym (ap (λ (s : model.Slot). whole (open_of s)) (live state slot.name old new working sound) ∙ same (in_work (state_of state old))))
      (sees_at state slot.name old new working sound view wanted result ends))

  pub answers_open : (at : NodeId) (query : Query) (result : Result Reply AdfError) → IsSome (open_of (file_of in_work state slot).slot)
      → LookEnds (λ tree. field_within tree at query) (IsAskRefusal query) (state_of state old) (state_of state new) result → Answers state slot (record slot { place = place.Open new }) at query result
  answers_open at query result some ends =
      let sound = open_sound (state_of state old) (subst (λ (p : code.Place D). IsSome (open_of (slot_in in_work state p))) is some) in
      subst (λ (p : code.Place D). Answers state (record slot { place = p }) (record slot { place = place.Open new }) at query result) (sym is) (answers_at state slot.name old new working sound at query result ends)
