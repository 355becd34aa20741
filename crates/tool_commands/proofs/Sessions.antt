-- What a session leaves of a shelf.
use Rattle.std.proofs.Common.{◌≡◌, ℕ, ◌≤◌, zero, suc, Bool, true, false, List, [], ◌∷◌, length, map, refl, sym, ◌∙◌, ap, subst}
use Rattle.std.specs.Prelude.{Option, Some, None, if◌then◌else◌}
use Rattle.std.specs.Io.KnownBytes.{Consumes, IsAtEnd}
use Rattle.adf_model.specs.Slots.{Files, Device, Devices, Open, device_at, is_gone, names_there, slot_at, name_there}
use Rattle.adf_model.specs.Slots as model
use Rattle.adf_model.specs.Steps.{NoneFell, NoCountFell, AllLaidOut, IsLaidOutAt}
use Rattle.cg_io.specs.Cause.{Rose}
use Rattle.cg_io.specs.Device.{DeviceState}
use Rattle.adf_library.specs.Library.{entry_slot, shelf_file, shelf_files, shelf_devices, standing_name, unplaced}
use Rattle.adf_library.specs.Places.{in_work, file_of, slot_in}
use Rattle.adf_library.specs.Shelf.{PlaceState, SlotState, place_of, slot_of}
use Rattle.adf_library.specs.Shelf.PlaceState.{There, Taken, Gone}
use Rattle.adf_library.specs.declared.places.Place.{Place}
use Rattle.adf_library.specs.declared.places.Place.TheVariants as place
use Rattle.adf_library.specs.declared.places.Slot.{Slot}
use Rattle.adf_tree.specs.Files.{state_of}
use Rattle.session.proofs.Faults.{ran_counts, ran_laid_out, ran_names}
use Rattle.session.specs.Session.{HasRun, IsBounded}
use Rattle.session.specs.Turns.{calls_of, names_behind}
use Rattle.session.specs.declared.session.Ended.{Ended}
use Rattle.session.specs.declared.session.Ended.TheVariants as ended
use Rattle.tool_commands.specs.Tool.{Streams, SessionEnds, scene}

pub unplaced_at : (devices : Devices) (k : ℕ) → device_at (map unplaced devices) k ≡ unplaced (device_at devices k)
unplaced_at [] k = refl
unplaced_at (device ∷ devices) zero = refl
unplaced_at (device ∷ devices) (suc k) = unplaced_at devices k

fell_unplaced : (a b : Device) → NoneFell a b → NoneFell a (unplaced b)
fell_unplaced a b fell = record { faults = fell.faults; lost = fell.lost; reads = fell.reads; writes = fell.writes }

pub counts_left : (before now new : Devices) → new ≡ map unplaced now → NoCountFell before now → NoCountFell before new
counts_left before now new left counts k =
    subst (λ (ds : Devices). NoneFell (device_at before k) (device_at ds k)) (sym left) (subst (NoneFell (device_at before k)) (sym (unplaced_at now k)) (fell_unplaced (device_at before k) (device_at now k) (counts k)))

pub entry_names : (slots : List SlotState) → names_there (shelf_files slots) ≡ map standing_name slots
entry_names [] = refl
entry_names (slot ∷ slots) = ap (λ (l : List (Option (List ℕ))). name_there (shelf_file slot) ∷ l) (entry_names slots) ∙ ap (λ (o : Option (List ℕ)). o ∷ map standing_name slots) (by_place slot.place)
  where
    by_place : (there : PlaceState) → name_there (record { name = slot.name; slot = entry_slot there }) ≡ standing_name (record { name = slot.name; place = there })
    by_place (There device) = refl
    by_place Taken = refl
    by_place (Gone last) = refl

-- the names of the files of slots are those under which devices stand
pub slot_names : {D : Type 0} (state : D → DeviceState) (slots : List (Slot D)) → map standing_name (map (slot_of state) slots) ≡ names_there (map (file_of in_work state) slots)
slot_names state [] = refl
slot_names state (x ∷ xs) =
    ap (λ (o : Option (List ℕ)). o ∷ map standing_name (map (slot_of state) xs)) (by_place x.place)
    ∙ ap (λ (l : List (Option (List ℕ))). name_there (file_of in_work state x) ∷ l) (slot_names state xs)
  where
    never_gone : (broken : Bool) (opened : Open) → is_gone (if broken then model.Slot.Broken else model.Slot.Live opened) ≡ false
    never_gone true opened = refl
    never_gone false opened = refl

    by_place : (there : Place _) → standing_name (record { name = x.name; place = place_of state there }) ≡ name_there (record { name = x.name; slot = slot_in in_work state there })
    by_place place.Taken = refl
    by_place (place.Closed device) = refl
    by_place (place.Saved device left) = refl
    by_place (place.Open file) = let now = state_of state file in sym (ap (λ (gone : Bool). if gone then None else Some x.name) (never_gone now.broken (in_work now)))
    by_place (place.Gone husk) = refl

-- at first no tree is known
laid_at_entry : (slots : List SlotState) (devices : Devices) → AllLaidOut (shelf_files slots) devices
laid_at_entry slots devices number = by_list slots number
  where
    by_place : (there : PlaceState) → IsLaidOutAt (entry_slot there) (device_at devices number)
    by_place (There device) = tt
    by_place Taken = tt
    by_place (Gone last) = tt

    by_list : (some : List SlotState) (k : ℕ) → IsLaidOutAt (slot_at (shelf_files some) k) (device_at devices number)
    by_list [] k = tt
    by_list (slot ∷ some) zero = by_place slot.place
    by_list (slot ∷ some) (suc k) = by_list some k

-- what was told of the run, once all files are closed
pub ended_so : (how : Ended) (old new : List SlotState) (files left : Files) (devices now_devices : Devices) (before now : Streams)
    → files ≡ shelf_files old → devices ≡ shelf_devices old → HasRun how (scene files devices before) (scene left now_devices now)
    → shelf_devices new ≡ map unplaced now_devices → map standing_name new ≡ names_there left
    → ((bytes : List ℕ) × Consumes before.left now.left bytes × IsBounded how (length bytes))
    → (how ≡ ended.Done → IsAtEnd now.left) → (how ≡ ended.SourceFault → Rose before.source_faults now.source_faults) → (how ≡ ended.SinkFault → Rose before.sink_faults now.sink_faults)
    → before.source_faults ≤ now.source_faults → before.sink_faults ≤ now.sink_faults → SessionEnds how old new before now
ended_so how old new files left devices now_devices before now files_are devices_are has_run left_are names_are bound end source sink source_later sink_later = record {
  files = left;
  devices = now_devices;
  run = run;
  laid_out = ran_laid_out (shelf_files old) left (shelf_devices old) now_devices run.turns run.ran (laid_at_entry old (shelf_devices old));
  left = left_are;
  names = names_are ∙ ran_names (shelf_files old) left (shelf_devices old) now_devices run.turns run.ran ∙ ap (names_behind (calls_of run.turns)) (entry_names old);
  counts = counts_left (shelf_devices old) now_devices (shelf_devices new) left_are (ran_counts (shelf_files old) left (shelf_devices old) now_devices run.turns run.ran);
  bound = bound;
  end = end;
  source = source;
  sink = sink;
  source_later = source_later;
  sink_later = sink_later;
}
  where
    run : HasRun how (scene (shelf_files old) (shelf_devices old) before) (scene left now_devices now)
    run = subst (λ (fs : Files). HasRun how (scene fs (shelf_devices old) before) (scene left now_devices now)) files_are
        (subst (λ (ds : Devices). HasRun how (scene files ds before) (scene left now_devices now)) devices_are has_run)
