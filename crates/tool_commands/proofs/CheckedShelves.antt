-- What a check of files leaves of a shelf.
use Rattle.std.proofs.Common.{◌≡◌, ℕ, List, [], ◌∷◌, length, map, refl, sym, ◌∙◌, ap, subst}
use Rattle.std.specs.Prelude.{None}
use Rattle.std.proofs.lemmas.List.{length-map}
use Rattle.adf_model.specs.Slots.{Files, Device, Devices, device_at, names_there}
use Rattle.adf_model.specs.Steps.{OnlyRead, OthersOnlyRead, SomeFault}
use Rattle.adf_model.specs.Counts.{Rose}
use Rattle.adf_library.specs.Library.{device_by, shelf_device, shelf_devices, shelf_files, standing_name, unplaced}
use Rattle.adf_library.specs.Shelf.{PlaceState, SlotState}
use Rattle.adf_library.specs.Shelf.PlaceState.{There, Taken, Gone}
use Rattle.sids_readings.specs.declared.rule_sets.RuleSet.{RuleSet}
use Rattle.tool_commands.specs.Checks.{CheckEnds, Checked, Output}
use Rattle.tool_commands.specs.Checks.EndsBehind.{lacks}
use Rattle.tool_commands.specs.Tool.{MayLack, RunEnds, Streams, output_of}
use Rattle.tool_commands.specs.declared.named_files.NamedFile.{NamedFile}
use Rattle.tool_commands.specs.declared.status.Status.{Status}
use Rattle.tool_commands.specs.declared.status.Status.TheVariants as status
use Rattle.tool_commands.specs.declared.words.Wanted.{Wanted}
use Rattle.tool_commands.specs.declared.words.Wanted.TheVariants as asks
use Rattle.tool_commands.proofs.CheckedLaws.{checked_fault, checked_later, checked_names, checked_reads, checked_sink}
use Rattle.tool_commands.proofs.OpeningLaws.{opens_none}
use Rattle.tool_commands.proofs.Sessions.{entry_names, unplaced_at, counts_left}

-- devices that are only read, once their files are closed
pub reads_left : (before now new : Devices) → new ≡ map unplaced now → OthersOnlyRead None before now → OthersOnlyRead None before new
reads_left before now new left reads = record {
  count = ap length left ∙ length-map now unplaced ∙ reads.count;
  others = λ k apart. let read = reads.others k apart in subst (OnlyRead (device_at before k)) (sym (at k)) (record { held = read.held; lost = read.lost; writes = read.writes; reads = read.reads; faults = read.faults });
  counts = counts_left before now new left reads.counts;
}
  where
    at : (k : ℕ) → device_at new k ≡ unplaced (device_at now k)
    at k = ap (λ (ds : Devices). device_at ds k) left ∙ unplaced_at now k

pub fault_left : (before now new : Devices) → new ≡ map unplaced now → SomeFault before now → SomeFault before new
fault_left before now new left fault = (fault.0, subst (λ (d : Device). Rose (device_at before fault.0).faults d.faults) (sym (ap (λ (ds : Devices). device_at ds fault.0) left ∙ unplaced_at now fault.0)) fault.1)

-- what was told of the check, once all files are closed
pub check_ended : (set : RuleSet) (named : List NamedFile) (result : Status) (old new : List SlotState) (files left : Files) (devices now : Devices) (before after : Output)
    → files ≡ shelf_files old → devices ≡ shelf_devices old → Checked set named result files devices now left before after
    → shelf_devices new ≡ map unplaced now → map standing_name new ≡ names_there left → CheckEnds set named result old new before after
check_ended set named result old new files left devices now before after files_are devices_are given devices_left names_are = record {
  files = left;
  devices = now;
  checked = checked;
  left = devices_left;
  names = names_are ∙ checked_names set named result (shelf_files old) (shelf_devices old) now left before after checked ∙ entry_names old;
  reads = reads_left (shelf_devices old) now (shelf_devices new) devices_left (checked_reads set named result (shelf_files old) (shelf_devices old) now left before after checked);
  fault = λ is. fault_left (shelf_devices old) now (shelf_devices new) devices_left (checked_fault set named result (shelf_files old) (shelf_devices old) now left before after checked is);
  sink = checked_sink set named result (shelf_files old) (shelf_devices old) now left before after checked;
  later = checked_later set named result (shelf_files old) (shelf_devices old) now left before after checked;
}
  where
    checked : Checked set named result (shelf_files old) (shelf_devices old) now left before after
    checked = subst (λ (fs : Files). Checked set named result fs (shelf_devices old) now left before after) files_are
        (subst (λ (ds : Devices). Checked set named result files ds now left before after) devices_are given)

-- memory was wanting to list the files
pub not_begun : (set : RuleSet) (named : List NamedFile) (slots : List SlotState) (output : Output) → CheckEnds set named status.Memory slots slots output output
not_begun set named slots output =
    check_ended set named status.Memory slots slots (shelf_files slots) (shelf_files slots) (shelf_devices slots) (shelf_devices slots) output output refl refl
    (record { outcomes = []; opened = shelf_devices slots; opens = opens_none named (shelf_files slots) (shelf_devices slots); ends = lacks refl refl refl })
    (placed_none slots) (sym (entry_names slots))
  where
    placed_none : (slots : List SlotState) → shelf_devices slots ≡ map unplaced (shelf_devices slots)
    placed_none [] = refl
    placed_none (slot ∷ slots) = ap (λ (l : Devices). shelf_device slot ∷ l) (placed_none slots) ∙ ap (λ (d : Device). d ∷ map unplaced (shelf_devices slots)) (by_place slot.place)
      where
        by_place : (there : PlaceState) → device_by there ≡ unplaced (device_by there)
        by_place (There device) = refl
        by_place Taken = refl
        by_place (Gone last) = refl

-- what may lack memory before a device is touched ends so
pub lacked_ends : (asked : Wanted) (slots : List SlotState) (streams : Streams) → MayLack asked → RunEnds asked status.Memory slots slots streams streams
lacked_ends (asks.Check set files) slots streams may = (not_begun set files slots (output_of streams), record { left = refl; faults = refl })
lacked_ends other slots streams may = absurd may
