-- What scripted files mean: trees that no edit changes, on devices that tell nothing.
use Rattle.std.specs.Prelude.{ℕ, Bool, not, map}
use Rattle.adf_model.specs.declared.tree.NodeId.{NodeId}
use Rattle.adf_model.specs.Slots.{Slot, Files, Devices, slot_at, open_of, is_gone, is_open, is_broken, no_device}
use Rattle.adf_model.specs.Calls.{is_live_in}
use Rattle.adf_follow.specs.Groups.{Pending, at_rest}
use Rattle.follow_tests.specs.declared.kept.KeptFile.{KeptFile}
use Rattle.follow_tests.specs.declared.scripted.Scripted.{Scripted}
use Rattle.follow_tests.specs.declared.scripted.Test.{Test}
use Rattle.follow_tests.specs.declared.scripted.Test.TheVariants.{Gone, Shut, Failed, Dead}
use Rattle.follow_tests.specs.Kept.{files_of}

abbrev pub scripted_files : Scripted → Files
scripted_files files = files_of files.kept

abbrev pub silent_devices : Scripted → Devices
silent_devices files = map (λ (file : KeptFile). no_device) files.kept.files.items

abbrev pub nothing_waits_in : Scripted → Pending
nothing_waits_in files = record { kept = scripted_files files; work = λ number. at_rest no_device }

-- the tests at entry, one by one
abbrev pub slot_fails : Test → Slot → ℕ → Bool
slot_fails Gone slot serial = is_gone slot
slot_fails Shut slot serial = not (is_open slot)
slot_fails Failed slot serial = is_broken slot
slot_fails Dead slot serial = not (is_live_in (open_of slot) serial)

abbrev pub fails : Files → Test → NodeId → Bool
fails files test node = slot_fails test (slot_at files node.file) node.serial
