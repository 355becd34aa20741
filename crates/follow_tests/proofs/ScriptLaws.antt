-- Scripted files: nothing waits in them, and no device of theirs tells.
use Rattle.std.proofs.Common.{◌≡◌, ℕ, zero, suc, false, List, [], ◌∷◌, map, refl, sym, ap, subst}
use Rattle.std.specs.Prelude.{Some, None, IsSome, slice_get}
use Rattle.adf_model.specs.Slots.{Slot, Standing, standing_of, Files, Device, Devices, slot_at, open_of, open_at, with_slot, device_at, no_device, is_gone}
use Rattle.adf_model.specs.Steps.{IsLaidOut, IsLaidOutAt, AllLaidOut}
use Rattle.adf_model.proofs.Basics.{not_true}
use Rattle.adf_follow.specs.Groups.{at_rest, OnlyWaits, WaitsIn}
use Rattle.adf_follow.specs.Looking.{IsToldIn}
use Rattle.adf_follow.proofs.Waits as waits
use Rattle.adf_follow.proofs.Dropped as dropped
use Rattle.follow_tests.specs.declared.kept.KeptFile.{KeptFile}
use Rattle.follow_tests.specs.declared.kept.State.{State}
use Rattle.follow_tests.specs.declared.kept.State.TheVariants as state
use Rattle.adf_model.specs.declared.tree.NodeId.{NodeId}
use Rattle.follow_tests.specs.declared.scripted.Test.{Test}
use Rattle.follow_tests.specs.Kept.{file_of, slot_of}
use Rattle.follow_tests.specs.Scripted.{slot_fails, fails}
use Rattle.follow_tests.proofs.KeptLaws.{slot_there, no_slot}

pub waits_none : (files : Files) (devices : Devices) → OnlyWaits files devices devices files
waits_none files devices = waits.waits_none files devices

pub same_slot : (files : Files) (number : ℕ) → files ≡ with_slot files number (slot_at files number)
same_slot files number = sym (dropped.as_it_is files number)

silent_at : (files : List KeptFile) (number : ℕ) → device_at (map (λ (file : KeptFile). no_device) files) number ≡ no_device
silent_at [] zero = refl
silent_at [] (suc number) = refl
silent_at (file ∷ files) zero = refl
silent_at (file ∷ files) (suc number) = silent_at files number

pub rests : (files : List KeptFile) (number : ℕ) → at_rest no_device ≡ at_rest (device_at (map (λ (file : KeptFile). no_device) files) number)
rests files number = ap at_rest (sym (silent_at files number))

there : (slot : Slot) → IsSome (open_of slot) → is_gone slot ≡ false
there (Slot.Live opened) some = refl
there Slot.Gone some = absurd (not_true some)
there Slot.Raw some = refl
there (Slot.Saved tree) some = refl
there Slot.Broken some = refl

pub never_told : (files : List KeptFile) (number : ℕ) → IsSome (open_at (map file_of files) number) → IsToldIn (map file_of files) (map (λ (file : KeptFile). no_device) files) number → ⊥
never_told files number some told = by_device (device_at (map (λ (file : KeptFile). no_device) files) number) (silent_at files number) (told (there (slot_at (map file_of files) number) some))
  where
    by_device : (device : Device) → device ≡ no_device → IsSome device.held → ⊥
    by_device device e some = not_true (subst (λ (d : Device). IsSome d.held) e some)

-- what is open may be edited
pub editing : (files : List KeptFile) (number : ℕ) → IsSome (open_at (map file_of files) number) → standing_of (slot_at (map file_of files) number) ≡ Standing.Editing
editing [] zero some = absurd (not_true some)
editing [] (suc number) some = absurd (not_true some)
editing (file ∷ files) zero some = by_state file.state some
  where
    by_state : (s : State) → IsSome (open_of (slot_of s file.nodes.items)) → standing_of (slot_of s file.nodes.items) ≡ Standing.Editing
    by_state state.Open some = refl
    by_state state.Closed some = absurd (not_true some)
    by_state state.Broken some = absurd (not_true some)
editing (file ∷ files) (suc number) some = editing files number some

-- ---- the tests at entry

pub fails_there : (files : List KeptFile) (test : Test) (node : NodeId) (file : KeptFile) → Some file ≡ slice_get files node.file → slot_fails test (slot_of file.state file.nodes.items) node.serial ≡ fails (map file_of files) test node
fails_there files test node file e = ap (λ (s : Slot). slot_fails test s node.serial) (sym (slot_there files node.file file (sym e)))

pub fails_none : (files : List KeptFile) (test : Test) (node : NodeId) → None ≡ slice_get files node.file → slot_fails test Slot.Gone node.serial ≡ fails (map file_of files) test node
fails_none files test node e = ap (λ (s : Slot). slot_fails test s node.serial) (sym (no_slot files node.file (sym e)))

-- ---- before a group

pub none_wait : (files : List KeptFile) → WaitsIn None (map file_of files) (map (λ (file : KeptFile). no_device) files) (record { kept = map file_of files; work = λ number. at_rest no_device })
none_wait files = record { others = refl; rest = λ number apart. rests files number }

pub none_laid : (files : List KeptFile) → AllLaidOut (map file_of files) (map (λ (file : KeptFile). no_device) files)
none_laid files number = by_device (device_at (map (λ (file : KeptFile). no_device) files) number) (silent_at files number) (slot_at (map file_of files) number)
  where
    silent : (slot : Slot) (device : Device) → IsLaidOut slot device None
    silent Slot.Gone device = tt
    silent Slot.Raw device = tt
    silent (Slot.Saved tree) device = tt
    silent (Slot.Live opened) device = tt
    silent Slot.Broken device = tt

    by_device : (device : Device) → device ≡ no_device → (slot : Slot) → IsLaidOutAt slot device
    by_device device e slot = subst (λ (d : Device). IsLaidOutAt slot d) (sym e) (silent slot no_device)
