-- How the lines of a tree end where nothing fails.
use Rattle.std.proofs.Common.{◌≡◌, ◌⊎◌, inl, inr, ℕ, zero, suc, ◌^◌, false, List, [], ◌∷◌, Option, Some, None, Result, Ok, Err, refl, sym, ◌∙◌, ap, subst, arith}
use Rattle.std.specs.Prelude.{IsSome}
use Rattle.adf_format.specs.Tree.{Tree}
use Rattle.adf_library.specs.Library.{shelf_devices, shelf_files}
use Rattle.adf_library.specs.Shelf.{PlaceState, SlotState, device_at}
use Rattle.adf_library.specs.Shelf.PlaceState.{There, Taken, Gone}
use Rattle.adf_model.proofs.Basics.{same_Some}
use Rattle.adf_model.specs.Counts.{Rose}
use Rattle.adf_model.specs.Runs.{Makes}
use Rattle.adf_model.specs.Slots as model
use Rattle.adf_model.specs.Slots.{Device, Devices, Files, Slot, IsTold, is_gone, is_open, slot_at}
use Rattle.adf_model.specs.Steps.{HoldsTree, IsFirstOr, IsOpenRefusal, IsOpening, Stored}
use Rattle.adf_model.specs.Tests.{first_refusal}
use Rattle.adf_model.specs.declared.error.AdfError.{AdfError}
use Rattle.adf_model.specs.declared.error.AdfError.TheVariants as error
use Rattle.cg_io.specs.Device.{DeviceState}
use Rattle.tree_report.specs.Lines.{tree_lines}
use Rattle.tree_report.specs.Reports as report
use Rattle.tree_report.specs.Sights.{tree_in}
use Rattle.tree_report.specs.declared.fault.TreeFault.{TreeFault}
use Rattle.tree_report.specs.declared.fault.TreeFault.TheVariants as fault
use Rattle.tool_commands.specs.Checks.{Output}
use Rattle.tool_commands.specs.Copies as copies
use Rattle.tool_commands.specs.Copies.{copy_line, copy_status}
use Rattle.tool_commands.specs.Openings.{Outcome, opening_for}
use Rattle.tool_commands.specs.Trees.{EndsLines, PrintsFile, PrintsLines, PrintsOpened, Tells}
use Rattle.tool_commands.specs.declared.status.Status.{Status}
use Rattle.tool_commands.specs.declared.status.Status.TheVariants as status
use Rattle.tool_laws.specs.Given.{GivesTree, HasFault, HasTree}
use Rattle.tool_laws.proofs.Devices.{device_there}
use Rattle.tool_laws.proofs.Ends.{Ends, fault_not_no, memory_not_no, printed_whole}

-- ---- refusals

-- a refusal that is told ends with its status
refusal_told : (e : AdfError) (result : Status) (before now : Output) → (Rose before.faults now.faults → ⊥) → Tells e result before now → Ends result (result ≡ copy_status (Err e))
refusal_told e result before now still (copies.Tells.said some ends) = inr (printed_whole (copy_status (Err e)) (copy_line (Err e)) result before.taken now.taken before.faults now.faults still ends)
refusal_told e result before now still (copies.Tells.lacking memory same kept) = inl memory

-- it is one for want of memory, of a device, or says no
refusal_kind : (e : AdfError) → (copy_status (Err e) ≡ status.Memory) ⊎ ((copy_status (Err e) ≡ status.DeviceFault) ⊎ (copy_status (Err e) ≡ status.No))
refusal_kind error.Memory = inl refl
refusal_kind error.ReadFault = inr (inl refl)
refusal_kind error.WriteFault = inr (inl refl)
refusal_kind e = inr (inr refl)

-- ---- a file that was not opened before

raw_refusal : (slot : Slot) (before now : Device) (e : AdfError) → slot ≡ Slot.Raw
    → IsFirstOr (first_refusal ((is_gone slot, error.NoSuchFile) ∷ (is_open slot, error.AlreadyOpen) ∷ [])) e (IsOpenRefusal (Stored false) slot before now e) → IsOpenRefusal (Stored false) Slot.Raw before now e
raw_refusal Slot.Raw before now e is h = h
raw_refusal Slot.Gone before now e is h = absurd cc
raw_refusal (Slot.Saved tree) before now e is h = absurd cc
raw_refusal (Slot.Live opened) before now e is h = absurd cc
raw_refusal Slot.Broken before now e is h = absurd cc

-- where its opening says no, it has a fault
raw_fault : (image : List ℕ) (before now : Device) (e : AdfError) → before.held ≡ Some image → IsOpenRefusal (Stored false) Slot.Raw before now e → copy_status (Err e) ≡ status.No → HasFault image
raw_fault image before now error.Memory held h says = absurd (memory_not_no says)
raw_fault image before now error.ReadFault held h says = absurd (fault_not_no says)
raw_fault image before now (error.Layout rule place) held h says = (record { rule = rule; place = place }, h.1 image held)
raw_fault image before now e held h says = absurd h

opening_fault : (files after : Files) (before now : Devices) (number limit : ℕ) (image : List ℕ) (e : AdfError) → slot_at files number ≡ Slot.Raw → (model.device_at before number).held ≡ Some image
    → IsOpening files before number (Stored false) limit (Err e) now after → copy_status (Err e) ≡ status.No → HasFault image
opening_fault files after before now number limit image error.Memory raw held h says = absurd (memory_not_no says)
opening_fault files after before now number limit image e raw held h says =
    raw_fault image (model.device_at before number) (model.device_at now number) e held (raw_refusal (slot_at files number) (model.device_at before number) (model.device_at now number) e raw h.0) says

-- where it is opened, it lays out a tree
raw_tree : (slot : Slot) (held : Option (List ℕ)) (image : List ℕ) (tree : Tree) → slot ≡ Slot.Raw → held ≡ Some image → HoldsTree slot held tree → HasTree image
raw_tree Slot.Raw (Some bytes) image tree is held h = subst HasTree (same_Some bytes image held) (tree, h.0.0, h.0.1)
raw_tree Slot.Raw None image tree is held h = absurd cc
raw_tree Slot.Gone bytes image tree is held h = absurd cc
raw_tree (Slot.Saved saved) bytes image tree is held h = absurd cc
raw_tree (Slot.Live opened) bytes image tree is held h = absurd cc
raw_tree Slot.Broken bytes image tree is held h = absurd cc

opening_tree : (files after : Files) (before now : Devices) (number limit : ℕ) (image : List ℕ) → slot_at files number ≡ Slot.Raw → (model.device_at before number).held ≡ Some image
    → IsOpening files before number (Stored false) limit (Ok tt) now after → HasTree image
opening_tree files after before now number limit image raw held h = raw_tree (slot_at files number) (model.device_at before number).held image h.0.tree raw held h.3.0

-- ---- files of a shelf

slot_there : (slots : List SlotState) (n : ℕ) (device : DeviceState) → device_at slots n ≡ Some device → slot_at (shelf_files slots) n ≡ Slot.Raw
slot_there [] n device is = absurd cc
slot_there (x ∷ xs) zero device is = by_place x.place is
  where
    by_place : (place : PlaceState) → device_at (record { name = x.name; place = place } ∷ xs) zero ≡ Some device → slot_at (shelf_files (record { name = x.name; place = place } ∷ xs)) zero ≡ Slot.Raw
    by_place (There there) is = refl
    by_place Taken is = absurd cc
    by_place (Gone last) is = absurd cc
slot_there (x ∷ xs) (suc n) device is = slot_there xs n device is

some_there : {X : Type 0} (one : Option X) (x : X) → one ≡ Some x → IsSome one
some_there None x is = absurd cc
some_there (Some y) x is = refl

pub some_device : (one : Option DeviceState) → IsSome one → (device : DeviceState) × (one ≡ Some device)
some_device None some = absurd cc
some_device (Some device) some = (device, refl)

-- ---- the lines

module _ (slots : List SlotState) (n : ℕ) (device : DeviceState) (there : device_at slots n ≡ Some device) (result : Status) (apart : result ≡ status.DeviceFault → ⊥) (quiet : result ≡ status.SinkFault → ⊥) where
  held_there : (image : List ℕ) → device.held ≡ Some image → (model.device_at (shelf_devices slots) n).held ≡ Some image
  held_there image held = ap (λ (d : Device). d.held) (device_there slots n device there) ∙ held

  opening_there : (outcome : Outcome) (devices : Devices) (files : Files) (image : List ℕ) → device.held ≡ Some image → Makes (shelf_files slots) (shelf_devices slots) (opening_for n outcome) devices files
      → IsOpening (shelf_files slots) (shelf_devices slots) n (Stored false) (2 ^ 32) outcome devices files
  opening_there outcome devices files image held made = (made.step (λ stands. some_there _ image (held_there image held))).0

  -- a refusal says no, and is that of a file with a fault or of files that do not tell
  refused_given : (e : AdfError) → Ends result (result ≡ copy_status (Err e)) → (copy_status (Err e) ≡ status.No → GivesTree n slots status.No) → Ends result (GivesTree n slots result)
  refused_given e (inl memory) given = inl memory
  refused_given e (inr is) given = by_kind (refusal_kind e)
    where
      by_kind : (copy_status (Err e) ≡ status.Memory) ⊎ ((copy_status (Err e) ≡ status.DeviceFault) ⊎ (copy_status (Err e) ≡ status.No)) → Ends result (GivesTree n slots result)
      by_kind (inl memory) = inl (is ∙ memory)
      by_kind (inr (inl failed)) = absurd (apart (is ∙ failed))
      by_kind (inr (inr says)) = inr (subst (GivesTree n slots) (sym (is ∙ says)) (given says))

  lines_given : (files : Files) (devices now : Devices) (after : Files) (taken later : Output) → (Rose taken.faults later.faults → ⊥) → Makes (shelf_files slots) (shelf_devices slots) (opening_for n (Ok tt)) devices files
      → PrintsLines n result files devices now after taken later → Ends result (GivesTree n slots result)
  lines_given files devices now after taken later still made p = by_answer p.answer p.ends p.told
    where
      calm : Rose p.said.faults later.faults → ⊥
      calm rose = still (let low = p.rises in omega (arith, low, rose))

      by_answer : (answer : Result Unit TreeFault) → EndsLines answer result p.said later → (IsTold files devices → report.Reports (tree_lines (tree_in files n)) answer taken.taken p.said.taken) → Ends result (GivesTree n slots result)
      by_answer (Ok done) ends told =
          inr (inl (
            ends.0,
            (
              device,
              there,
              λ image held. opening_tree (shelf_files slots) files (shelf_devices slots) devices n (2 ^ 32) image (slot_there slots n device there) (held_there image held)
                  (opening_there (Ok tt) devices files image held made),
            ),
          ))
      by_answer (Err fault.Memory) ends told = inl ends.0
      by_answer (Err fault.Sink) ends told = absurd (quiet ends.0)
      by_answer (Err fault.Read) ends told = refused_given error.ReadFault (refusal_told error.ReadFault result p.said later calm ends) (λ says. absurd (fault_not_no says))
      by_answer (Err (fault.Core e)) ends told =
          refused_given e (refusal_told e result p.said later calm ends) (λ says. inr (refl, inr (λ all. (told (λ k. made.layouts.told k (all k))).2)))

  opened_given : (outcome : Outcome) (files : Files) (devices now : Devices) (after : Files) (taken later : Output) → (Rose taken.faults later.faults → ⊥) → Makes (shelf_files slots) (shelf_devices slots) (opening_for n outcome) devices files
      → PrintsOpened n outcome result files devices now after taken later → Ends result (GivesTree n slots result)
  opened_given (Ok done) files devices now after taken later still made p = lines_given files devices now after taken later still made p
  opened_given (Err e) files devices now after taken later still made p =
      refused_given e (refusal_told e result taken later still p.2) (λ says. inr (
        refl,
        inl (
          device,
          there,
          λ image held.
              opening_fault (shelf_files slots) files (shelf_devices slots) devices n (2 ^ 32) image e (slot_there slots n device there) (held_there image held) (opening_there (Err e) devices files image held made) says,
        ),
      ))

  pub tree_given : (before now : Output) → (Rose before.faults now.faults → ⊥) → (files : Files) (devices : Devices) → PrintsFile n result (shelf_files slots) (shelf_devices slots) devices files before now → Ends result (GivesTree n slots result)
  tree_given before now still files devices p = opened_given p.outcome p.middle p.opened devices files before now still p.opens p.prints
