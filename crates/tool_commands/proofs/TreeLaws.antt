-- What the lines of a tree leave of files, of their devices and of a shelf, and what their status tells.
use Rattle.std.proofs.Common.{◌≡◌, ◌≢◌, ℕ, ◌≤◌, true, false, List, [], ◌∷◌, map, sym, ◌∙◌, ap, subst, arith, le_trans}
use Rattle.std.specs.Prelude.{None, Result, Ok, Err}
use Rattle.adf_model.specs.declared.error.AdfError.{AdfError}
use Rattle.adf_model.specs.declared.error.AdfError.TheVariants as error
use Rattle.adf_model.specs.Counts.{Rose}
use Rattle.adf_model.specs.NamedRules.{NamesRule}
use Rattle.adf_model.specs.Runs.{Makes}
use Rattle.adf_model.specs.Slots.{Slot, Files, Devices, device_at, is_broken, is_gone, is_open, names_there, slot_at}
use Rattle.adf_model.specs.Slots.Slot.{Gone, Raw, Saved, Live}
use Rattle.adf_model.specs.Steps.{IsFirstOr, OthersOnlyRead, SomeFault}
use Rattle.adf_model.specs.Tests.{first_refusal}
use Rattle.adf_model.proofs.Answering.Asking.{stays-trans}
use Rattle.adf_model.proofs.Answering.RuleNames.{rules_named}
use Rattle.adf_model.proofs.Basics.{not_true}
use Rattle.adf_library.specs.Library.{shelf_files, shelf_devices, standing_name, unplaced}
use Rattle.adf_library.specs.Shelf.{SlotState}
use Rattle.tree_report.specs.declared.fault.TreeFault.{TreeFault}
use Rattle.tree_report.specs.declared.fault.TreeFault.TheVariants as fault
use Rattle.tree_report.specs.Reports.{HasTreeCause, IsCore}
use Rattle.tree_report.proofs.Opened.{reads_opened}
use Rattle.tool_commands.specs.Checks.{Output}
use Rattle.tool_commands.specs.Copies.{copy_line, copy_status}
use Rattle.tool_commands.specs.Copies.Tells.{said, lacking}
use Rattle.tool_commands.specs.Openings.{Outcome, opening_for}
use Rattle.tool_commands.specs.Trees.{EndsLines, HasNamedRule, PrintsFile, PrintsOpened, Tells, TreeEnds}
use Rattle.tool_commands.specs.declared.status.Status.{Status}
use Rattle.tool_commands.specs.declared.status.Status.TheVariants as status
use Rattle.tool_commands.proofs.CheckedLaws.{printed_fault, printed_sink}
use Rattle.tool_commands.proofs.CheckedShelves.{fault_left, reads_left}
use Rattle.tool_commands.proofs.OpeningLaws.{fault_rose, opening_reads, then_fault, then_rose}
use Rattle.tool_commands.proofs.Sessions.{entry_names}

-- ---- openings

-- a file that was opened may be read
pub done_opens : (files after : Files) (before now : Devices) (number : ℕ) → Makes files before (opening_for number (Ok tt)) now after → (is_open (slot_at after number) ≡ true) × (is_broken (slot_at after number) ≡ false)
done_opens files after before now number made = reads_opened files after before now number made.anyway.standing made.anyway.cause

-- the refusal of an opening names a rule of the layout, if any
pub refusal_named : (files after : Files) (before now : Devices) (number : ℕ) (e : AdfError) → Makes files before (opening_for number (Err e)) now after → NamesRule e
refusal_named files after before now number e made = rules_named files after before now (opening_for number (Err e)) made.anyway

-- ---- refusals

core_named : (e : AdfError) → IsCore e → NamesRule e
core_named (error.Layout rule place) h = h
core_named e h = tt

-- a refusal of the core names a rule of the layout, if any
pub answer_named : (files : Files) (before now : Devices) (faults later : ℕ) (answer : Result Unit TreeFault) → HasTreeCause files before now faults later answer → HasNamedRule answer
answer_named files before now faults later (Err (fault.Core e)) cause = core_named e cause
answer_named files before now faults later answer cause = tt

-- a refusal of the core is no fault of a device
core_no_fault : (e : AdfError) → IsCore e → copy_status (Err e) ≢ status.DeviceFault
core_no_fault error.Memory core is = core
core_no_fault error.ReadFault core is = core
core_no_fault error.WriteFault core is = not_true core
core_no_fault e core is = cc

no_sink : (e : AdfError) → copy_status (Err e) ≢ status.SinkFault
no_sink error.Memory is = cc
no_sink error.ReadFault is = cc
no_sink error.WriteFault is = cc
no_sink e is = cc

no_write : (slot : Slot) → IsFirstOr (first_refusal ((is_gone slot, error.NoSuchFile) ∷ (is_open slot, error.AlreadyOpen) ∷ [])) error.WriteFault ⊥ → ⊥
no_write Gone cause = cc
no_write Raw cause = cause
no_write (Saved tree) cause = cause
no_write (Live opened) cause = cc
no_write Slot.Broken cause = cc

-- an opening that is refused as a fault of a device has one
opening_failed : (files after : Files) (before now : Devices) (number : ℕ) (e : AdfError) → Makes files before (opening_for number (Err e)) now after → copy_status (Err e) ≡ status.DeviceFault → SomeFault before now
opening_failed files after before now number error.ReadFault made is = (number, fault_rose (slot_at files number) (device_at before number) (device_at now number) made.anyway.cause)
opening_failed files after before now number error.WriteFault made is = absurd (no_write (slot_at files number) made.anyway.cause)
opening_failed files after before now number error.Memory made is = absurd cc
opening_failed files after before now number e made is = absurd cc

-- ---- what is told

module _ (e : AdfError) (result : Status) (before after : Output) where
  told_fault : Tells e result before after → result ≡ status.DeviceFault → copy_status (Err e) ≡ status.DeviceFault
  told_fault (said have prints) is = printed_fault (copy_status (Err e)) (copy_line (Err e)) result before after prints is
  told_fault (lacking so taken faults) is = absurd (apart (sym so ∙ is))
    where
      apart : status.Memory ≡ status.DeviceFault → ⊥
      apart e = cc

  told_sink : Tells e result before after → result ≡ status.SinkFault → Rose before.faults after.faults
  told_sink (said have prints) is = printed_sink (copy_status (Err e)) (copy_line (Err e)) result before after prints (no_sink e) is
  told_sink (lacking so taken faults) is = absurd (apart (sym so ∙ is))
    where
      apart : status.Memory ≡ status.SinkFault → ⊥
      apart e = cc

  told_later : Tells e result before after → before.faults ≤ after.faults
  told_later (said have prints) = prints.0
  told_later (lacking so taken faults) = omega (arith, faults)

-- ---- the end of the lines

module _ (files : Files) (devices now : Devices) (result : Status) (before between after : Output) where
  same_later : after ≡ between → between.faults ≤ after.faults
  same_later is = let e = ap (λ (o : Output). o.faults) is in omega (arith, e)

  ends_fault : (answer : Result Unit TreeFault) → HasTreeCause files devices now before.faults between.faults answer → EndsLines answer result between after → result ≡ status.DeviceFault → SomeFault devices now
  ends_fault (Ok done) cause ends is = absurd (apart (sym ends.0 ∙ is))
    where
      apart : status.Done ≡ status.DeviceFault → ⊥
      apart e = cc
  ends_fault (Err fault.Memory) cause ends is = absurd (apart (sym ends.0 ∙ is))
    where
      apart : status.Memory ≡ status.DeviceFault → ⊥
      apart e = cc
  ends_fault (Err fault.Sink) cause ends is = absurd (apart (sym ends.0 ∙ is))
    where
      apart : status.SinkFault ≡ status.DeviceFault → ⊥
      apart e = cc
  ends_fault (Err fault.Read) cause ends is = (cause.0, cause.2)
  ends_fault (Err (fault.Core e)) cause ends is = absurd (core_no_fault e cause (told_fault e result between after ends is))

  ends_sink : (answer : Result Unit TreeFault) → HasTreeCause files devices now before.faults between.faults answer → before.faults ≤ between.faults → EndsLines answer result between after → result ≡ status.SinkFault
      → Rose before.faults after.faults
  ends_sink (Ok done) cause rises ends is = absurd (apart (sym ends.0 ∙ is))
    where
      apart : status.Done ≡ status.SinkFault → ⊥
      apart e = cc
  ends_sink (Err fault.Memory) cause rises ends is = absurd (apart (sym ends.0 ∙ is))
    where
      apart : status.Memory ≡ status.SinkFault → ⊥
      apart e = cc
  ends_sink (Err fault.Sink) cause rises ends is = subst (λ (o : Output). Rose before.faults o.faults) (sym ends.1) cause
  ends_sink (Err fault.Read) cause rises ends is = then_rose _ _ _ rises (told_sink error.ReadFault result between after ends is)
  ends_sink (Err (fault.Core e)) cause rises ends is = then_rose _ _ _ rises (told_sink e result between after ends is)

  ends_later : (answer : Result Unit TreeFault) → EndsLines answer result between after → between.faults ≤ after.faults
  ends_later (Ok done) ends = same_later ends.1
  ends_later (Err fault.Memory) ends = same_later ends.1
  ends_later (Err fault.Sink) ends = same_later ends.1
  ends_later (Err fault.Read) ends = told_later error.ReadFault result between after ends
  ends_later (Err (fault.Core e)) ends = told_later e result between after ends

-- ---- behind the opening

module _ (number : ℕ) (result : Status) (files : Files) (devices now : Devices) (after : Files) (taken later : Output) where
  behind_reads : (before : Devices) (outcome : Outcome) → OthersOnlyRead None before devices → PrintsOpened number outcome result files devices now after taken later → OthersOnlyRead None before now
  behind_reads before (Ok done) reads prints = stays-trans before devices now reads prints.asks.devices_stay
  behind_reads before (Err e) reads prints = subst (OthersOnlyRead None before) (sym prints.0) reads

  behind_stays : (outcome : Outcome) → PrintsOpened number outcome result files devices now after taken later → after ≡ files
  behind_stays (Ok done) prints = prints.asks.files_stay
  behind_stays (Err e) prints = prints.1

  behind_fault : (first : Files) (before : Devices) (outcome : Outcome) → Makes first before (opening_for number outcome) devices files → PrintsOpened number outcome result files devices now after taken later
      → result ≡ status.DeviceFault → SomeFault before now
  behind_fault first before (Ok done) made prints is =
      then_fault before devices now (opening_reads number (Ok done) before devices made.anyway.writes) (ends_fault files devices now result taken prints.said later prints.answer prints.cause prints.ends is)
  behind_fault first before (Err e) made prints is =
      subst (SomeFault before) (sym prints.0) (opening_failed first files before devices number e made (told_fault e result taken later prints.2 is))

  behind_sink : (outcome : Outcome) → PrintsOpened number outcome result files devices now after taken later → result ≡ status.SinkFault → Rose taken.faults later.faults
  behind_sink (Ok done) prints is = ends_sink files devices now result taken prints.said later prints.answer prints.cause prints.rises prints.ends is
  behind_sink (Err e) prints is = told_sink e result taken later prints.2 is

  behind_later : (outcome : Outcome) → PrintsOpened number outcome result files devices now after taken later → taken.faults ≤ later.faults
  behind_later (Ok done) prints = le_trans prints.rises (ends_later files devices now result taken prints.said later prints.answer prints.ends)
  behind_later (Err e) prints = told_later e result taken later prints.2

-- ---- what is left of a shelf

-- what was printed, once all files are closed
pub tree_ended : (number : ℕ) (result : Status) (old new : List SlotState) (files left : Files) (devices now : Devices) (before after : Output)
    → files ≡ shelf_files old → devices ≡ shelf_devices old → PrintsFile number result files devices now left before after
    → shelf_devices new ≡ map unplaced now → map standing_name new ≡ names_there left → TreeEnds number result old new before after
tree_ended number result old new files left devices now before after files_are devices_are given devices_left names_are = record {
  files = left;
  devices = now;
  prints = p;
  left = devices_left;
  names = names_are ∙ ap names_there (behind_stays number result p.middle p.opened now left before after p.outcome p.prints) ∙ p.opens.anyway.names ∙ entry_names old;
  reads = reads_left (shelf_devices old) now (shelf_devices new) devices_left
      (behind_reads number result p.middle p.opened now left before after (shelf_devices old) p.outcome (opening_reads number p.outcome (shelf_devices old) p.opened p.opens.anyway.writes) p.prints);
  fault = λ is. fault_left (shelf_devices old) now (shelf_devices new) devices_left
      (behind_fault number result p.middle p.opened now left before after (shelf_files old) (shelf_devices old) p.outcome p.opens p.prints is);
  sink = behind_sink number result p.middle p.opened now left before after p.outcome p.prints;
  later = behind_later number result p.middle p.opened now left before after p.outcome p.prints;
}
  where
    p : PrintsFile number result (shelf_files old) (shelf_devices old) now left before after
    p = subst (λ (fs : Files). PrintsFile number result fs (shelf_devices old) now left before after) files_are
        (subst (λ (ds : Devices). PrintsFile number result files ds now left before after) devices_are given)
