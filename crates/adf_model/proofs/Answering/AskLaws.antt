-- What calls that only ask leave, and why queries are refused.
use Rattle.std.proofs.Common.{◌≡◌, ◌≢◌, ℕ, Bool, true, false, refl, sym, ◌∙◌, ap, subst, arith}
use Rattle.std.specs.Prelude.{Option, Some, None, IsSome, IsTrue, Result, Ok, Err}
use Rattle.adf_format.specs.LaysOut.{LaysOut}
use Rattle.adf_model.specs.declared.error.AdfError.{AdfError}
use Rattle.adf_model.specs.declared.error.AdfError.TheVariants.{Memory, ReadFault, WriteFault, NotOpen, NoSuchFile, NoSuchNode, NotAChild, NoData, BadRange, LinkMissing, LinkChain, NotALink, Layout, TooLarge, NotFound, Full, OtherFile}
use Rattle.adf_model.specs.declared.tree.Query.{Query}
use Rattle.adf_model.specs.declared.tree.Reply.{Reply}
use Rattle.adf_model.specs.Slots.{Slot, Files, Device, Devices, slot_at, device_at, is_gone, IsToldAt}
use Rattle.adf_model.specs.Slots.Slot.{Saved, Live}
use Rattle.adf_model.specs.Answers.{asked_node, goes_through_links, may_refuse}
use Rattle.adf_model.specs.Steps.{SomeFault, HasReadFault, HasReadCause, HasQueryCause, is_query_error, IsLaidOut, IsLaidOutAt}
use Rattle.adf_model.specs.Causes.{OnlyAsks}
use Rattle.adf_model.specs.Runs.{KeepsLayouts}
use Rattle.adf_model.proofs.Basics.{not_true}
use Rattle.adf_model.proofs.Answering.Asking.{stays-trans}

not_None : (n : ℕ) → ◌≢◌ {A = Option ℕ} (Some n) None
not_None n e = cc

told_still : (slot other : Slot) (before now : Device) → other ≡ slot → now.held ≡ before.held → IsToldAt slot before → IsToldAt other now
told_still slot other before now same held told there = subst IsSome (sym held) (told (sym (ap is_gone same) ∙ there))

-- a layout hangs on the bytes and the placement alone
laid_still : (slot : Slot) (before now : Device) (held : Option _) → now.placement ≡ before.placement → IsLaidOut slot before held → IsLaidOut slot now held
laid_still (Saved tree) before now (Some image) placed laid = laid
laid_still (Live opened) before now (Some image) placed laid = subst (LaysOut image opened.tree) (sym placed) laid
laid_still slot before now held placed laid = search

laid_too : (slot other : Slot) (before now : Device) → other ≡ slot → now.held ≡ before.held → now.placement ≡ before.placement → IsLaidOutAt slot before → IsLaidOutAt other now
laid_too slot other before now same held placed laid = subst (λ (s : Slot). IsLaidOutAt s now) (sym same) (subst (IsLaidOut slot now) (sym held) (laid_still slot before now before.held placed laid))

pub asks_keep : (files after : Files) (before now : Devices) → OnlyAsks files before now after → KeepsLayouts files before now after
asks_keep files after before now h = record {
  told = λ n told. told_still (slot_at files n) (slot_at after n) (device_at before n) (device_at now n) (ap (λ (f : Files). slot_at f n) h.files_stay) (h.devices_stay.others n (not_None n)).held told;
  laid_out = λ n laid. laid_too (slot_at files n) (slot_at after n) (device_at before n) (device_at now n) (ap (λ (f : Files). slot_at f n) h.files_stay) (h.devices_stay.others n (not_None n)).held (h.placed n (not_None n)) laid;
}

pub asks_none : (files : Files) (devices : Devices) → OnlyAsks files devices devices files
asks_none files devices = record {
  files_stay = refl;
  devices_stay = record {
    count = refl;
    others = λ n apart. record { held = refl; faults = omega arith; lost = refl; reads = omega arith; writes = refl };
    counts = λ n. record { faults = omega arith; lost = omega arith; reads = omega arith; writes = omega arith };
  };
  placed = λ n apart. refl;
}

pub asks_more : (files middle after : Files) (before between now : Devices) → OnlyAsks files before between middle → OnlyAsks middle between now after → OnlyAsks files before now after
asks_more files middle after before between now first then = record {
  files_stay = then.files_stay ∙ first.files_stay;
  devices_stay = stays-trans before between now first.devices_stay then.devices_stay;
  placed = λ n apart. then.placed n apart ∙ first.placed n apart;
}

-- ---- queries

pub may_is_query : (query : Query) (error : AdfError) → IsTrue (may_refuse query error) → IsTrue (is_query_error error)
may_is_query query Memory h = refl
may_is_query query ReadFault h = refl
may_is_query query AdfError.Broken h = refl
may_is_query query NotOpen h = refl
may_is_query query NoSuchFile h = refl
may_is_query query NoSuchNode h = refl
may_is_query query NotAChild h = refl
may_is_query query NoData h = refl
may_is_query query BadRange h = refl
may_is_query query LinkMissing h = refl
may_is_query query LinkChain h = refl
may_is_query query NotALink h = refl
may_is_query query (Layout rule place) h = refl
may_is_query query TooLarge h = refl
may_is_query query NotFound h = refl
may_is_query (Query.Name node) error h = absurd (not_true h)
may_is_query (Query.LabelOf node) error h = absurd (not_true h)
may_is_query (Query.ShapeOf node) error h = absurd (not_true h)
may_is_query (Query.ChildrenOf node) error h = absurd (not_true h)
may_is_query (Query.LinkText node) error h = absurd (not_true h)
may_is_query (Query.ReadAll node) error h = absurd (not_true h)
may_is_query (Query.ReadPart node selection) error h = absurd (not_true h)
may_is_query (Query.Find node path) error h = absurd (not_true h)
may_is_query (Query.Next node) error h = absurd (not_true h)
may_is_query (Query.FormatOf node) error h = absurd (not_true h)
may_is_query (Query.Parent node) error h = absurd (not_true h)
may_is_query (Query.Target node) error h = absurd (not_true h)

some_fault : (linked : Bool) (file : ℕ) (files : Files) (before now : Devices) → HasReadFault linked file files before now → SomeFault before now
some_fault true file files before now h = (h.0, h.2)
some_fault false file files before now h = (file, h)

pub query_is_read : (files : Files) (query : Query) (before now : Devices) (result : Result Reply AdfError) → HasQueryCause files query before now result → HasReadCause before now result
query_is_read files query before now (Ok reply) h = tt
query_is_read files query before now (Err ReadFault) h = some_fault (goes_through_links query) (asked_node query).file files before now h
query_is_read files query before now (Err (Layout rule place)) h = h
query_is_read files query before now (Err error) h = may_is_query query error h

pub query_no_room : (files : Files) (query : Query) (before now : Devices) (asked end : ℕ) → HasQueryCause {A = Reply} files query before now (Err (Full asked end)) → ⊥
query_no_room files query before now asked end h = not_true (may_is_query query (Full asked end) h)

pub query_no_other_file : (files : Files) (query : Query) (before now : Devices) → HasQueryCause {A = Reply} files query before now (Err OtherFile) → ⊥
query_no_other_file files query before now h = not_true (may_is_query query OtherFile h)

pub query_no_write : (files : Files) (query : Query) (before now : Devices) → HasQueryCause {A = Reply} files query before now (Err WriteFault) → ⊥
query_no_write files query before now h = not_true (may_is_query query WriteFault h)
