-- Answers of failed reads and writes are at most as many as the faults of the devices.
use Rattle.std.proofs.Common.{◌≡◌, ℕ, zero, suc, ◌+◌, ◌-◌, ◌^◌, ◌<◌, ◌≤◌, Bool, false, true, List, [], ◌∷◌, refl, sym, subst, arith, le_trans, le_refl}
use Rattle.std.specs.Prelude.{Option, Some, None, IsTrue, Result, Ok, Err, if◌then◌else◌}
use Rattle.adf_model.specs.declared.error.AdfError.{AdfError}
use Rattle.adf_model.specs.declared.error.AdfError.TheVariants.{Memory, ReadFault, WriteFault}
use Rattle.adf_model.specs.declared.error.EditError.{EditError}
use Rattle.adf_model.specs.declared.tree.Edit.{Edit}
use Rattle.adf_model.specs.declared.tree.NodeId.{NodeId}
use Rattle.adf_model.specs.declared.tree.Query.{Query}
use Rattle.adf_model.specs.Tests.{Test, first_refusal}
use Rattle.adf_model.specs.Slots.{Slot, Standing, Files, Devices, slot_at, device_at}
use Rattle.adf_model.specs.Answers.{asked_node, goes_through_links, may_refuse}
use Rattle.adf_model.specs.Counts.{Rose}
use Rattle.adf_model.specs.Steps.{SomeFault, NoCountFell, HasReadFault, HasQueryCause, IsMoved, close_tests, open_tests, DropsOne, Opening, Fresh, Stored, IsFirstOr, IsOpenRefusal, RefusalWrites, IsOpening, IsGroupRefusal, IsEdit, HasCauseOf, HasGroupCause, Call, Opened, Closed, Discarded, Asked, Changed, Skipped, Misread, IsLineError, Step}
use Rattle.adf_model.specs.Causes.{IsOpenCause, HasOpenCause, OpeningWrites, MovesStanding, RefusalLeaves, GroupLeaves, Anyway}
use Rattle.adf_model.specs.Runs.{Run}
use Rattle.adf_model.specs.FaultReplies.{fault_of, fault_in, fault_in_group, fault_reply, fault_replies, total_faults}
use Rattle.adf_model.proofs.Basics.{not_true, not_there, same_Some}

-- ---- sums of counts

abbrev NoneFewer : Devices → Devices → Type 0
NoneFewer before now = (number : ℕ) → (device_at before number).faults ≤ (device_at now number).faults

total_grows : (before now : Devices) → NoneFewer before now → total_faults before ≤ total_faults now
total_grows [] now h = omega arith
total_grows (device ∷ before) [] h = let first = h 0 in let rest = total_grows before [] (λ n. h (suc n)) in omega (arith, first, rest)
total_grows (device ∷ before) (other ∷ now) h = let first = h 0 in let rest = total_grows before now (λ n. h (suc n)) in omega (arith, first, rest)

total_rises : (before now : Devices) → NoneFewer before now → (number : ℕ) → (device_at before number).faults + 1 ≤ (device_at now number).faults → total_faults before + 1 ≤ total_faults now
total_rises before [] h number rise = absurd (omega (arith, rise))
total_rises [] (other ∷ now) h zero rise = omega (arith, rise)
total_rises [] (other ∷ now) h (suc number) rise = let rest = total_rises [] now (λ n. h (suc n)) number rise in omega (arith, rest)
total_rises (device ∷ before) (other ∷ now) h zero rise = let rest = total_grows before now (λ n. h (suc n)) in omega (arith, rise, rest)
total_rises (device ∷ before) (other ∷ now) h (suc number) rise = let first = h 0 in let rest = total_rises before now (λ n. h (suc n)) number rise in omega (arith, first, rest)

abbrev pub Below : Devices → Type 0
Below devices = (number : ℕ) → (device_at devices number).faults < 2 ^ 64 - 1

-- ---- one call

module _ (before now : Devices) where
  fell_none : NoCountFell before now → NoneFewer before now
  fell_none counts number = (counts number).faults

  rose : Below now → SomeFault before now → NoCountFell before now → total_faults before + 1 ≤ total_faults now
  rose below fault counts = total_rises before now (fell_none counts) fault.0 (higher (device_at before fault.0).faults (device_at now fault.0).faults (below fault.0) fault.1)
    where
      higher : (old new : ℕ) → new < 2 ^ 64 - 1 → Rose old new → old + 1 ≤ new
      higher old new below rise = omega (arith, below, rise)

  pub stayed : NoCountFell before now → total_faults before + 0 ≤ total_faults now
  stayed counts = let h = total_grows before now (fell_none counts) in omega (arith, h)

  -- an error that is a fault has a device's fault as its cause
  abbrev Caused : AdfError → Type 0
  Caused ReadFault = SomeFault before now
  Caused WriteFault = SomeFault before now
  Caused error = Unit {0}

  counted : Below now → NoCountFell before now → (error : AdfError) → Caused error → total_faults before + fault_of error ≤ total_faults now
  counted below counts ReadFault h = rose below h counts
  counted below counts WriteFault h = rose below h counts
  counted below counts error h = stayed counts

  abbrev CausedIn : {A : Type 0} → Result A AdfError → Type 0
  CausedIn (Ok value) = Unit {0}
  CausedIn (Err error) = Caused error

  counted_in : {A : Type 0} → Below now → NoCountFell before now → (result : Result A AdfError) → CausedIn result → total_faults before + fault_in result ≤ total_faults now
  counted_in below counts (Ok value) h = stayed counts
  counted_in below counts (Err error) h = counted below counts error h

  -- a test's error is no fault
  abbrev NoFaults : List Test → Type 0
  NoFaults [] = Unit {0}
  NoFaults (test ∷ tests) = Caused test.1 × NoFaults tests

  refused_by : (tests : List Test) → NoFaults tests → (error : AdfError) → first_refusal tests ≡ Some error → Caused error
  refused_by [] none error e = absurd (not_there error e)
  refused_by (test ∷ tests) none error e = by_test test.0 (refused_by tests none.1 error) e
    where
      by_test : (b : Bool) → (first_refusal tests ≡ Some error → Caused error) → (if b then Some test.1 else first_refusal tests) ≡ Some error → Caused error
      by_test true later e = subst Caused (same_Some test.1 error e) none.0
      by_test false later e = later e

  moved_cause : (tests : List Test) → NoFaults tests → (files : Files) (slot : Slot) (number : ℕ) (result : Result Unit AdfError) (after : Files) → IsMoved tests files slot number result after → CausedIn result
  moved_cause tests none files slot number (Ok done) after h = tt
  moved_cause tests none files slot number (Err error) after h = refused_by tests none error h.0

  dropped_counts : (number : ℕ) (result : Result Unit AdfError) → DropsOne number result before now → NoCountFell before now
  dropped_counts number (Ok done) h = h.0.counts
  dropped_counts number (Err error) h = h.counts

  read_fault : (linked : Bool) (file : ℕ) (files : Files) → HasReadFault linked file files before now → SomeFault before now
  read_fault true file files h = (h.0, h.2)
  read_fault false file files h = (file, h)

  query_cause : {A : Type 0} (files : Files) (query : Query) (result : Result A AdfError) → HasQueryCause files query before now result → CausedIn result
  query_cause files query (Ok value) h = tt
  query_cause files query (Err ReadFault) h = read_fault (goes_through_links query) (asked_node query).file files h
  query_cause files query (Err WriteFault) h = absurd (no_write query h)
    where
      no_write : (query : Query) → IsTrue (may_refuse query WriteFault) → ⊥
      no_write (Query.Name node) h = not_true h
      no_write (Query.LabelOf node) h = not_true h
      no_write (Query.ShapeOf node) h = not_true h
      no_write (Query.ChildrenOf node) h = not_true h
      no_write (Query.LinkText node) h = not_true h
      no_write (Query.ReadAll node) h = not_true h
      no_write (Query.ReadPart node selection) h = not_true h
      no_write (Query.Find node path) h = not_true h
      no_write (Query.Next node) h = not_true h
      no_write (Query.FormatOf node) h = not_true h
      no_write (Query.Parent node) h = not_true h
      no_write (Query.Target node) h = not_true h
  query_cause files query (Err error) h = tt

  open_cause : (opening : Opening) (slot : Slot) (number : ℕ) (error : AdfError) → IsOpenRefusal opening slot (device_at before number) (device_at now number) error → Caused error
  open_cause opening slot number ReadFault h = (number, h)
  open_cause (Fresh wide) slot number WriteFault h = (number, h.0.faults)
  open_cause (Stored writable) slot number WriteFault h = no_write slot h
    where
      no_write : (slot : Slot) → IsOpenRefusal (Stored writable) slot (device_at before number) (device_at now number) WriteFault → Caused WriteFault
      no_write Slot.Gone h = absurd h
      no_write Slot.Raw h = absurd h
      no_write (Slot.Saved tree) h = absurd h
      no_write (Slot.Live opened) h = absurd h
      no_write Slot.Broken h = absurd h
  open_cause opening slot number error h = tt

  first_cause : (files : Files) (opening : Opening) (slot : Slot) (number : ℕ) (error : AdfError)
      → IsFirstOr (first_refusal (open_tests files number)) error (IsOpenRefusal opening slot (device_at before number) (device_at now number) error) → Caused error
  first_cause files opening slot number error h = by_first (first_refusal (open_tests files number)) refl h
    where
      by_first : (o : Option AdfError) → first_refusal (open_tests files number) ≡ o → IsFirstOr o error (IsOpenRefusal opening slot (device_at before number) (device_at now number) error) → Caused error
      by_first None e h = open_cause opening slot number error h
      by_first (Some first) e h = subst Caused (sym h) (refused_by (open_tests files number) (tt, (tt, tt)) first e)

  refusal_counts : (error : AdfError) (opening : Opening) (number : ℕ) → RefusalWrites error opening number before now → NoCountFell before now
  refusal_counts WriteFault opening number h = h.0.counts
  refusal_counts error opening number h = h.counts

  opening_counts : (files after : Files) (number : ℕ) (opening : Opening) (limit : ℕ) (result : Result Unit AdfError) → IsOpening files before number opening limit result now after → NoCountFell before now
  opening_counts files after number opening limit (Ok done) h = h.5.0.counts
  opening_counts files after number opening limit (Err Memory) h = h.1.counts
  opening_counts files after number opening limit (Err error) h = refusal_counts error opening number h.2

  opening_cause : (files after : Files) (number : ℕ) (opening : Opening) (limit : ℕ) (result : Result Unit AdfError) → IsOpening files before number opening limit result now after → CausedIn result
  opening_cause files after number opening limit (Ok done) h = tt
  opening_cause files after number opening limit (Err Memory) h = tt
  opening_cause files after number opening limit (Err error) h = first_cause files opening (slot_at files number) number error h.0

  group_counts : (files after : Files) (edits : List Edit) (at : ℕ) (error : AdfError) → IsGroupRefusal files before edits at error now after → NoCountFell before now
  group_counts files after edits at WriteFault h = h.stop.others.counts
  group_counts files after edits at error h = h.devices_stay.counts

  group_cause : (files after : Files) (edits : List Edit) (at : ℕ) (error : AdfError) → IsGroupRefusal files before edits at error now after → Caused error
  group_cause files after edits at ReadFault h = (h.cause.fault.0, h.cause.fault.2)
  group_cause files after edits at WriteFault h = (h.stop.number, h.stop.failed.faults)
  group_cause files after edits at error h = tt

  pub edit_counts : (files after : Files) (edits : List Edit) (result : Result (List NodeId) EditError) → IsEdit files before edits result now after → NoCountFell before now
  edit_counts files after edits (Ok created) h = h.others.counts
  edit_counts files after edits (Err refusal) h = group_counts files after edits refusal.at refusal.error h

  pub edit_bound : (files after : Files) (edits : List Edit) (result : Result (List NodeId) EditError) → Below now → IsEdit files before edits result now after → total_faults before + fault_in_group result ≤ total_faults now
  edit_bound files after edits (Ok created) below h = stayed (edit_counts files after edits (Ok created) h)
  edit_bound files after edits (Err refusal) below h = counted below (edit_counts files after edits (Err refusal) h) refusal.error (group_cause files after edits refusal.at refusal.error h)

  line_cause : (error : AdfError) → IsLineError error → Caused error
  line_cause ReadFault h = absurd h
  line_cause WriteFault h = absurd h
  line_cause error h = tt

  pub same_counts : now ≡ before → NoCountFell before now
  same_counts e number = record {
    faults = subst (λ (ds : Devices). (device_at before number).faults ≤ (device_at ds number).faults) (sym e) (le_refl _);
    lost = subst (λ (ds : Devices). (device_at before number).lost ≤ (device_at ds number).lost) (sym e) (le_refl _);
    reads = subst (λ (ds : Devices). (device_at before number).reads ≤ (device_at ds number).reads) (sym e) (le_refl _);
    writes = subst (λ (ds : Devices). (device_at before number).writes ≤ (device_at ds number).writes) (sym e) (le_refl _);
  }

  -- no call lets a count fall
  pub step_counts : (files after : Files) (call : Call) → Step files before call now after → NoCountFell before now
  step_counts files after (Opened number opening limit result) h = opening_counts files after number opening limit result h.0
  step_counts files after (Closed number result) h = h.1.counts
  step_counts files after (Discarded number result) h = dropped_counts number result h.1
  step_counts files after (Asked query result) h = h.3.counts
  step_counts files after (Changed edits result) h = edit_counts files after edits result h.0
  step_counts files after Skipped h = same_counts h.0
  step_counts files after (Misread error) h = same_counts h.1

  -- and one that answers a fault had one
  pub step_bound : (files after : Files) (call : Call) → Below now → Step files before call now after → total_faults before + fault_reply call ≤ total_faults now
  step_bound files after (Opened number opening limit result) below h = counted_in below (opening_counts files after number opening limit result h.0) result (opening_cause files after number opening limit result h.0)
  step_bound files after (Closed number result) below h = counted_in below h.1.counts result (moved_cause (close_tests files number) (tt, (tt, tt)) files _ number result after h.0)
  step_bound files after (Discarded number result) below h = counted_in below (dropped_counts number result h.1) result (moved_cause (open_tests files number) (tt, (tt, tt)) files Slot.Gone number result after h.0)
  step_bound files after (Asked query result) below h = counted_in below h.3.counts result (query_cause files query result h.1)
  step_bound files after (Changed edits result) below h = edit_bound files after edits result below h.0
  step_bound files after Skipped below h = stayed (same_counts h.0)
  step_bound files after (Misread error) below h = counted below (same_counts h.1) error (line_cause error h.0)

-- ---- one call, whether devices tell or not

module _ (before now : Devices) (files after : Files) where
  any_open_cause : (opening : Opening) (number : ℕ) (error : AdfError) → IsOpenCause opening (device_at before number) (device_at now number) error → Caused before now error
  any_open_cause opening number ReadFault h = (number, h)
  any_open_cause (Fresh wide) number WriteFault h = (number, h.faults)
  any_open_cause (Stored writable) number WriteFault h = absurd h
  any_open_cause opening number error h = tt

  any_opened : (opening : Opening) (number : ℕ) (result : Result Unit AdfError) → HasOpenCause files number opening before now result → CausedIn before now result
  any_opened opening number (Ok done) h = tt
  any_opened opening number (Err Memory) h = tt
  any_opened opening number (Err error) h = by_first (first_refusal (open_tests files number)) refl h
    where
      by_first : (o : Option AdfError) → first_refusal (open_tests files number) ≡ o → IsFirstOr o error (IsOpenCause opening (device_at before number) (device_at now number) error) → Caused before now error
      by_first None e h = any_open_cause opening number error h
      by_first (Some first) e h = subst (Caused before now) (sym h) (refused_by before now (open_tests files number) (tt, (tt, tt)) first e)

  any_open_counts : (opening : Opening) (number : ℕ) (result : Result Unit AdfError) → OpeningWrites result opening number before now → NoCountFell before now
  any_open_counts opening number (Ok done) h = h.0.counts
  any_open_counts opening number (Err error) h = refusal_counts before now error opening number h

  any_moved : (tests : List Test) → NoFaults before now tests → (standing : Standing) (number : ℕ) (result : Result Unit AdfError) → MovesStanding tests standing number result files after → CausedIn before now result
  any_moved tests none standing number (Ok done) h = tt
  any_moved tests none standing number (Err error) h = refused_by before now tests none error h.0

  any_refusal_counts : (error : AdfError) (edits : List Edit) → RefusalLeaves error files before edits now after → NoCountFell before now
  any_refusal_counts WriteFault edits h = h.others.counts
  any_refusal_counts error edits h = h.1.counts

  any_group_counts : (edits : List Edit) (result : Result (List NodeId) EditError) → GroupLeaves result files before edits now after → NoCountFell before now
  any_group_counts edits (Ok created) h = h.others.counts
  any_group_counts edits (Err refusal) h = any_refusal_counts refusal.error edits h

  any_group_cause : (edits : List Edit) (error : AdfError) → RefusalLeaves error files before edits now after → HasCauseOf files before now error → Caused before now error
  any_group_cause edits ReadFault left h = (h.0, h.2)
  any_group_cause edits WriteFault left h = (left.number, left.failed.faults)
  any_group_cause edits error left h = tt

  -- no call lets a count fall
  pub any_counts : (call : Call) → Anyway files before call now after → NoCountFell before now
  any_counts (Opened number opening limit result) h = any_open_counts opening number result h.writes
  any_counts (Closed number result) h = h.devices.counts
  any_counts (Discarded number result) h = dropped_counts before now number result h.devices
  any_counts (Asked query result) h = h.leaves.devices_stay.counts
  any_counts (Changed edits result) h = any_group_counts edits result h.leaves
  any_counts Skipped h = same_counts before now h.0
  any_counts (Misread error) h = same_counts before now h.1

  any_group_bound : (edits : List Edit) (result : Result (List NodeId) EditError) → Below now → GroupLeaves result files before edits now after → HasGroupCause files before now result → total_faults before + fault_in_group result ≤ total_faults now
  any_group_bound edits (Ok created) below left h = stayed before now (any_group_counts edits (Ok created) left)
  any_group_bound edits (Err refusal) below left h = counted before now below (any_group_counts edits (Err refusal) left) refusal.error (any_group_cause edits refusal.error left h)

  -- and one that answers a fault had one
  pub any_bound : (call : Call) → Below now → Anyway files before call now after → total_faults before + fault_reply call ≤ total_faults now
  any_bound (Opened number opening limit result) below h = counted_in before now below (any_open_counts opening number result h.writes) result (any_opened opening number result h.cause)
  any_bound (Closed number result) below h = counted_in before now below h.devices.counts result (any_moved (close_tests files number) (tt, (tt, tt)) Standing.Closed number result h.standing)
  any_bound (Discarded number result) below h = counted_in before now below (dropped_counts before now number result h.devices) result (any_moved (open_tests files number) (tt, (tt, tt)) Standing.Absent number result h.standing)
  any_bound (Asked query result) below h = counted_in before now below h.leaves.devices_stay.counts result (query_cause before now files query result h.cause)
  any_bound (Changed edits result) below h = any_group_bound edits result below h.leaves h.cause
  any_bound Skipped below h = stayed before now (same_counts before now h.0)
  any_bound (Misread error) below h = counted before now below (same_counts before now h.1) error (line_cause before now error h.0)

-- ---- a run

-- no count stands at its end before, where none does afterwards
pub below_before : (between now : Devices) → NoCountFell between now → Below now → Below between
below_before between now counts below number = under (device_at between number).faults (device_at now number).faults (counts number).faults (below number)
  where
    under : (a b : ℕ) → a ≤ b → b < 2 ^ 64 - 1 → a < 2 ^ 64 - 1
    under a b h k = omega (arith, h, k)

pub run_counts : (files after : Files) (before now : Devices) (calls : List Call) → Run files before calls now after → NoCountFell before now
run_counts files after before now [] h = same_counts before now h.0
run_counts files after before now (call ∷ calls) h = λ number.
    let first = any_counts before h.1 files h.0 call h.2.anyway number in
    let rest = run_counts h.0 after h.1 now calls h.3 number in
    record { faults = le_trans first.faults rest.faults; lost = le_trans first.lost rest.lost; reads = le_trans first.reads rest.reads; writes = le_trans first.writes rest.writes }

pub run_bound : (files after : Files) (before now : Devices) (calls : List Call) → Below now → Run files before calls now after → total_faults before + fault_replies calls ≤ total_faults now
run_bound files after before now [] below h = stayed before now (same_counts before now h.0)
run_bound files after before now (call ∷ calls) below h =
    let rest = run_counts h.0 after h.1 now calls h.3 in
    let first = any_bound before h.1 files h.0 call (below_before h.1 now rest below) h.2.anyway in
    let more = run_bound h.0 after h.1 now calls below h.3 in
    omega (arith, first, more)
