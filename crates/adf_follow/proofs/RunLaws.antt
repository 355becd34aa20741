-- Runs, call by call.
use Rattle.std.proofs.Common.{ℕ, ◌≤◌, List, [], ◌∷◌, refl, arith}
use Rattle.std.specs.Prelude.{Option}
use Rattle.adf_format.specs.Placement.{Placement}
use Rattle.adf_model.specs.Counts.{Rose}
use Rattle.adf_model.specs.Slots.{Files, Devices, device_at, IsTold}
use Rattle.adf_model.specs.Steps.{NoFault, Call, Opened, Closed, Discarded, Asked, Changed, Skipped, Misread}
use Rattle.adf_model.specs.Runs.{Makes, Run}
use Rattle.adf_model.proofs.Answering.AskLaws.{query_is_read}
use Rattle.adf_model.proofs.Answering.StandingLaws.{silent_opening}
use Rattle.adf_model.proofs.Answering.RoomLaws.{edit_completes, answer_completes}
use Rattle.adf_model.proofs.Answering.FaultBound.{any_counts, run_counts}
use Rattle.adf_model.proofs.Answering.RunLaws.{told_for}
use Rattle.adf_follow.specs.Runs.{placed_by, RunPlaces, IsModelCall, HasRoom, RunHasRoom, RunIsModel}

pub places_each : (one : ℕ) (files after : Files) (before now : Devices) (calls : List Call) (p : Option Placement) → Run files before calls now after → (last : Option Placement) × RunPlaces one files before calls now after p last
places_each one files after before now [] p run = (p, (run.0, run.1, refl))
places_each one files after before now (call ∷ calls) p run =
    let rest = places_each one run.0 after run.1 now calls (placed_by one files run.1 call p) run.3 in
    (rest.0, (run.0, run.1, run.2, rest.1))

is_run : (files after : Files) (before now : Devices) (calls : List Call) → RunHasRoom files before calls now after → Run files before calls now after
is_run files after before now [] run = run
is_run files after before now (call ∷ calls) run = (run.0, run.1, run.2, is_run run.0 after run.1 now calls run.4)

rose_earlier : (a b c : ℕ) → b ≤ c → Rose a b → Rose a c
rose_earlier a b c le rose = omega (arith, le, rose)

rose_later : (a b c : ℕ) → a ≤ b → Rose b c → Rose a c
rose_later a b c le rose = omega (arith, le, rose)

-- one call
module _ (files after : Files) (before now : Devices) (told : IsTold files before) (quiet : NoFault before now) where
  decides : (call : Call) → Makes files before call now after → HasRoom files before call → IsModelCall files call
  decides (Opened number opening limit result) made room = silent_opening files number opening before now result (quiet number) made.anyway.cause
  decides (Asked query result) made room = let step = made.step (told_for files before (Asked query result) told) in answer_completes files before now query result quiet step.0 (query_is_read files query before now result step.1)
  decides (Changed edits result) made room = edit_completes files after before now edits result quiet room (made.step (told_for files before (Changed edits result) told)).0
  decides (Closed number result) made room = tt
  decides (Discarded number result) made room = tt
  decides Skipped made room = tt
  decides (Misread error) made room = tt

pub run_decides : (files after : Files) (before now : Devices) (calls : List Call) → IsTold files before → NoFault before now → RunHasRoom files before calls now after → RunIsModel files before calls now after
run_decides files after before now [] told quiet run = run
run_decides files after before now (call ∷ calls) told quiet run =
    let later = run_counts run.0 after run.1 now calls (is_run run.0 after run.1 now calls run.4) in
    let sooner = any_counts before run.1 files run.0 call run.2.anyway in
    let first : NoFault before run.1 = λ number rose. quiet number (rose_earlier (device_at before number).faults (device_at run.1 number).faults (device_at now number).faults (later number).faults rose) in
    let rest : NoFault run.1 now = λ number rose. quiet number (rose_later (device_at before number).faults (device_at run.1 number).faults (device_at now number).faults (sooner number).faults rose) in
    (run.0, run.1, run.2, decides files run.0 before run.1 told first call run.2 run.3, run_decides run.0 after run.1 now calls (λ number. run.2.layouts.told number (told number)) rest run.4)
