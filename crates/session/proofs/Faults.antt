-- What a run of turns leaves in any case, and over devices that tell.
use Rattle.std.proofs.Common.{◌≡◌, ◌+◌, ◌≤◌, ◌∙◌, ℕ, List, [], ◌∷◌, Option, refl, ap}
use Rattle.adf_model.specs.Slots.{Files, Devices, IsTold, names_there}
use Rattle.adf_model.specs.Steps.{NoCountFell, AllLaidOut, Call, Opened, Closed, Discarded, Asked, Changed, Skipped, Misread}
use Rattle.adf_model.specs.Causes.{Anyway}
use Rattle.adf_model.specs.FaultReplies.{fault_replies, total_faults}
use Rattle.adf_model.specs.Runs.{Run}
use Rattle.adf_model.proofs.Answering.FaultBound.{Below, run_counts, run_bound}
use Rattle.adf_model.proofs.Answering.RunLaws.{told_for, run_told, run_laid_out}
use Rattle.session.specs.Turns.{Turn, Ran, Stepped, calls_of, names_behind}

pub ran_counts : (files after : Files) (before now : Devices) (turns : List Turn) → Ran files before turns now after → NoCountFell before now
ran_counts files after before now turns h = run_counts files after before now (calls_of turns) h.run

pub ran_bound : (files after : Files) (before now : Devices) (turns : List Turn) → Below now → Ran files before turns now after → total_faults before + fault_replies (calls_of turns) ≤ total_faults now
ran_bound files after before now turns below h = run_bound files after before now (calls_of turns) below h.run

pub ran_told : (files after : Files) (before now : Devices) (turns : List Turn) → Ran files before turns now after → IsTold files before → IsTold after now
ran_told files after before now turns h told = λ number. run_told files after before now (calls_of turns) h.run number (told number)

pub ran_laid_out : (files after : Files) (before now : Devices) (turns : List Turn) → Ran files before turns now after → AllLaidOut files before → AllLaidOut after now
ran_laid_out files after before now turns h laid = run_laid_out files after before now (calls_of turns) h.run laid

-- where all devices tell, each call is a step
run_steps : (files after : Files) (before now : Devices) (calls : List Call) → Run files before calls now after → IsTold files before → Stepped files before calls now after
run_steps files after before now [] h told = h
run_steps files after before now (call ∷ calls) h told =
    (h.0, h.1, h.2.step (told_for files before call told), run_steps h.0 after h.1 now calls h.3 (λ number. h.2.layouts.told number (told number)))

pub ran_steps : (files after : Files) (before now : Devices) (turns : List Turn) → Ran files before turns now after → IsTold files before → Stepped files before (calls_of turns) now after
ran_steps files after before now turns h told = run_steps files after before now (calls_of turns) h.run told

-- ---- names

call_names : (files after : Files) (before now : Devices) (call : Call) → Anyway files before call now after → names_there after ≡ names_behind (call ∷ []) (names_there files)
call_names files after before now (Opened number opening limit result) h = h.names
call_names files after before now (Closed number result) h = h.names
call_names files after before now (Discarded number result) h = h.names
call_names files after before now (Asked query result) h = ap names_there h.leaves.files_stay
call_names files after before now (Changed edits result) h = h.names
call_names files after before now Skipped h = ap names_there h.1
call_names files after before now (Misread error) h = ap names_there h.2

-- one call first
names_then : (call : Call) (calls : List Call) (names : List (Option (List ℕ))) → names_behind calls (names_behind (call ∷ []) names) ≡ names_behind (call ∷ calls) names
names_then (Discarded number result) calls names = refl
names_then (Opened number opening limit result) calls names = refl
names_then (Closed number result) calls names = refl
names_then (Asked query result) calls names = refl
names_then (Changed edits result) calls names = refl
names_then Skipped calls names = refl
names_then (Misread error) calls names = refl

run_names : (files after : Files) (before now : Devices) (calls : List Call) → Run files before calls now after → names_there after ≡ names_behind calls (names_there files)
run_names files after before now [] h = ap names_there h.1
run_names files after before now (call ∷ calls) h =
    run_names h.0 after h.1 now calls h.3 ∙ ap (names_behind calls) (call_names files h.0 before h.1 call h.2.anyway) ∙ names_then call calls (names_there files)

pub ran_names : (files after : Files) (before now : Devices) (turns : List Turn) → Ran files before turns now after → names_there after ≡ names_behind (calls_of turns) (names_there files)
ran_names files after before now turns h = run_names files after before now (calls_of turns) h.run
