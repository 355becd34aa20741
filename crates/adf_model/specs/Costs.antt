-- How often a run of calls may write the device of one file.
use Rattle.std.specs.Prelude.{◌≡◌, ℕ, ◌+◌, Bool, true, false, ◌==◌, if◌then◌else◌, List, [], ◌∷◌, Option, Some, None, Result, Ok, Err}
use Rattle.adf_format.specs.Placement.{Placement}
use Rattle.adf_model.specs.declared.error.AdfError.{AdfError}
use Rattle.adf_model.specs.declared.error.AdfError.TheVariants.{WriteFault}
use Rattle.adf_model.specs.declared.error.EditError.{EditError}
use Rattle.adf_model.specs.declared.tree.NodeId.{NodeId}
use Rattle.adf_model.specs.Placing.{group_cost}
use Rattle.adf_model.specs.Slots.{Open, Files, Devices, open_at, device_at}
use Rattle.adf_model.specs.Calls.{Group, edit_group}
use Rattle.adf_model.specs.Steps.{Opening, Fresh, Stored, Call, Opened, Closed, Discarded, Asked, Changed, Skipped, Misread}
use Rattle.adf_model.specs.Runs.{Makes}

abbrev pub is_write_fault : AdfError → Bool
is_write_fault WriteFault = true
is_write_fault error = false

-- a fresh file is written once, also where that write failed
abbrev pub opening_cost : Opening → Result Unit AdfError → ℕ
opening_cost (Fresh wide) (Ok done) = 1
opening_cost (Fresh wide) (Err error) = if is_write_fault error then 1 else 0
opening_cost (Stored writable) result = 0

-- a group that was done or whose write failed has written
abbrev pub has_written : Result (List NodeId) EditError → Bool
has_written (Ok created) = true
has_written (Err refusal) = is_write_fault refusal.error

abbrev pub cost_from : Option Open → Placement → Group → ℕ
cost_from None p group = 0
cost_from (Some opened) p group = group_cost opened.limit opened.tree p group.done

-- the cost of a group for one file: none for a file that is not its own
abbrev pub cost_for : ℕ → Files → Devices → Group → Option ℕ → ℕ
cost_for one files before group None = 0
cost_for one files before group (Some number) = if number == one then cost_from (open_at files number) (device_at before number).placement group else 0

abbrev pub edits_cost : ℕ → Files → Devices → Result Group EditError → ℕ
edits_cost one files before (Ok group) = cost_for one files before group group.file
edits_cost one files before (Err refusal) = 0

-- the most writes of the device of one file that a call with this answer makes
abbrev pub call_cost : ℕ → Files → Devices → Call → ℕ
call_cost one files before (Opened number opening limit result) = if number == one then opening_cost opening result else 0
call_cost one files before (Changed edits result) = if has_written result then edits_cost one files before (edit_group files edits) else 0
call_cost one files before (Closed number result) = 0
call_cost one files before (Discarded number result) = 0
call_cost one files before (Asked query result) = 0
call_cost one files before Skipped = 0
call_cost one files before (Misread error) = 0

-- calls one after another, and what they cost in all for one file
abbrev pub RunCosts : ℕ → Files → Devices → List Call → Devices → Files → ℕ → Type 0
RunCosts one files before [] now after cost = (now ≡ before) × (after ≡ files) × (cost ≡ 0)
RunCosts one files before (call ∷ calls) now after cost =
    (middle : Files) × (between : Devices) × (later : ℕ) × Makes files before call between middle × (cost ≡ call_cost one files before call + later) × RunCosts one middle between calls now after later
