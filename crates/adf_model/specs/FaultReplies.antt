-- How many answers of a run of calls are failed reads and writes, and how many faults the devices had.
use Rattle.std.specs.Prelude.{ℕ, ◌+◌, List, [], ◌∷◌, Result, Ok, Err}
use Rattle.adf_model.specs.declared.error.AdfError.{AdfError}
use Rattle.adf_model.specs.declared.error.AdfError.TheVariants.{ReadFault, WriteFault}
use Rattle.adf_model.specs.declared.error.EditError.{EditError}
use Rattle.adf_model.specs.Slots.{Devices}
use Rattle.adf_model.specs.Steps.{Call, Opened, Closed, Discarded, Asked, Changed, Skipped, Misread}

-- one for a failed read or write, none for any other error
abbrev pub fault_of : AdfError → ℕ
fault_of ReadFault = 1
fault_of WriteFault = 1
fault_of error = 0

abbrev pub fault_in : {A : Type 0} → Result A AdfError → ℕ
fault_in (Ok value) = 0
fault_in (Err error) = fault_of error

abbrev pub fault_in_group : {A : Type 0} → Result A EditError → ℕ
fault_in_group (Ok value) = 0
fault_in_group (Err refusal) = fault_of refusal.error

-- whether the answer of a call is a failed read or write, as a number
abbrev pub fault_reply : Call → ℕ
fault_reply (Opened number opening limit result) = fault_in result
fault_reply (Closed number result) = fault_in result
fault_reply (Discarded number result) = fault_in result
fault_reply (Asked query result) = fault_in result
fault_reply (Changed edits result) = fault_in_group result
fault_reply Skipped = 0
fault_reply (Misread error) = fault_of error

-- how many answers of calls are failed reads and writes
abbrev pub fault_replies : List Call → ℕ
fault_replies [] = 0
fault_replies (call ∷ calls) = fault_reply call + fault_replies calls

-- the faults of all devices in all: those of discarded devices as they stood last
abbrev pub total_faults : Devices → ℕ
total_faults [] = 0
total_faults (device ∷ devices) = device.faults + total_faults devices
