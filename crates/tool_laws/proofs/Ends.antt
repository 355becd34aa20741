-- How runs end where nothing fails.
use Rattle.std.proofs.Common.{◌≡◌, ◌⊎◌, inl, inr, ℕ, List, Option}
use Rattle.adf_model.specs.Counts.{Rose}
use Rattle.tool_commands.specs.Printed.{EndsWith}
use Rattle.tool_commands.specs.declared.status.Status.{Status}
use Rattle.tool_commands.specs.declared.status.Status.TheVariants as status

-- a run that ends for want of memory, or as is given
abbrev pub Ends : Status → Type 0 → Type 0
Ends result Given = (result ≡ status.Memory) ⊎ Given

-- what was printed ends as it was wanted
pub printed_whole : (wanted : Status) (text : List ℕ) (result : Status) (taken now : Option (List ℕ)) (faults later : ℕ) → (Rose faults later → ⊥)
    → EndsWith wanted text result taken now faults later → result ≡ wanted
printed_whole wanted text result taken now faults later quiet (rises, inl e) = e.0
printed_whole wanted text result taken now faults later quiet (rises, inr e) = absurd (quiet e.1)

pub memory_not_no : status.Memory ≡ status.No → ⊥
memory_not_no same = absurd cc

pub fault_not_no : status.DeviceFault ≡ status.No → ⊥
fault_not_no same = absurd cc
