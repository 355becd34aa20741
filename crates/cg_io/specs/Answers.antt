-- What calls over bytes answer, and what they leave of a space and of the device below it.
use Rattle.std.specs.Prelude.{◌≡◌, ℕ, ◌+◌, ◌≤◌, List, None, Some, ⊤, Result, IfErr}
use Rattle.std.specs.declared.option.Option.{Option}
use Rattle.adf_model.specs.declared.error.AdfError.{AdfError}
use Rattle.adf_model.specs.declared.error.AdfError.TheVariants as error
use Rattle.adf_format.specs.RuleNumbers.{IsRule}
pub use Rattle.adf_model.specs.Counts.{OnlyReads}
use Rattle.cg_io.specs.Cause.{Rose}
use Rattle.cg_io.specs.Device.{DeviceState}
use Rattle.cg_io.specs.Waits.{how_many}

-- ---- causes of a refusal

-- whatever the refusal is, the count of faults rose
abbrev pub HasRisen : {E : Type 0} → ℕ → ℕ → E → Type 0
HasRisen before now refusal = Rose before now

-- want of memory, a failed read where the count of faults rose, or, under a condition, a rule of a layout that the bytes break
abbrev pub IsRefusal : Type 0 → ℕ → ℕ → AdfError → Type 0
IsRefusal unread before now error.Memory = ⊤
IsRefusal unread before now error.ReadFault = Rose before now
IsRefusal unread before now (error.Layout rule place) = IsRule rule × unread
IsRefusal unread before now other = ⊥

-- ---- what is left

-- A call that reads: what is kept is sound, the bytes and the blocks that wait stay, the device is left by Effect (as ReadsFew n
-- or OnlyReads), and a refusal has its cause.
pub record AnswersRead {S T E : Type 0} (is_sound : S → Type 0) (image : S → Option (List ℕ)) (state : S → DeviceState) (waiting : S → List ℕ)
    (Effect : DeviceState → DeviceState → Type 0) (Cause : ℕ → ℕ → E → Type 0) (old new : S) (result : Result T E) : Type 0 where
  pub sound : is_sound new
  pub bytes : image new ≡ image old
  pub waits : waiting new ≡ waiting old
  pub effect : Effect (state old) (state new)
  pub cause : IfErr result (Cause (state old).faults (state new).faults)

-- A call that writes: the same, but that the bytes are another clause's, and that n blocks more may wait.
pub record AnswersWrite {S T E : Type 0} (is_sound : S → Type 0) (state : S → DeviceState) (waiting : S → List ℕ) (n : ℕ)
    (Effect : DeviceState → DeviceState → Type 0) (Cause : ℕ → ℕ → E → Type 0) (old new : S) (result : Result T E) : Type 0 where
  pub sound : is_sound new
  pub waits : how_many (waiting new) ≤ how_many (waiting old) + n
  pub effect : Effect (state old) (state new)
  pub cause : IfErr result (Cause (state old).faults (state new).faults)

-- ---- bytes that are told, or not

-- what holds of the bytes, where they are told; IfSome says the same by cases
abbrev pub Told : Option (List ℕ) → (List ℕ → Type 0) → Type 0
Told held P = (bytes : List ℕ) → held ≡ Some bytes → P bytes

-- bytes that are not told
abbrev pub IsUntold : Option (List ℕ) → Type 0
IsUntold None = ⊤
IsUntold (Some bytes) = ⊥

-- one relation of bytes after another
abbrev pub Then : (List ℕ → List ℕ → Type 0) → (List ℕ → List ℕ → Type 0) → List ℕ → List ℕ → Type 0
Then R S old new = (middle : List ℕ) × R old middle × S middle new
