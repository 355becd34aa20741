-- What is read at a place, and why a read is refused.
use Rattle.std.specs.Prelude.{◌≡◌, ℕ, ◌≤◌, ◌<◌, Bool, true, false, List, length, Option, Some, None}
use Rattle.adf_format.specs.Checks.{Row, Fault, first_broken}
use Rattle.adf_model.specs.declared.error.AdfError.{AdfError}
use Rattle.adf_model.specs.declared.error.AdfError.TheVariants as error
use Rattle.cg_io.specs.Cause.{Rose}
use Rattle.cg_io.specs.Device.{GivesAt}

-- Something holds of n bytes: those at a place, zeros past the end, where the bytes are told, and else some.
pub record ReadAt (held : Option (List ℕ)) (place n : ℕ) (P : List ℕ → Type 0) : Type 0 where
  pub bytes : List ℕ
  pub long : length bytes ≡ n
  pub given : GivesAt held place bytes
  pub says : P bytes

-- the bytes at a place break this rule first, at this place
abbrev pub Breaks : Option (List ℕ) → ℕ → ℕ → (List ℕ → List Row) → ℕ → ℕ → Type 0
Breaks held place n rows rule at =
    ReadAt held place n (λ bytes. first_broken (rows bytes) ≡ Some (record { rule = rule; place = at }))

-- a failed read where the count of faults rose, or bytes that break a rule
abbrev pub IsUnread : (ℕ → ℕ → Type 0) → ℕ → ℕ → AdfError → Type 0
IsUnread Broken before now error.ReadFault = Rose before now
IsUnread Broken before now (error.Layout rule place) = Broken rule place
IsUnread Broken before now other = ⊥

-- the refusal is that of a rule that is broken, at its place
abbrev pub IsFault : Option Fault → AdfError → Type 0
IsFault None e = ⊥
IsFault (Some f) e = e ≡ error.Layout f.rule f.place

-- the first of the numbers from one up to another for which a test holds; none where it holds for none of them
abbrev pub IsFirst : (ℕ → Bool) → ℕ → ℕ → Option ℕ → Type 0
IsFirst test from to None = (j : ℕ) → from ≤ j → j < to → test j ≡ false
IsFirst test from to (Some i) =
    (from ≤ i) × (i < to) × (test i ≡ true) × ((j : ℕ) → from ≤ j → j < i → test j ≡ false)
