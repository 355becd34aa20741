-- What is kept in memory of a fresh file, and why it is not made.
use Rattle.std.specs.Prelude.{◌≡◌, ℕ, Bool, true, ⊤}
use Rattle.adf_model.specs.Counts.{Rose}
use Rattle.adf_model.specs.declared.error.AdfError.{AdfError}
use Rattle.adf_model.specs.declared.error.AdfError.TheVariants as error
use Rattle.tree_edits.specs.declared.memory.Core.{Core}
use Rattle.adf_tree.specs.Files.{accepted}
use Rattle.adf_tree.specs.Opening.{KeepsFresh}

-- it may be edited within the limit, and is as it was accepted
pub record IsFreshCore (wide : Bool) (limit : ℕ) (core : Core) : Type 0 where
  pub keeps : KeepsFresh wide core
  pub writable : core.writable ≡ true
  pub limit_is : core.heap.limit ≡ limit
  pub same : core ≡ accepted core

-- where bytes are not told, the device may not be empty as it said
abbrev pub fresh_error : AdfError → AdfError
fresh_error (error.Layout rule place) = error.NotEmpty
fresh_error e = e

-- why a fresh file is not made: want of memory, a failed read, or a device that holds other bytes than were written
abbrev pub IsFreshCause : Type 0 → ℕ → ℕ → AdfError → Type 0
IsFreshCause untold before now error.Memory = ⊤
IsFreshCause untold before now error.ReadFault = Rose before now
IsFreshCause untold before now error.NotEmpty = untold
IsFreshCause untold before now e = ⊥
