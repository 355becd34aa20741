-- What is read of the file that is copied.
use Rattle.std.specs.Prelude.{◌≡◌, ℕ, ◌+◌, ◌^◌, ◌<◌}
use Rattle.cg_io.specs.Cause.{Rose}
use Rattle.adf_model.specs.declared.error.AdfError.{AdfError}

-- a failed read, whose count rose
pub record IsUnread (before now : ℕ) (e : AdfError) : Type 0 where
  pub is : e ≡ AdfError.ReadFault
  pub rose : Rose before now

-- a rule of a layout that the bytes read break, and where
pub record IsBroken (broken : ℕ → ℕ → Type 0) (e : AdfError) : Type 0 where
  pub rule : ℕ
  pub place : ℕ
  pub is : e ≡ AdfError.Layout rule place
  pub so : broken rule place

-- rule 24 of an entry at a place: its name ends behind the last place
pub record IsBeyond (entry rule at : ℕ) : Type 0 where
  pub rule_is : rule ≡ 24
  pub stands : at ≡ entry
  pub beyond : 2 ^ 44 < entry + 32
