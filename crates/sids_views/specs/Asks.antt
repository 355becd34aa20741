-- What calls over trees that only ask answer.
use Rattle.std.specs.Prelude.{◌≡◌, true, false, IsTrue, Result, Ok, Err, ⊤}
use Rattle.adf_format.specs.RuleNumbers.{IsRule}
use Rattle.adf_model.specs.declared.error.AdfError.{AdfError}
use Rattle.adf_model.specs.declared.error.AdfError.TheVariants.{Memory, ReadFault, Layout}
use Rattle.adf_model.specs.declared.tree.NodeId.{NodeId}
use Rattle.adf_model.specs.Slots.{Files, Devices, open_at}
use Rattle.adf_model.specs.Calls.{is_live_in}
use Rattle.adf_model.specs.Steps.{SomeOpenFault, is_query_error}
use Rattle.sids_views.specs.Views.{is_link_there}

-- the value wanted; or want of memory, which is always free, or a failed read
abbrev pub IsValueOr : {A : Type 0} → A → Result A AdfError → Type 0
IsValueOr wanted (Ok value) = value ≡ wanted
IsValueOr wanted (Err Memory) = Unit {0}
IsValueOr wanted (Err ReadFault) = Unit {0}
IsValueOr wanted (Err error) = ⊥

-- questions are refused under their cause: a failed read is one of an open file, a rule one of a layout; and with no error of another call
abbrev pub HasAskCause : {A : Type 0} → Files → Devices → Devices → Result A AdfError → Type 0
HasAskCause files before now (Ok value) = Unit {0}
HasAskCause files before now (Err ReadFault) = SomeOpenFault files before now
HasAskCause files before now (Err (Layout rule place)) = IsRule rule
HasAskCause files before now (Err error) = IsTrue (is_query_error error)

-- a live node of an open file
abbrev pub IsThere : Files → NodeId → Type 0
IsThere files at = is_live_in (open_at files at.file) at.serial ≡ true

-- that is no link
pub record IsPlain (files : Files) (at : NodeId) : Type 0 where
  pub there : IsThere files at
  pub no_link : is_link_there files at ≡ false
