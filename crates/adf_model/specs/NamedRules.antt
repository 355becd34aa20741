-- The rules of a layout that refusals name.
use Rattle.std.specs.Prelude.{Option, Some, None, Result, Ok, Err, IfSome}
use Rattle.adf_format.specs.RuleNumbers.{IsRule}
use Rattle.adf_model.specs.declared.error.AdfError.{AdfError}
use Rattle.adf_model.specs.declared.error.AdfError.TheVariants.{Layout}
use Rattle.adf_model.specs.Steps.{Call, Opened, Closed, Discarded, Asked, Changed, Skipped, Misread}

-- a rule that a refusal names is one of a layout
abbrev pub NamesRule : AdfError → Type 0
NamesRule (Layout rule place) = IsRule rule
NamesRule error = Unit {0}

abbrev pub error_in : {A : Type 0} → Result A AdfError → Option AdfError
error_in (Ok value) = None
error_in (Err error) = Some error

-- how a call was refused
abbrev pub refusal_in : Call → Option AdfError
refusal_in (Opened number opening limit result) = error_in result
refusal_in (Closed number result) = error_in result
refusal_in (Discarded number result) = error_in result
refusal_in (Asked query result) = error_in result
refusal_in (Changed edits (Ok created)) = None
refusal_in (Changed edits (Err refusal)) = Some refusal.error
refusal_in Skipped = None
refusal_in (Misread error) = Some error

-- where a call was refused by a rule, the rule is one of a layout
abbrev pub NamesRules : Call → Type 0
NamesRules call = IfSome (refusal_in call) NamesRule
