use Rattle.std.proofs.Common.{inl, refl}
use Rattle.call_script.proofs.CallLaws.{edit_left, edit_none, edit_found, edit_missing, edit_why}
use Rattle.call_script.proofs.Reading.{ended_by}
use Rattle.call_script.proofs.edits.read_edit.Goals as goal

pub returns-in_err-token-clause-none : goal.returns-in_err-token-clause-none
returns-in_err-token-clause-none c = λ _ edit after h. edit_left _ c.in_err-token.ensures.none.1 edit after h

pub returns-in_err-token-clause-why : goal.returns-in_err-token-clause-why
returns-in_err-token-clause-why c = rw (ended_by _ _ c.from_residual.ensures.1) (inl c.in_err-token.ensures.none.0)

pub returns-in-Some-clause-found : goal.returns-in-Some-clause-found
returns-in-Some-clause-found c = edit_found _ _ _ c.in-Some.word _ _ c.in_ok-token.ensures.found c.in-Some.ensures.found c.read_fields.ensures

pub returns-in-Some-clause-none : goal.returns-in-Some-clause-none
returns-in-Some-clause-none c = λ is edit after h. edit_missing _ _ _ c.in-Some.word _ _ c.in_ok-token.ensures.found c.in-Some.ensures.found c.read_fields.ensures is edit after h

pub returns-in-Some-clause-why : goal.returns-in-Some-clause-why
returns-in-Some-clause-why c = edit_why _ _ c.in-Some.word _ c.read_fields.ensures

pub returns-in-None-clause-none : goal.returns-in-None-clause-none
returns-in-None-clause-none c = λ _ edit after h. edit_none _ _ _ c.in_ok-token.ensures.found (c.in-None.ensures.none refl) edit after h
