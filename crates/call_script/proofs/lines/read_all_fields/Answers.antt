use Rattle.std.proofs.Common.{refl, sym, ◌∙◌}
use Rattle.call_script.proofs.Reading.{ended_by}
use Rattle.call_script.proofs.CallLaws.{call_no_fields, call_whole, call_more, err_same}
use Rattle.call_script.proofs.lines.read_all_fields.Goals as goal

pub returns-in_err-call-clause-none : goal.returns-in_err-call-clause-none
returns-in_err-call-clause-none c = λ is call h. call_no_fields _ _ c.args.word _ _ refl refl c.in_err-call.ensures (err_same _ _ (sym (ended_by _ _ c.from_residual.ensures.1) ∙ is)) call _ h

pub returns-in_err-call-clause-why : goal.returns-in_err-call-clause-why
returns-in_err-call-clause-why c = rw (ended_by _ _ c.from_residual.ensures.1) c.in_err-call.ensures.why

pub returns-in-None-clause-found : goal.returns-in-None-clause-found
returns-in-None-clause-found c = call_whole _ _ c.args.word _ c.in_ok-call.ensures c.in-None.ensures

pub returns-in-Some-clause-none : goal.returns-in-Some-clause-none
returns-in-Some-clause-none c = λ _ call h. call_more _ _ _ _ c.args.word _ call c.in_ok-call.ensures c.in-Some.ensures h
