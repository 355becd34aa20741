use Rattle.std.proofs.Common.{refl}
use Rattle.call_script.specs.declared.calls.Call.{Call}
use Rattle.call_script.specs.declared.words.CallWord.TheVariants as calls
use Rattle.call_script.specs.Lines.{query_fields, query_of, call_of}
use Rattle.call_script.proofs.Reading.{ended_by, made_of}
use Rattle.call_script.proofs.lines.read_fields.Goals as goal

pub returns-in-Open : goal.returns-in-Open
returns-in-Open c = rw c.in-Open.is c.read_open.ensures

pub returns-in_err-number-in-Close : goal.returns-in_err-number-in-Close
returns-in_err-number-in-Close c = rw (c.in-Close.is, ended_by _ _ c.from_residual.ensures.1) (c.in_err-number-in-Close.ensures)

pub returns-in_ok-number-in-Close : goal.returns-in_ok-number-in-Close
returns-in_ok-number-in-Close c = rw c.in-Close.is ((_, tt), refl, (_, c.in_ok-number-in-Close.ensures, refl))

pub returns-in_err-discarded-in-Discard : goal.returns-in_err-discarded-in-Discard
returns-in_err-discarded-in-Discard c = rw (c.in-Discard.is, ended_by _ _ c.from_residual-in_err-discarded-in-Discard.ensures.1) (c.in_err-discarded-in-Discard.ensures)

pub returns-in_ok-discarded-in-Discard : goal.returns-in_ok-discarded-in-Discard
returns-in_ok-discarded-in-Discard c = rw c.in-Discard.is ((_, tt), refl, (_, c.in_ok-discarded-in-Discard.ensures, refl))

pub returns-in_err-query-in-Ask : goal.returns-in_err-query-in-Ask
returns-in_err-query-in-Ask c = rw (c.in-Ask.is, ended_by _ _ c.from_residual-in_err-query-in-Ask.ensures.1) (c.in_err-query-in-Ask.ensures)

pub returns-in_ok-query-in-Ask : goal.returns-in_ok-query-in-Ask
returns-in_ok-query-in-Ask c = rw c.in-Ask.is (made_of (query_fields c.in-Ask.word) (call_of (calls.Ask c.in-Ask.word)) (query_of c.in-Ask.word) (λ q. Call.Ask q) _ _ _ c.in_ok-query-in-Ask.ensures (λ values. refl))
