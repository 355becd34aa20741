use Rattle.session.proofs.Running.{went, cut_short, stops, line_cut, held_cut, by_ok, by_err}
use Rattle.session.proofs.Said.{too_long_turn}
use Rattle.session.proofs.session.go_on.Goals as goal

pub returns-in-Ok-Line-clause-one : goal.returns-in-Ok-Line-clause-one
returns-in-Ok-Line-clause-one g c =
    by_ok _ _ _ (went _ _ _ _ _ _ _ _ _ _ (c.take_turn-answer.ensures.turn) (held_cut _ _ _ _ _ _ c.line.ensures.line (rw c.in-Ok-Line.field-0-is at c.in-Ok-Line.ensures.found))) c.reply.ensures.whole

pub returns-in-Ok-Line-clause-run : goal.returns-in-Ok-Line-clause-run
returns-in-Ok-Line-clause-run g c =
    by_err _ _ _ (λ how. cut_short how _ _ _ _ _ _ _ _ _ _ _ (c.take_turn-answer.ensures.turn) (held_cut _ _ _ _ _ _ c.line.ensures.line (rw c.in-Ok-Line.field-0-is at c.in-Ok-Line.ensures.found))) c.reply.ensures.part

pub returns-in-Ok-TooLong-clause-one : goal.returns-in-Ok-TooLong-clause-one
returns-in-Ok-TooLong-clause-one g c =
    let found = rw c.in-Ok-TooLong.field-0-is at c.in-Ok-TooLong.ensures.found in
    by_ok _ _ _ (went _ _ _ _ _ _ _ _ _ _ (too_long_turn _ _ _ found.1) (line_cut _ _ _ _ _ found.2)) c.reply-in-Ok-TooLong.ensures.whole

pub returns-in-Ok-TooLong-clause-run : goal.returns-in-Ok-TooLong-clause-run
returns-in-Ok-TooLong-clause-run g c =
    let found = rw c.in-Ok-TooLong.field-0-is at c.in-Ok-TooLong.ensures.found in
    by_err _ _ _ (λ how. cut_short how _ _ _ _ _ _ _ _ _ _ _ (too_long_turn _ _ _ found.1) (line_cut _ _ _ _ _ found.2)) c.reply-in-Ok-TooLong.ensures.part

pub returns-in-Err-clause-run : goal.returns-in-Err-clause-run
returns-in-Err-clause-run g c = rw c.ended_by.ensures (stops _ _ _ _ _ _ _ _ (rw c.in-Err.why-is at c.in-Err.ensures.stopped))
