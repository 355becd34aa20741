use Rattle.std.proofs.Common.{◌∙◌, sym, ap, Err}
use Rattle.session.proofs.Said.{skipped, answered, refused, spells, limited}
use Rattle.session.proofs.turns.take_turn.Goals as goal

pub returns-then-skips-clause-turn : goal.returns-then-skips-clause-turn
returns-then-skips-clause-turn g c = skipped _ _ _ c.requires.short (sym c.skips.ensures ∙ c.if-skips.true)

pub answer_to-requires-clause-limit : goal.answer_to-requires-clause-limit
answer_to-requires-clause-limit g c = limited _ _ c.in-Ok.ensures.found

pub returns-in-Ok-clause-turn : goal.returns-in-Ok-clause-turn
returns-in-Ok-clause-turn g c = answered _ _ _ _ _ _ _ c.requires.short (sym c.skips.ensures ∙ c.if-skips.false) c.in-Ok.ensures.found c.answer_to.ensures.step

pub returns-in-Err-clause-turn : goal.returns-in-Err-clause-turn
returns-in-Err-clause-turn g c = refused _ _ _ _ c.requires.short (sym c.skips.ensures ∙ c.if-skips.false) c.in-Err.ensures.why (λ is. c.in-Err.ensures.none (ap Err is))

pub returns-in-Ok-clause-spelling : goal.returns-in-Ok-clause-spelling
returns-in-Ok-clause-spelling g c = spells _ _ _ _ _ _ c.answer_to.ensures.step
