use Rattle.std.proofs.Common.{inl}
use Rattle.sids_views.proofs.Causes.{query_cause}
use Rattle.sids_section_rules.proofs.parts.ask.Goals as goal

pub returns-clause-answer : goal.returns-clause-answer
returns-clause-answer g c told = (c.ask.ensures.asked.step (inl told)).0

pub returns-clause-cause : goal.returns-clause-cause
returns-clause-cause g c = query_cause _ _ _ _ _ c.ask.ensures.asked.anyway.entry.refused c.ask.ensures.asked.anyway.cause
