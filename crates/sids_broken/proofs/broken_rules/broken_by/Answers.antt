use Rattle.std.proofs.Common.{◌∙◌, sym}
use Rattle.sids_readings.proofs.Keeping.{list_value}
use Rattle.sids_broken.proofs.BrokenLaws.{lost_are}
use Rattle.sids_broken.proofs.broken_rules.broken_by.Goals as goal

pub returns-in-Ok-None-clause-rules : goal.returns-in-Ok-None-clause-rules
returns-in-Ok-None-clause-rules g c told =
    let files = g.C.TreeCalls.files c.args.calls.now in
    list_value c.one_rule.result _ _ c.one_rule.ensures.value c.one_rule.ensures.memory
    (sym (lost_are files c.args.seen.now c.args.set ((c.requires.seen told).target ∙ sym (c.in-Ok-None.ensures.value told) ∙ c.in-Ok-None.field-0-is)))
