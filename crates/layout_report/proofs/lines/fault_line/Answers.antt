use Rattle.layout_report.proofs.TextLaws.{text_is, short_rule, long_rule}
use Rattle.layout_report.proofs.lines.fault_line.Goals as goal

pub returns-then-rule-lt10 : goal.returns-then-rule-lt10
returns-then-rule-lt10 c = text_is _ _ _ c.format.ensures.ok (short_rule c.args.rule c.args.place c.if-rule-lt10.true)

pub returns-else-rule-lt10 : goal.returns-else-rule-lt10
returns-else-rule-lt10 c = text_is _ _ _ c.format-else-rule-lt10.ensures.ok (long_rule c.args.rule c.args.place c.if-rule-lt10.false)
