use Rattle.layout_report.proofs.LintedLaws.{verdict_said, failure_said}
use Rattle.layout_report.proofs.lint.lint_file.Goals as goal

pub returns-in-Ok-clause-says : goal.returns-in-Ok-clause-says
returns-in-Ok-clause-says g c =
    verdict_said (g.D.Device.state c.args.device) (g.D.Device.state c.verdict_on-device.result.0) _ g.O.Sink.taken g.O.Sink.faults c.in-Ok.verdict _ c.args.output.now c.say_verdict.new.output
    (rw c.in-Ok.is at c.verdict_on-device.ensures.rule) (rw c.in-Ok.is at c.verdict_on-device.ensures.verdict) c.say_verdict.ensures.says

pub returns-in-Err-clause-says : goal.returns-in-Err-clause-says
returns-in-Err-clause-says g c =
    failure_said (g.D.Device.state c.args.device) (g.D.Device.state c.verdict_on-device.result.0) _ g.O.Sink.taken g.O.Sink.faults c.in-Err.error _ c.args.output.now c.say_refusal.new.output
    (rw c.in-Err.is at c.verdict_on-device.ensures.cause) c.say_refusal.ensures.says
