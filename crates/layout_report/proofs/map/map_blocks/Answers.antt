use Rattle.layout_report.proofs.MappedLaws.{sound_said, fault_said, failure_said}
use Rattle.layout_report.proofs.map.map_blocks.Goals as goal

pub returns-in-Ok-Sound-clause-says : goal.returns-in-Ok-Sound-clause-says
returns-in-Ok-Sound-clause-says g c =
    sound_said _ _ _ _ _ _ _ _ c.lint.ensures.effect.held c.lint.ensures.effect.faults c.map_sound.ensures.says

pub returns-in-Ok-Unsound-clause-says : goal.returns-in-Ok-Unsound-clause-says
returns-in-Ok-Unsound-clause-says g c =
    fault_said (g.B.Blocks.state c.args.blocks.now) (g.B.Blocks.state c.lint.new.blocks) _ g.O.Sink.taken g.O.Sink.faults c.in-Ok-Unsound.rule c.in-Ok-Unsound.place _ c.args.output.now c.say_fault.new.output
    (rw c.in-Ok-Unsound.field-0-is at c.in-Ok-Unsound.ensures.rule) (rw c.in-Ok-Unsound.field-0-is at c.in-Ok-Unsound.ensures.verdict) c.say_fault.ensures.says

pub returns-in-Err-clause-says : goal.returns-in-Err-clause-says
returns-in-Err-clause-says g c =
    failure_said (g.B.Blocks.state c.args.blocks.now) (g.B.Blocks.state c.lint.new.blocks) _ g.O.Sink.taken g.O.Sink.faults c.in-Err.error _ c.args.output.now c.say_refusal.new.output c.in-Err.ensures.cause c.say_refusal.ensures.says
