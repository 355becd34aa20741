use Rattle.layout_report.proofs.MappedLaws.{extents_said, refuses_at_once}
use Rattle.layout_report.proofs.map.map_sound.Goals as goal

pub returns-in-Ok-clause-says : goal.returns-in-Ok-clause-says
returns-in-Ok-clause-says g c =
    extents_said _ c.in-Ok.found.names c.args.gaps.now c.args.end c.in-Ok.found.extents c.items.result.now (g.B.Blocks.state c.args.blocks.now) (g.B.Blocks.state c.survey.new.blocks) _ _ _ _ _
    c.requires.sound c.in-Ok.ensures.all c.in-Ok.ensures.named c.items.ensures c.say_extents.ensures.says

pub returns-in-Err-clause-says : goal.returns-in-Err-clause-says
returns-in-Err-clause-says g c =
    refuses_at_once (g.B.Blocks.state c.args.blocks.now) (g.B.Blocks.state c.survey.new.blocks) _ g.O.Sink.taken g.O.Sink.faults c.in-Err.error _ c.args.output.now c.say_refusal.new.output
    c.in-Err.ensures.cause (λ image held. let is = c.requires.sound image held in c.in-Err.ensures.refused image held c.args.end is.0 is.1 is.2) c.say_refusal.ensures.says
