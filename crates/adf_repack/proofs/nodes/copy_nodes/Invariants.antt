use Rattle.std.proofs.Common.{Ok}
use Rattle.adf_repack.specs.Copies.{Copies}
use Rattle.adf_repack.specs.Plans.{copied_until, room_until, BreaksOne}
use Rattle.adf_repack.proofs.nodes.copy_nodes.Given as goal

abbrev pub invariant-loop-number : goal.invariant-loop-number
invariant-loop-number g l = Copies {B = g.row.B.Denot} {E = g.row.E.Denot} g.B.Blocks.is_sound g.B.Blocks.state g.E.Device.state (BreaksOne (g.B.Blocks.state l.initial.blocks).held l.wide l.nodes l.plan)
    (room_until l.plan l.number) (λ image. copied_until image l.wide l.nodes l.plan l.number) l.initial.blocks l.blocks l.page l.initial.writer l.writer (Ok tt)
