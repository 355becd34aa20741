use Rattle.std.proofs.Common.{◌+◌, arith, inr}
use Rattle.cg_io.proofs.ReadLaws.{only_then}
use Rattle.tree_edits.specs.Left.{MovesUp}
use Rattle.tree_edits.proofs.CopyLaws.{both_then, blocks_next, ends_next}
use Rattle.tree_edits.proofs.Leaves.{moves_then}
use Rattle.tree_edits.proofs.WaitSteps.{next_waits}
use Rattle.tree_edits.proofs.leave.move_up.Goals as goal

pub loop-done-preserved : goal.loop-done-preserved
loop-done-preserved g c =
    let n = c.block_rest-length.result in
    let done = c.loop-done.done in (
      omega (arith, c.block_rest-length.ensures, c.loop-done-test.true),
      c.in-Ok.ensures.writes.sound,
      both_then (MovesUp c.args.from c.args.to done) (MovesUp (c.args.from + done) (c.args.to + done) n) (MovesUp c.args.from c.args.to (done + n)) (λ x y z v w. moves_then c.args.from c.args.to done n c.requires.up x y z v w) (g.S.ReadBytes.image c.args.space.now) (g.S.ReadBytes.image c.loop-done.space) (g.S.ReadBytes.image c.move_piece.new.space)
          c.loop-done.invariant.2 c.in-Ok.ensures.moved,
      omega (arith, c.loop-done.invariant.3, c.in-Ok.ensures.writes.waits, blocks_next c.args.to done c.args.count n c.loop-done-test.true c.block_rest-length.ensures c.loop-done.invariant.5),
      only_then _ _ _ c.loop-done.invariant.4 c.in-Ok.ensures.writes.effect,
      inr (ends_next c.args.to done c.args.count n c.loop-done-test.true c.block_rest-length.ensures),
      next_waits c.args.to done n (g.S.ReadBytes.waiting c.args.space.now) (g.S.ReadBytes.waiting c.loop-done.space) (g.S.ReadBytes.waiting c.move_piece.new.space) c.loop-done.invariant.6 c.in-Ok.ensures.waits,
    )
