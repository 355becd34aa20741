use Rattle.std.proofs.Common.{◌+◌, arith, inr}
use Rattle.cg_io.proofs.ReadLaws.{only_then}
use Rattle.tree_edits.specs.Copies.{Clears}
use Rattle.tree_edits.proofs.CopyLaws.{both_then, clears_then, blocks_next, ends_next}
use Rattle.tree_edits.proofs.WaitSteps.{next_waits}
use Rattle.tree_edits.proofs.longer.clear_bytes.Goals as goal

pub loop-done-preserved : goal.loop-done-preserved
loop-done-preserved g c =
    let n = c.block_rest-length.result in
    let done = c.loop-done.done in (
      omega (arith, c.block_rest-length.ensures, c.loop-done-test.true),
      c.in-Ok.ensures.writes.sound,
      both_then (Clears c.args.at done) (Clears (c.args.at + done) n) (Clears c.args.at (done + n)) (λ x y z v w. clears_then c.args.at done n x y z v w) (g.S.ReadBytes.image c.args.space.now) (g.S.ReadBytes.image c.loop-done.space) (g.S.ReadBytes.image c.clear_piece.new.space)
          c.loop-done.invariant.2 c.in-Ok.ensures.cleared,
      omega (arith, c.loop-done.invariant.3, c.in-Ok.ensures.writes.waits, blocks_next c.args.at done c.args.count n c.loop-done-test.true c.block_rest-length.ensures c.loop-done.invariant.5),
      only_then _ _ _ c.loop-done.invariant.4 c.in-Ok.ensures.writes.effect,
      inr (ends_next c.args.at done c.args.count n c.loop-done-test.true c.block_rest-length.ensures),
      next_waits c.args.at done n (g.S.ReadBytes.waiting c.args.space.now) (g.S.ReadBytes.waiting c.loop-done.space) (g.S.ReadBytes.waiting c.clear_piece.new.space) c.loop-done.invariant.6 c.in-Ok.ensures.waits,
    )
