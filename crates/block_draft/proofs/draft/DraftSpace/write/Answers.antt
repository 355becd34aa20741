use Rattle.std.proofs.Common.{◌+◌, ◌*◌, ◌/◌, ◌%◌, length, arith, refl}
use Rattle.block_draft.proofs.Spaces.{write_step}
use Rattle.cg_io.proofs.ReadLaws.{reads_then}
use Rattle.cg_io.proofs.PieceLaws.{few_step, edge_step}
use Rattle.block_draft.proofs.Counts.{within_step}
use Rattle.block_draft.proofs.draft.DraftSpace.write.Goals as goal

pub loop-done-preserved : goal.loop-done-preserved
loop-done-preserved g c = record {
  inside = omega arith;
  sound = c.change.ensures.sound;
  wrote = write_step _ _ _ c.args.place c.loop-done.done c.min-count.result ((c.args.place + c.loop-done.done) / 4096 * 4096 + (c.args.place + c.loop-done.done) % 4096) c.args.from.now _ (omega arith) (omega arith) refl (omega arith) c.loop-done.invariant.wrote c.in_ok-change.ensures.written;
  effect = reads_then _ _ _ _ _ _ c.loop-done.invariant.effect c.change.ensures.effect (few_step c.args.place c.loop-done.done c.min-count.result (length c.args.from.now) c.loop-done-test.true c.min-count.ensures c.loop-done.invariant.edge);
  within = within_step c.args.place c.loop-done.done c.min-count.result ((c.args.place + c.loop-done.done) / 4096) ((c.args.place + c.loop-done.done) % 4096) _ _ _ c.loop-done.invariant.within c.change.ensures.only (omega arith) (omega arith) (omega arith)
      (few_step c.args.place c.loop-done.done c.min-count.result (length c.args.from.now) c.loop-done-test.true c.min-count.ensures c.loop-done.invariant.edge);
  edge = edge_step c.args.place c.loop-done.done c.min-count.result (length c.args.from.now) c.loop-done-test.true c.min-count.ensures;
}
