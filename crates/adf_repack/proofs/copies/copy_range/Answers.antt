use Rattle.std.proofs.Common.{◌≡◌, ◌+◌, ◌-◌, ◌/◌, ◌%◌, ◌≤◌, ◌∙◌, ap, sym, refl, arith, ℕ, length, take, drop}
use Rattle.adf_repack.specs.Writers.{appended_in, with_more, blocks_in, state_under}
use Rattle.adf_repack.proofs.WriterLaws.{more_none, writes_then, writes_none}
use Rattle.adf_repack.proofs.AppendLaws.{only_then}
use Rattle.adf_repack.proofs.SourceLaws.{reads_then, reads_none, none_at, piece_told, piece_long, appended_more}
use Rattle.adf_repack.proofs.copies.copy_range.Goals as goal

pub loop-done-init : goal.loop-done-init
loop-done-init g c = record {
  inside = omega arith;
  ready = c.requires.ready;
  reads = reads_none (g.B.Blocks.state c.args.blocks.now);
  sound = c.requires.sound;
  appended = λ image e. sym (ap (with_more (appended_in g.E.Device.state c.args.writer.now)) (none_at image c.args.place) ∙ more_none (appended_in g.E.Device.state c.args.writer.now));
  count = omega arith;
  wrote = writes_none (blocks_in c.args.writer.now) (state_under g.E.Device.state c.args.writer.now);
  effect = record { reads = refl; writes = omega arith };
  later = omega arith;
  lost = omega arith;
}

pub loop-done-preserved : goal.loop-done-preserved
loop-done-preserved g c =
    let before = c.loop-done.writer in
    let start : ℕ = (c.args.place + c.loop-done.done) % 4096 in
    let block : ℕ = (c.args.place + c.loop-done.done) / 4096 in
    let fits : start + c.min-piece.result ≤ 4096 = omega (arith, c.min-piece.ensures) in
    let long : length (take (start + c.min-piece.result - start) (drop start c.turn_to.new.page.bytes)) ≡ c.min-piece.result
    = piece_long c.turn_to.new.page.bytes start c.min-piece.result c.turn_to.ensures.long fits in
    let put = c.in-Ok-put.ensures in
    record {
      inside = omega (arith, c.min-piece.ensures, c.loop-done-test.true);
      ready = c.turn_to.ensures.ready;
      reads = reads_then _ _ _ c.loop-done.invariant.reads c.turn_to.ensures.reads;
      sound = put.sound;
      appended = λ image e. appended_more (appended_in g.E.Device.state c.args.writer.now) (appended_in g.E.Device.state before) (appended_in g.E.Device.state c.put.new.writer) image
          (take (start + c.min-piece.result - start) (drop start c.turn_to.new.page.bytes)) c.args.place c.loop-done.done c.min-piece.result (c.loop-done.invariant.appended image e) put.appended
          (piece_told (g.B.Blocks.state c.loop-done.blocks).held image c.turn_to.new.page.bytes block start c.min-piece.result (c.args.place + c.loop-done.done) (c.loop-done.invariant.reads.held ∙ e)
          c.in-Ok.ensures.told (omega arith) fits);
      count = put.count ∙ omega (arith, long, c.loop-done.invariant.count);
      wrote = writes_then _ _ _ _ _ _ c.loop-done.invariant.wrote put.wrote;
      effect = only_then _ _ _ c.loop-done.invariant.effect put.effect;
      later = omega (arith, c.loop-done.invariant.later, put.later);
      lost = omega (arith, c.loop-done.invariant.lost, put.lost);
    }
