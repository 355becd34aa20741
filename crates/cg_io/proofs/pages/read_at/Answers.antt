use Rattle.std.proofs.Common.{◌≡◌, ◌⊎◌, ◌+◌, ◌/◌, ◌%◌, length, arith, refl, sym, subst}
use Rattle.cg_io.specs.Device.{Gives}
use Rattle.cg_io.proofs.PieceLaws.{read_step, read_whole, few_step, edge_step}
use Rattle.cg_io.proofs.ReadLaws.{reads_then}
use Rattle.cg_io.proofs.pages.read_at.Goals as goal

pub loop-done-preserved : goal.loop-done-preserved
loop-done-preserved g c = let same : length c.overwrite.new.into ≡ length c.loop-done.into = c.overwrite.auto.into in
    let gives : Gives (g.B.Blocks.state c.args.blocks.now).held ((c.args.place + c.loop-done.done) / 4096) c.turn_to.new.page.bytes = rw c.loop-done.invariant.effect.held at c.in-Ok.ensures.told in
    record {
      inside = omega arith;
      ready = c.turn_to.ensures.ready;
      taken = read_step _ c.args.place c.loop-done.done c.min-count.result ((c.args.place + c.loop-done.done) / 4096) ((c.args.place + c.loop-done.done) % 4096) c.loop-done.into c.turn_to.new.page.bytes _ c.overwrite.new.into c.loop-done.invariant.taken gives (omega arith) (omega arith) c.turn_to.ensures.long refl c.overwrite.ensures;
      effect = reads_then _ _ _ _ _ _ c.loop-done.invariant.effect c.turn_to.ensures.effect (few_step c.args.place c.loop-done.done c.min-count.result (length c.loop-done.into) c.loop-done-test.true c.min-count.ensures c.loop-done.invariant.edge);
      edge = subst (λ n. (c.loop-done.done + c.min-count.result ≡ 0) ⊎ ((c.loop-done.done + c.min-count.result ≡ n) ⊎ ((c.args.place + (c.loop-done.done + c.min-count.result)) % 4096 ≡ 0))) (sym same) (edge_step c.args.place c.loop-done.done c.min-count.result (length c.loop-done.into) c.loop-done-test.true c.min-count.ensures);
    }

pub returns-clause-told : goal.returns-clause-told
returns-clause-told g c = let all : c.loop-done.done ≡ length c.loop-done.into = omega arith in read_whole _ c.args.place c.loop-done.into (rw all at c.loop-done.invariant.taken)
