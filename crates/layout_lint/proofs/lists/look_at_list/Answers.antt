use Rattle.std.proofs.Common.{◌∙◌, arith}
use Rattle.cg_io.proofs.ReadLaws.{reads_then}
use Rattle.layout_lint.proofs.ShapeLaws.{adds_then}
use Rattle.layout_lint.proofs.ListLaws.{come_on, come_to_fault}
use Rattle.layout_lint.proofs.lists.look_at_list.Goals as goal

pub loop-next-preserved : goal.loop-next-preserved
loop-next-preserved g c = record {
  ready = c.look_at_free.ensures.ready;
  effect = reads_then _ _ _ _ _ _ c.loop-next.invariant.effect c.look_at_free.ensures.effect (omega (arith, c.in-Ok.ensures.more));
  low = omega (arith, c.in-Ok.ensures.more);
  room = c.in-Ok.ensures.room;
  bound = c.in-Ok.ensures.bound;
  solid = λ solid. c.in-Ok.ensures.solid (c.loop-next.invariant.solid solid);
  adds = adds_then _ _ _ c.loop-next.invariant.adds c.in-Ok.ensures.adds;
  come = λ image told nodes base number later span list begun.
      let told_now = c.loop-next.invariant.effect.held ∙ told in
      let inside = span.inside in
      come_on image nodes base c.args.span.end number c.in-Some.at later c.loop-next.next c.loop-next.frees span.end c.in-Some.is (c.loop-next.invariant.come image told nodes base number later span list begun)
      c.in-Ok.found c.look_at_free.new.frees (c.in-Ok.ensures.rows image told_now number inside list) (c.in-Ok.ensures.next image told_now inside) (c.in-Ok.ensures.kept image told_now inside);
}

pub returns-in-Err-clause-stops : goal.returns-in-Err-clause-stops
returns-in-Err-clause-stops g c = λ image told nodes base number later span list begun.
    come_to_fault image nodes base c.args.span.end number c.in-Some.at later c.loop-next.next c.loop-next.frees span.end c.in-Some.is (c.loop-next.invariant.come image told nodes base number later span list begun)
    c.in-Err.halt (c.in-Err.ensures.rows image (c.loop-next.invariant.effect.held ∙ told) number span.inside list)
