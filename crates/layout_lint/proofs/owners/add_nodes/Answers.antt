use Rattle.std.proofs.Common.{◌++◌, ◌∷◌, [], ◌∙◌, refl, ap, length, length-append, arith, Some}
use Rattle.cg_io.proofs.ReadLaws.{reads_then, reads_none}
use Rattle.layout_lint.specs.Nodes.{extents_at}
use Rattle.layout_lint.proofs.OwnerSteps.{there_more, no_fault_here, keep_behind, added_here, names_none, name_more, names_all}
use Rattle.layout_lint.proofs.RowSteps.{refused}
use Rattle.layout_lint.proofs.owners.add_nodes.Goals as goal

pub loop-k-init : goal.loop-k-init
loop-k-init g c = record {
  ready = c.requires.ready;
  effect = reads_none _ _;
  low = omega arith;
  room = omega arith;
  there = λ all. all;
  added = λ image told within. refl;
  named = λ image told within. names_none image c.args.places.now _;
  count = omega arith;
  keeps = λ image told within keep. keep;
}

pub returns-in_err-next-clause-sound : goal.returns-in_err-next-clause-sound
returns-in_err-next-clause-sound g c = refused _ _ _ c.from_residual.ensures.1 (λ image told within keep.
    no_fault_here image c.args.span.wide c.args.span.end c.args.places.now c.loop-k.k (omega arith) c.met_at-met.result c.met_at-met.ensures c.loop-k.used (c.loop-k.invariant.keeps image told within keep)
    c.in_err-next.field-0.0 (c.in_err-next.ensures.rows image (c.loop-k.invariant.effect.held ∙ told) within))

pub loop-k-preserved : goal.loop-k-preserved
loop-k-preserved g c = record {
  ready = c.in_ok-next.ensures.ready;
  effect = reads_then _ _ _ _ _ _ c.loop-k.invariant.effect c.in_ok-next.ensures.few (omega (arith, c.in_ok-next.ensures.next.more, c.loop-k.invariant.low));
  low = omega (arith, c.in_ok-next.ensures.next.more, c.loop-k.invariant.low);
  room = omega (arith, c.in_ok-next.ensures.next.room);
  there = λ all. there_more (length c.args.places.now) c.loop-k.parts.owned.items c.add_owned.new.owned.items (Some c.loop-k.k) c.deref.result.now (omega arith) c.in_ok-add_owned.ensures.added (c.loop-k.invariant.there all);
  added = λ image told within.
      added_here image c.args.span.wide c.args.span.end c.args.places.now c.loop-k.k (omega arith) c.met_at-met.result c.met_at-met.ensures _ c.loop-k.parts.owned.items c.add_owned.new.owned.items c.deref.result.now
      (c.loop-k.invariant.added image told within)
      (c.deref.ensures.value ∙ c.in_ok-next.ensures.extents image (c.loop-k.invariant.effect.held ∙ told) within ∙ ap (λ xs. xs ++ extents_at image c.args.span.wide c.met_at-met.result.place) c.new-extents.ensures.items)
      c.in_ok-add_owned.ensures.added;
  named = λ image told within.
      name_more image c.args.span.wide c.args.span.end c.args.places.now c.loop-k.k (omega arith) c.met_at-met.result c.met_at-met.ensures _ c.loop-k.parts.names.items c.push.new.self.items c.in_ok-next.next.name
      (c.loop-k.invariant.named image told within) c.in-Ok.ensures.items (c.in_ok-next.ensures.named image (c.loop-k.invariant.effect.held ∙ told) within);
  count = ap length c.in-Ok.ensures.items ∙ omega (arith, length-append c.loop-k.parts.names.items (c.in_ok-next.next.name ∷ []), c.loop-k.invariant.count);
  keeps = λ image told within keep.
      keep_behind image c.args.span.wide c.args.span.end c.args.places.now c.loop-k.k (omega arith) c.met_at-met.result c.met_at-met.ensures c.loop-k.used (c.loop-k.invariant.keeps image told within keep)
      c.in_ok-next.next (c.in_ok-next.ensures.leads image (c.loop-k.invariant.effect.held ∙ told) within);
}

pub returns-clause-named : goal.returns-clause-named
returns-clause-named g c = λ image told within. names_all image c.args.places.now c.loop-k.k _ c.loop-k.parts.names.items (omega arith) (c.loop-k.invariant.named image told within)
