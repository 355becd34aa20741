use Rattle.std.proofs.Common.{refl, arith, sym, ◌∙◌}
use Rattle.std.proofs.lemmas.List.Elements.{All-get_or}
use Rattle.layout_lint.specs.Owners.{IsThere}
use Rattle.layout_report.proofs.ListedLaws.{starts, goes_on, tears, ends, lacks}
use Rattle.layout_report.proofs.map.say_extents.Goals as goal

pub loop-k-init : goal.loop-k-init
loop-k-init g c = record { so = starts _ _ _ _; later = omega arith }

pub returns-in-Err-clause-says : goal.returns-in-Err-clause-says
returns-in-Err-clause-says g c = lacks _ _ _ _ _ _ _ _ _ c.loop-k.invariant.so

pub returns-in-Err-print-clause-says : goal.returns-in-Err-print-clause-says
returns-in-Err-print-clause-says g c =
    tears _ _ _ _ c.loop-k.k _ (g.O.Sink.taken c.loop-k.output) _ _ (g.O.Sink.faults c.loop-k.output) _ c.in-Ok.line.items c.deref.result.now _ _
    c.loop-k.invariant.so c.loop-k-test.true refl c.in-Ok.ensures.line c.deref.ensures.value c.loop-k.invariant.later c.in-Err-print.ensures.cause.failed c.in-Err-print.ensures.part

pub loop-k-preserved : goal.loop-k-preserved
loop-k-preserved g c = record {
  so = goes_on _ _ _ c.loop-k.k _ (g.O.Sink.taken c.loop-k.output) _ c.in-Ok.line.items c.deref.result.now _ _
      c.loop-k.invariant.so c.loop-k-test.true refl c.in-Ok.ensures.line c.deref.ensures.value c.in-Ok-print.ensures.whole;
  later = omega (arith, c.loop-k.invariant.later, c.in-Ok-print.ensures.cause.later);
}

pub returns-in-Ok-end_line-clause-says : goal.returns-in-Ok-end_line-clause-says
returns-in-Ok-end_line-clause-says g c =
    ends _ _ _ _ c.loop-k.k _ (g.O.Sink.taken c.loop-k.output) _ _ (g.O.Sink.faults c.loop-k.output) _ c.as_bytes.result.now _
    c.loop-k.invariant.so c.loop-k-test.false c.loop-k.invariant.later (c.as_bytes.ensures.value ∙ c.in-Ok-end_line.ensures) c.say.ensures

pub returns-in-Err-end_line-clause-says : goal.returns-in-Err-end_line-clause-says
returns-in-Err-end_line-clause-says g c = lacks _ _ _ _ _ _ _ _ _ c.loop-k.invariant.so
