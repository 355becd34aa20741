use Rattle.std.proofs.Common.{arith}
use Rattle.tool_commands.proofs.SalvageLaws.{begins, goes_on, tears, ends, lacks}
use Rattle.tool_commands.proofs.salvages.tell_saved.Goals as goal

pub loop-k-init : goal.loop-k-init
loop-k-init g c = record { took = begins c.items-left.result.now _; later = omega arith }

pub returns-in-Err : goal.returns-in-Err
returns-in-Err g c = lacks c.args.saved.now _ c.loop-k.k _ _ _ _ c.items-left.ensures c.loop-k.invariant.took c.loop-k.invariant.later

pub returns-in-Err-print : goal.returns-in-Err-print
returns-in-Err-print g c =
    tears c.args.saved.now _ c.loop-k.k _ (g.O.Sink.taken c.loop-k.output) _ _ (g.O.Sink.faults c.loop-k.output) _ c.in-Ok.line.items c.deref.result.now _ _ c.items-left.ensures
    c.loop-k-test.true c.index-left-k.is c.in-Ok.ensures c.deref.ensures.value c.loop-k.invariant.took c.loop-k.invariant.later c.in-Err-print.ensures.cause.later c.in-Err-print.ensures.cause.failed c.in-Err-print.ensures.part

pub loop-k-preserved : goal.loop-k-preserved
loop-k-preserved g c = record {
  took = goes_on _ c.loop-k.k _ (g.O.Sink.taken c.loop-k.output) _ c.in-Ok.line.items c.deref.result.now _ _
      c.loop-k-test.true c.index-left-k.is c.in-Ok.ensures c.deref.ensures.value c.loop-k.invariant.took c.in-Ok-print.ensures.whole;
  later = omega (arith, c.loop-k.invariant.later, c.in-Ok-print.ensures.cause.later);
}

pub returns-in-Ok-line_of : goal.returns-in-Ok-line_of
returns-in-Ok-line_of g c =
    ends c.args.saved.now _ c.loop-k.k _ (g.O.Sink.taken c.loop-k.output) _ _ (g.O.Sink.faults c.loop-k.output) _ c.in-Ok-line_of.line.items c.deref-in-Ok-line_of.result.now _ _ c.items-left.ensures
    c.loop-k-test.false c.status_of.ensures c.in-Ok-line_of.ensures c.deref-in-Ok-line_of.ensures.value c.loop-k.invariant.took c.loop-k.invariant.later c.ended.ensures

pub returns-in-Err-line_of : goal.returns-in-Err-line_of
returns-in-Err-line_of g c = lacks c.args.saved.now _ c.loop-k.k _ _ _ _ c.items-left.ensures c.loop-k.invariant.took c.loop-k.invariant.later
