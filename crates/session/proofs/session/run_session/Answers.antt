use Rattle.std.proofs.Common.{◌++◌, arith}
use Rattle.session.proofs.Running.{then_on, then_ends, uses_then, all_taken}
use Rattle.session.proofs.session.run_session.Goals as goal

pub returns-in-Err-clause-run : goal.returns-in-Err-clause-run
returns-in-Err-clause-run g c = then_ends _ _ _ _ c.turns.invariant.turns c.in-Err.ensures.run

pub returns-in-Err-clause-bound : goal.returns-in-Err-clause-bound
returns-in-Err-clause-bound g c =
    let first = c.turns.invariant.uses in
    let last = c.in-Err.ensures.uses in
    all_taken _ _ _ _ _ (uses_then _ _ _ _ _ _ _ _ first.1 last.1) c.in-Err.ensures.bound

pub turns-preserved : goal.turns-preserved
turns-preserved g c =
    let now = c.in_default.ensures in
    record {
      ready = now.ready;
      turns = then_on _ _ _ c.turns.invariant.turns now.one;
      uses = (c.turns.invariant.uses.0 ++ now.uses.0, uses_then _ _ _ _ _ _ _ _ c.turns.invariant.uses.1 now.uses.1);
      source_later = omega (arith, c.turns.invariant.source_later, now.source_later);
      sink_later = omega (arith, c.turns.invariant.sink_later, now.sink_later);
    }
