use Rattle.std.proofs.Common.{arith}
use Rattle.layout_lint.proofs.SearchLaws.{root_first}
use Rattle.layout_lint.proofs.walk.look_at_root.Goals as goal

pub turn-requires-clause-solid : goal.turn-requires-clause-solid
turn-requires-clause-solid g c = c.in_ok-search.ensures.solid c.args.head.now.span.end (omega (arith, c.requires.long))

pub turn-requires-clause-steady : goal.turn-requires-clause-steady
turn-requires-clause-steady g c = c.in_ok-search.ensures.steady c.args.head.now.span.wide c.args.head.now.span.end

pub returns-in-Ok-clause-begun : goal.returns-in-Ok-clause-begun
returns-in-Ok-clause-begun g c = λ image told head.
    c.in-Ok.ensures.goes_on image told head.span (root_first image c.in_ok-search.search c.args.head.now.root head.root c.in_ok-search.ensures.none.0 (c.in_ok-search.ensures.begun image))

pub returns-in-Err-clause-stops : goal.returns-in-Err-clause-stops
returns-in-Err-clause-stops g c = λ image told head.
    c.in-Err.ensures.stops image told head.span (root_first image c.in_ok-search.search c.args.head.now.root head.root c.in_ok-search.ensures.none.0 (c.in_ok-search.ensures.begun image))
