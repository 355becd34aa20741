use Rattle.std.proofs.Common.{◌≡◌, rules}
use Rattle.call_script.specs.Lines.{group_word}
use Rattle.call_script.proofs.CallLaws.{group_only, call_only}
use Rattle.call_script.proofs.lines.read_tokens.Goals as goal

pub returns-then-eq-clause-none : goal.returns-then-eq-clause-none
returns-then-eq-clause-none c = λ is call h.
    let word : c.in_ok-token.token.now ≡ group_word = search rules in
    group_only _ _ _ call c.in_ok-token.ensures.found word (c.read_group.ensures.none is call) h

pub returns-in-Some-clause-none : goal.returns-in-Some-clause-none
returns-in-Some-clause-none c = λ is call h. call_only _ _ _ c.in-Some.word call c.in_ok-token.ensures.found c.in-Some.ensures.found (c.read_all_fields.ensures.none is call) h
