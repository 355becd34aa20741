use Rattle.std.proofs.Common.{◌∙◌, ap, ◌++◌, ◌∷◌, [], List, ℕ, map}
use Rattle.sids_rules.specs.Findings.{printed_path}
use Rattle.cgns_check.specs.Level.{Level}
use Rattle.cgns_check.proofs.PathLaws.{next_is}
use Rattle.cgns_check.proofs.stack.next_of.Goals as goal

pub returns-in-Ok-clause-next : goal.returns-in-Ok-clause-next
returns-in-Ok-clause-next c =
    let above = c.in-Some.above.now in
    let waits = c.in-Some-first.ensures in
    next_is c.args.frames.now above c.in-Some.frame.now c.in-Some.ensures.cases.0 c.in-Some-first.child.now waits.0 waits.1 _ c.stop_at.ensures
    (c.in-Ok.ensures.path ∙ ap (λ (n : List ℕ). printed_path (map (λ (level : Level). level.given) above ++ n ∷ [])) c.items.ensures)
