use Rattle.std.proofs.Common.{◌∙◌, ◌<◌, ◌≤◌, ap, subst, sym, length}
use Rattle.cgns_check.specs.Levels.{advanced}
use Rattle.cgns_check.proofs.LevelLaws.{moves}
use Rattle.cgns_check.proofs.frame.Frame.advance.Goals as goal

pub returns : goal.returns
returns c =
    let f = c.self.inside in
    let moved = c.behind-self-inside in
    moves f.at f.base f.zone f.inside f.entries f.next moved.result
    (λ h. moved.ensures.moved (subst (λ xs. f.next < length xs) (sym c.items.ensures) h))
    (λ h. moved.ensures.stays (subst (λ xs. length xs ≤ f.next) (sym c.items.ensures) h))
    ∙ ap advanced c.self.view_is
