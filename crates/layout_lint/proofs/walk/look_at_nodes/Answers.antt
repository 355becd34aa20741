use Rattle.std.proofs.Common.{◌∙◌, ap, refl}
use Rattle.layout_lint.specs.Walks.{waiting_in}
use Rattle.layout_lint.proofs.SearchLaws.{ends}
use Rattle.layout_lint.proofs.walk.look_at_nodes.Goals as goal

pub returns-clause-found : goal.returns-clause-found
returns-clause-found g c = λ image told head.
    ends image c.step.new.search _ (waiting_in image c.step.new.search.families.items) (c.in-Ok-false.ensures.goes_on image (c.walk.invariant.effect.held ∙ told) head.span (c.walk.invariant.search image told head))
    (ap (waiting_in image) (c.in-Ok-false.ensures.last c.in-Ok-false.field-0-test)) refl refl refl
