use Rattle.std.proofs.Common.{◌∙◌, refl}
use Rattle.adf_salvage.proofs.PartLaws.{part_found}
use Rattle.adf_salvage.proofs.part.part_of.Goals as goal

pub returns-clause-part : goal.returns-clause-part
returns-clause-part g c = λ image told.
    let start = c.in_ok-start.ensures.says image told in
    part_found image c.in_ok-start.start c.in_ok-found.found _ start (c.in_ok-found.ensures.found image (c.look_at_start.ensures.effect.held ∙ told) start) c.new.ensures c.new-2.ensures refl

pub returns-clause-shape : goal.returns-clause-shape
returns-clause-shape g c =
    let going = c.in_ok-found.ensures.going in
    record {
      some = rw c.new.ensures going.some;
      linked = rw c.new.ensures going.linked;
      end = c.in_ok-start.start.span.end;
      reached = c.in_ok-start.ensures.bound;
      headers = rw c.new.ensures going.headers;
      rules = rw c.new-2.ensures going.rules;
    }
