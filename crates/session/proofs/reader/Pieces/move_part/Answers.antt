use Rattle.session.proofs.Reading.{moved}
use Rattle.session.proofs.reader.Pieces.move_part.Goals as goal

pub returns-clause-moved : goal.returns-clause-moved
returns-clause-moved c =
    moved _ _ _ _ _ _ _ _ _ _ _ _ c.self.view_is c.self.invariant.0 c.part_in-part.ensures.cut c.part_in-part.ensures.plain (c.part_in-part.ensures.bound.1) c.part_in-part.ensures.all c.in_ok-now_long.ensures.held
