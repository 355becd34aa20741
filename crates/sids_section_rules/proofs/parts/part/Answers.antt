use Rattle.std.proofs.Common.{◌+◌, refl, arith, []}
use Rattle.sids_section_rules.proofs.PartLaws.{elements_are, at_most_is}
use Rattle.sids_section_rules.proofs.parts.part.Goals as goal

pub returns : goal.returns
returns c =
    let first = c.args.first in
    let count = c.args.count in
    record {
      fits = λ dim h. rw (at_most_is 1 (first + 1) (omega arith), at_most_is (first + 1) (first + count) (omega (arith, c.requires.some)), at_most_is (first + count) dim h) refl;
      elements = λ dim. elements_are dim first count [] [] [] c.requires.some;
    }
