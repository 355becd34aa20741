use Rattle.salvage_given.proofs.PartGiven.{part_given}
use Rattle.salvage_given.proofs.sound_part_is_given.Goals as goal

pub returns : goal.returns
returns c = λ image kept left nodes part some named. part_given image kept left part some nodes named
