use Rattle.adf_model.proofs.Walks.WalkNames.{walk_sound}
use Rattle.adf_model.proofs.walk_laws.walks_find_trees.Goals as goal

pub returns : goal.returns
returns c = walk_sound
