use Rattle.tree_laws.proofs.Edits.EditsPlaced.{places_data}
use Rattle.tree_laws.proofs.data_laws.data_are_placed.Goals as goal

pub returns : goal.returns
returns c = places_data
