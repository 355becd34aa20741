use Rattle.tree_laws.proofs.Facts.StaysPlaced.{edit_stays_placed, group_stays_placed}
use Rattle.tree_laws.proofs.placed_laws.edits_stay_placed.Goals as goal

pub returns-clause-edit : goal.returns-clause-edit
returns-clause-edit c = edit_stays_placed

pub returns-clause-group : goal.returns-clause-group
returns-clause-group c = group_stays_placed
