use Rattle.adf_model.proofs.Trees.Renumbered.{numbered_is_tree, numbered_is_numbered, numbered_is_same}
use Rattle.adf_model.proofs.tree_laws.numbering.Goals as goal

pub returns-clause-keeps : goal.returns-clause-keeps
returns-clause-keeps c = numbered_is_tree

pub returns-clause-settles : goal.returns-clause-settles
returns-clause-settles c = numbered_is_numbered

pub returns-clause-same : goal.returns-clause-same
returns-clause-same c = numbered_is_same
