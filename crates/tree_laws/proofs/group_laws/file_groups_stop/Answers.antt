use Rattle.tree_laws.proofs.Groups.FileStops.{stops_as_tree, stops_full}
use Rattle.tree_laws.proofs.group_laws.file_groups_stop.Goals as goal

pub returns-clause-tree : goal.returns-clause-tree
returns-clause-tree c = stops_as_tree

pub returns-clause-full : goal.returns-clause-full
returns-clause-full c = stops_full
