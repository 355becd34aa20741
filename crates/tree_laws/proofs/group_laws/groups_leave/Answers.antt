use Rattle.tree_laws.proofs.Groups.GroupLeft.{edit_keeps_format, group_keeps_format, nothing_leaves, one_more_leaves, group_leaves}
use Rattle.tree_laws.proofs.group_laws.groups_leave.Goals as goal

pub returns-clause-format : goal.returns-clause-format
returns-clause-format c = edit_keeps_format

pub returns-clause-formats : goal.returns-clause-formats
returns-clause-formats c = group_keeps_format

pub returns-clause-nothing : goal.returns-clause-nothing
returns-clause-nothing c = nothing_leaves

pub returns-clause-more : goal.returns-clause-more
returns-clause-more c = one_more_leaves

pub returns-clause-all : goal.returns-clause-all
returns-clause-all c = group_leaves
