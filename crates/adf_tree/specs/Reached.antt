-- An edit of a node that was reached through links.
use Rattle.std.specs.Prelude.{Option, Some, None}
use Rattle.adf_model.specs.Edits.{with_followed}
use Rattle.adf_model.specs.declared.tree.Edit.{Edit}
use Rattle.adf_model.specs.declared.tree.NodeId.{NodeId}

-- the edit of the node that was reached, where one was
abbrev pub with_reached : Edit → Option NodeId → Edit
with_reached edit None = edit
with_reached edit (Some there) = with_followed edit there

abbrev pub or_reached : NodeId → Option NodeId → NodeId
or_reached node None = node
or_reached node (Some there) = there
