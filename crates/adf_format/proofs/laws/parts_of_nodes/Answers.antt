use Rattle.adf_format.proofs.LayoutLaws.{live_parts, nodes_apart}
use Rattle.adf_format.proofs.laws.parts_of_nodes.Goals as goal

pub returns-clause-live : goal.returns-clause-live
returns-clause-live c = live_parts

pub returns-clause-apart : goal.returns-clause-apart
returns-clause-apart c = nodes_apart
