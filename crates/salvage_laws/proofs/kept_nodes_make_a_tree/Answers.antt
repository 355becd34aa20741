use Rattle.salvage_laws.proofs.SurveyNodes.{kept_tree}
use Rattle.salvage_laws.proofs.kept_nodes_make_a_tree.Goals as goal

pub returns : goal.returns
returns c = λ image kept left part some. kept_tree image kept left part some
