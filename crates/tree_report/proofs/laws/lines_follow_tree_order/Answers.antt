use Rattle.tree_report.proofs.LevelLaws.{places_in_order}
use Rattle.tree_report.proofs.laws.lines_follow_tree_order.Goals as goal

pub returns : goal.returns
returns c = places_in_order
