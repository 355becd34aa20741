use Rattle.checker_tests.proofs.PlainLaws.{plain_asked}
use Rattle.checker_tests.proofs.plain_trees.PlainTreesTreeCalls.ask.Goals as goal

pub returns-clause-asked : goal.returns-clause-asked
returns-clause-asked c = plain_asked _ _ c.answer.ensures
