use Rattle.std.proofs.Common.{rules, arith}
use Rattle.checker_tests.proofs.PlainLaws.{nothing_edited, edits_refused}
use Rattle.checker_tests.proofs.plain_trees.PlainTreesTreeCalls.edit.Goals as goal

pub returns-then-is_empty-clause-edited : goal.returns-then-is_empty-clause-edited
returns-then-is_empty-clause-edited c = nothing_edited c.args.edits.now _ (grind arith) (search rules)

pub returns-else-is_empty-clause-edited : goal.returns-else-is_empty-clause-edited
returns-else-is_empty-clause-edited c = edits_refused c.args.edits.now _ (grind arith) (search rules)
