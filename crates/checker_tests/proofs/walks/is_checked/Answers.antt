use Rattle.checker_tests.proofs.LinkLaws.{links_worded}
use Rattle.checker_tests.proofs.walks.is_checked.Goals as goal

pub check_by-answer-requires-clause-worded : goal.check_by-answer-requires-clause-worded
check_by-answer-requires-clause-worded c = links_worded
