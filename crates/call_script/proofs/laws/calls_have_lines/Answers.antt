use Rattle.call_script.proofs.PlainLaws.{call_has_line, group_has_line, open_has_line, close_has_line, children_has_line, create_has_line}
use Rattle.call_script.proofs.laws.calls_have_lines.Goals as goal

pub returns-clause-call : goal.returns-clause-call
returns-clause-call c = call_has_line

pub returns-clause-group : goal.returns-clause-group
returns-clause-group c = group_has_line

pub returns-clause-open : goal.returns-clause-open
returns-clause-open c = open_has_line

pub returns-clause-close : goal.returns-clause-close
returns-clause-close c = close_has_line

pub returns-clause-children : goal.returns-clause-children
returns-clause-children c = children_has_line

pub returns-clause-create : goal.returns-clause-create
returns-clause-create c = create_has_line
