use Rattle.std.proofs.Common.{◌≡◌, ◌++◌}
use Rattle.layout_lint.proofs.keys.append.Given as goal

abbrev pub invariant-loop-key : goal.invariant-loop-key
invariant-loop-key g l = l.row.items ++ l.key-iterator ≡ l.initial.row.items ++ l.keys.keys
