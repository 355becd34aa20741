use Rattle.std.proofs.Common.{◌≡◌, ◌++◌, drop}
use Rattle.tool_commands.specs.Checks.{closed_text}
use Rattle.tool_commands.proofs.checks.closed_text.Given as goal

-- the lines of the files so far
abbrev pub invariant-loop-at : goal.invariant-loop-at
invariant-loop-at l = l.text.items ++ closed_text (drop l.at l.outcomes) (drop l.at l.files) ≡ closed_text l.outcomes l.files
