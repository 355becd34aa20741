use Rattle.std.proofs.Common.{length}
use Rattle.call_script.specs.Tokens.{tokens_left}
use Rattle.call_script.proofs.CallLaws.{HasEdits}
use Rattle.call_script.proofs.edits.read_edits.Given as goal

-- the edits that were read, and the tokens behind them
abbrev pub invariant-edits : goal.invariant-edits
invariant-edits l = HasEdits (tokens_left l.fn.tokens) (tokens_left l.tokens) l.edits.items

-- each edit takes a token
abbrev pub decreases-edits : goal.decreases-edits
decreases-edits l = length (tokens_left l.tokens)
