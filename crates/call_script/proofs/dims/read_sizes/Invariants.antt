use Rattle.std.proofs.Common.{length}
use Rattle.call_script.specs.Tokens.{tokens_left}
use Rattle.call_script.proofs.Sizes.{HasSizes}
use Rattle.call_script.proofs.dims.read_sizes.Given as goal

-- the pieces that were read, and those behind them
abbrev pub invariant-loop-piece : goal.invariant-loop-piece
invariant-loop-piece l = HasSizes (tokens_left l.fn.pieces) (tokens_left l.pieces) l.rank l.sizes

abbrev pub decreases-loop-piece : goal.decreases-loop-piece
decreases-loop-piece l = length (tokens_left l.pieces)
