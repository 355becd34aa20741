use Rattle.std.proofs.Common.{ℕ, ◌+◌, ◌<◌}
use Rattle.sids_rules.specs.Offsets.{IsMixedPiece, piece_at}
use Rattle.sids_rules.proofs.offsets.has_bad_piece.Given as goal

-- each piece that was passed is an element
abbrev pub invariant-loop-k : goal.invariant-loop-k
invariant-loop-k l = (j : ℕ) → j + 1 < l.k → IsMixedPiece (piece_at l.connectivity l.offsets j)
