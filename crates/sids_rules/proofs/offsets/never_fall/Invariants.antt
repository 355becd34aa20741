use Rattle.std.proofs.Common.{ℕ, ◌+◌, ◌<◌, ◌≤ℤ◌}
use Rattle.sids_rules.specs.Offsets.{offset_at}
use Rattle.sids_rules.proofs.offsets.never_fall.Given as goal

-- none that was passed is under the one before it
abbrev pub invariant-loop-k : goal.invariant-loop-k
invariant-loop-k l = (j : ℕ) → j + 1 < l.k → offset_at l.offsets j ≤ℤ offset_at l.offsets (j + 1)
