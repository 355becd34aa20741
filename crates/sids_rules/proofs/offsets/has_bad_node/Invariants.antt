use Rattle.std.proofs.Common.{ℕ, ◌+◌, ◌<◌, drop}
use Rattle.std.specs.Prelude.{Any}
use Rattle.sids_rules.specs.Sections.{IsOutside}
use Rattle.sids_rules.specs.Offsets.{piece_at}
use Rattle.sids_rules.proofs.offsets.has_bad_node.Given as goal

-- no piece that was passed has a node that is none of the zone
abbrev pub invariant-loop-k : goal.invariant-loop-k
invariant-loop-k l = (j : ℕ) → j + 1 < l.k → ¬ Any (IsOutside l.limit) (drop l.skipped (piece_at l.connectivity l.offsets j))
