use Rattle.std.proofs.Common.{◌≡◌, ◌<◌, ℕ, false}
use Rattle.tree_asks.specs.Hints.{is_placed}
use Rattle.tree_asks.proofs.hints.search.Given as goal

abbrev pub invariant-loop-serial : goal.invariant-loop-serial
invariant-loop-serial l = (k : ℕ) → k < l.serial → is_placed l.rows.items l.place k ≡ false
