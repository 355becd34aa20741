use Rattle.std.proofs.Common.{◌≡◌, ◌-◌, ◌*◌, ◌≤◌, ◌<◌, ℕ, false}
use Rattle.adf_format.specs.Fields.{field}
use Rattle.node_reads.specs.Entries.{is_wanted}
use Rattle.node_reads.proofs.find.first_in.Given as goal

abbrev pub invariant-loop-position : goal.invariant-loop-position
invariant-loop-position l = (j : ℕ) → l.from ≤ j → j < l.position → is_wanted l.wanted (field l.piece (44 * (j - l.from)) 44) ≡ false
