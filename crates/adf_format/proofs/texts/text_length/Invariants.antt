use Rattle.std.proofs.Common.{◌≡◌, ◌≤◌, length, take}
use Rattle.adf_format.specs.Fields.{trimmed}
use Rattle.adf_format.proofs.texts.text_length.Given as goal

-- what is cut so far are spaces
abbrev pub invariant-loop-n : goal.invariant-loop-n
invariant-loop-n l = record { within : l.n ≤ length l.bytes; same : trimmed (take l.n l.bytes) ≡ trimmed l.bytes }

abbrev pub decreases-loop-n : goal.decreases-loop-n
decreases-loop-n l = l.n
