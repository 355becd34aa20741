use Rattle.std.proofs.Common.{◌≡◌, ◌≤◌, ◌++◌, length, drop}
use Rattle.adf_format.specs.Hex.{hex_text}
use Rattle.disk_ptr.proofs.write_long_hex.Given as goal

-- the digits of the rest, and those that are written, are the digits of the number
abbrev pub invariant-loop-left : goal.invariant-loop-left
invariant-loop-left l = record { digits : hex_text l.left l.rest ++ drop l.left l.into ≡ hex_text (length l.initial.into) l.value; within : l.left ≤ length l.into }

abbrev pub decreases-loop-left : goal.decreases-loop-left
decreases-loop-left l = l.left
