use Rattle.std.proofs.Common.{◌≡◌, ◌≤◌, ◌*◌, ◌++◌, length}
use Rattle.std.specs.Prelude.{◌/◌}
use Rattle.sids_readings.specs.Reading.{bytes_of, numbers_of}
use Rattle.sids_readings.proofs.numbers.numbers_in.Given as goal

-- the numbers so far, and those in the rest, are all
abbrev pub invariant-loop-left : goal.invariant-loop-left
invariant-loop-left l = record {
  fits : bytes_of l.fn.wide * l.left ≤ length l.rest;
  found : l.numbers.items ++ numbers_of l.fn.format l.fn.wide l.left l.rest ≡ numbers_of l.fn.format l.fn.wide (length l.fn.bytes / bytes_of l.fn.wide) l.fn.bytes;
}

abbrev pub decreases-loop-left : goal.decreases-loop-left
decreases-loop-left l = l.left
