use Rattle.std.proofs.Common.{◌≡◌, ◌≤◌, ◌*◌, length}
use Rattle.std.specs.List.{list_any}
use Rattle.sids_readings.specs.Reading.{bytes_of, numbers_of}
use Rattle.sids_section_rules.specs.Entries.{fails, has_failing}
use Rattle.sids_section_rules.proofs.entries.has_failing.Given as goal

-- what is left of the numbers says the same as all of them
abbrev pub invariant-loop-left : goal.invariant-loop-left
invariant-loop-left l = record {
  fits : bytes_of l.fn.wide * l.left ≤ length l.rest;
  rest : list_any (fails l.fn.test) (numbers_of l.fn.format l.fn.wide l.left l.rest) ≡ has_failing l.fn.format l.fn.wide l.fn.test l.fn.bytes;
}

abbrev pub decreases-loop-left : goal.decreases-loop-left
decreases-loop-left l = l.left
