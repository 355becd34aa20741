use Rattle.std.proofs.Common.{◌≡◌, ◌-◌, map}
use Rattle.std.specs.List.{range_with_len}
use Rattle.adf_format.specs.Checks.{first_broken}
use Rattle.adf_format.specs.FirstFault.{count_up}
use Rattle.adf_records.specs.Groups.{size_row}
use Rattle.adf_records.proofs.header.size_fault.Given as goal

-- the first broken row of those from i on is that of all
abbrev pub invariant-loop-i : goal.invariant-loop-i
invariant-loop-i l = first_broken (map (size_row l.bytes) (range_with_len l.i (12 - l.i))) ≡ first_broken (map (size_row l.bytes) (count_up 12))
