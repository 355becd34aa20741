use Rattle.std.proofs.Common.{◌≡◌, ◌-◌, map}
use Rattle.std.specs.List.{range_with_len}
use Rattle.adf_format.specs.Checks.{first_broken}
use Rattle.adf_format.specs.FirstFault.{dimension_row, count_up}
use Rattle.adf_records.proofs.node.dimension_fault.Given as goal

-- the first broken row of those from i on is that of all
abbrev pub invariant-loop-i : goal.invariant-loop-i
invariant-loop-i l = first_broken (map (dimension_row l.wide 0 l.bytes) (range_with_len l.i (l.rank - l.i))) ≡ first_broken (map (dimension_row l.wide 0 l.bytes) (count_up l.rank))
