use Rattle.std.proofs.Common.{drop}
use Rattle.sids_section_rules.proofs.SpanLaws.{Covers}
use Rattle.sids_section_rules.proofs.spans.union_of.Given as goal

-- what is put together so far, with the ranges that are left, has what all have
abbrev pub invariant-loop-range : goal.invariant-loop-range
invariant-loop-range l = Covers l.union (drop l.range-index l.ranges) l.ranges
