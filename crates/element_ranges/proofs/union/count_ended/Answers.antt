use Rattle.std.proofs.Common.{◌≡◌, rules, arith, Bool, true, false}
use Rattle.std.specs.Prelude.{nat_lt}
use Rattle.std.proofs.lemmas.List.Sorted.{IsPartitionPoint-from_clause}
use Rattle.element_ranges.specs.declared.union.Span.{Span}
use Rattle.element_ranges.proofs.RangeLaws.{no_span, ends_parted, taken, dropped}
use Rattle.element_ranges.proofs.union.count_ended.Goals as goal

pub returns-clause-front : goal.returns-clause-front
returns-clause-front c =
    let test : Span → Bool = λ r. nat_lt r.end c.args.end in
    let point = IsPartitionPoint-from_clause test _ _ c.partition_point.ensures.partitioned (ends_parted c.args.ranges.now c.args.end c.requires) (λ a r q k. search rules) in
    taken (λ (r : Span). test r ≡ true) _ _ no_span c.partition_point.ensures.bound (λ k lt. point.0 k no_span (omega arith) lt)

pub returns-clause-back : goal.returns-clause-back
returns-clause-back c =
    let test : Span → Bool = λ r. nat_lt r.end c.args.end in
    let point = IsPartitionPoint-from_clause test _ _ c.partition_point.ensures.partitioned (ends_parted c.args.ranges.now c.args.end c.requires) (λ a r q k. search rules) in
    dropped (λ (r : Span). test r ≡ false) _ _ no_span (λ k le lt. point.1 k no_span le lt)
