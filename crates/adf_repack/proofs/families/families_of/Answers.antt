use Rattle.std.proofs.Common.{◌-◌, ◌≤◌, ◌∙◌, arith, length, length-set}
use Rattle.layout_lint.specs.declared.verdict.NodePlace.{NodePlace}
use Rattle.adf_repack.proofs.FamilyLaws.{own, put_at, count_at, few_at}
use Rattle.adf_repack.proofs.families.families_of.Goals as goal

abbrev none : NodePlace
none = record { place = 0; parent = 0; position = 0; depth = 0 }

pub overflow_add-index_mut : goal.overflow_add-index_mut
overflow_add-index_mut c =
    let small : c.index_mut-in-loop-number-2.result.now ≤ length c.args.nodes.now - c.loop-number.number
    = few_at c.args.nodes.now c.loop-number.number none c.loop-number-test.true c.loop-number.invariant.within c.requires c.loop-number.count.items
    c.index_mut-in-loop-number-2.result.now c.loop-number.invariant.count c.index_mut-in-loop-number-2.ensures.value
    (c.loop-number.invariant.counts _ (own c.args.nodes.now c.loop-number.number none c.loop-number-test.true c.loop-number.invariant.within c.requires)) in
    omega (arith, small, c.loop-number-test.true)

pub loop-number-preserved : goal.loop-number-preserved
loop-number-preserved c = record {
  within = omega (arith, c.loop-number.invariant.within);
  low = λ h. omega (arith, c.loop-number-test.true);
  first = length-set c.loop-number.first.items _ _ ∙ c.loop-number.invariant.first;
  next = length-set c.loop-number.next.items _ _ ∙ c.loop-number.invariant.next;
  count = length-set c.loop-number.count.items _ _ ∙ c.loop-number.invariant.count;
  lists = λ k lt. put_at c.args.nodes.now c.loop-number.number none c.loop-number-test.true c.loop-number.invariant.within c.requires c.loop-number.next.items c.loop-number.first.items k
      c.index.result.now c.loop-number.invariant.next c.loop-number.invariant.first c.index.ensures (c.loop-number.invariant.lists k lt);
  counts = λ k lt. count_at c.args.nodes.now c.loop-number.number none c.loop-number-test.true c.loop-number.invariant.within c.requires c.loop-number.count.items k
      c.index_mut-in-loop-number-2.result.now c.loop-number.invariant.count c.index_mut-in-loop-number-2.ensures.value (c.loop-number.invariant.counts k lt);
}
