use Rattle.std.proofs.Common.{refl}
use Rattle.std.specs.Prelude.{Bool, true, false, IsTrue, IsFalse}
use Rattle.file_heap.proofs.SlotLaws.{meets_nothing_there, meets_something_there}
use Rattle.file_heap.proofs.slots.meets_none.Goals as goal

pub returns-clause-none : goal.returns-clause-none
returns-clause-none c on = meets_nothing_there c.args.place c.args.n c.args.slots.now c.count_before-i.result c.requires.order c.count_before-i.ensures.count c.gap_of.result c.gap_of.ensures (c.is_beside.ensures.beside on)

pub returns-clause-all : goal.returns-clause-all
returns-clause-all c some none =
    by_answer c.is_beside.result (λ off. meets_something_there c.args.place c.args.n c.args.slots.now c.count_before-i.result c.requires.order c.count_before-i.ensures.count c.gap_of.result c.if-i-eq0.false c.gap_of.ensures some (c.is_beside.ensures.meets off) none)
  where
    by_answer : (t : Bool) → (IsFalse t → ⊥) → IsTrue t
    by_answer true off = refl
    by_answer false off = absurd (off refl)
