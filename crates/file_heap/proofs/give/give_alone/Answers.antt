use Rattle.file_heap.proofs.Effects.{if_both, or_made}
use Rattle.file_heap.proofs.SlotSteps.{written_as}
use Rattle.file_heap.proofs.give.give_alone.Goals as goal

pub returns-clause-given : goal.returns-clause-given
returns-clause-given g c =
    or_made _ c.put_in.result c.or_memory.result c.or_memory.ensures.made
    (if_both c.put_in.result
    (λ more put one. written_as (g.S.ReadBytes.image c.args.space.now) (g.S.ReadBytes.image c.write_gap.new.space) c.args.slots.now.value c.in_ok-moved.moved.value more.value c.args.place c.args.n c.in_ok-first.first c.new_gap.result c.class_of-list.result
    c.new_gap.ensures c.class_of-list.ensures c.requires.gaps c.requires.apart c.requires.low c.requires.threads c.in_ok-first.ensures.written c.write_gap.ensures.bytes c.in_ok-moved.ensures.moves put one)
    (rw c.deref.ensures at c.put_in.ensures.gaps) (rw c.deref.ensures at c.put_in.ensures.chunks))
