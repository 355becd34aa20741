use Rattle.file_heap.proofs.SlotLaws.{none_ends_there}
use Rattle.file_heap.proofs.slots.find_end.Goals as goal

pub returns-then-gap-place : goal.returns-then-gap-place
returns-then-gap-place c = none_ends_there c.args.place c.args.slots.now c.count_before-i.result c.requires.order c.count_before-i.ensures.count c.gap_of-gap.result c.gap_of-gap.ensures c.if-gap-place.true
