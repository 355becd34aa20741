use Rattle.file_heap.proofs.SlotLaws.{none_begins_there}
use Rattle.file_heap.proofs.slots.find_begin.Goals as goal

pub returns-then-gap_of-place : goal.returns-then-gap_of-place
returns-then-gap_of-place c = none_begins_there c.args.place c.args.slots.now c.count_before-i.result c.requires c.count_before-i.ensures.count c.gap_of.result c.gap_of.ensures c.if-gap_of-place.true
