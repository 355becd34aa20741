use Rattle.std.proofs.Common.{◌∙◌}
use Rattle.gap_tree.specs.Slots.{gaps_of}
use Rattle.file_heap.specs.Heap.{IsThreaded}
use Rattle.file_heap.proofs.CallLaws.{gaps_are}
use Rattle.file_heap.proofs.ReadLaws.{none_read, new_threads}
use Rattle.file_heap.proofs.heap.Heap.new.Goals as goal

pub read_list-requires-clause-before : goal.read_list-requires-clause-before
read_list-requires-clause-before g c = rw c.in_ok-unread.ensures.none (none_read (g.S.ReadBytes.image c.args.space.now) (gaps_of c.in_ok-unread.unread.slots.value) c.in_ok-unread.unread.slots.value)

pub read_list-requires-2-clause-gaps : goal.read_list-requires-2-clause-gaps
read_list-requires-2-clause-gaps g c = gaps_are c.args.gaps.now c.args.end c.in_ok-small.small.slots.value c.requires.heap (c.in_ok-small.ensures.gaps ∙ rw c.items.ensures at c.in_ok-unread.ensures.gaps)

pub read_list-requires-3-clause-gaps : goal.read_list-requires-3-clause-gaps
read_list-requires-3-clause-gaps g c =
    gaps_are c.args.gaps.now c.args.end c.in_ok-medium.medium.slots.value c.requires.heap (c.in_ok-medium.ensures.gaps ∙ c.in_ok-small.ensures.gaps ∙ rw c.items.ensures at c.in_ok-unread.ensures.gaps)

pub returns-clause-threads : goal.returns-clause-threads
unfolding IsThreaded
returns-clause-threads g c =
    new_threads (g.S.ReadBytes.image c.args.space.now) (g.S.ReadBytes.image c.read_list-2.new.space) (g.S.ReadBytes.image c.read_list-3.new.space) c.args.gaps.now c.in_ok-medium.medium.slots.value c.in_ok-kept.kept.slots.value c.in_ok-kept.kept.chunks
    (c.read_list-2.ensures.image ∙ c.read_list.ensures.image) c.read_list-3.ensures.image (c.in_ok-medium.ensures.gaps ∙ c.in_ok-small.ensures.gaps ∙ rw c.items.ensures at c.in_ok-unread.ensures.gaps)
    c.in_ok-kept.ensures.gaps c.requires.threads c.in_ok-kept.ensures.read
