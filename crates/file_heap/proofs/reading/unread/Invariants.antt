use Rattle.std.proofs.Common.{◌≡◌, take}
use Rattle.gap_tree.specs.Slots.{gaps_of}
use Rattle.file_heap.proofs.reading.unread.Given as goal

abbrev pub invariant-loop-gap : goal.invariant-loop-gap
invariant-loop-gap l = record { gaps : gaps_of l.slots.items ≡ take l.gap-index l.gaps }
