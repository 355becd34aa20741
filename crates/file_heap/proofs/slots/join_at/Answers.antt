use Rattle.std.proofs.Common.{refl, arith, ◌+◌}
use Rattle.std.specs.Prelude.{None}
use Rattle.adf_format.specs.Placement.{extent}
use Rattle.adf_format.specs.declared.types.ExtentKind.{ExtentKind}
use Rattle.file_heap.proofs.Effects.{if_ok}
use Rattle.file_heap.proofs.SlotLaws.{no_more}
use Rattle.file_heap.proofs.slots.join_at.Goals as goal

pub returns-clause-chunks : goal.returns-clause-chunks
returns-clause-chunks c =
    let count = rw c.deref.ensures at c.len-count.ensures.count in
    let set = rw c.deref-4.ensures at c.in_ok-joined.ensures in
    if_ok c.removed.result
    (λ new less. no_more c.args.slots.now.value c.args.i c.gap_of-gap.result c.gap_of-next.result (omega (arith, c.if-i-count.false, count)) (rw c.deref-2.ensures at c.gap_of-gap.ensures) (rw c.deref-3.ensures at c.gap_of-next.ensures)
    (record { gap = extent ExtentKind.Filler c.gap_of-gap.result.place (c.gap_of-gap.result.length + c.gap_of-next.result.length); spot = None }) c.in_ok-joined.joined.value new.value refl set less) (rw c.deref-5.ensures at c.removed.ensures)
