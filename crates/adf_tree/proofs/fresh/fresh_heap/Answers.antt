use Rattle.std.proofs.Common.{[], subst, sym, List, ℕ}
use Rattle.adf_format.specs.declared.types.Extent.{Extent}
use Rattle.file_heap.specs.Heap.{IsHeap}
use Rattle.adf_tree.proofs.FreshFile.{fresh_is_heap}
use Rattle.adf_tree.proofs.fresh.fresh_heap.Goals as goal

pub new-requires-clause-heap : goal.new-requires-clause-heap
new-requires-clause-heap g c =
    subst (λ (gaps : List Extent). IsHeap (record { gaps = gaps; end = c.last_byte.result })) (sym c.no_gaps-gaps.ensures)
    (subst (λ (n : ℕ). IsHeap (record { gaps = []; end = n })) (sym c.last_byte.ensures) (fresh_is_heap c.args.wide))
