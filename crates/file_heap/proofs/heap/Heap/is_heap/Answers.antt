use Rattle.std.proofs.Common.{subst}
use Rattle.file_heap.specs.Heap.{HeapState, IsHeap}
use Rattle.file_heap.proofs.heap.Heap.is_heap.Goals as goal

pub returns-clause-work : goal.returns-clause-work
returns-clause-work c = subst (λ (s : HeapState). IsHeap s.work.heap) c.self.view_is c.self.invariant.now_is

pub returns-clause-kept : goal.returns-clause-kept
returns-clause-kept c = subst (λ (s : HeapState). IsHeap s.kept.heap) c.self.view_is c.self.invariant.kept_is
