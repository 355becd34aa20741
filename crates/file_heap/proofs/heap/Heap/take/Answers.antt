use Rattle.std.proofs.Common.{subst, sym, []}
use Rattle.std.specs.Prelude.{IfOk, IfSome}
use Rattle.cg_io.specs.Answers.{IsUntold}
use Rattle.gap_tree.specs.Slots.{gaps_of}
use Rattle.file_heap.specs.Slots.{slots_in}
use Rattle.file_heap.specs.Heap.{HeapState, IsThreaded, IsTakeRefusal, ChangesHeap, TakesBy, TakesOfTiles, TakesCover, space_of}
use Rattle.file_heap.proofs.HeapFacts.{heap_gaps}
use Rattle.file_heap.proofs.CallLaws.{heap_of, state_of, grown_takes, grown_heap, grown_leaves, takes_of_tiles, takes_cover, taken_takes, taken_heap, taken_leaves}
use Rattle.file_heap.proofs.heap.Heap.take.Goals as goal

pub returns-in-None-clause-takes : goal.returns-in-None-clause-takes
returns-in-None-clause-takes g c =
    subst (λ (s : HeapState). TakesBy s.limit c.args.n s.work.heap c.grow.result (heap_of (gaps_of (slots_in c.self.inside.work c.self.inside.kept.value)) c.grow.new.end)) c.self.view_is
    (grown_takes c.self.inside.limit c.args.n (gaps_of (slots_in c.self.inside.work c.self.inside.kept.value)) c.self.inside.end c.grow.new.end c.grow.result (rw c.current.ensures at (rw c.deref.ensures at c.in-None.ensures)) c.grow.ensures.grows)

pub returns-in-None-clause-tiles : goal.returns-in-None-clause-tiles
returns-in-None-clause-tiles g c =
    subst (λ (s : HeapState). IfOk c.grow.result (TakesOfTiles c.args.n s.work.heap (heap_of (gaps_of (slots_in c.self.inside.work c.self.inside.kept.value)) c.grow.new.end))) c.self.view_is
    (takes_of_tiles c.self.inside.limit c.args.n (heap_of (gaps_of (slots_in c.self.inside.work c.self.inside.kept.value)) c.self.inside.end) (heap_of (gaps_of (slots_in c.self.inside.work c.self.inside.kept.value)) c.grow.new.end) c.grow.result
    (grown_takes c.self.inside.limit c.args.n (gaps_of (slots_in c.self.inside.work c.self.inside.kept.value)) c.self.inside.end c.grow.new.end c.grow.result (rw c.current.ensures at (rw c.deref.ensures at c.in-None.ensures)) c.grow.ensures.grows))

pub returns-in-None-clause-covers : goal.returns-in-None-clause-covers
returns-in-None-clause-covers g c =
    subst (λ (s : HeapState). IfOk c.grow.result (TakesCover c.args.n s.work.heap (heap_of (gaps_of (slots_in c.self.inside.work c.self.inside.kept.value)) c.grow.new.end))) c.self.view_is
    (takes_cover c.self.inside.limit c.args.n (heap_of (gaps_of (slots_in c.self.inside.work c.self.inside.kept.value)) c.self.inside.end) (heap_of (gaps_of (slots_in c.self.inside.work c.self.inside.kept.value)) c.grow.new.end) c.grow.result
    (grown_takes c.self.inside.limit c.args.n (gaps_of (slots_in c.self.inside.work c.self.inside.kept.value)) c.self.inside.end c.grow.new.end c.grow.result (rw c.current.ensures at (rw c.deref.ensures at c.in-None.ensures)) c.grow.ensures.grows))

pub returns-in-None-clause-changes : goal.returns-in-None-clause-changes
unfolding IsThreaded
returns-in-None-clause-changes g c =
    subst (λ (s : HeapState). ChangesHeap g.S.ReadBytes.is_sound g.S.ReadBytes.image g.S.ReadBytes.state g.S.ReadBytes.waiting [] 9 (IsTakeRefusal (IsUntold (g.S.ReadBytes.image c.args.space.now))) s (state_of (slots_in c.self.inside.work c.self.inside.kept.value) c.grow.new.end (space_of c.self.inside.kept.value c.self.inside.kept_end) c.self.inside.limit) c.args.space.now c.grow.new.space c.grow.result) c.self.view_is
    (grown_leaves g.S.ReadBytes.is_sound g.S.ReadBytes.image g.S.ReadBytes.state g.S.ReadBytes.waiting (slots_in c.self.inside.work c.self.inside.kept.value) c.self.inside.end (space_of c.self.inside.kept.value c.self.inside.kept_end) c.self.inside.limit c.args.space.now c.grow.new.space c.self.invariant.now_is c.grow.ensures.sound
    (subst (λ (s : HeapState). IfSome (g.S.ReadBytes.image c.args.space.now) (IsThreaded s.work)) (sym c.self.view_is) c.requires.threads)
    c.args.n c.grow.new.end c.grow.result c.self.invariant.most c.grow.ensures.grows c.grow.ensures.threads c.grow.ensures.bytes c.grow.ensures.end c.grow.ensures.effect c.grow.ensures.waiting c.grow.ensures.only c.grow.ensures.cause)

pub invariant_of-self : goal.invariant_of-self
invariant_of-self g c = record {
  now_is = grown_heap c.self.inside.limit c.args.n (gaps_of (slots_in c.self.inside.work c.self.inside.kept.value)) c.self.inside.end c.grow.new.end c.grow.result c.self.invariant.most c.grow.ensures.grows c.self.invariant.now_is;
  kept_is = c.self.invariant.kept_is;
  some = c.self.invariant.some;
  most = c.self.invariant.most;
}

pub take_front-requires-clause-gaps : goal.take_front-requires-clause-gaps
take_front-requires-clause-gaps g c =
    heap_gaps (heap_of (gaps_of (slots_in c.self.inside.work c.self.inside.kept.value)) c.self.inside.end) c.self.invariant.now_is

pub take_front-requires-clause-fit : goal.take_front-requires-clause-fit
take_front-requires-clause-fit g c =
    rw c.current.ensures at (rw c.deref.ensures at c.in-Some.ensures)

pub returns-in-Some-clause-takes : goal.returns-in-Some-clause-takes
returns-in-Some-clause-takes g c =
    subst (λ (s : HeapState). TakesBy s.limit c.args.n s.work.heap c.take_front.result (heap_of (gaps_of (slots_in c.take_front.new.work c.self.inside.kept.value)) c.self.inside.end)) c.self.view_is
    (taken_takes c.args.n c.in-Some.i c.self.inside.limit c.self.inside.end (slots_in c.self.inside.work c.self.inside.kept.value) (slots_in c.take_front.new.work c.self.inside.kept.value) (g.S.ReadBytes.image c.args.space.now) (g.S.ReadBytes.image c.take_front.new.space) c.take_front.result (rw c.current.ensures at (rw c.deref.ensures at c.in-Some.ensures)) c.take_front.ensures.place c.take_front.ensures.taken c.take_front.ensures.stays (g.S.ReadBytes.state c.args.space.now).faults (g.S.ReadBytes.state c.take_front.new.space).faults (IsUntold (g.S.ReadBytes.image c.args.space.now)) c.take_front.ensures.cause)

pub returns-in-Some-clause-tiles : goal.returns-in-Some-clause-tiles
returns-in-Some-clause-tiles g c =
    subst (λ (s : HeapState). IfOk c.take_front.result (TakesOfTiles c.args.n s.work.heap (heap_of (gaps_of (slots_in c.take_front.new.work c.self.inside.kept.value)) c.self.inside.end))) c.self.view_is
    (takes_of_tiles c.self.inside.limit c.args.n (heap_of (gaps_of (slots_in c.self.inside.work c.self.inside.kept.value)) c.self.inside.end) (heap_of (gaps_of (slots_in c.take_front.new.work c.self.inside.kept.value)) c.self.inside.end) c.take_front.result
    (taken_takes c.args.n c.in-Some.i c.self.inside.limit c.self.inside.end (slots_in c.self.inside.work c.self.inside.kept.value) (slots_in c.take_front.new.work c.self.inside.kept.value) (g.S.ReadBytes.image c.args.space.now) (g.S.ReadBytes.image c.take_front.new.space) c.take_front.result (rw c.current.ensures at (rw c.deref.ensures at c.in-Some.ensures)) c.take_front.ensures.place c.take_front.ensures.taken c.take_front.ensures.stays (g.S.ReadBytes.state c.args.space.now).faults (g.S.ReadBytes.state c.take_front.new.space).faults (IsUntold (g.S.ReadBytes.image c.args.space.now)) c.take_front.ensures.cause))

pub returns-in-Some-clause-covers : goal.returns-in-Some-clause-covers
returns-in-Some-clause-covers g c =
    subst (λ (s : HeapState). IfOk c.take_front.result (TakesCover c.args.n s.work.heap (heap_of (gaps_of (slots_in c.take_front.new.work c.self.inside.kept.value)) c.self.inside.end))) c.self.view_is
    (takes_cover c.self.inside.limit c.args.n (heap_of (gaps_of (slots_in c.self.inside.work c.self.inside.kept.value)) c.self.inside.end) (heap_of (gaps_of (slots_in c.take_front.new.work c.self.inside.kept.value)) c.self.inside.end) c.take_front.result
    (taken_takes c.args.n c.in-Some.i c.self.inside.limit c.self.inside.end (slots_in c.self.inside.work c.self.inside.kept.value) (slots_in c.take_front.new.work c.self.inside.kept.value) (g.S.ReadBytes.image c.args.space.now) (g.S.ReadBytes.image c.take_front.new.space) c.take_front.result (rw c.current.ensures at (rw c.deref.ensures at c.in-Some.ensures)) c.take_front.ensures.place c.take_front.ensures.taken c.take_front.ensures.stays (g.S.ReadBytes.state c.args.space.now).faults (g.S.ReadBytes.state c.take_front.new.space).faults (IsUntold (g.S.ReadBytes.image c.args.space.now)) c.take_front.ensures.cause))

pub returns-in-Some-clause-changes : goal.returns-in-Some-clause-changes
unfolding IsThreaded
returns-in-Some-clause-changes g c =
    subst (λ (s : HeapState). ChangesHeap g.S.ReadBytes.is_sound g.S.ReadBytes.image g.S.ReadBytes.state g.S.ReadBytes.waiting [] 9 (IsTakeRefusal (IsUntold (g.S.ReadBytes.image c.args.space.now))) s (state_of (slots_in c.take_front.new.work c.self.inside.kept.value) c.self.inside.end (space_of c.self.inside.kept.value c.self.inside.kept_end) c.self.inside.limit) c.args.space.now c.take_front.new.space c.take_front.result) c.self.view_is
    (taken_leaves g.S.ReadBytes.is_sound g.S.ReadBytes.image g.S.ReadBytes.state g.S.ReadBytes.waiting (slots_in c.self.inside.work c.self.inside.kept.value) (slots_in c.take_front.new.work c.self.inside.kept.value) c.self.inside.end (space_of c.self.inside.kept.value c.self.inside.kept_end) c.self.inside.limit c.args.n c.in-Some.i c.args.space.now c.take_front.new.space c.take_front.result c.requires.some.0 c.self.invariant.now_is c.take_front.ensures.sound
    (subst (λ (s : HeapState). IfSome (g.S.ReadBytes.image c.args.space.now) (IsThreaded s.work)) (sym c.self.view_is) c.requires.threads)
    (rw c.current.ensures at (rw c.deref.ensures at c.in-Some.ensures)) c.take_front.ensures.place c.take_front.ensures.taken c.take_front.ensures.stays c.take_front.ensures.bytes c.take_front.ensures.effect c.take_front.ensures.waiting c.take_front.ensures.only c.take_front.ensures.cause)

pub invariant_of-self-in-Some : goal.invariant_of-self-in-Some
invariant_of-self-in-Some g c = record {
  now_is =
      taken_heap c.args.n c.in-Some.i c.self.inside.limit c.self.inside.end (slots_in c.self.inside.work c.self.inside.kept.value) (slots_in c.take_front.new.work c.self.inside.kept.value) (g.S.ReadBytes.image c.args.space.now) (g.S.ReadBytes.image c.take_front.new.space) c.take_front.result (rw c.current.ensures at (rw c.deref.ensures at c.in-Some.ensures)) c.take_front.ensures.place c.take_front.ensures.taken c.take_front.ensures.stays c.requires.some.0 c.self.invariant.now_is;
  kept_is = c.self.invariant.kept_is;
  some = c.self.invariant.some;
  most = c.self.invariant.most;
}

pub take_front-requires-clause-threads : goal.take_front-requires-clause-threads
unfolding IsThreaded
take_front-requires-clause-threads g c = subst (λ (s : HeapState). IfSome (g.S.ReadBytes.image c.args.space.now) (IsThreaded s.work)) (sym c.self.view_is) c.requires.threads
