use Rattle.std.proofs.Common.{subst, sym, ap, ◌≡◌, ◌+◌, ◌≤◌, [], ◌∷◌}
use Rattle.std.specs.Prelude.{OnOk, IfSome}
use Rattle.cg_io.specs.Answers.{IsRefusal, IsUntold}
use Rattle.adf_format.specs.Tiles.{MeetsNone}
use Rattle.adf_format.specs.HeapRule.{heap_give}
use Rattle.gap_tree.specs.Slots.{gaps_of}
use Rattle.file_heap.specs.Links.{range}
use Rattle.file_heap.specs.Slots.{slots_in}
use Rattle.file_heap.specs.Heap.{HeapState, IsThreaded, ChangesHeap, GivesToTiles, GivesCover, space_of}
use Rattle.file_heap.proofs.Effects.{on_ok}
use Rattle.file_heap.proofs.CallLaws.{heap_of, state_of, given_tiles, given_covers, given_leaves, gift_is, gift_heap}
use Rattle.file_heap.proofs.heap.Heap.give.Goals as goal

pub invariant_of-self : goal.invariant_of-self
invariant_of-self g c = record {
  now_is =
      gift_heap c.args.place c.args.n c.self.inside.end (slots_in c.self.inside.work c.self.inside.kept.value) (slots_in c.give_back.new.work c.self.inside.kept.value) (g.S.ReadBytes.image c.args.space.now) (g.S.ReadBytes.image c.give_back.new.space) c.give_back.result c.give_back.ensures.given c.give_back.ensures.stays c.requires.some
      (subst (λ (s : HeapState). MeetsNone c.args.place c.args.n s.work.heap.gaps) (sym c.self.view_is) c.requires.apart) c.requires.within.0
      (subst (λ (s : HeapState). c.args.place + c.args.n ≤ s.work.heap.end + 1) (sym c.self.view_is) c.requires.within.1) c.self.invariant.now_is;
  kept_is = c.self.invariant.kept_is;
  some = c.self.invariant.some;
  most = c.self.invariant.most;
}

pub returns-clause-gives : goal.returns-clause-gives
returns-clause-gives g c =
    subst (λ (s : HeapState). OnOk c.give_back.result (heap_of (gaps_of (slots_in c.give_back.new.work c.self.inside.kept.value)) c.self.inside.end ≡ heap_give c.args.place c.args.n s.work.heap)) c.self.view_is
    (on_ok c.give_back.result (λ is. ap (λ gs. heap_of gs c.self.inside.end) is) (gift_is c.args.place c.args.n c.self.inside.end (slots_in c.self.inside.work c.self.inside.kept.value) (slots_in c.give_back.new.work c.self.inside.kept.value) (g.S.ReadBytes.image c.args.space.now) (g.S.ReadBytes.image c.give_back.new.space) c.give_back.result c.give_back.ensures.given c.give_back.ensures.stays))

pub returns-clause-tiles : goal.returns-clause-tiles
returns-clause-tiles g c =
    subst (λ (s : HeapState). OnOk c.give_back.result (GivesToTiles c.args.place c.args.n s.work.heap (heap_of (gaps_of (slots_in c.give_back.new.work c.self.inside.kept.value)) c.self.inside.end))) c.self.view_is
    (given_tiles c.args.place c.args.n (gaps_of (slots_in c.self.inside.work c.self.inside.kept.value)) (gaps_of (slots_in c.give_back.new.work c.self.inside.kept.value)) c.self.inside.end c.give_back.result (gift_is c.args.place c.args.n c.self.inside.end (slots_in c.self.inside.work c.self.inside.kept.value) (slots_in c.give_back.new.work c.self.inside.kept.value) (g.S.ReadBytes.image c.args.space.now) (g.S.ReadBytes.image c.give_back.new.space) c.give_back.result c.give_back.ensures.given c.give_back.ensures.stays))

pub returns-clause-covers : goal.returns-clause-covers
returns-clause-covers g c =
    subst (λ (s : HeapState). OnOk c.give_back.result (GivesCover c.args.place c.args.n s.work.heap (heap_of (gaps_of (slots_in c.give_back.new.work c.self.inside.kept.value)) c.self.inside.end))) c.self.view_is
    (given_covers c.args.place c.args.n (gaps_of (slots_in c.self.inside.work c.self.inside.kept.value)) (gaps_of (slots_in c.give_back.new.work c.self.inside.kept.value)) c.self.inside.end c.give_back.result (gift_is c.args.place c.args.n c.self.inside.end (slots_in c.self.inside.work c.self.inside.kept.value) (slots_in c.give_back.new.work c.self.inside.kept.value) (g.S.ReadBytes.image c.args.space.now) (g.S.ReadBytes.image c.give_back.new.space) c.give_back.result c.give_back.ensures.given c.give_back.ensures.stays))

pub returns-clause-changes : goal.returns-clause-changes
unfolding IsThreaded
returns-clause-changes g c =
    subst (λ (s : HeapState). ChangesHeap g.S.ReadBytes.is_sound g.S.ReadBytes.image g.S.ReadBytes.state g.S.ReadBytes.waiting (range c.args.place c.args.n ∷ []) 12 (IsRefusal (IsUntold (g.S.ReadBytes.image c.args.space.now))) s (state_of (slots_in c.give_back.new.work c.self.inside.kept.value) c.self.inside.end (space_of c.self.inside.kept.value c.self.inside.kept_end) c.self.inside.limit) c.args.space.now c.give_back.new.space c.give_back.result) c.self.view_is
    (given_leaves g.S.ReadBytes.is_sound g.S.ReadBytes.image g.S.ReadBytes.state g.S.ReadBytes.waiting (slots_in c.self.inside.work c.self.inside.kept.value) (slots_in c.give_back.new.work c.self.inside.kept.value) c.self.inside.end (space_of c.self.inside.kept.value c.self.inside.kept_end) c.self.inside.limit c.args.place c.args.n c.args.space.now c.give_back.new.space c.give_back.result c.requires.some
    (subst (λ (s : HeapState). MeetsNone c.args.place c.args.n s.work.heap.gaps) (sym c.self.view_is) c.requires.apart) c.requires.within.0
    (subst (λ (s : HeapState). c.args.place + c.args.n ≤ s.work.heap.end + 1) (sym c.self.view_is) c.requires.within.1) c.self.invariant.now_is c.give_back.ensures.sound
    (subst (λ (s : HeapState). IfSome (g.S.ReadBytes.image c.args.space.now) (IsThreaded s.work)) (sym c.self.view_is) c.requires.threads)
    c.give_back.ensures.given c.give_back.ensures.stays c.give_back.ensures.bytes c.give_back.ensures.effect c.give_back.ensures.waiting c.give_back.ensures.only c.give_back.ensures.cause)

pub give_back-requires-clause-threads : goal.give_back-requires-clause-threads
unfolding IsThreaded
give_back-requires-clause-threads g c = subst (λ (s : HeapState). IfSome (g.S.ReadBytes.image c.args.space.now) (IsThreaded s.work)) (sym c.self.view_is) c.requires.threads
