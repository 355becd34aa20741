use Rattle.std.proofs.Common.{◌≡◌, ◌∙◌, inl, inr, subst, arith, Ok, [], ◌∷◌, ◌++◌}
use Rattle.cg_io.specs.Answers.{IsUntold}
use Rattle.cg_io.specs.Blocks.{Both}
use Rattle.cg_io.proofs.ReadLaws.{few_only, only_then}
use Rattle.adf_format.specs.HeapRule.{heap_take}
use Rattle.adf_format.specs.RecordFields.{node_length}
use Rattle.tree_edits.specs.declared.link_rooms.Rooms.{Rooms}
use Rattle.tree_edits.specs.Taken.{Takes, LacksBytes}
use Rattle.tree_edits.specs.Joined.{LacksTable}
use Rattle.tree_edits.specs.Linked.{HeapTakesTable, TakesTable, LacksRooms}
use Rattle.tree_edits.proofs.CreateDone.{told_both}
use Rattle.tree_edits.proofs.LinkPut.{roomless_behind}
use Rattle.tree_edits.proofs.RoomsTaken.{rooms_held}
use Rattle.field_access.specs.Fields.{range}
use Rattle.tree_edits.proofs.WaitSteps.{told_both_then}
use Rattle.tree_edits.proofs.Waiting.{takes_then}
use Rattle.tree_edits.specs.Waiting.{TakesInRoom, IfTold, table_room}
use Rattle.tree_edits.proofs.link_rooms.take_rooms.Goals as goal

pub returns-in-Err-clause-writes : goal.returns-in-Err-clause-writes
returns-in-Err-clause-writes g c =
    let heap = c.args.heap.now in
    let untold = IsUntold (g.S.ReadBytes.image c.args.space.now) in
    record {
      sound = c.in-Err.ensures.writes.sound;
      waits = omega (arith, c.in-Err.ensures.writes.waits);
      effect = few_only 64 _ _ c.in-Err.ensures.writes.effect;
      cause = roomless_behind (LacksBytes heap.limit c.node_length.result heap.work.heap) (LacksRooms heap.limit (node_length c.args.wide) c.args.chunk c.args.parent heap.work.heap) untold untold (λ x. x)
          (λ asked end l. inl (subst (λ n. LacksBytes heap.limit n heap.work.heap asked end) c.node_length.ensures l)) _ (g.S.ReadBytes.state c.args.space.now).faults _ c.in-Err.error (omega arith) c.in-Err.ensures.writes.cause;
    }

pub returns-in-Err-take_table-clause-writes : goal.returns-in-Err-take_table-clause-writes
returns-in-Err-take_table-clause-writes g c =
    let heap = c.args.heap.now in
    let between = c.take_room.new.heap in
    let taken = subst (λ n. heap_take heap.limit n heap.work.heap ≡ Ok (c.in-Ok.place, between.work.heap)) c.node_length.ensures c.in-Ok.ensures.taken in
    let one = few_only 64 _ _ c.in-Ok.ensures.writes.effect in
    let effect = only_then _ _ _ one (few_only 64 _ _ c.in-Err-take_table.ensures.writes.effect) in
    record {
      sound = c.in-Err-take_table.ensures.writes.sound;
      waits = omega (arith, c.in-Ok.ensures.writes.waits, c.in-Err-take_table.ensures.writes.waits);
      effect = effect;
      cause = roomless_behind (LacksTable between.limit c.args.parent between.work.heap) (LacksRooms heap.limit (node_length c.args.wide) c.args.chunk c.args.parent heap.work.heap) (IsUntold (g.S.ReadBytes.image c.take_room.new.space)) (IsUntold (g.S.ReadBytes.image c.args.space.now))
          (told_both (Takes heap.limit c.node_length.result c.in-Ok.place heap.work between.work) (g.S.ReadBytes.image c.args.space.now) (g.S.ReadBytes.image c.take_room.new.space) c.in-Ok.ensures.takes)
          (λ asked end l. inr (c.in-Ok.place, between.work.heap, taken, inl (subst (λ k. LacksTable k c.args.parent between.work.heap asked end) c.in-Ok.ensures.kept.limit l)))
          _ (g.S.ReadBytes.state c.take_room.new.space).faults _ c.in-Err-take_table.error one.faults c.in-Err-take_table.ensures.writes.cause;
    }

pub returns-in-Err-take_room-clause-writes : goal.returns-in-Err-take_room-clause-writes
returns-in-Err-take_room-clause-writes g c =
    let heap = c.args.heap.now in
    let between = c.take_room.new.heap in
    let again = c.take_table.new.heap in
    let taken = subst (λ n. heap_take heap.limit n heap.work.heap ≡ Ok (c.in-Ok.place, between.work.heap)) c.node_length.ensures c.in-Ok.ensures.taken in
    let tabled = subst (λ k. HeapTakesTable k c.args.parent c.in-Ok-take_table.table between.work.heap again.work.heap) c.in-Ok.ensures.kept.limit c.in-Ok-take_table.ensures.taken in
    let two = only_then _ _ _ (few_only 64 _ _ c.in-Ok.ensures.writes.effect) (few_only 64 _ _ c.in-Ok-take_table.ensures.writes.effect) in
    let told_one = told_both (Takes heap.limit c.node_length.result c.in-Ok.place heap.work between.work) (g.S.ReadBytes.image c.args.space.now) (g.S.ReadBytes.image c.take_room.new.space) c.in-Ok.ensures.takes in
    let told_two = told_both (TakesTable between.limit c.args.parent c.in-Ok-take_table.table between.work again.work) (g.S.ReadBytes.image c.take_room.new.space) (g.S.ReadBytes.image c.take_table.new.space) c.in-Ok-take_table.ensures.takes in
    record {
      sound = c.in-Err-take_room.ensures.writes.sound;
      waits = omega (arith, c.in-Ok.ensures.writes.waits, c.in-Ok-take_table.ensures.writes.waits, c.in-Err-take_room.ensures.writes.waits);
      effect = only_then _ _ _ two (few_only 64 _ _ c.in-Err-take_room.ensures.writes.effect);
      cause = roomless_behind (LacksBytes again.limit c.args.chunk again.work.heap) (LacksRooms heap.limit (node_length c.args.wide) c.args.chunk c.args.parent heap.work.heap) (IsUntold (g.S.ReadBytes.image c.take_table.new.space)) (IsUntold (g.S.ReadBytes.image c.args.space.now))
          (λ x. told_one (told_two x))
          (λ asked end l. inr (c.in-Ok.place, between.work.heap, taken, inr (c.in-Ok-take_table.table, again.work.heap, tabled, subst (λ k. LacksBytes k c.args.chunk again.work.heap asked end) (c.in-Ok-take_table.ensures.kept.limit ∙ c.in-Ok.ensures.kept.limit) l)))
          _ (g.S.ReadBytes.state c.take_table.new.space).faults _ c.in-Err-take_room.error two.faults c.in-Err-take_room.ensures.writes.cause;
    }

pub returns-in-Ok-take_room-clause-takes : goal.returns-in-Ok-take_room-clause-takes
returns-in-Ok-take_room-clause-takes g c =
    let heap = c.args.heap.now in
    let between = c.take_room.new.heap in
    let again = c.take_table.new.heap in
    let rooms : Rooms = record { header = c.in-Ok.place; table = c.in-Ok-take_table.table; chunk = c.in-Ok-take_room.place } in
    rooms_held heap.limit (node_length c.args.wide) c.args.chunk c.args.parent rooms heap.work between.work again.work c.take_room-2.new.heap.work
    (g.S.ReadBytes.image c.args.space.now) (g.S.ReadBytes.image c.take_room.new.space) (g.S.ReadBytes.image c.take_table.new.space) (g.S.ReadBytes.image c.take_room-2.new.space)
    (subst (λ n. Both (Takes heap.limit n c.in-Ok.place heap.work between.work) (g.S.ReadBytes.image c.args.space.now) (g.S.ReadBytes.image c.take_room.new.space)) c.node_length.ensures c.in-Ok.ensures.takes)
    (subst (λ k. Both (TakesTable k c.args.parent c.in-Ok-take_table.table between.work again.work) (g.S.ReadBytes.image c.take_room.new.space) (g.S.ReadBytes.image c.take_table.new.space)) c.in-Ok.ensures.kept.limit c.in-Ok-take_table.ensures.takes)
    (subst (λ k. Both (Takes k c.args.chunk c.in-Ok-take_room.place again.work c.take_room-2.new.heap.work) (g.S.ReadBytes.image c.take_table.new.space) (g.S.ReadBytes.image c.take_room-2.new.space)) (c.in-Ok-take_table.ensures.kept.limit ∙ c.in-Ok.ensures.kept.limit) c.in-Ok-take_room.ensures.takes)

pub returns-in-Ok-take_room-clause-writes : goal.returns-in-Ok-take_room-clause-writes
returns-in-Ok-take_room-clause-writes g c = record {
  sound = c.in-Ok-take_room.ensures.writes.sound;
  waits = omega (arith, c.in-Ok.ensures.writes.waits, c.in-Ok-take_table.ensures.writes.waits, c.in-Ok-take_room.ensures.writes.waits);
  effect = only_then _ _ _ (only_then _ _ _ (few_only 64 _ _ c.in-Ok.ensures.writes.effect) (few_only 64 _ _ c.in-Ok-take_table.ensures.writes.effect)) (few_only 64 _ _ c.in-Ok-take_room.ensures.writes.effect);
  cause = tt;
}

pub returns-in-Ok-take_room-clause-waits : goal.returns-in-Ok-take_room-clause-waits
returns-in-Ok-take_room-clause-waits g c =
    let parent = c.args.parent in
    let a = c.args.heap.now in
    let b = c.take_room.new.heap in
    let d = c.take_table.new.heap in
    let e = c.take_room-2.new.heap in
    let x = g.S.ReadBytes.waiting c.args.space.now in
    let y = g.S.ReadBytes.waiting c.take_room.new.space in
    let z = g.S.ReadBytes.waiting c.take_table.new.space in
    let last = g.S.ReadBytes.waiting c.take_room-2.new.space in
    let header = range c.in-Ok.place (node_length c.args.wide) ∷ [] in
    let table = table_room parent c.in-Ok-take_table.table in
    let chunk = range c.in-Ok-take_room.place c.args.chunk ∷ [] in
    told_both_then (Takes a.limit c.node_length.result c.in-Ok.place a.work b.work) (g.S.ReadBytes.image c.args.space.now) (g.S.ReadBytes.image c.take_room.new.space)
    (TakesInRoom header a.work.heap b.work.heap x y) (TakesInRoom (table ++ chunk) b.work.heap e.work.heap y last) (TakesInRoom (header ++ table ++ chunk) a.work.heap e.work.heap x last)
    c.in-Ok.ensures.takes (λ s t. takes_then header (table ++ chunk) a.work.heap b.work.heap e.work.heap x y last s t)
    (subst (λ n. IfTold (g.S.ReadBytes.image c.args.space.now) (TakesInRoom (range c.in-Ok.place n ∷ []) a.work.heap b.work.heap x y)) c.node_length.ensures c.in-Ok.ensures.waits)
    (told_both_then (TakesTable b.limit parent c.in-Ok-take_table.table b.work d.work) (g.S.ReadBytes.image c.take_room.new.space) (g.S.ReadBytes.image c.take_table.new.space)
    (TakesInRoom table b.work.heap d.work.heap y z) (TakesInRoom chunk d.work.heap e.work.heap z last) (TakesInRoom (table ++ chunk) b.work.heap e.work.heap y last)
    c.in-Ok-take_table.ensures.takes (λ s t. takes_then table chunk b.work.heap d.work.heap e.work.heap y z last s t) c.in-Ok-take_table.ensures.waits c.in-Ok-take_room.ensures.waits)
