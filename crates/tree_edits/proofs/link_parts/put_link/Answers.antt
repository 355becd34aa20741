use Rattle.std.proofs.Common.{List, ℕ, subst, arith, length, [], ◌∷◌, ◌++◌}
use Rattle.adf_format.specs.HeapRule.{chunk_length_for}
use Rattle.adf_format.specs.RecordFields.{node_length}
use Rattle.cg_io.specs.Answers.{IsUntold}
use Rattle.cg_io.specs.Blocks.{Both}
use Rattle.cg_io.proofs.ReadLaws.{only_then}
use Rattle.tree_edits.specs.Taken.{IsRoomless}
use Rattle.tree_edits.specs.Linked.{TakesRooms, AreRoomsNear, WritesLink, ListsIn, LacksRooms}
use Rattle.tree_edits.proofs.CreateDone.{told_both}
use Rattle.tree_edits.proofs.LinkPut.{may_list_held, puts_held, refused_behind}
use Rattle.field_access.specs.Fields.{range}
use Rattle.field_access.proofs.WaitLaws.{within_left, within_right, within_later, within_both, within_then}
use Rattle.tree_edits.proofs.WaitSteps.{told_both_then, told_later}
use Rattle.tree_edits.proofs.Waiting.{taken_then, taken_written, more_own}
use Rattle.tree_edits.specs.Waiting.{WaitsInRoom, TakesInRoom, IfTold, table_room, link_rooms, parent_ranges}
use Rattle.tree_edits.proofs.link_parts.put_link.Goals as goal

pub returns-in-Err-clause-writes : goal.returns-in-Err-clause-writes
returns-in-Err-clause-writes g c =
    let heap = c.args.heap.now in
    record {
      sound = c.in-Err.ensures.writes.sound;
      waits = omega (arith, c.in-Err.ensures.writes.waits);
      effect = c.in-Err.ensures.writes.effect;
      cause = subst (λ m. IsRoomless (LacksRooms heap.limit (node_length c.args.wide) m c.args.parent heap.work.heap) (IsUntold (g.S.ReadBytes.image c.args.space.now)) (g.S.ReadBytes.state c.args.space.now).faults (g.S.ReadBytes.state c.take_rooms.new.space).faults c.in-Err.error)
          c.chunk_length.ensures c.in-Err.ensures.writes.cause;
    }

pub write_link-requires-clause-chunk : goal.write_link-requires-clause-chunk
write_link-requires-clause-chunk g c = let near = c.in-Ok.ensures.near.chunk in omega (arith, near, c.chunk_length.ensures)

pub returns-in-Err-write_link-clause-writes : goal.returns-in-Err-write_link-clause-writes
returns-in-Err-write_link-clause-writes g c =
    let heap = c.args.heap.now in
    let one = c.in-Ok.ensures.writes.effect in
    record {
      sound = c.in-Err-write_link.ensures.writes.sound;
      waits = omega (arith, c.in-Ok.ensures.writes.waits, c.in-Err-write_link.ensures.writes.waits);
      effect = only_then _ _ _ one c.in-Err-write_link.ensures.writes.effect;
      cause = refused_behind (LacksRooms heap.limit (node_length c.args.wide) (chunk_length_for (length c.args.text.now)) c.args.parent heap.work.heap) ⊥ (IsUntold (g.S.ReadBytes.image c.args.space.now)) (λ x. absurd x)
          _ (g.S.ReadBytes.state c.take_rooms.new.space).faults _ c.in-Err-write_link.error one.faults c.in-Err-write_link.ensures.writes.cause;
    }

pub list_child-requires-clause-ready : goal.list_child-requires-clause-ready
list_child-requires-clause-ready g c =
    let heap = c.args.heap.now in
    may_list_held heap.limit c.args.wide c.args.parent c.args.name.now c.args.text.now c.in-Ok.rooms heap.work c.take_rooms.new.heap.work (g.S.ReadBytes.image c.args.space.now) (g.S.ReadBytes.image c.take_rooms.new.space) (g.S.ReadBytes.image c.write_link.new.space)
    c.requires.ready c.requires.own c.in-Ok.ensures.near.table
    (subst (λ m. Both (TakesRooms heap.limit (node_length c.args.wide) m c.args.parent c.in-Ok.rooms heap.work c.take_rooms.new.heap.work) (g.S.ReadBytes.image c.args.space.now) (g.S.ReadBytes.image c.take_rooms.new.space)) c.chunk_length.ensures c.in-Ok.ensures.takes)
    c.in-Ok-write_link.ensures.written

pub returns-in-Ok-list_child-clause-put : goal.returns-in-Ok-list_child-clause-put
returns-in-Ok-list_child-clause-put g c =
    let heap = c.args.heap.now in
    puts_held heap.limit c.args.wide c.args.parent c.args.name.now c.args.text.now c.in-Ok.rooms heap.work c.take_rooms.new.heap.work c.list_child.new.heap.work
    (g.S.ReadBytes.image c.args.space.now) (g.S.ReadBytes.image c.take_rooms.new.space) (g.S.ReadBytes.image c.write_link.new.space) (g.S.ReadBytes.image c.list_child.new.space)
    (subst (λ m. AreRoomsNear (node_length c.args.wide) m c.args.parent c.in-Ok.rooms) c.chunk_length.ensures c.in-Ok.ensures.near)
    (subst (λ m. Both (TakesRooms heap.limit (node_length c.args.wide) m c.args.parent c.in-Ok.rooms heap.work c.take_rooms.new.heap.work) (g.S.ReadBytes.image c.args.space.now) (g.S.ReadBytes.image c.take_rooms.new.space)) c.chunk_length.ensures c.in-Ok.ensures.takes)
    c.in-Ok-write_link.ensures.written
    (subst (λ (e : List ℕ). Both (ListsIn c.args.parent e c.in-Ok.rooms.table c.take_rooms.new.heap.work c.list_child.new.heap.work) (g.S.ReadBytes.image c.write_link.new.space) (g.S.ReadBytes.image c.list_child.new.space)) c.entry_of-entry.ensures c.in-Ok-list_child.ensures.listed)

pub returns-in-Ok-list_child-clause-writes : goal.returns-in-Ok-list_child-clause-writes
returns-in-Ok-list_child-clause-writes g c = record {
  sound = c.in-Ok-list_child.ensures.writes.sound;
  waits = omega (arith, c.in-Ok.ensures.writes.waits, c.in-Ok-write_link.ensures.writes.waits, c.in-Ok-list_child.ensures.writes.waits);
  effect = only_then _ _ _ (only_then _ _ _ c.in-Ok.ensures.writes.effect c.in-Ok-write_link.ensures.writes.effect) c.in-Ok-list_child.ensures.writes.effect;
  cause = tt;
}

pub returns-in-Err-list_child-clause-writes : goal.returns-in-Err-list_child-clause-writes
returns-in-Err-list_child-clause-writes g c =
    let heap = c.args.heap.now in
    let two = only_then _ _ _ c.in-Ok.ensures.writes.effect c.in-Ok-write_link.ensures.writes.effect in
    let told_one = told_both (TakesRooms heap.limit (node_length c.args.wide) c.chunk_length.result c.args.parent c.in-Ok.rooms heap.work c.take_rooms.new.heap.work) (g.S.ReadBytes.image c.args.space.now) (g.S.ReadBytes.image c.take_rooms.new.space) c.in-Ok.ensures.takes in
    let told_two = told_both (WritesLink c.args.wide c.args.name.now c.args.text.now c.in-Ok.rooms) (g.S.ReadBytes.image c.take_rooms.new.space) (g.S.ReadBytes.image c.write_link.new.space) c.in-Ok-write_link.ensures.written in
    record {
      sound = c.in-Err-list_child.ensures.writes.sound;
      waits = omega (arith, c.in-Ok.ensures.writes.waits, c.in-Ok-write_link.ensures.writes.waits, c.in-Err-list_child.ensures.writes.waits);
      effect = only_then _ _ _ two c.in-Err-list_child.ensures.writes.effect;
      cause = refused_behind (LacksRooms heap.limit (node_length c.args.wide) (chunk_length_for (length c.args.text.now)) c.args.parent heap.work.heap) (IsUntold (g.S.ReadBytes.image c.write_link.new.space)) (IsUntold (g.S.ReadBytes.image c.args.space.now)) (λ x. told_one (told_two x))
          _ (g.S.ReadBytes.state c.write_link.new.space).faults _ c.in-Err-list_child.error two.faults c.in-Err-list_child.ensures.writes.cause;
    }

pub returns-in-Ok-list_child-clause-waits : goal.returns-in-Ok-list_child-clause-waits
returns-in-Ok-list_child-clause-waits g c =
    let parent = c.args.parent in
    let rooms = c.in-Ok.rooms in
    let a = c.args.heap.now in
    let b = c.take_rooms.new.heap in
    let d = c.list_child.new.heap in
    let x = g.S.ReadBytes.waiting c.args.space.now in
    let y = g.S.ReadBytes.waiting c.take_rooms.new.space in
    let z = g.S.ReadBytes.waiting c.write_link.new.space in
    let last = g.S.ReadBytes.waiting c.list_child.new.space in
    let m = chunk_length_for (length c.args.text.now) in
    let header = range rooms.header (node_length c.args.wide) ∷ [] in
    let chunk = range rooms.chunk m ∷ [] in
    let table = table_room parent rooms.table in
    let all = link_rooms (node_length c.args.wide) m parent rooms in
    let texts = within_both chunk header all (within_later (range rooms.header (node_length c.args.wide)) chunk (table ++ chunk) (within_right table chunk)) (within_left header (table ++ chunk)) in
    let lists = within_both table (parent_ranges parent) (all ++ parent_ranges parent)
    (within_then table all (all ++ parent_ranges parent) (within_later (range rooms.header (node_length c.args.wide)) table (table ++ chunk) (within_left table chunk)) (within_left all (parent_ranges parent))) (within_right all (parent_ranges parent)) in
    told_both_then (TakesRooms a.limit (node_length c.args.wide) c.chunk_length.result parent rooms a.work b.work) (g.S.ReadBytes.image c.args.space.now) (g.S.ReadBytes.image c.take_rooms.new.space)
    (TakesInRoom all a.work.heap b.work.heap x y) (WaitsInRoom (table ++ parent_ranges parent) b.work.heap d.work.heap z last) (WaitsInRoom (parent_ranges parent) a.work.heap d.work.heap x last)
    c.in-Ok.ensures.takes
    (λ t w. taken_then all (parent_ranges parent) a.work.heap b.work.heap d.work.heap x z last
    (taken_written all (chunk ++ header) a.work.heap b.work.heap x y z texts t c.in-Ok-write_link.ensures.waits)
    (more_own (table ++ parent_ranges parent) (all ++ parent_ranges parent) b.work.heap d.work.heap z last lists w))
    (subst (λ n. IfTold (g.S.ReadBytes.image c.args.space.now) (TakesInRoom (link_rooms (node_length c.args.wide) n parent rooms) a.work.heap b.work.heap x y)) c.chunk_length.ensures c.in-Ok.ensures.waits)
    (told_later (WritesLink c.args.wide c.args.name.now c.args.text.now rooms) (g.S.ReadBytes.image c.take_rooms.new.space) (g.S.ReadBytes.image c.write_link.new.space) _ _ c.in-Ok-write_link.ensures.written (λ w. w) c.in-Ok-list_child.ensures.waits)
