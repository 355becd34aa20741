use Rattle.std.proofs.Common.{◌+◌, ◌^◌, ◌≤◌, ◌∙◌, inl, inr, refl, sym, ap, subst, arith, length, [], List, ℕ, Option, Some}
use Rattle.std.specs.Prelude.{IfSome}
use Rattle.adf_format.specs.HeapRule.{chunk_length_for}
use Rattle.adf_format.specs.Links.{link_text}
use Rattle.adf_format.specs.RecordFields.{node_length}
use Rattle.cg_io.specs.Answers.{IsUntold}
use Rattle.cg_io.specs.Blocks.{Both}
use Rattle.cg_io.proofs.ReadLaws.{only_then}
use Rattle.tree_edits.specs.declared.rows.Row.{Row}
use Rattle.tree_edits.specs.Joined.{join_cost}
use Rattle.tree_edits.specs.Linked.{PutsLink, LacksRooms}
use Rattle.tree_edits.specs.Rows.{row_of}
use Rattle.tree_edits.specs.Taken.{IsReady, IsRoomless}
use Rattle.tree_edits.specs.Undo.{RowsState}
use Rattle.tree_edits.proofs.CreateDone.{table_only, means_ready_held, its_table, made_in}
use Rattle.tree_edits.proofs.JoinedRows.{near_joined}
use Rattle.tree_edits.proofs.LinkDone.{done, refused_put, put_cause, memory_is_cause, room_is_cause, owns_held}
use Rattle.cg_io.specs.Waits.{how_many}
use Rattle.tree_edits.proofs.Reaching.{link_reached}
use Rattle.tree_edits.specs.Waiting.{WaitsInRoom, IfTold, parent_ranges}
use Rattle.tree_edits.proofs.linking.link.Goals as goal

pub returns-in-Err-clause-writes : goal.returns-in-Err-clause-writes
returns-in-Err-clause-writes g c = (
  0,
  inl refl,
  record {
    sound = c.in-Err.ensures.reads.sound;
    waits = omega (arith, ap how_many c.in-Err.ensures.reads.waits);
    effect = table_only _ 1 2 _ _ c.in-Err.ensures.reads.effect;
    cause = room_is_cause c.args.core.now c.args.at c.args.name.now c.args.file.now c.args.path.now (g.S.ReadBytes.image c.args.space.now) _ _ c.in-Err.error c.in-Err.ensures.reads.cause;
  },
)

pub put_link-requires-clause-ready : goal.put_link-requires-clause-ready
put_link-requires-clause-ready g c =
    subst (λ held. IfSome held (IsReady c.args.core.now.heap.work)) (sym c.in-Ok.ensures.reads.bytes) (means_ready_held c.args.core.now (g.S.ReadBytes.image c.args.space.now) c.requires.means)

pub put_link-requires-clause-own : goal.put_link-requires-clause-own
put_link-requires-clause-own g c =
    owns_held c.args.core.now c.args.at c.args.name.now c.in-Ok.room.parent (g.S.ReadBytes.image c.args.space.now) (g.S.ReadBytes.image c.find_link_room.new.space) c.in-Ok.ensures.reads.bytes c.in-Ok.ensures.room.room c.requires.means

pub returns-in-Err-put_link-clause-refused : goal.returns-in-Err-put_link-clause-refused
returns-in-Err-put_link-clause-refused g c =
    let core = c.args.core.now in
    let parent = c.in-Ok.room.parent in
    let lacks = subst (λ (t : List ℕ). IsRoomless (LacksRooms core.heap.limit (node_length core.wide) (chunk_length_for (length t)) parent core.heap.work.heap) (IsUntold (g.S.ReadBytes.image c.find_link_room.new.space)) (g.S.ReadBytes.state c.find_link_room.new.space).faults (g.S.ReadBytes.state c.put_link.new.space).faults c.in-Err-put_link.error)
    (c.items-text.ensures ∙ c.in-Ok.ensures.text) c.in-Err-put_link.ensures.writes.cause in
    refused_put core c.args.at c.args.name.now c.args.file.now c.args.path.now parent (g.S.ReadBytes.image c.args.space.now) c.in-Ok.ensures.room _ _ c.in-Err-put_link.error
    (subst (λ (held : Option (List ℕ)). IsRoomless (LacksRooms core.heap.limit (node_length core.wide) (chunk_length_for (length (link_text c.args.file.now c.args.path.now))) parent core.heap.work.heap) (IsUntold held) (g.S.ReadBytes.state c.find_link_room.new.space).faults (g.S.ReadBytes.state c.put_link.new.space).faults c.in-Err-put_link.error)
    c.in-Ok.ensures.reads.bytes lacks)

pub returns-in-Err-put_link-clause-writes : goal.returns-in-Err-put_link-clause-writes
returns-in-Err-put_link-clause-writes g c =
    let core = c.args.core.now in
    let parent = c.in-Ok.room.parent in
    let effect = table_only _ 1 2 _ _ c.in-Ok.ensures.reads.effect in
    let lacks = subst (λ (t : List ℕ). IsRoomless (LacksRooms core.heap.limit (node_length core.wide) (chunk_length_for (length t)) parent core.heap.work.heap) (IsUntold (g.S.ReadBytes.image c.find_link_room.new.space)) (g.S.ReadBytes.state c.find_link_room.new.space).faults (g.S.ReadBytes.state c.put_link.new.space).faults c.in-Err-put_link.error)
    (c.items-text.ensures ∙ c.in-Ok.ensures.text) c.in-Err-put_link.ensures.writes.cause in (
      32 + join_cost parent.table,
      inr (parent.table, its_table core c.args.at c.args.name.now [] (g.S.ReadBytes.image c.args.space.now) parent c.in-Ok.ensures.room.room, refl),
      record {
        sound = c.in-Err-put_link.ensures.writes.sound;
        waits = omega (arith, ap how_many c.in-Ok.ensures.reads.waits, c.in-Err-put_link.ensures.writes.waits);
        effect = only_then _ _ _ effect c.in-Err-put_link.ensures.writes.effect;
        cause = put_cause core c.args.at c.args.name.now c.args.file.now c.args.path.now parent (g.S.ReadBytes.image c.args.space.now) c.in-Ok.ensures.room
            (memory_is_cause core c.args.at c.args.name.now c.args.file.now c.args.path.now parent (g.S.ReadBytes.image c.args.space.now) c.in-Ok.ensures.room) _ (g.S.ReadBytes.state c.find_link_room.new.space).faults _ c.in-Err-put_link.error effect.faults
            (subst (λ (held : Option (List ℕ)). IsRoomless (LacksRooms core.heap.limit (node_length core.wide) (chunk_length_for (length (link_text c.args.file.now c.args.path.now))) parent core.heap.work.heap) (IsUntold held) (g.S.ReadBytes.state c.find_link_room.new.space).faults (g.S.ReadBytes.state c.put_link.new.space).faults c.in-Err-put_link.error)
            c.in-Ok.ensures.reads.bytes lacks);
      },
    )

pub returns-in-Ok-add-clause-done : goal.returns-in-Ok-add-clause-done
returns-in-Ok-add-clause-done g c =
    let core = c.args.core.now in
    let parent = c.in-Ok.room.parent in
    let its : Row = record { place = c.in-Ok-put_link.place; parent = Some c.args.at.serial; depth = parent.row.depth + 1 } in
    done core c.args.at c.args.name.now c.args.file.now c.args.path.now parent (record { heap = c.put_link.new.heap; rows = c.add.new.self; wide = core.wide; writable = core.writable }) its
    c.put_link.new.heap c.in-Ok-put_link.place (g.S.ReadBytes.image c.args.space.now) (g.S.ReadBytes.image c.put_link.new.space) c.in-Ok.ensures.room
    (made_in (PutsLink core.heap.limit core.wide parent c.args.name.now (link_text c.args.file.now c.args.path.now) c.in-Ok-put_link.place core.heap.work c.put_link.new.heap.work) (g.S.ReadBytes.image c.args.space.now) (g.S.ReadBytes.image c.find_link_room.new.space) (g.S.ReadBytes.image c.put_link.new.space) c.in-Ok.ensures.reads.bytes
    (subst (λ (t : List ℕ). Both (PutsLink core.heap.limit core.wide parent c.args.name.now t c.in-Ok-put_link.place core.heap.work c.put_link.new.heap.work) (g.S.ReadBytes.image c.find_link_room.new.space) (g.S.ReadBytes.image c.put_link.new.space))
    (c.items-text.ensures ∙ c.in-Ok.ensures.text) c.in-Ok-put_link.ensures.put))
    refl refl (ap (λ (r : RowsState). r.items) c.in-Ok-add.ensures.ok) refl refl (omega arith)

pub returns-in-Ok-add-clause-near : goal.returns-in-Ok-add-clause-near
returns-in-Ok-add-clause-near g c =
    let core = c.args.core.now in
    let its : Row = record { place = c.in-Ok-put_link.place; parent = Some c.args.at.serial; depth = c.in-Ok.room.parent.row.depth + 1 } in
    λ serial. subst (λ (items : List (Option Row)). IfSome (row_of items serial) (λ (row : Row). row.place + node_length core.wide ≤ 2 ^ 44)) (sym (ap (λ (r : RowsState). r.items) c.in-Ok-add.ensures.ok))
    (near_joined (λ (row : Row). row.place + node_length core.wide ≤ 2 ^ 44) core.rows.items its c.in-Ok-put_link.ensures.near c.requires.near serial)

pub returns-in-Ok-add-clause-writes : goal.returns-in-Ok-add-clause-writes
returns-in-Ok-add-clause-writes g c =
    let parent = c.in-Ok.room.parent in (
      32 + join_cost parent.table,
      inr (parent.table, its_table c.args.core.now c.args.at c.args.name.now [] (g.S.ReadBytes.image c.args.space.now) parent c.in-Ok.ensures.room.room, refl),
      record {
        sound = c.in-Ok-put_link.ensures.writes.sound;
        waits = omega (arith, ap how_many c.in-Ok.ensures.reads.waits, c.in-Ok-put_link.ensures.writes.waits);
        effect = only_then _ _ _ (table_only _ 1 2 _ _ c.in-Ok.ensures.reads.effect) c.in-Ok-put_link.ensures.writes.effect;
        cause = tt;
      },
    )

pub returns-clause-writes : goal.returns-clause-writes
returns-clause-writes g c =
    let parent = c.in-Ok.room.parent in (
      32 + join_cost parent.table,
      inr (parent.table, its_table c.args.core.now c.args.at c.args.name.now [] (g.S.ReadBytes.image c.args.space.now) parent c.in-Ok.ensures.room.room, refl),
      record {
        sound = c.in-Ok-put_link.ensures.writes.sound;
        waits = omega (arith, ap how_many c.in-Ok.ensures.reads.waits, c.in-Ok-put_link.ensures.writes.waits);
        effect = only_then _ _ _ (table_only _ 1 2 _ _ c.in-Ok.ensures.reads.effect) c.in-Ok-put_link.ensures.writes.effect;
        cause = memory_is_cause c.args.core.now c.args.at c.args.name.now c.args.file.now c.args.path.now parent (g.S.ReadBytes.image c.args.space.now) c.in-Ok.ensures.room;
      },
    )

pub returns-in-Ok-add-clause-reached : goal.returns-in-Ok-add-clause-reached
returns-in-Ok-add-clause-reached g c =
    let core = c.args.core.now in
    let parent = c.in-Ok.room.parent in
    let a = core.heap.work.heap in
    let d = c.put_link.new.heap.work.heap in
    let z = g.S.ReadBytes.waiting c.put_link.new.space in
    link_reached core c.args.at c.args.name.now [] parent (record { heap = c.put_link.new.heap; rows = c.add.new.self; wide = core.wide; writable = core.writable }) c.args.file.now c.args.path.now (g.S.ReadBytes.image c.args.space.now)
    (g.S.ReadBytes.waiting c.args.space.now) z c.in-Ok.ensures.room.room
    (subst (λ (blocks : List ℕ). IfTold (g.S.ReadBytes.image c.args.space.now) (WaitsInRoom (parent_ranges parent) a d blocks z)) c.in-Ok.ensures.reads.waits
    (subst (λ (o : Option (List ℕ)). IfTold o (WaitsInRoom (parent_ranges parent) a d (g.S.ReadBytes.waiting c.find_link_room.new.space) z)) c.in-Ok.ensures.reads.bytes c.in-Ok-put_link.ensures.waits))
