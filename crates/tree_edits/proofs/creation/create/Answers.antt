use Rattle.std.proofs.Common.{◌+◌, inl, inr, refl, sym, ap, subst, arith, Some, [], ◌∷◌, ◌++◌, List, ℕ, Option}
use Rattle.std.specs.Prelude.{IfSome}
use Rattle.cg_io.specs.Answers.{IsUntold}
use Rattle.cg_io.proofs.ReadLaws.{few_only, only_then}
use Rattle.adf_format.specs.RecordFields.{node_length}
use Rattle.adf_format.specs.Records.{node_text}
use Rattle.adf_model.specs.Creation.{empty_node}
use Rattle.tree_edits.specs.declared.rows.Row.{Row}
use Rattle.tree_edits.specs.Joined.{join_cost}
use Rattle.tree_edits.specs.Undo.{RowsState}
use Rattle.tree_edits.specs.Taken.{IsReady, TakesText, LacksBytes, IsRoomless}
use Rattle.tree_edits.proofs.CreateDone.{ready_held, own_held, done, refused_header, refused_join, header_cause, join_cause, room_is_cause, told_both, table_only, means_ready_held, its_table, made_in, long_enough}
use Rattle.cg_io.specs.Waits.{how_many}
use Rattle.field_access.specs.Fields.{range}
use Rattle.tree_edits.proofs.WaitSteps.{told_both_then}
use Rattle.tree_edits.proofs.Waiting.{taken_then, more_own}
use Rattle.field_access.proofs.WaitLaws.{within_right}
use Rattle.tree_edits.proofs.Reaching.{create_reached}
use Rattle.tree_edits.specs.Waiting.{WaitsInRoom, TakesInRoom, IfTold, parent_ranges}
use Rattle.tree_edits.proofs.creation.create.Goals as goal

pub returns-in-Err-clause-writes : goal.returns-in-Err-clause-writes
returns-in-Err-clause-writes g c = (
  0,
  inl refl,
  record {
    sound = c.in-Err.ensures.reads.sound;
    waits = omega (arith, ap how_many c.in-Err.ensures.reads.waits);
    effect = table_only _ 1 2 _ _ c.in-Err.ensures.reads.effect;
    cause = room_is_cause c.args.core.now c.args.at c.args.name.now c.args.label.now (g.S.ReadBytes.image c.args.space.now) _ _ c.in-Err.error c.in-Err.ensures.reads.cause;
  },
)

pub make_header-requires-clause-ready : goal.make_header-requires-clause-ready
make_header-requires-clause-ready g c =
    subst (λ held. IfSome held (IsReady c.args.core.now.heap.work)) (sym c.in-Ok.ensures.reads.bytes) (means_ready_held c.args.core.now (g.S.ReadBytes.image c.args.space.now) c.requires.means)

pub returns-in-Err-make_header-clause-refused : goal.returns-in-Err-make_header-clause-refused
returns-in-Err-make_header-clause-refused g c =
    refused_header c.args.core.now c.args.at c.args.name.now c.args.label.now c.in-Ok.parent (g.S.ReadBytes.image c.args.space.now) c.in-Ok.ensures.room _ _ c.in-Err-make_header.error
    (subst (λ held. IsRoomless (LacksBytes c.args.core.now.heap.limit (node_length c.args.core.now.wide) c.args.core.now.heap.work.heap) (IsUntold held) (g.S.ReadBytes.state c.find_room.new.space).faults (g.S.ReadBytes.state c.make_header.new.space).faults c.in-Err-make_header.error)
    c.in-Ok.ensures.reads.bytes c.in-Err-make_header.ensures.writes.cause)

pub returns-in-Err-make_header-clause-writes : goal.returns-in-Err-make_header-clause-writes
returns-in-Err-make_header-clause-writes g c =
    let effect = table_only _ 1 2 _ _ c.in-Ok.ensures.reads.effect in (
      11 + join_cost c.in-Ok.parent.table,
      inr (c.in-Ok.parent.table, its_table c.args.core.now c.args.at c.args.name.now c.args.label.now (g.S.ReadBytes.image c.args.space.now) c.in-Ok.parent c.in-Ok.ensures.room, refl),
      record {
        sound = c.in-Err-make_header.ensures.writes.sound;
        waits = omega (arith, ap how_many c.in-Ok.ensures.reads.waits, c.in-Err-make_header.ensures.writes.waits);
        effect = only_then _ _ _ effect (few_only 66 _ _ c.in-Err-make_header.ensures.writes.effect);
        cause = header_cause c.args.core.now c.args.at c.args.name.now c.args.label.now c.in-Ok.parent (g.S.ReadBytes.image c.args.space.now) c.in-Ok.ensures.room _ (g.S.ReadBytes.state c.find_room.new.space).faults _ c.in-Err-make_header.error effect.faults
            (subst (λ held. IsRoomless (LacksBytes c.args.core.now.heap.limit (node_length c.args.core.now.wide) c.args.core.now.heap.work.heap) (IsUntold held) (g.S.ReadBytes.state c.find_room.new.space).faults (g.S.ReadBytes.state c.make_header.new.space).faults c.in-Err-make_header.error)
            c.in-Ok.ensures.reads.bytes c.in-Err-make_header.ensures.writes.cause);
      },
    )

pub join_child-requires-clause-ready : goal.join_child-requires-clause-ready
join_child-requires-clause-ready g c =
    ready_held c.args.core.now c.args.at c.args.name.now c.args.label.now c.in-Ok.parent c.args.core.now.heap.limit (node_length c.args.core.now.wide) c.in-Ok-make_header.place (node_text (empty_node c.args.core.now.wide c.args.name.now c.args.label.now)) c.make_header.new.heap.work
    (g.S.ReadBytes.image c.find_room.new.space) (g.S.ReadBytes.image c.make_header.new.space)
    (subst (λ held. IfSome held (IsReady c.args.core.now.heap.work)) (sym c.in-Ok.ensures.reads.bytes) (means_ready_held c.args.core.now (g.S.ReadBytes.image c.args.space.now) c.requires.means))
    c.in-Ok-make_header.ensures.made

pub join_child-requires-clause-own : goal.join_child-requires-clause-own
join_child-requires-clause-own g c =
    own_held c.args.core.now c.args.at c.args.name.now c.args.label.now c.in-Ok.parent c.args.core.now.heap.limit (node_length c.args.core.now.wide) c.in-Ok-make_header.place (node_text (empty_node c.args.core.now.wide c.args.name.now c.args.label.now)) c.make_header.new.heap.work
    (g.S.ReadBytes.image c.args.space.now) (g.S.ReadBytes.image c.make_header.new.space) c.in-Ok.ensures.room c.requires.means
    (made_in (TakesText c.args.core.now.heap.limit (node_length c.args.core.now.wide) c.in-Ok-make_header.place (node_text (empty_node c.args.core.now.wide c.args.name.now c.args.label.now)) c.args.core.now.heap.work c.make_header.new.heap.work) (g.S.ReadBytes.image c.args.space.now) (g.S.ReadBytes.image c.find_room.new.space) (g.S.ReadBytes.image c.make_header.new.space) c.in-Ok.ensures.reads.bytes c.in-Ok-make_header.ensures.made)

pub returns-in-Err-join_child-clause-refused : goal.returns-in-Err-join_child-clause-refused
returns-in-Err-join_child-clause-refused g c =
    refused_join c.args.core.now c.args.at c.args.name.now c.args.label.now c.in-Ok.parent c.in-Ok-make_header.place c.make_header.new.heap.limit c.make_header.new.heap.work.heap c.in-Ok-make_header.ensures.taken c.in-Ok-make_header.ensures.kept.limit
    (g.S.ReadBytes.image c.args.space.now) (g.S.ReadBytes.image c.make_header.new.space) c.in-Ok.ensures.room (told_both (TakesText c.args.core.now.heap.limit (node_length c.args.core.now.wide) c.in-Ok-make_header.place (node_text (empty_node c.args.core.now.wide c.args.name.now c.args.label.now)) c.args.core.now.heap.work c.make_header.new.heap.work) (g.S.ReadBytes.image c.args.space.now) (g.S.ReadBytes.image c.make_header.new.space) (made_in (TakesText c.args.core.now.heap.limit (node_length c.args.core.now.wide) c.in-Ok-make_header.place (node_text (empty_node c.args.core.now.wide c.args.name.now c.args.label.now)) c.args.core.now.heap.work c.make_header.new.heap.work) (g.S.ReadBytes.image c.args.space.now) (g.S.ReadBytes.image c.find_room.new.space) (g.S.ReadBytes.image c.make_header.new.space) c.in-Ok.ensures.reads.bytes c.in-Ok-make_header.ensures.made)) _ _ c.in-Err-join_child.error
    c.in-Err-join_child.ensures.writes.cause

pub returns-in-Err-join_child-clause-writes : goal.returns-in-Err-join_child-clause-writes
returns-in-Err-join_child-clause-writes g c =
    let effect = only_then _ _ _ (table_only _ 1 2 _ _ c.in-Ok.ensures.reads.effect) (few_only 66 _ _ c.in-Ok-make_header.ensures.writes.effect) in (
      11 + join_cost c.in-Ok.parent.table,
      inr (c.in-Ok.parent.table, its_table c.args.core.now c.args.at c.args.name.now c.args.label.now (g.S.ReadBytes.image c.args.space.now) c.in-Ok.parent c.in-Ok.ensures.room, refl),
      record {
        sound = c.in-Err-join_child.ensures.writes.sound;
        waits = omega (arith, ap how_many c.in-Ok.ensures.reads.waits, c.in-Ok-make_header.ensures.writes.waits, c.in-Err-join_child.ensures.writes.waits);
        effect = only_then _ _ _ effect c.in-Err-join_child.ensures.writes.effect;
        cause = join_cause c.args.core.now c.args.at c.args.name.now c.args.label.now c.in-Ok.parent c.in-Ok-make_header.place c.make_header.new.heap.limit c.make_header.new.heap.work.heap c.in-Ok-make_header.ensures.taken c.in-Ok-make_header.ensures.kept.limit
            (g.S.ReadBytes.image c.args.space.now) (g.S.ReadBytes.image c.make_header.new.space) c.in-Ok.ensures.room (told_both (TakesText c.args.core.now.heap.limit (node_length c.args.core.now.wide) c.in-Ok-make_header.place (node_text (empty_node c.args.core.now.wide c.args.name.now c.args.label.now)) c.args.core.now.heap.work c.make_header.new.heap.work) (g.S.ReadBytes.image c.args.space.now) (g.S.ReadBytes.image c.make_header.new.space) (made_in (TakesText c.args.core.now.heap.limit (node_length c.args.core.now.wide) c.in-Ok-make_header.place (node_text (empty_node c.args.core.now.wide c.args.name.now c.args.label.now)) c.args.core.now.heap.work c.make_header.new.heap.work) (g.S.ReadBytes.image c.args.space.now) (g.S.ReadBytes.image c.find_room.new.space) (g.S.ReadBytes.image c.make_header.new.space) c.in-Ok.ensures.reads.bytes c.in-Ok-make_header.ensures.made)) _ (g.S.ReadBytes.state c.make_header.new.space).faults _ c.in-Err-join_child.error
            effect.faults c.in-Err-join_child.ensures.writes.cause;
      },
    )

pub returns-in-Ok-add-clause-done : goal.returns-in-Ok-add-clause-done
returns-in-Ok-add-clause-done g c =
    let its : Row = record { place = c.in-Ok-make_header.place; parent = Some c.args.at.serial; depth = c.in-Ok.parent.row.depth + 1 } in
    done c.args.core.now c.args.at c.args.name.now c.args.label.now c.in-Ok.parent (record { heap = c.join_child.new.heap; rows = c.add.new.self; wide = c.args.core.now.wide; writable = c.args.core.now.writable }) its
    c.make_header.new.heap c.join_child.new.heap c.in-Ok-make_header.place (g.S.ReadBytes.image c.args.space.now) (g.S.ReadBytes.image c.make_header.new.space) (g.S.ReadBytes.image c.join_child.new.space) c.in-Ok.ensures.room
    (made_in (TakesText c.args.core.now.heap.limit (node_length c.args.core.now.wide) c.in-Ok-make_header.place (node_text (empty_node c.args.core.now.wide c.args.name.now c.args.label.now)) c.args.core.now.heap.work c.make_header.new.heap.work) (g.S.ReadBytes.image c.args.space.now) (g.S.ReadBytes.image c.find_room.new.space) (g.S.ReadBytes.image c.make_header.new.space) c.in-Ok.ensures.reads.bytes c.in-Ok-make_header.ensures.made)
    c.in-Ok-join_child.ensures.joined c.in-Ok-make_header.ensures.kept.limit (let near = c.in-Ok-make_header.ensures.near in let some = long_enough c.args.core.now.wide in omega (arith, near, some)) refl refl (ap (λ (r : RowsState). r.items) c.in-Ok-add.ensures.ok) refl refl (omega arith)

pub returns-in-Ok-add-clause-writes : goal.returns-in-Ok-add-clause-writes
returns-in-Ok-add-clause-writes g c = (
  11 + join_cost c.in-Ok.parent.table,
  inr (c.in-Ok.parent.table, its_table c.args.core.now c.args.at c.args.name.now c.args.label.now (g.S.ReadBytes.image c.args.space.now) c.in-Ok.parent c.in-Ok.ensures.room, refl),
  record {
    sound = c.in-Ok-join_child.ensures.writes.sound;
    waits = omega (arith, ap how_many c.in-Ok.ensures.reads.waits, c.in-Ok-make_header.ensures.writes.waits, c.in-Ok-join_child.ensures.writes.waits);
    effect = only_then _ _ _ (only_then _ _ _ (table_only _ 1 2 _ _ c.in-Ok.ensures.reads.effect) (few_only 66 _ _ c.in-Ok-make_header.ensures.writes.effect)) c.in-Ok-join_child.ensures.writes.effect;
    cause = tt;
  },
)

pub returns-in-Err-add-clause-writes : goal.returns-in-Err-add-clause-writes
returns-in-Err-add-clause-writes g c = (
  11 + join_cost c.in-Ok.parent.table,
  inr (c.in-Ok.parent.table, its_table c.args.core.now c.args.at c.args.name.now c.args.label.now (g.S.ReadBytes.image c.args.space.now) c.in-Ok.parent c.in-Ok.ensures.room, refl),
  record {
    sound = c.in-Ok-join_child.ensures.writes.sound;
    waits = omega (arith, ap how_many c.in-Ok.ensures.reads.waits, c.in-Ok-make_header.ensures.writes.waits, c.in-Ok-join_child.ensures.writes.waits);
    effect = only_then _ _ _ (only_then _ _ _ (table_only _ 1 2 _ _ c.in-Ok.ensures.reads.effect) (few_only 66 _ _ c.in-Ok-make_header.ensures.writes.effect)) c.in-Ok-join_child.ensures.writes.effect;
    cause = (c.in-Ok.parent, c.in-Ok.ensures.room);
  },
)

pub returns-in-Ok-add-clause-reached : goal.returns-in-Ok-add-clause-reached
returns-in-Ok-add-clause-reached g c =
    let core = c.args.core.now in
    let parent = c.in-Ok.parent in
    let own = parent_ranges parent in
    let header = range c.in-Ok-make_header.place (node_length core.wide) ∷ [] in
    let a = core.heap.work.heap in
    let b = c.make_header.new.heap.work.heap in
    let d = c.join_child.new.heap.work.heap in
    let held = g.S.ReadBytes.image c.args.space.now in
    let w = g.S.ReadBytes.waiting c.args.space.now in
    let x = g.S.ReadBytes.waiting c.find_room.new.space in
    let y = g.S.ReadBytes.waiting c.make_header.new.space in
    let z = g.S.ReadBytes.waiting c.join_child.new.space in
    let Made = TakesText core.heap.limit (node_length core.wide) c.in-Ok-make_header.place (node_text (empty_node core.wide c.args.name.now c.args.label.now)) core.heap.work c.make_header.new.heap.work in
    create_reached core c.args.at c.args.name.now c.args.label.now parent (record { heap = c.join_child.new.heap; rows = c.add.new.self; wide = core.wide; writable = core.writable }) held w z c.in-Ok.ensures.room
    (subst (λ (blocks : List ℕ). IfTold held (WaitsInRoom own a d blocks z)) c.in-Ok.ensures.reads.waits
    (told_both_then Made held (g.S.ReadBytes.image c.make_header.new.space) (TakesInRoom header a b x y) (WaitsInRoom own b d y z) (WaitsInRoom own a d x z)
    (made_in Made held (g.S.ReadBytes.image c.find_room.new.space) (g.S.ReadBytes.image c.make_header.new.space) c.in-Ok.ensures.reads.bytes c.in-Ok-make_header.ensures.made)
    (λ t u. taken_then header own a b d x y z t (more_own own (header ++ own) b d y z (within_right header own) u))
    (subst (λ (o : Option (List ℕ)). IfTold o (TakesInRoom header a b x y)) c.in-Ok.ensures.reads.bytes c.in-Ok-make_header.ensures.waits)
    c.in-Ok-join_child.ensures.waits))
