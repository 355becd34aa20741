use Rattle.std.proofs.Common.{◌∙◌, ◌+◌, ◌^◌, ◌<◌, ◌≤◌, arith, ap, sym, subst, [], ◌++◌}
use Rattle.adf_format.specs.Parts.{table_length}
use Rattle.cg_io.specs.Answers.{IsUntold}
use Rattle.cg_io.proofs.ReadLaws.{few_only, only_then}
use Rattle.node_reads.specs.declared.header.ChildTable.{ChildTable}
use Rattle.tree_edits.specs.Joined.{LacksTable, extents_of_table}
use Rattle.tree_edits.specs.Linked.{TakesTable}
use Rattle.tree_edits.proofs.CreateDone.{told_both}
use Rattle.tree_edits.proofs.LinkPut.{refused_behind}
use Rattle.tree_moves.specs.Relisted.{MovesBy, OpensIn, move_ranges}
use Rattle.tree_moves.proofs.Relinked.{in_near, in_unused, in_count, grows_by, opens_again, moves_again, linked_held, threads_held, old_held, relists_held}
use Rattle.tree_edits.proofs.WaitSteps.{told_both_then, told_two_behind}
use Rattle.tree_edits.specs.Waiting.{WaitsInRoom, TakesInRoom, IfTold, table_room}
use Rattle.tree_moves.proofs.MoveWaits.{move_waits}
use Rattle.tree_moves.proofs.lists.relist.Goals as goal

pub returns-in-Err-clause-writes : goal.returns-in-Err-clause-writes
returns-in-Err-clause-writes g c = record {
  sound = c.in-Err.ensures.writes.sound;
  waits = omega (arith, c.in-Err.ensures.writes.waits);
  effect = few_only 64 _ _ c.in-Err.ensures.writes.effect;
  cause = c.in-Err.ensures.writes.cause;
}

pub returns-in-Err-open_list-clause-writes : goal.returns-in-Err-open_list-clause-writes
returns-in-Err-open_list-clause-writes g c =
    let its = c.args.its.now in
    let heap = c.args.heap.now in
    let one = few_only 64 _ _ c.in-Ok.ensures.writes.effect in
    let cost = grows_by its.to c.in-Ok.room c.in-Ok.ensures.fits in
    record {
      sound = c.in-Err-open_list.ensures.writes.sound;
      waits = omega (arith, c.in-Ok.ensures.writes.waits, c.in-Err-open_list.ensures.writes.waits, cost);
      effect = only_then _ _ _ one c.in-Err-open_list.ensures.writes.effect;
      cause = refused_behind (LacksTable heap.limit its.to heap.work.heap) ⊥ (IsUntold (g.S.ReadBytes.image c.args.space.now)) (λ x. absurd x) _ (g.S.ReadBytes.state c.take_table.new.space).faults _ c.in-Err-open_list.error one.faults c.in-Err-open_list.ensures.writes.cause;
    }

pub move_entry-requires-clause-table : goal.move_entry-requires-clause-table
move_entry-requires-clause-table g c =
    subst (λ (t : ChildTable). t.place + table_length t.entries ≤ 2 ^ 44) (sym c.in-Ok-open_list.ensures.table) (in_near c.args.its.now.to c.in-Ok.room c.in-Ok.ensures.fits c.requires.near.to)

pub move_entry-requires-clause-unused : goal.move_entry-requires-clause-unused
move_entry-requires-clause-unused g c = subst (λ (t : ChildTable). t.count < t.entries) (sym c.in-Ok-open_list.ensures.table) (in_unused c.args.its.now.to c.in-Ok.room c.in-Ok.ensures.fits)

pub move_entry-requires-clause-same : goal.move_entry-requires-clause-same
move_entry-requires-clause-same g c = λ e.
    ap (λ (t : ChildTable). t.count) c.in-Ok-open_list.ensures.table ∙ in_count c.args.its.now.to c.in-Ok.room ∙ ap (λ (t : ChildTable). t.count) (c.requires.same e)

pub returns-in-Err-move_entry-clause-writes : goal.returns-in-Err-move_entry-clause-writes
returns-in-Err-move_entry-clause-writes g c =
    let its = c.args.its.now in
    let heap = c.args.heap.now in
    let two = only_then _ _ _ (few_only 64 _ _ c.in-Ok.ensures.writes.effect) c.in-Ok-open_list.ensures.writes.effect in
    let cost = grows_by its.to c.in-Ok.room c.in-Ok.ensures.fits in
    record {
      sound = c.in-Err-move_entry.ensures.writes.sound;
      waits = omega (arith, c.in-Ok.ensures.writes.waits, c.in-Ok-open_list.ensures.writes.waits, c.in-Err-move_entry.ensures.writes.waits, cost);
      effect = only_then _ _ _ two c.in-Err-move_entry.ensures.writes.effect;
      cause = refused_behind (LacksTable heap.limit its.to heap.work.heap) ⊥ (IsUntold (g.S.ReadBytes.image c.args.space.now)) (λ x. absurd x) _ (g.S.ReadBytes.state c.open_list.new.space).faults _ c.in-Err-move_entry.error two.faults c.in-Err-move_entry.ensures.writes.cause;
    }

pub close_list-requires-clause-threads : goal.close_list-requires-clause-threads
close_list-requires-clause-threads g c =
    let its = c.args.its.now in
    threads_held c.args.heap.now.limit its c.args.heap.now.work c.take_table.new.heap.work c.requires.near c.requires.list c.requires.same (g.S.ReadBytes.image c.move_entry.new.space)
    (linked_held c.args.heap.now.limit its c.args.heap.now.work c.take_table.new.heap.work c.requires.near c.requires.list c.requires.same c.in-Ok.room (g.S.ReadBytes.image c.args.space.now) (g.S.ReadBytes.image c.take_table.new.space) (g.S.ReadBytes.image c.open_list.new.space) (g.S.ReadBytes.image c.move_entry.new.space) c.in-Ok.ensures.fits c.requires.ready c.requires.own c.in-Ok.ensures.takes
    (opens_again c.args.heap.now.limit its c.args.heap.now.work c.take_table.new.heap.work c.requires.near c.requires.list c.requires.same c.in-Ok.room c.entry_of-entry.result (g.S.ReadBytes.image c.take_table.new.space) (g.S.ReadBytes.image c.open_list.new.space) c.entry_of-entry.ensures c.in-Ok-open_list.ensures.opened)
    (moves_again c.args.heap.now.limit its c.args.heap.now.work c.take_table.new.heap.work c.requires.near c.requires.list c.requires.same c.in-Ok.room c.entry_of-entry.result c.in-Ok-open_list.table (g.S.ReadBytes.image c.open_list.new.space) (g.S.ReadBytes.image c.move_entry.new.space) c.entry_of-entry.ensures c.in-Ok-open_list.ensures.table c.in-Ok-move_entry.ensures.moved))

pub close_list-requires-clause-own : goal.close_list-requires-clause-own
close_list-requires-clause-own g c =
    let its = c.args.its.now in
    old_held c.args.heap.now.limit its c.args.heap.now.work c.take_table.new.heap.work c.requires.near c.requires.list c.requires.same (g.S.ReadBytes.image c.move_entry.new.space)
    (linked_held c.args.heap.now.limit its c.args.heap.now.work c.take_table.new.heap.work c.requires.near c.requires.list c.requires.same c.in-Ok.room (g.S.ReadBytes.image c.args.space.now) (g.S.ReadBytes.image c.take_table.new.space) (g.S.ReadBytes.image c.open_list.new.space) (g.S.ReadBytes.image c.move_entry.new.space) c.in-Ok.ensures.fits c.requires.ready c.requires.own c.in-Ok.ensures.takes
    (opens_again c.args.heap.now.limit its c.args.heap.now.work c.take_table.new.heap.work c.requires.near c.requires.list c.requires.same c.in-Ok.room c.entry_of-entry.result (g.S.ReadBytes.image c.take_table.new.space) (g.S.ReadBytes.image c.open_list.new.space) c.entry_of-entry.ensures c.in-Ok-open_list.ensures.opened)
    (moves_again c.args.heap.now.limit its c.args.heap.now.work c.take_table.new.heap.work c.requires.near c.requires.list c.requires.same c.in-Ok.room c.entry_of-entry.result c.in-Ok-open_list.table (g.S.ReadBytes.image c.open_list.new.space) (g.S.ReadBytes.image c.move_entry.new.space) c.entry_of-entry.ensures c.in-Ok-open_list.ensures.table c.in-Ok-move_entry.ensures.moved))

pub returns-in-Ok-close_list-clause-listed : goal.returns-in-Ok-close_list-clause-listed
returns-in-Ok-close_list-clause-listed g c =
    let its = c.args.its.now in
    relists_held c.args.heap.now.limit its c.args.heap.now.work c.take_table.new.heap.work c.requires.near c.requires.list c.requires.same c.in-Ok.room c.close_list.new.heap.work c.in-Ok.ensures.fits
    (g.S.ReadBytes.image c.args.space.now) (g.S.ReadBytes.image c.take_table.new.space) (g.S.ReadBytes.image c.open_list.new.space) (g.S.ReadBytes.image c.move_entry.new.space) (g.S.ReadBytes.image c.close_list.new.space) c.requires.ready c.requires.own c.in-Ok.ensures.takes
    (opens_again c.args.heap.now.limit its c.args.heap.now.work c.take_table.new.heap.work c.requires.near c.requires.list c.requires.same c.in-Ok.room c.entry_of-entry.result (g.S.ReadBytes.image c.take_table.new.space) (g.S.ReadBytes.image c.open_list.new.space) c.entry_of-entry.ensures c.in-Ok-open_list.ensures.opened)
    (moves_again c.args.heap.now.limit its c.args.heap.now.work c.take_table.new.heap.work c.requires.near c.requires.list c.requires.same c.in-Ok.room c.entry_of-entry.result c.in-Ok-open_list.table (g.S.ReadBytes.image c.open_list.new.space) (g.S.ReadBytes.image c.move_entry.new.space) c.entry_of-entry.ensures c.in-Ok-open_list.ensures.table c.in-Ok-move_entry.ensures.moved)
    c.in-Ok-close_list.ensures.given

pub returns-in-Ok-close_list-clause-writes : goal.returns-in-Ok-close_list-clause-writes
returns-in-Ok-close_list-clause-writes g c =
    let cost = grows_by c.args.its.now.to c.in-Ok.room c.in-Ok.ensures.fits in
    record {
      sound = c.in-Ok-close_list.ensures.writes.sound;
      waits = omega (arith, c.in-Ok.ensures.writes.waits, c.in-Ok-open_list.ensures.writes.waits, c.in-Ok-move_entry.ensures.writes.waits, c.in-Ok-close_list.ensures.writes.waits, cost);
      effect = only_then _ _ _ (only_then _ _ _ (only_then _ _ _ (few_only 64 _ _ c.in-Ok.ensures.writes.effect) c.in-Ok-open_list.ensures.writes.effect) c.in-Ok-move_entry.ensures.writes.effect) c.in-Ok-close_list.ensures.writes.effect;
      cause = tt;
    }

pub returns-in-Err-close_list-clause-writes : goal.returns-in-Err-close_list-clause-writes
returns-in-Err-close_list-clause-writes g c =
    let its = c.args.its.now in
    let heap = c.args.heap.now in
    let cost = grows_by its.to c.in-Ok.room c.in-Ok.ensures.fits in
    let three = only_then _ _ _ (only_then _ _ _ (few_only 64 _ _ c.in-Ok.ensures.writes.effect) c.in-Ok-open_list.ensures.writes.effect) c.in-Ok-move_entry.ensures.writes.effect in
    let told_one = told_both (TakesTable heap.limit its.to c.in-Ok.room heap.work c.take_table.new.heap.work) (g.S.ReadBytes.image c.args.space.now) (g.S.ReadBytes.image c.take_table.new.space) c.in-Ok.ensures.takes in
    let told_two = told_both (OpensIn its.to c.in-Ok.room c.entry_of-entry.result) (g.S.ReadBytes.image c.take_table.new.space) (g.S.ReadBytes.image c.open_list.new.space) c.in-Ok-open_list.ensures.opened in
    let told_three = told_both (MovesBy its.last its c.in-Ok-open_list.table c.entry_of-entry.result) (g.S.ReadBytes.image c.open_list.new.space) (g.S.ReadBytes.image c.move_entry.new.space) c.in-Ok-move_entry.ensures.moved in
    record {
      sound = c.in-Err-close_list.ensures.writes.sound;
      waits = omega (arith, c.in-Ok.ensures.writes.waits, c.in-Ok-open_list.ensures.writes.waits, c.in-Ok-move_entry.ensures.writes.waits, c.in-Err-close_list.ensures.writes.waits, cost);
      effect = only_then _ _ _ three c.in-Err-close_list.ensures.writes.effect;
      cause = refused_behind (LacksTable heap.limit its.to heap.work.heap) (IsUntold (g.S.ReadBytes.image c.move_entry.new.space)) (IsUntold (g.S.ReadBytes.image c.args.space.now)) (λ x. told_one (told_two (told_three x)))
          _ (g.S.ReadBytes.state c.move_entry.new.space).faults _ c.in-Err-close_list.error three.faults c.in-Err-close_list.ensures.writes.cause;
    }

pub returns-in-Ok-close_list-clause-waits : goal.returns-in-Ok-close_list-clause-waits
returns-in-Ok-close_list-clause-waits g c =
    let its = c.args.its.now in
    let a = c.args.heap.now in
    let b = c.take_table.new.heap in
    let d = c.close_list.new.heap in
    let x = g.S.ReadBytes.waiting c.args.space.now in
    let y = g.S.ReadBytes.waiting c.take_table.new.space in
    let z = g.S.ReadBytes.waiting c.open_list.new.space in
    let u = g.S.ReadBytes.waiting c.move_entry.new.space in
    let v = g.S.ReadBytes.waiting c.close_list.new.space in
    let Closed = WaitsInRoom (extents_of_table its.to.table) b.work.heap d.work.heap u v in
    told_both_then (TakesTable a.limit its.to c.in-Ok.room a.work b.work) (g.S.ReadBytes.image c.args.space.now) (g.S.ReadBytes.image c.take_table.new.space)
    (TakesInRoom (table_room its.to c.in-Ok.room) a.work.heap b.work.heap x y) Closed (WaitsInRoom (move_ranges its) a.work.heap d.work.heap x v)
    c.in-Ok.ensures.takes
    (λ t closed. move_waits its c.in-Ok.room c.in-Ok-open_list.table c.in-Ok-open_list.ensures.table a.work.heap b.work.heap d.work.heap x y z u v t c.in-Ok-open_list.ensures.waits c.in-Ok-move_entry.ensures.waits closed)
    c.in-Ok.ensures.waits
    (told_two_behind (OpensIn its.to c.in-Ok.room c.entry_of-entry.result) (MovesBy its.last its c.in-Ok-open_list.table c.entry_of-entry.result) (g.S.ReadBytes.image c.take_table.new.space) (g.S.ReadBytes.image c.open_list.new.space) (g.S.ReadBytes.image c.move_entry.new.space)
    Closed Closed c.in-Ok-open_list.ensures.opened c.in-Ok-move_entry.ensures.moved (λ w. w) c.in-Ok-close_list.ensures.waits)
