use Rattle.std.proofs.Common.{◌+◌, [], ◌∷◌}
use Rattle.tree_edits.proofs.PutTwice.{put_fields, fields_long}
use Rattle.tree_edits.proofs.Replaces.{threads_held, owned_held, replaces_held}
use Rattle.field_access.specs.Fields.{range}
use Rattle.field_access.proofs.WaitLaws.{within_later, within_self, within_left}
use Rattle.tree_edits.proofs.WaitSteps.{told_two_behind, waits_long}
use Rattle.tree_edits.proofs.Waiting.{own_written, then_own, room_then, more_own}
use Rattle.tree_edits.specs.Waiting.{WaitsInRoom, parent_ranges}
use Rattle.tree_edits.specs.Linked.{longer_length}
use Rattle.tree_edits.specs.Joined.{WritesTable, extents_of_table}
use Rattle.tree_edits.proofs.longer.replace_table.Goals as goal

pub give_table-requires-clause-threads : goal.give_table-requires-clause-threads
give_table-requires-clause-threads g c =
    let names = put_fields (c.args.parent.row.place + 68) c.args.place c.args.parent.table.count c.fields_of_table-fields.result (g.S.ReadBytes.image c.write_table.new.space) (g.S.ReadBytes.image c.write_field.new.space) c.fields_of_table-fields.ensures c.in-Ok-write_field.ensures.written c.in-Ok-write_field.ensures.bytes in
    threads_held c.args.place c.args.parent c.args.entry.now c.args.heap.now.work c.requires.full
    (g.S.ReadBytes.image c.args.space.now) (g.S.ReadBytes.image c.write_table.new.space) (g.S.ReadBytes.image c.write_field.new.space) c.requires.ready c.in-Ok.ensures.written names

pub give_table-requires-clause-own : goal.give_table-requires-clause-own
give_table-requires-clause-own g c =
    let names = put_fields (c.args.parent.row.place + 68) c.args.place c.args.parent.table.count c.fields_of_table-fields.result (g.S.ReadBytes.image c.write_table.new.space) (g.S.ReadBytes.image c.write_field.new.space) c.fields_of_table-fields.ensures c.in-Ok-write_field.ensures.written c.in-Ok-write_field.ensures.bytes in
    owned_held c.args.place c.args.parent c.args.entry.now c.args.heap.now.work c.requires.full
    (g.S.ReadBytes.image c.args.space.now) (g.S.ReadBytes.image c.write_table.new.space) (g.S.ReadBytes.image c.write_field.new.space) c.requires.ready c.in-Ok.ensures.written names

pub returns-in-Ok-give_table-clause-replaced : goal.returns-in-Ok-give_table-clause-replaced
returns-in-Ok-give_table-clause-replaced g c =
    let names = put_fields (c.args.parent.row.place + 68) c.args.place c.args.parent.table.count c.fields_of_table-fields.result (g.S.ReadBytes.image c.write_table.new.space) (g.S.ReadBytes.image c.write_field.new.space) c.fields_of_table-fields.ensures c.in-Ok-write_field.ensures.written c.in-Ok-write_field.ensures.bytes in
    replaces_held c.args.place c.args.parent c.args.entry.now c.args.heap.now.work c.requires.full
    (g.S.ReadBytes.image c.args.space.now) (g.S.ReadBytes.image c.write_table.new.space) (g.S.ReadBytes.image c.write_field.new.space) (g.S.ReadBytes.image c.give_table.new.space) c.give_table.new.heap.work c.requires.ready c.in-Ok.ensures.written names c.in-Ok-give_table.ensures.given

pub returns-in-Ok-give_table-clause-waits : goal.returns-in-Ok-give_table-clause-waits
returns-in-Ok-give_table-clause-waits g c =
    let parent = c.args.parent in
    let was = c.args.heap.now.work.heap in
    let now = c.give_table.new.heap.work.heap in
    let own = range c.args.place (longer_length parent) ∷ parent_ranges parent in
    let fields = range (parent.row.place + 68) 28 ∷ [] in
    let x = g.S.ReadBytes.waiting c.args.space.now in
    let y = g.S.ReadBytes.waiting c.write_table.new.space in
    let z = g.S.ReadBytes.waiting c.write_field.new.space in
    let last = g.S.ReadBytes.waiting c.give_table.new.space in
    let names = put_fields (parent.row.place + 68) c.args.place parent.table.count c.fields_of_table-fields.result (g.S.ReadBytes.image c.write_table.new.space) (g.S.ReadBytes.image c.write_field.new.space) c.fields_of_table-fields.ensures c.in-Ok-write_field.ensures.written c.in-Ok-write_field.ensures.bytes in
    let table = own_written own (range c.args.place (longer_length parent) ∷ []) was x y (within_left (range c.args.place (longer_length parent) ∷ []) (parent_ranges parent)) c.in-Ok.ensures.waits in
    let header = then_own own fields was was x y z (within_later (range c.args.place (longer_length parent)) fields (parent_ranges parent) (within_left fields (extents_of_table parent.table))) table
    (waits_long (parent.row.place + 68) _ 28 y z (fields_long c.args.place parent.table.count c.fields_of_table-fields.result c.fields_of_table-fields.ensures) c.in-Ok-write_field.ensures.only) in
    told_two_behind (WritesTable parent.table c.args.place c.args.entry.now) _ (g.S.ReadBytes.image c.args.space.now) (g.S.ReadBytes.image c.write_table.new.space) (g.S.ReadBytes.image c.write_field.new.space)
    (WaitsInRoom (extents_of_table parent.table) was now z last) (WaitsInRoom own was now x last) c.in-Ok.ensures.written names
    (λ w. room_then own was was now x z last header
    (more_own (extents_of_table parent.table) own was now z last (within_later (range c.args.place (longer_length parent)) (extents_of_table parent.table) (parent_ranges parent) (within_later (range (parent.row.place + 68) 28) (extents_of_table parent.table) (extents_of_table parent.table) (within_self (extents_of_table parent.table)))) w))
    c.in-Ok-give_table.ensures.waits
