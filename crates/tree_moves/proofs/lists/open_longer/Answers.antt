use Rattle.std.proofs.Common.{◌+◌, ap, arith, length, [], ◌∷◌, ◌++◌}
use Rattle.cg_io.proofs.ReadLaws.{few_only, only_then, refused_later}
use Rattle.tree_edits.specs.Joined.{WritesTable, extents_of_table}
use Rattle.tree_edits.proofs.Taking.{then_both}
use Rattle.tree_edits.proofs.TableWritten.{two_blocks}
use Rattle.tree_moves.proofs.ListTexts.{put_kept, kept_long}
use Rattle.field_access.specs.Fields.{range}
use Rattle.field_access.proofs.WaitLaws.{within_left, within_right, within_self, within_both, waits_wider}
use Rattle.tree_edits.proofs.WaitSteps.{waits_both, waits_long}
use Rattle.tree_edits.specs.Waiting.{parent_ranges}
use Rattle.tree_edits.specs.Linked.{longer_length}
use Rattle.tree_moves.proofs.lists.open_longer.Goals as goal

pub returns-in-Ok-write_field-clause-opened : goal.returns-in-Ok-write_field-clause-opened
returns-in-Ok-write_field-clause-opened g c =
    then_both (WritesTable c.args.parent.table c.args.place c.args.entry.now) _ (g.S.ReadBytes.image c.args.space.now) (g.S.ReadBytes.image c.write_table.new.space) (g.S.ReadBytes.image c.write_field.new.space) c.in-Ok.ensures.written
    (put_kept (c.args.parent.row.place + 68) c.args.place c.args.parent.table.count c.fields_of_table-fields.result (g.S.ReadBytes.image c.write_table.new.space) (g.S.ReadBytes.image c.write_field.new.space) c.fields_of_table-fields.ensures c.in-Ok-write_field.ensures.written c.in-Ok-write_field.ensures.bytes)

pub returns-in-Ok-write_field-clause-table : goal.returns-in-Ok-write_field-clause-table
returns-in-Ok-write_field-clause-table g c = ap (λ n. record { place = c.args.place; entries = n; count = c.args.parent.table.count }) c.grown.ensures

pub returns-in-Ok-write_field-clause-writes : goal.returns-in-Ok-write_field-clause-writes
returns-in-Ok-write_field-clause-writes g c =
    let few = two_blocks (c.args.parent.row.place + 68) (length c.fields_of_table-fields.result) (let l = kept_long c.args.place c.args.parent.table.count c.fields_of_table-fields.result c.fields_of_table-fields.ensures in omega (arith, l)) in
    record {
      sound = c.in-Ok-write_field.ensures.writes.sound;
      waits = omega (arith, c.in-Ok.ensures.writes.waits, c.in-Ok-write_field.ensures.writes.waits, few);
      effect = only_then _ _ _ c.in-Ok.ensures.writes.effect (few_only _ _ _ c.in-Ok-write_field.ensures.writes.effect);
      cause = tt;
    }

pub returns-in-Err-write_field-clause-writes : goal.returns-in-Err-write_field-clause-writes
returns-in-Err-write_field-clause-writes g c =
    let few = two_blocks (c.args.parent.row.place + 68) (length c.fields_of_table-fields.result) (let l = kept_long c.args.place c.args.parent.table.count c.fields_of_table-fields.result c.fields_of_table-fields.ensures in omega (arith, l)) in
    record {
      sound = c.in-Err-write_field.ensures.writes.sound;
      waits = omega (arith, c.in-Ok.ensures.writes.waits, c.in-Err-write_field.ensures.writes.waits, few);
      effect = only_then _ _ _ c.in-Ok.ensures.writes.effect (few_only _ _ _ c.in-Err-write_field.ensures.writes.effect);
      cause = refused_later ⊥ ⊥ _ (g.S.ReadBytes.state c.write_table.new.space).faults _ c.in-Err-write_field.error c.in-Ok.ensures.writes.effect.faults (λ x. x) c.in-Err-write_field.ensures.writes.cause;
    }

pub returns-in-Ok-write_field-clause-waits : goal.returns-in-Ok-write_field-clause-waits
returns-in-Ok-write_field-clause-waits g c =
    let parent = c.args.parent in
    let room = range c.args.place (longer_length parent) ∷ [] in
    let fields = range (parent.row.place + 68) 28 ∷ [] in
    let y = g.S.ReadBytes.waiting c.write_table.new.space in
    let z = g.S.ReadBytes.waiting c.write_field.new.space in
    waits_both room (parent_ranges parent) (g.S.ReadBytes.waiting c.args.space.now) y z c.in-Ok.ensures.waits
    (waits_wider fields (parent_ranges parent) y z (within_left fields (extents_of_table parent.table))
    (waits_long (parent.row.place + 68) _ 28 y z (kept_long c.args.place parent.table.count c.fields_of_table-fields.result c.fields_of_table-fields.ensures) c.in-Ok-write_field.ensures.only))
