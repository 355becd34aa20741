use Rattle.std.proofs.Common.{◌+◌, ◌*◌, arith, length}
use Rattle.cg_io.proofs.ReadLaws.{few_only, only_then, all_refused_later}
use Rattle.tree_edits.proofs.Leaves.{same_behind}
use Rattle.tree_edits.proofs.TableWritten.{two_blocks}
use Rattle.tree_moves.proofs.ListTexts.{last_moved, last_cost}
use Rattle.tree_edits.proofs.Causes.{where_ok}
use Rattle.tree_moves.proofs.MoveWaits.{last_waits}
use Rattle.tree_moves.proofs.lists.move_last.Goals as goal

pub returns-clause-moved : goal.returns-clause-moved
returns-clause-moved g c =
    last_moved c.write_field.result c.args.listed c.entry-own.result (44 * c.from-behind.result) c.args.entry.now (g.S.ReadBytes.image c.args.space.now) (g.S.ReadBytes.image c.move_up.new.space) (g.S.ReadBytes.image c.write_field.new.space)
    c.told-entry c.entry-own.ensures (same_behind c.args.listed c.from-behind.result c.from-behind.ensures) c.in-Ok.ensures.moved c.write_field.ensures.written c.write_field.ensures.bytes

pub returns-clause-writes : goal.returns-clause-writes
returns-clause-writes g c =
    let few = two_blocks (c.entry-own.result + 44 * c.from-behind.result) (length c.args.entry.now) (omega (arith, c.told-entry)) in
    record {
      sound = c.write_field.ensures.writes.sound;
      waits = (let cost = last_cost c.args.listed c.entry-own.result (44 * c.from-behind.result) c.entry-own.ensures (same_behind c.args.listed c.from-behind.result c.from-behind.ensures) in omega (arith, c.in-Ok.ensures.writes.waits, c.write_field.ensures.writes.waits, few, cost));
      effect = only_then _ _ _ c.in-Ok.ensures.writes.effect (few_only _ _ _ c.write_field.ensures.writes.effect);
      cause = all_refused_later ⊥ ⊥ _ (g.S.ReadBytes.state c.move_up.new.space).faults _ c.write_field.result c.in-Ok.ensures.writes.effect.faults (λ x. x) c.write_field.ensures.writes.cause;
    }

pub returns-clause-waits : goal.returns-clause-waits
returns-clause-waits g c =
    where_ok c.write_field.result _
    (last_waits c.args.listed c.entry-own.result (44 * c.from-behind.result) (length c.args.entry.now) (g.S.ReadBytes.waiting c.args.space.now) (g.S.ReadBytes.waiting c.move_up.new.space) (g.S.ReadBytes.waiting c.write_field.new.space)
    c.requires.list c.entry-own.ensures (same_behind c.args.listed c.from-behind.result c.from-behind.ensures) c.told-entry c.in-Ok.ensures.waits c.write_field.ensures.only)
