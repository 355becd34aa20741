use Rattle.std.proofs.Common.{◌-◌, ◌*◌, [], ◌∷◌, ◌+◌}
use Rattle.tree_edits.proofs.Leaves.{list_left, same_behind, one_less}
use Rattle.field_access.specs.Fields.{range}
use Rattle.tree_edits.proofs.Causes.{where_ok}
use Rattle.tree_edits.proofs.WaitSteps.{waits_both, waits_part}
use Rattle.tree_edits.specs.Left.{entry_place, length_behind}
use Rattle.tree_edits.proofs.leave.leave_list.Goals as goal

pub returns-clause-left : goal.returns-clause-left
returns-clause-left g c =
    list_left c.write_number.result c.args.header (c.from.result - 1) c.args.listed c.entry-own.result (44 * c.from-behind.result) (g.S.ReadBytes.image c.args.space.now) (g.S.ReadBytes.image c.move_up.new.space) (g.S.ReadBytes.image c.write_number.new.space)
    c.entry-own.ensures (same_behind c.args.listed c.from-behind.result c.from-behind.ensures) (one_less c.from.result c.args.listed.table.count c.from.ensures) c.in-Ok.ensures.moved c.write_number.ensures.written c.write_number.ensures.bytes

pub returns-clause-waits : goal.returns-clause-waits
returns-clause-waits g c =
    where_ok c.write_number.result _
    (waits_both (range (entry_place c.args.listed) (length_behind c.args.listed) ∷ []) (range (c.args.header + 68) 8 ∷ []) _ _ _
    (waits_part c.entry-own.result (entry_place c.args.listed) (44 * c.from-behind.result) (length_behind c.args.listed) _ _ c.entry-own.ensures (same_behind c.args.listed c.from-behind.result c.from-behind.ensures) c.in-Ok.ensures.waits)
    c.write_number.ensures.only)
