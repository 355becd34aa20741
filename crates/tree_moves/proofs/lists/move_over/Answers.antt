use Rattle.std.proofs.Common.{arith}
use Rattle.cg_io.proofs.ReadLaws.{few_only, only_then, all_refused_later}
use Rattle.tree_edits.proofs.Taking.{then_both}
use Rattle.std.proofs.lemmas.Result.{on_ok_weaker}
use Rattle.tree_edits.specs.Left.{LeavesList}
use Rattle.tree_edits.proofs.WaitSteps.{waits_both, left_waits}
use Rattle.tree_edits.specs.Waiting.{list_ranges}
use Rattle.tree_moves.proofs.lists.move_over.Goals as goal

pub returns-clause-moved : goal.returns-clause-moved
returns-clause-moved g c =
    on_ok_weaker c.join_unused.result (λ w. then_both (LeavesList c.args.its.now.source.from.place c.args.its.now.source.listed) _ (g.S.ReadBytes.image c.args.space.now) (g.S.ReadBytes.image c.leave_list.new.space) (g.S.ReadBytes.image c.join_unused.new.space) c.in-Ok.ensures.left w)
    c.join_unused.ensures.written

pub returns-clause-writes : goal.returns-clause-writes
returns-clause-writes g c = record {
  sound = c.join_unused.ensures.writes.sound;
  waits = omega (arith, c.in-Ok.ensures.writes.waits, c.join_unused.ensures.writes.waits);
  effect = only_then _ _ _ c.in-Ok.ensures.writes.effect (few_only _ _ _ c.join_unused.ensures.writes.effect);
  cause = all_refused_later ⊥ ⊥ _ (g.S.ReadBytes.state c.leave_list.new.space).faults _ c.join_unused.result c.in-Ok.ensures.writes.effect.faults (λ x. x) c.join_unused.ensures.writes.cause;
}

pub returns-clause-waits : goal.returns-clause-waits
returns-clause-waits g c =
    let its = c.args.its.now in
    on_ok_weaker c.join_unused.result
    (λ w. waits_both (list_ranges its.source.from.place its.source.listed.table) (list_ranges its.to.row.place c.args.table) _ _ _
    (left_waits its.source.from.place its.source.listed _ _ c.requires.list.within c.requires.list.few c.in-Ok.ensures.waits) w)
    c.join_unused.ensures.waits
