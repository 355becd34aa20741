use Rattle.std.proofs.lemmas.Result.{on_ok_weaker}
use Rattle.tree_edits.proofs.WaitSteps.{told_always}
use Rattle.tree_edits.proofs.Waiting.{own_written}
use Rattle.field_access.proofs.WaitLaws.{within_self}
use Rattle.tree_edits.specs.Waiting.{parent_ranges}
use Rattle.tree_edits.proofs.join.join_child.Goals as goal

pub returns-then-parent-clause-waits : goal.returns-then-parent-clause-waits
returns-then-parent-clause-waits g c =
    let own = parent_ranges c.args.parent in
    on_ok_weaker c.join_unused.result
    (λ w. told_always (g.S.ReadBytes.image c.args.space.now) _ (own_written own own c.args.heap.now.work.heap (g.S.ReadBytes.waiting c.args.space.now) (g.S.ReadBytes.waiting c.join_unused.new.space) (within_self own) w))
    c.join_unused.ensures.waits
