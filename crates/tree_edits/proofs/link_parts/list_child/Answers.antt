use Rattle.std.proofs.Common.{◌++◌, ℕ, sym, subst, Option}
use Rattle.std.proofs.lemmas.Result.{on_ok_weaker}
use Rattle.std.specs.Prelude.{OnOk}
use Rattle.field_access.proofs.WaitLaws.{within_self}
use Rattle.tree_edits.specs.Waiting.{WaitsInRoom, IfTold, table_room, parent_ranges}
use Rattle.tree_edits.proofs.WaitSteps.{told_always}
use Rattle.tree_edits.proofs.Waiting.{own_written}
use Rattle.tree_edits.proofs.link_parts.list_child.Goals as goal

pub returns-in-None-clause-waits : goal.returns-in-None-clause-waits
returns-in-None-clause-waits g c =
    let parent = c.args.parent in
    let own = parent_ranges parent in
    let heap = c.args.heap.now.work.heap in
    let held = g.S.ReadBytes.image c.args.space.now in
    let x = g.S.ReadBytes.waiting c.args.space.now in
    let y = g.S.ReadBytes.waiting c.join_unused.new.space in
    subst (λ (o : Option ℕ). OnOk c.join_unused.result (IfTold held (WaitsInRoom (table_room parent o ++ parent_ranges parent) heap heap x y))) (sym c.in-None.is)
    (on_ok_weaker c.join_unused.result (λ w. told_always held (WaitsInRoom own heap heap x y) (own_written own own heap x y (within_self own) w)) c.join_unused.ensures.waits)
