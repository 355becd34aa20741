use Rattle.std.proofs.Common.{◌+◌, ◌*◌, arith, ◌≡◌, [], ◌∷◌, subst}
use Rattle.tree_edits.proofs.RoomsTaken.{table_held, no_table_held}
use Rattle.field_access.specs.Fields.{range}
use Rattle.tree_edits.proofs.WaitSteps.{told_always}
use Rattle.tree_edits.proofs.Waiting.{nothing_taken}
use Rattle.tree_edits.specs.Waiting.{TakesInRoom, IfTold}
use Rattle.tree_edits.specs.Linked.{longer_length}
use Rattle.tree_edits.proofs.link_rooms.take_table.Goals as goal

pub returns-then-parent-clause-takes : goal.returns-then-parent-clause-takes
returns-then-parent-clause-takes g c = no_table_held c.args.heap.now.limit c.args.parent c.args.heap.now.work (g.S.ReadBytes.image c.args.space.now)

pub returns-in-Ok-clause-takes : goal.returns-in-Ok-clause-takes
returns-in-Ok-clause-takes g c =
    table_held c.args.heap.now.limit (20 + 44 * c.from.result) c.in-Ok.place c.args.parent c.args.heap.now.work c.take_room.new.heap.work (g.S.ReadBytes.image c.args.space.now) (g.S.ReadBytes.image c.take_room.new.space)
    (omega (arith, c.from.ensures, c.grown.ensures)) c.in-Ok.ensures.takes

pub returns-then-parent-clause-waits : goal.returns-then-parent-clause-waits
returns-then-parent-clause-waits g c =
    told_always (g.S.ReadBytes.image c.args.space.now) _ (nothing_taken c.args.heap.now.work.heap (g.S.ReadBytes.waiting c.args.space.now))

pub returns-in-Ok-clause-waits : goal.returns-in-Ok-clause-waits
returns-in-Ok-clause-waits g c =
    let long : 20 + 44 * c.from.result ≡ longer_length c.args.parent = omega (arith, c.from.ensures, c.grown.ensures) in
    subst (λ n. IfTold (g.S.ReadBytes.image c.args.space.now) (TakesInRoom (range c.in-Ok.place n ∷ []) c.args.heap.now.work.heap c.take_room.new.heap.work.heap (g.S.ReadBytes.waiting c.args.space.now) (g.S.ReadBytes.waiting c.take_room.new.space)))
    long c.in-Ok.ensures.waits
