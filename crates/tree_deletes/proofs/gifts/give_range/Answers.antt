use Rattle.tree_deletes.proofs.Giving.{range_given}
use Rattle.std.proofs.Common.{[], ◌∷◌, ◌++◌}
use Rattle.adf_format.specs.Changes.{heap_fields}
use Rattle.field_access.specs.Fields.{WaitsWithin, range}
use Rattle.tree_edits.proofs.WaitSteps.{told_then}
use Rattle.tree_edits.proofs.Waiting.{one_given}
use Rattle.tree_edits.specs.Waiting.{WaitsInRoom}
use Rattle.tree_deletes.proofs.gifts.give_range.Goals as goal

pub returns-in-Ok-clause-given : goal.returns-in-Ok-clause-given
returns-in-Ok-clause-given g c = λ kind.
    range_given kind c.args.place c.args.n c.args.heap.now.work c.give.new.self.work c.in-Ok.ensures.gives (g.S.ReadBytes.image c.args.space.now) (g.S.ReadBytes.image c.give.new.space) c.in-Ok.ensures.changes.threads
    c.in-Ok.ensures.changes.bytes c.in-Ok.ensures.changes.end c.in-Ok.ensures.changes.fillers

pub returns-in-Ok-clause-waits : goal.returns-in-Ok-clause-waits
returns-in-Ok-clause-waits g c =
    let was = c.args.heap.now.work.heap in
    let now = c.give.new.self.work.heap in
    let x = g.S.ReadBytes.waiting c.args.space.now in
    let y = g.S.ReadBytes.waiting c.give.new.space in
    told_then (g.S.ReadBytes.image c.args.space.now) (WaitsWithin (heap_fields ++ range c.args.place c.args.n ∷ [] ++ was.gaps) x y) (WaitsInRoom (range c.args.place c.args.n ∷ []) was now x y)
    (λ w. one_given c.args.place c.args.n was now x y c.in-Ok.ensures.gives w) c.in-Ok.ensures.changes.only
