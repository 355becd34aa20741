use Rattle.tree_edits.proofs.RoomsTaken.{ready_held}
use Rattle.tree_edits.proofs.Taking.{takes_bytes}
use Rattle.std.proofs.Common.{[], ◌∷◌, ◌++◌}
use Rattle.adf_format.specs.Changes.{heap_fields}
use Rattle.field_access.specs.Fields.{WaitsWithin, range}
use Rattle.tree_edits.proofs.WaitSteps.{told_then}
use Rattle.tree_edits.proofs.Waiting.{one_taken}
use Rattle.tree_edits.specs.Waiting.{TakesInRoom}
use Rattle.tree_edits.proofs.link_rooms.take_room.Goals as goal

pub returns-in-Ok-clause-takes : goal.returns-in-Ok-clause-takes
returns-in-Ok-clause-takes g c =
    takes_bytes c.args.heap.now.limit c.args.n c.in-Ok.place c.args.heap.now.work c.take.new.self.work (g.S.ReadBytes.image c.args.space.now) (g.S.ReadBytes.image c.take.new.space) c.in-Ok.ensures.takes c.in-Ok.ensures.within c.in-Ok.ensures.tiles c.in-Ok.ensures.covers
    c.in-Ok.ensures.changes.heap.order c.in-Ok.ensures.changes.threads c.in-Ok.ensures.changes.bytes c.in-Ok.ensures.changes.end c.in-Ok.ensures.changes.fillers

pub returns-in-Ok-clause-ready : goal.returns-in-Ok-clause-ready
returns-in-Ok-clause-ready g c =
    ready_held c.args.heap.now.limit c.args.n c.in-Ok.place c.args.heap.now.work c.take.new.self.work (g.S.ReadBytes.image c.args.space.now) (g.S.ReadBytes.image c.take.new.space) c.requires.ready
    (takes_bytes c.args.heap.now.limit c.args.n c.in-Ok.place c.args.heap.now.work c.take.new.self.work (g.S.ReadBytes.image c.args.space.now) (g.S.ReadBytes.image c.take.new.space) c.in-Ok.ensures.takes c.in-Ok.ensures.within c.in-Ok.ensures.tiles c.in-Ok.ensures.covers
    c.in-Ok.ensures.changes.heap.order c.in-Ok.ensures.changes.threads c.in-Ok.ensures.changes.bytes c.in-Ok.ensures.changes.end c.in-Ok.ensures.changes.fillers)

pub returns-in-Ok-clause-waits : goal.returns-in-Ok-clause-waits
returns-in-Ok-clause-waits g c =
    let was = c.args.heap.now in
    let now = c.take.new.self in
    let x = g.S.ReadBytes.waiting c.args.space.now in
    let y = g.S.ReadBytes.waiting c.take.new.space in
    told_then (g.S.ReadBytes.image c.args.space.now) (WaitsWithin (heap_fields ++ [] ++ was.work.heap.gaps) x y) (TakesInRoom (range c.in-Ok.place c.args.n ∷ []) was.work.heap now.work.heap x y)
    (λ w. one_taken was.limit c.args.n c.in-Ok.place was.work.heap now.work.heap x y c.in-Ok.ensures.takes w) c.in-Ok.ensures.changes.only
