use Rattle.std.proofs.Common.{◌≡◌, ◌++◌, ◌∷◌, [], subst}
use Rattle.adf_format.specs.Changes.{heap_fields}
use Rattle.adf_format.specs.HeapBytes.{ChangesOnly}
use Rattle.adf_format.specs.HeapRule.{heap_give}
use Rattle.cg_io.specs.Blocks.{Both}
use Rattle.field_access.specs.Fields.{range, WaitsWithin}
use Rattle.tree_edits.proofs.Giving.{some_entries, given_table}
use Rattle.tree_edits.proofs.WaitSteps.{told_always, told_then, some_of, table_given}
use Rattle.tree_edits.proofs.Waiting.{room_begins}
use Rattle.tree_edits.specs.Joined.{extents_of_table}
use Rattle.tree_edits.specs.Waiting.{WaitsInRoom}
use Rattle.tree_edits.proofs.longer.give_table.Goals as goal

pub returns-in-Ok-clause-given : goal.returns-in-Ok-clause-given
returns-in-Ok-clause-given g c =
    let was = c.args.heap.now.work in
    let now = c.give.new.self.work in
    given_table c.args.table was now (some_entries c.args.table.entries c.if-table-eq0.false)
    (subst (λ n. now.heap ≡ heap_give c.args.table.place n was.heap) c.length-2.ensures c.in-Ok.ensures.gives)
    (g.S.ReadBytes.image c.args.space.now) (g.S.ReadBytes.image c.give.new.space) c.in-Ok.ensures.changes.threads
    (subst (λ n. Both (ChangesOnly (heap_fields ++ range c.args.table.place n ∷ [] ++ was.heap.gaps)) (g.S.ReadBytes.image c.args.space.now) (g.S.ReadBytes.image c.give.new.space)) c.length-2.ensures c.in-Ok.ensures.changes.bytes)
    c.in-Ok.ensures.changes.end c.in-Ok.ensures.changes.fillers

pub returns-then-table-eq0-clause-waits : goal.returns-then-table-eq0-clause-waits
returns-then-table-eq0-clause-waits g c =
    told_always (g.S.ReadBytes.image c.args.space.now) _ (room_begins (extents_of_table c.args.table) c.args.heap.now.work.heap (g.S.ReadBytes.waiting c.args.space.now))

pub returns-in-Ok-clause-waits : goal.returns-in-Ok-clause-waits
returns-in-Ok-clause-waits g c =
    let was = c.args.heap.now.work in
    let now = c.give.new.self.work in
    let old = g.S.ReadBytes.waiting c.args.space.now in
    let new = g.S.ReadBytes.waiting c.give.new.space in
    told_then (g.S.ReadBytes.image c.args.space.now) (WaitsWithin (heap_fields ++ range c.args.table.place c.length-2.result ∷ [] ++ was.heap.gaps) old new)
    (WaitsInRoom (extents_of_table c.args.table) was.heap now.heap old new)
    (λ w. table_given c.args.table was.heap now.heap old new (some_of c.args.table.entries c.if-table-eq0.false)
    (subst (λ n. now.heap ≡ heap_give c.args.table.place n was.heap) c.length-2.ensures c.in-Ok.ensures.gives)
    (subst (λ n. WaitsWithin (heap_fields ++ range c.args.table.place n ∷ [] ++ was.heap.gaps) old new) c.length-2.ensures w))
    c.in-Ok.ensures.changes.only
