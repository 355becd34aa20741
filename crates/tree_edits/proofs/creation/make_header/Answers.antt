use Rattle.std.proofs.Common.{◌≡◌, subst, Bool, Ok, [], ◌∷◌, ◌++◌}
use Rattle.adf_format.specs.HeapRule.{heap_take}
use Rattle.adf_format.specs.RecordFields.{node_length}
use Rattle.adf_format.specs.Records.{node_text}
use Rattle.adf_model.specs.Creation.{empty_node}
use Rattle.cg_io.specs.Blocks.{Both}
use Rattle.tree_edits.specs.Taken.{FillsWith}
use Rattle.tree_edits.proofs.Taking.{taken_text}
use Rattle.adf_format.specs.Changes.{heap_fields}
use Rattle.field_access.specs.Fields.{WaitsWithin, range}
use Rattle.field_access.proofs.WaitLaws.{within_self}
use Rattle.tree_edits.proofs.WaitSteps.{told_then}
use Rattle.tree_edits.proofs.Waiting.{one_taken, taken_written}
use Rattle.tree_edits.specs.Waiting.{TakesInRoom}
use Rattle.tree_edits.proofs.creation.make_header.Goals as goal

pub returns-in-Ok-write_header-clause-made : goal.returns-in-Ok-write_header-clause-made
returns-in-Ok-write_header-clause-made g c =
    let made = subst (λ (w : Bool). Both (FillsWith c.in-Ok.place (node_length w) (node_text (empty_node c.args.wide c.args.name.now c.args.label.now))) (g.S.ReadBytes.image c.take.new.space) (g.S.ReadBytes.image c.write_header.new.space)) c.new_header.ensures.wide
    (subst (λ r. Both (FillsWith c.in-Ok.place (node_length c.new_header.result.wide) (node_text r)) (g.S.ReadBytes.image c.take.new.space) (g.S.ReadBytes.image c.write_header.new.space)) c.new_header.ensures.says c.in-Ok-write_header.ensures.written) in
    taken_text c.args.heap.now.limit c.node_length.result (node_length c.args.wide) c.in-Ok.place c.args.heap.now.work c.take.new.self.work (node_text (empty_node c.args.wide c.args.name.now c.args.label.now))
    (g.S.ReadBytes.image c.args.space.now) (g.S.ReadBytes.image c.take.new.space) (g.S.ReadBytes.image c.write_header.new.space) c.node_length.ensures
    c.in-Ok.ensures.takes c.in-Ok.ensures.within c.in-Ok.ensures.tiles c.in-Ok.ensures.covers c.in-Ok.ensures.changes.heap.order c.in-Ok.ensures.changes.threads c.in-Ok.ensures.changes.bytes c.in-Ok.ensures.changes.end c.in-Ok.ensures.changes.fillers made

pub returns-in-Ok-write_header-clause-taken : goal.returns-in-Ok-write_header-clause-taken
returns-in-Ok-write_header-clause-taken g c = subst (λ n. heap_take c.args.heap.now.limit n c.args.heap.now.work.heap ≡ Ok (c.in-Ok.place, c.take.new.self.work.heap)) c.node_length.ensures c.in-Ok.ensures.takes

pub returns-in-Ok-write_header-clause-waits : goal.returns-in-Ok-write_header-clause-waits
returns-in-Ok-write_header-clause-waits g c =
    let was = c.args.heap.now in
    let now = c.take.new.self in
    let room = range c.in-Ok.place (node_length c.args.wide) ∷ [] in
    let x = g.S.ReadBytes.waiting c.args.space.now in
    let y = g.S.ReadBytes.waiting c.take.new.space in
    let z = g.S.ReadBytes.waiting c.write_header.new.space in
    let taken = subst (λ n. heap_take was.limit n was.work.heap ≡ Ok (c.in-Ok.place, now.work.heap)) c.node_length.ensures c.in-Ok.ensures.takes in
    told_then (g.S.ReadBytes.image c.args.space.now) (WaitsWithin (heap_fields ++ [] ++ was.work.heap.gaps) x y) (TakesInRoom room was.work.heap now.work.heap x z)
    (λ w. taken_written room room was.work.heap now.work.heap x y z (within_self room) (one_taken was.limit (node_length c.args.wide) c.in-Ok.place was.work.heap now.work.heap x y taken w)
    (subst (λ (b : Bool). WaitsWithin (range c.in-Ok.place (node_length b) ∷ []) y z) c.new_header.ensures.wide c.in-Ok-write_header.ensures.waits))
    c.in-Ok.ensures.changes.only
