use Rattle.std.proofs.lemmas.Result.{on_ok_weaker}
use Rattle.std.proofs.Common.{[], ◌∷◌, subst, Bool, length}
use Rattle.field_access.specs.Fields.{WaitsWithin, range}
use Rattle.tree_edits.proofs.WaitSteps.{waits_both}
use Rattle.adf_format.specs.HeapRule.{chunk_length_for}
use Rattle.adf_format.specs.RecordFields.{node_length}
use Rattle.tree_edits.proofs.link_parts.write_link.Goals as goal

pub returns-clause-waits : goal.returns-clause-waits
returns-clause-waits g c =
    let chunk = range c.args.rooms.chunk (chunk_length_for (length c.args.text.now)) ∷ [] in
    let header = range c.args.rooms.header (node_length c.args.wide) ∷ [] in
    let y = g.S.ReadBytes.waiting c.write_chunk.new.space in
    let z = g.S.ReadBytes.waiting c.write_header.new.space in
    on_ok_weaker c.write_header.result
    (λ w. waits_both chunk header (g.S.ReadBytes.waiting c.args.space.now) y z c.in-Ok.ensures.waits
    (subst (λ (b : Bool). WaitsWithin (range c.args.rooms.header (node_length b) ∷ []) y z) c.link_header-header.ensures.wide w))
    c.write_header.ensures.waits
