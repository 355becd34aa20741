use Rattle.std.proofs.Common.{◌≡◌, ap, IfSome}
use Rattle.adf_records.specs.View.{record_of}
use Rattle.adf_repack.specs.Places.{room_of}
use Rattle.adf_repack.specs.Plans.{shape_at, copied_node, copied_at, old_place, record_at, BreaksParts, BreaksNode}
use Rattle.adf_repack.proofs.PayloadLaws.{told_of}
use Rattle.adf_repack.proofs.CopyingLaws.{copies_behind}
use Rattle.adf_repack.proofs.NodeLaws.{header_said, node_broken}
use Rattle.adf_repack.proofs.nodes.copy_node.Goals as goal

pub returns : goal.returns
returns g c =
    let plan = c.args.plan.now in
    let k = c.args.number in
    let nodes = c.args.nodes.now in
    let wide = c.args.wide in
    let h = c.in-Ok.header in
    let place = c.old_place-place.result in
    let held = (g.B.Blocks.state c.args.blocks.now).held in
    let again = (g.B.Blocks.state c.read_header.new.blocks).held in
    let said : IfSome held (λ image. record_of h ≡ record_at image wide (old_place nodes k)) = header_said held wide (old_place nodes k) place h c.old_place-place.ensures c.in-Ok.ensures.header in
    copies_behind g.B.Blocks.is_sound g.B.Blocks.state g.E.Device.state (BreaksParts again h.wide nodes plan k place (record_of h)) (BreaksNode held wide nodes plan k)
    (node_broken held again wide h.wide nodes plan k place (record_of h) c.read_header.ensures.reads.held c.in-Ok.ensures.wide c.old_place-place.ensures said)
    (room_of plan.wide (shape_at plan k)) (λ image. copied_node image nodes plan k (record_of h)) (λ image. copied_at image wide nodes plan k)
    c.args.blocks.now c.read_header.new.blocks c.copy_parts.new.blocks c.copy_parts.new.page c.args.writer.now c.copy_parts.new.writer c.read_header.ensures.reads
    (λ image e. ap (copied_node image nodes plan k) (told_of held image (λ i. record_of h ≡ record_at i wide (old_place nodes k)) e said)) c.copy_parts.result c.copy_parts.ensures
