use Rattle.std.proofs.Common.{◌∙◌, inl, inr}
use Rattle.adf_format.specs.FirstFault.{header_rows as file_rows}
use Rattle.node_reads.specs.Reads.{Breaks}
use Rattle.adf_repack.proofs.CauseLaws.{cause_said}
use Rattle.adf_repack.proofs.PlanningLaws.{planned_so, drafted_before, format_said, are_unmeasured_later}
use Rattle.adf_repack.proofs.planning.plan_copy.Goals as goal

pub returns-in-Err-clause-cause : goal.returns-in-Err-clause-cause
returns-in-Err-clause-cause g c =
    let source = g.B.Blocks.state c.args.blocks.now in
    inl (cause_said (Breaks source.held 0 186 file_rows) source.faults (g.B.Blocks.state c.read_file_header.new.blocks).faults c.in-Err.error c.in-Err.ensures.cause)

pub returns-in-Err-plan_nodes-clause-cause : goal.returns-in-Err-plan_nodes-clause-cause
returns-in-Err-plan_nodes-clause-cause g c =
    let source = g.B.Blocks.state c.args.blocks.now in
    let middle = g.B.Blocks.state c.read_file_header.new.blocks in
    let now = g.B.Blocks.state c.plan_nodes.new.blocks in
    inr (inl (are_unmeasured_later source.held middle.held c.args.wide c.args.to c.args.nodes.now source.faults middle.faults now.faults c.in-Err-plan_nodes.error
    c.read_file_header.ensures.reads.held c.read_file_header.ensures.reads.faults c.in-Err-plan_nodes.ensures.cause))

pub returns-in-Ok-check_room-clause-planned : goal.returns-in-Ok-check_room-clause-planned
returns-in-Ok-check_room-clause-planned g c =
    let held = (g.B.Blocks.state c.args.blocks.now).held in
    let again = (g.B.Blocks.state c.read_file_header.new.blocks).held in
    let p = c.in-Ok-plan_nodes.planned in
    planned_so held c.args.wide c.args.to c.args.nodes.now p (drafted_before held again c.args.wide c.args.to c.args.nodes.now p c.read_file_header.ensures.reads.held c.in-Ok-plan_nodes.ensures.drafted)
    c.in-Ok-check_room.ensures.near (λ image e. c.in-Ok-plan_nodes.ensures.format ∙ format_said held image c.in-Ok.header e c.in-Ok.ensures.says)

pub returns-in-Err-check_room-clause-cause : goal.returns-in-Err-check_room-clause-cause
returns-in-Err-check_room-clause-cause g c =
    let held = (g.B.Blocks.state c.args.blocks.now).held in
    let again = (g.B.Blocks.state c.read_file_header.new.blocks).held in
    let p = c.in-Ok-plan_nodes.planned in
    let d = drafted_before held again c.args.wide c.args.to c.args.nodes.now p c.read_file_header.ensures.reads.held c.in-Ok-plan_nodes.ensures.drafted in
    inr (inr (record { shapes = p.plan.shapes.items; size = p.length; room = d.room; why = c.in-Err-check_room.ensures.cause }))
