use Rattle.std.proofs.Common.{◌-◌, ◌++◌, ℕ, List, length, replicate, Ok}
use Rattle.adf_format.specs.Pointer.{Blank}
use Rattle.adf_format.specs.Records.{header_text, free_table_text}
use Rattle.packed_laws.specs.PackedForm.{packed_header_of}
use Rattle.adf_repack.specs.Plans.{copied_until, room_until, BreaksOne}
use Rattle.adf_repack.proofs.CopyingLaws.{copies_same, copies_then}
use Rattle.adf_repack.proofs.files.copy_file.Goals as goal

pub returns : goal.returns
returns g c =
    let plan = c.args.plan.now in
    let nodes = c.args.nodes.now in
    let broken : ℕ → ℕ → Type 0 = BreaksOne (g.B.Blocks.state c.args.blocks.now).held c.args.wide nodes plan in
    let head : List ℕ = header_text (packed_header_of plan.wide c.args.format (c.args.size - 1)) ++ free_table_text (replicate 6 Blank) in
    copies_then g.B.Blocks.is_sound g.B.Blocks.state g.E.Device.state broken 266 (room_until plan (length nodes)) (λ image. head) (λ image. copied_until image c.args.wide nodes plan (length nodes))
    c.args.blocks.now c.args.blocks.now c.args.page.now c.args.writer.now c.put_head.new.writer c.in-Ok.field-0 c.copy_nodes.new.blocks c.copy_nodes.new.page c.copy_nodes.new.writer c.copy_nodes.result
    (copies_same g.B.Blocks.is_sound g.B.Blocks.state g.E.Device.state broken head 266 c.args.blocks.now c.args.page.now c.args.writer.now c.put_head.new.writer (Ok c.in-Ok.field-0)
    c.in-Ok.ensures.long c.requires.ready c.in-Ok.ensures.appends) c.copy_nodes.ensures
