use Rattle.std.proofs.Common.{◌≡◌, ◌+◌, max, subst, sym, arith, ℕ, Option}
use Rattle.adf_records.specs.View.{record_of}
use Rattle.adf_repack.specs.Places.{data_room}
use Rattle.adf_repack.specs.Copies.{Copies}
use Rattle.adf_repack.specs.Payloads.{copied_chunk, copied_data, BreaksData, BreaksContents}
use Rattle.adf_repack.proofs.data.copy_contents.Goals as goal

pub returns-in-Some-clause-copies : goal.returns-in-Some-clause-copies
returns-in-Some-clause-copies g c =
    let held = (g.B.Blocks.state c.args.blocks.now).held in
    let h = c.args.header.now in
    let size : ℕ = c.in-Some.size in
    let room : 20 + max 12 size ≡ max 32 (20 + size) = omega arith in
    subst (λ (o : Option ℕ). Copies {B = g.row.B.Denot} {E = g.row.E.Denot} g.B.Blocks.is_sound g.B.Blocks.state g.E.Device.state (BreaksContents held h.wide (record_of h) c.args.place o) (data_room o)
    (λ image. copied_data image (record_of h) o c.args.chunk) c.args.blocks.now c.copy_data.new.blocks c.copy_data.new.page c.args.writer.now c.copy_data.new.writer c.copy_data.result) (sym c.in-Some.is)
    (subst (λ (n : ℕ). Copies {B = g.row.B.Denot} {E = g.row.E.Denot} g.B.Blocks.is_sound g.B.Blocks.state g.E.Device.state (BreaksData held h.wide (record_of h) c.args.place size) n
    (λ image. copied_chunk image (record_of h) size c.args.chunk) c.args.blocks.now c.copy_data.new.blocks c.copy_data.new.page c.args.writer.now c.copy_data.new.writer c.copy_data.result) room c.copy_data.ensures.copies)
