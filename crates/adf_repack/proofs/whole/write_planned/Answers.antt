use Rattle.std.proofs.Common.{◌+◌, ◌∙◌, sym, ℕ, length, Ok, Err}
use Rattle.adf_repack.specs.Planning.{copied_file}
use Rattle.adf_repack.specs.Plans.{room_until, BreaksOne}
use Rattle.adf_repack.proofs.WritingLaws.{none_told, room_all, ends_well, ends_badly, counts_so}
use Rattle.adf_repack.proofs.whole.write_planned.Goals as goal

pub write_file-requires-clause-sound : goal.write_file-requires-clause-sound
write_file-requires-clause-sound g c = c.new-writer.ensures.sound (none_told (g.E.Device.state c.args.device).held c.requires.none)

pub returns-in-Ok-clause-wrote : goal.returns-in-Ok-clause-wrote
returns-in-Ok-clause-wrote g c =
    let plan = c.args.planned.now.plan in
    let n : ℕ = 266 + room_until plan (length c.args.nodes.now) in
    (ends_well g.B.Blocks.is_sound g.B.Blocks.state g.E.Device.state (BreaksOne (g.B.Blocks.state c.args.blocks.now).held c.args.wide c.args.nodes.now plan) n
    (λ image. copied_file image c.args.wide c.args.nodes.now c.args.planned.now) c.args.blocks.now c.write_file.new.blocks c.write_file.new.page c.new-writer.result c.write_file.new.writer c.args.device c.into_device.result
    c.new-writer.ensures.device c.into_device.ensures c.in-Ok.field-0 c.args.planned.now.length c.new-writer.ensures.none c.new-writer.ensures.appended c.requires.none
    (room_all c.args.nodes.now plan c.requires.planned.plan ∙ sym c.requires.planned.long) c.in-Ok.ensures).wrote

pub returns-in-Ok-clause-effect : goal.returns-in-Ok-clause-effect
returns-in-Ok-clause-effect g c =
    let plan = c.args.planned.now.plan in
    let n : ℕ = 266 + room_until plan (length c.args.nodes.now) in
    (ends_well g.B.Blocks.is_sound g.B.Blocks.state g.E.Device.state (BreaksOne (g.B.Blocks.state c.args.blocks.now).held c.args.wide c.args.nodes.now plan) n
    (λ image. copied_file image c.args.wide c.args.nodes.now c.args.planned.now) c.args.blocks.now c.write_file.new.blocks c.write_file.new.page c.new-writer.result c.write_file.new.writer c.args.device c.into_device.result
    c.new-writer.ensures.device c.into_device.ensures c.in-Ok.field-0 c.args.planned.now.length c.new-writer.ensures.none c.new-writer.ensures.appended c.requires.none
    (room_all c.args.nodes.now plan c.requires.planned.plan ∙ sym c.requires.planned.long) c.in-Ok.ensures).effect

pub returns-in-Ok-clause-counts : goal.returns-in-Ok-clause-counts
returns-in-Ok-clause-counts g c =
    let plan = c.args.planned.now.plan in
    let n : ℕ = 266 + room_until plan (length c.args.nodes.now) in
    counts_so g.B.Blocks.is_sound g.B.Blocks.state g.E.Device.state (BreaksOne (g.B.Blocks.state c.args.blocks.now).held c.args.wide c.args.nodes.now plan) n
    (λ image. copied_file image c.args.wide c.args.nodes.now c.args.planned.now) c.args.blocks.now c.write_file.new.blocks c.write_file.new.page c.new-writer.result c.write_file.new.writer c.args.device c.into_device.result
    c.new-writer.ensures.device c.into_device.ensures (Ok c.in-Ok.field-0) c.in-Ok.ensures

pub returns-in-Ok-clause-held : goal.returns-in-Ok-clause-held
returns-in-Ok-clause-held g c =
    let plan = c.args.planned.now.plan in
    let n : ℕ = 266 + room_until plan (length c.args.nodes.now) in
    (ends_well g.B.Blocks.is_sound g.B.Blocks.state g.E.Device.state (BreaksOne (g.B.Blocks.state c.args.blocks.now).held c.args.wide c.args.nodes.now plan) n
    (λ image. copied_file image c.args.wide c.args.nodes.now c.args.planned.now) c.args.blocks.now c.write_file.new.blocks c.write_file.new.page c.new-writer.result c.write_file.new.writer c.args.device c.into_device.result
    c.new-writer.ensures.device c.into_device.ensures c.in-Ok.field-0 c.args.planned.now.length c.new-writer.ensures.none c.new-writer.ensures.appended c.requires.none
    (room_all c.args.nodes.now plan c.requires.planned.plan ∙ sym c.requires.planned.long) c.in-Ok.ensures).held

pub returns-in-Err-clause-cause : goal.returns-in-Err-clause-cause
returns-in-Err-clause-cause g c =
    let plan = c.args.planned.now.plan in
    let n : ℕ = 266 + room_until plan (length c.args.nodes.now) in
    ends_badly g.B.Blocks.is_sound g.B.Blocks.state g.E.Device.state (BreaksOne (g.B.Blocks.state c.args.blocks.now).held c.args.wide c.args.nodes.now plan) n
    (λ image. copied_file image c.args.wide c.args.nodes.now c.args.planned.now) c.args.blocks.now c.write_file.new.blocks c.write_file.new.page c.new-writer.result c.write_file.new.writer c.args.device c.into_device-in-Err.result
    c.new-writer.ensures.device c.into_device-in-Err.ensures c.in-Err.error c.in-Err.ensures

pub returns-in-Err-clause-fell : goal.returns-in-Err-clause-fell
returns-in-Err-clause-fell g c =
    let plan = c.args.planned.now.plan in
    let n : ℕ = 266 + room_until plan (length c.args.nodes.now) in
    counts_so g.B.Blocks.is_sound g.B.Blocks.state g.E.Device.state (BreaksOne (g.B.Blocks.state c.args.blocks.now).held c.args.wide c.args.nodes.now plan) n
    (λ image. copied_file image c.args.wide c.args.nodes.now c.args.planned.now) c.args.blocks.now c.write_file.new.blocks c.write_file.new.page c.new-writer.result c.write_file.new.writer c.args.device c.into_device-in-Err.result
    c.new-writer.ensures.device c.into_device-in-Err.ensures (Err c.in-Err.error) c.in-Err.ensures
