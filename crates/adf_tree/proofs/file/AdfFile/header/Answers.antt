use Rattle.std.proofs.Common.{◌∙◌, refl, sym}
use Rattle.std.specs.Prelude.{Ok, Err}
use Rattle.block_draft.specs.Draft.{waiting_in}
use Rattle.cg_io.proofs.ReadLaws.{few_only}
use Rattle.adf_tree.specs.Files.{accepted, device_of, image_in, state_of, steps_in}
use Rattle.adf_tree.proofs.HeaderReads.{header_ends, read_works}
use Rattle.adf_tree.proofs.Stepping.{work_means}
use Rattle.adf_tree.proofs.file.AdfFile.header.Goals as goal

pub returns-in-Ok-clause-sound : goal.returns-in-Ok-clause-sound
returns-in-Ok-clause-sound g c =
    let reads = c.in-Ok.ensures.reads in
    read_works g.D.Device.state c.args.self.now c.read_header.new.bytes c.requires reads.sound reads.bytes reads.waits (few_only _ _ _ reads.effect)

pub returns-in-Ok-clause-ends : goal.returns-in-Ok-clause-ends
returns-in-Ok-clause-ends g c =
    let state = g.D.Device.state in
    let file = c.args.self.now in
    header_ends file.core c.args.serial c.in-Some.row (sym c.get.ensures ∙ c.in-Some.is) (state_of state file) (state_of state (record file { draft = c.read_header.new.bytes })) refl c.if-self.false
    (work_means (steps_in file) (waiting_in file.draft) (accepted file.core) file.core (device_of state file).held (image_in state file) (c.requires.work c.if-self.false) (c.requires.means c.if-self.false))
    (Ok c.in-Ok.header) c.in-Ok.ensures.header tt

pub returns-in-Err-clause-sound : goal.returns-in-Err-clause-sound
returns-in-Err-clause-sound g c =
    let reads = c.in-Err.ensures.reads in
    read_works g.D.Device.state c.args.self.now c.read_header.new.bytes c.requires reads.sound reads.bytes reads.waits (few_only _ _ _ reads.effect)

pub returns-in-Err-clause-ends : goal.returns-in-Err-clause-ends
returns-in-Err-clause-ends g c =
    let state = g.D.Device.state in
    let file = c.args.self.now in
    header_ends file.core c.args.serial c.in-Some.row (sym c.get.ensures ∙ c.in-Some.is) (state_of state file) (state_of state (record file { draft = c.read_header.new.bytes })) refl c.if-self.false
    (work_means (steps_in file) (waiting_in file.draft) (accepted file.core) file.core (device_of state file).held (image_in state file) (c.requires.work c.if-self.false) (c.requires.means c.if-self.false))
    (Err c.in-Err.error) tt c.in-Err.ensures.reads.cause
