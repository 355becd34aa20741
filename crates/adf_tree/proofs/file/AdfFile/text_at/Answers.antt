use Rattle.adf_tree.proofs.AskEnds.{broken_looks, looks_end}
use Rattle.adf_tree.proofs.AskLooks.{text_looks}
use Rattle.adf_tree.proofs.HeaderReads.{read_works}
use Rattle.adf_tree.specs.Files.{state_of}
use Rattle.std.specs.Prelude.{Err, Ok}
use Rattle.adf_tree.proofs.file.AdfFile.text_at.Goals as goal

pub returns-then-self-clause-ends : goal.returns-then-self-clause-ends
returns-then-self-clause-ends g c =
    let file = state_of g.D.Device.state c.args.self.now in
    broken_looks _ _ file file c.if-self.true

pub returns-in-Ok-clause-sound : goal.returns-in-Ok-clause-sound
returns-in-Ok-clause-sound g c =
    let reads = c.in-Ok.ensures.reads in
    read_works g.D.Device.state c.args.self.now c.text_at.new.space c.requires reads.sound reads.bytes reads.waits reads.effect

pub returns-in-Ok-clause-ends : goal.returns-in-Ok-clause-ends
returns-in-Ok-clause-ends g c =
    let state = g.D.Device.state in
    let file = c.args.self.now in
    looks_end _ _ (state_of state file) (state_of state (record file { draft = c.text_at.new.space })) (Ok c.in-Ok.text) c.if-self.false c.in-Ok.ensures.told tt

pub returns-in-Err-clause-sound : goal.returns-in-Err-clause-sound
returns-in-Err-clause-sound g c =
    let reads = c.in-Err.ensures.reads in
    read_works g.D.Device.state c.args.self.now c.text_at.new.space c.requires reads.sound reads.bytes reads.waits reads.effect

pub returns-in-Err-clause-ends : goal.returns-in-Err-clause-ends
returns-in-Err-clause-ends g c =
    let state = g.D.Device.state in
    let file = c.args.self.now in
    let reads = c.in-Err.ensures.reads in
    looks_end _ _ (state_of state file) (state_of state (record file { draft = c.text_at.new.space })) (Err c.in-Err.error) c.if-self.false c.in-Err.ensures.told (text_looks file.core _ c.args.serial _ _ c.in-Err.error reads.cause)
