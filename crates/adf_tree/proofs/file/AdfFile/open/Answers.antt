use Rattle.std.proofs.Common.{ap, subst, sym}
use Rattle.std.specs.Prelude.{IfErr, IfOk}
use Rattle.adf_model.specs.Modes.{opening_of}
use Rattle.cg_io.proofs.ReadLaws.{only_none}
use Rattle.adf_tree.specs.Files.{state_of}
use Rattle.adf_tree.specs.Opening.{IsOpened, IsRefused, ReadsWithin}
use Rattle.adf_tree.proofs.OpenedFile.{lacks_memory}
use Rattle.adf_tree.proofs.OpenedReads.{unread_within}
use Rattle.adf_tree.proofs.file.AdfFile.open.Goals as goal

pub returns-in-Ok-clause-opened : goal.returns-in-Ok-clause-opened
returns-in-Ok-clause-opened g c =
    let state = g.D.Device.state in
    subst (λ device. IfOk c.open_over.result (λ file. IsOpened c.args.mode c.args.limit (state device) (state_of state file))) c.in-Ok.ensures.made.0 c.open_over.ensures.opened

pub returns-in-Ok-clause-refused : goal.returns-in-Ok-clause-refused
returns-in-Ok-clause-refused g c =
    let state = g.D.Device.state in
    subst (λ device. IfErr c.open_over.result (λ r. IsRefused (opening_of c.args.mode) (state device) (state r.device) r.error)) c.in-Ok.ensures.made.0 c.open_over.ensures.refused

pub returns-in-Err-clause-refused : goal.returns-in-Err-clause-refused
returns-in-Err-clause-refused g c =
    let state = g.D.Device.state in
    subst (λ device. IsRefused (opening_of c.args.mode) (state c.args.device) (state device) c.in-Err.error) (sym c.in-Err.ensures.refused.1)
    (lacks_memory (opening_of c.args.mode) (state c.args.device) (state c.args.device) c.in-Err.error c.in-Err.ensures.refused.0 (only_none (state c.args.device)))

pub returns-in-Ok-clause-bound : goal.returns-in-Ok-clause-bound
returns-in-Ok-clause-bound g c =
    let state = g.D.Device.state in
    subst (λ device. IfErr c.open_over.result (λ r. ReadsWithin (opening_of c.args.mode) (state device) (state r.device))) c.in-Ok.ensures.made.0 c.open_over.ensures.bound

pub returns-in-Err-clause-bound : goal.returns-in-Err-clause-bound
returns-in-Err-clause-bound g c =
    let state = g.D.Device.state in
    unread_within (opening_of c.args.mode) (state c.args.device) _ (ap state c.in-Err.ensures.refused.1)
