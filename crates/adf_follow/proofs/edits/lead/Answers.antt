use Rattle.std.proofs.Common.{sym}
use Rattle.adf_model.specs.Edits.{named_nodes}
use Rattle.adf_model.specs.Calls.{tests_at_entry}
use Rattle.adf_follow.proofs.Entered.{refused_passes}
use Rattle.adf_follow.proofs.DoneEdit.{leads_on, leads_nowhere}
use Rattle.adf_follow.proofs.edits.lead.Goals as goal

pub returns-in-Ok-clause-found : goal.returns-in-Ok-clause-found
returns-in-Ok-clause-found g c = leads_on _ _ c.args.edit.now (refused_passes (tests_at_entry (g.F.OpenFiles.files c.args.files.now) (named_nodes c.args.edit.now)) c.requires.entered) c.in-Some.node c.in-Ok.there (sym c.in-Some.ensures) c.in-Ok.ensures.found

pub returns-in-Err-clause-found : goal.returns-in-Err-clause-found
returns-in-Err-clause-found g c = leads_nowhere _ _ c.args.edit.now (refused_passes (tests_at_entry (g.F.OpenFiles.files c.args.files.now) (named_nodes c.args.edit.now)) c.requires.entered) _ c.in-Some.node c.in-Err.error (sym c.in-Some.ensures) c.in-Err.ensures.found
