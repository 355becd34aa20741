use Rattle.std.proofs.Common.{◌∙◌, sym}
use Rattle.tree_asks.proofs.Answered.{tells_free}
use Rattle.tree_asks.proofs.LinkTexts.{nothing_there, no_link}
use Rattle.tree_asks.proofs.links.text_at.Goals as goal

pub returns-in-None-clause-told : goal.returns-in-None-clause-told
returns-in-None-clause-told g c = nothing_there c.args.core.now c.args.serial (g.S.ReadBytes.image c.args.space.now) (sym c.get.ensures ∙ c.in-None.is)

pub returns-in-Err-clause-told : goal.returns-in-Err-clause-told
returns-in-Err-clause-told g c = tells_free c.args.core.now (g.S.ReadBytes.image c.args.space.now) _ c.in-Err.error c.in-Err.ensures.free

pub returns-then-not-is_link-clause-told : goal.returns-then-not-is_link-clause-told
returns-then-not-is_link-clause-told g c = no_link c.args.core.now c.args.serial c.in-Some.row.place c.in-Ok.header (g.S.ReadBytes.image c.args.space.now) c.in-Ok.ensures.its (sym c.is_link.ensures ∙ c.if-not-is_link.true)
