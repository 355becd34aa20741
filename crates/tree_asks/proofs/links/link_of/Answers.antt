use Rattle.std.proofs.Common.{◌∙◌, sym, subst, Some}
use Rattle.std.specs.Prelude.{Ok}
use Rattle.tree_asks.specs.Told.{Tells}
use Rattle.tree_asks.proofs.Answered.{tells_free}
use Rattle.tree_asks.proofs.LinkTexts.{text_at, not_a_link, cut_told, refused_text}
use Rattle.tree_asks.proofs.links.link_of.Goals as goal

pub returns-in-Err-clause-told : goal.returns-in-Err-clause-told
returns-in-Err-clause-told g c = tells_free c.args.core.now (g.S.ReadBytes.image c.args.space.now) _ c.in-Err.error c.in-Err.ensures.free

pub returns-then-not-is_link-clause-told : goal.returns-then-not-is_link-clause-told
returns-then-not-is_link-clause-told g c = not_a_link c.args.core.now c.args.at c.args.row.place c.in-Ok.header (g.S.ReadBytes.image c.args.space.now) c.in-Ok.ensures.its (sym c.is_link.ensures ∙ c.if-not-is_link.true)

pub returns-in-Ok-link_data-clause-told : goal.returns-in-Ok-link_data-clause-told
returns-in-Ok-link_data-clause-told g c =
    cut_told c.args.core.now c.args.at c.args.row.place c.in-Ok.header (sym c.is_link.ensures ∙ c.if-not-is_link.false) c.in-Ok-link_data.text (g.S.ReadBytes.image c.args.space.now) c.cut.result c.in-Ok.ensures.its
    (subst (λ held. Tells c.args.core.now held (text_at c.args.at.serial) (Ok (Some c.in-Ok-link_data.text))) c.in-Ok.ensures.reads.bytes c.in-Ok-link_data.ensures.told) c.cut.ensures.parts c.cut.ensures.cause

pub returns-in-Err-link_data-clause-told : goal.returns-in-Err-link_data-clause-told
returns-in-Err-link_data-clause-told g c =
    refused_text c.args.core.now c.args.at (g.S.ReadBytes.image c.args.space.now) _ c.in-Err-link_data.error c.in-Ok.ensures.reads.bytes c.in-Err-link_data.ensures.told
