use Rattle.std.proofs.Common.{◌∙◌, sym}
use Rattle.std.proofs.lemmas.Result.{IfOk-weaker}
use Rattle.layout_lint.proofs.ContentLaws.{link_kept}
use Rattle.layout_lint.proofs.contents.is_sound_link.Goals as goal

pub returns-clause-told : goal.returns-clause-told
returns-clause-told g c = IfOk-weaker c.is_link_text.result _ _ (λ yes says image told end visits long sound are enough.
    let link = sym c.is_link.ensures ∙ c.if-not-is_link.false in
    link_kept _ c.args.header.now.rank c.args.size yes _ link c.if-header-ne1.false c.if-size.false (says image told end visits long sound are (enough link))) c.is_link_text.ensures.told
