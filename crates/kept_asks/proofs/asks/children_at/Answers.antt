use Rattle.std.proofs.Common.{◌∙◌, List, ap, sym, subst}
use Rattle.std.specs.Prelude.{Ok, option_copied}
use Rattle.adf_model.specs.Answers.{field_within}
use Rattle.adf_model.specs.declared.tree.Child.{Child}
use Rattle.adf_model.specs.declared.tree.Query.{Query}
use Rattle.adf_model.specs.declared.tree.Reply.{Reply}
use Rattle.tree_asks.proofs.Asked.{gone_told}
use Rattle.tree_asks.specs.Told.{Tells}
use Rattle.kept_asks.proofs.Replies.{children_told}
use Rattle.kept_asks.proofs.asks.children_at.Goals as goal

pub returns-in-None-clause-told : goal.returns-in-None-clause-told
returns-in-None-clause-told g c =
    gone_told c.args.core.now (g.S.ReadBytes.image c.args.space.now) c.args.at (Query.ChildrenOf c.args.node) (sym c.get.ensures ∙ c.in-None.is)

pub returns-in-Ok-clause-told : goal.returns-in-Ok-clause-told
returns-in-Ok-clause-told g c =
    let core = c.args.core.now in
    let held = g.S.ReadBytes.image c.args.space.now in
    subst (λ (xs : List Child). Tells core held (λ tree. field_within tree c.args.at (Query.ChildrenOf c.args.node)) (Ok (Reply.Children xs))) (sym c.new.ensures)
    (children_told core held c.args.names.now c.requires.names c.args.at c.args.node _ c.in-Some-list.list.now c.in-Ok.children.items (sym c.get.ensures ∙ c.in-Some.is)
    (sym c.list.ensures ∙ ap option_copied c.in-Some-list.is) c.in-Ok.ensures.children)
