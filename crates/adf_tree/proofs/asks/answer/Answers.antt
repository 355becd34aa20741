use Rattle.std.proofs.Common.{◌≡◌, ◌∙◌, ap, subst, sym}
use Rattle.std.specs.Prelude.{IsSome, None, Option, Some, is_some}
use Rattle.adf_model.specs.declared.tree.NodeId.{NodeId}
use Rattle.tree_edits.specs.Rows.{row_of}
use Rattle.tree_edits.specs.declared.rows.Row.{Row}
use Rattle.adf_tree.proofs.AskWalks.{answers_found, answers_gone}
use Rattle.adf_tree.proofs.asks.answer.Goals as goal

pub answer_there-requires-clause-there : goal.answer_there-requires-clause-there
answer_there-requires-clause-there g c =
    subst (λ (n : NodeId). IsSome (row_of c.args.core.now.rows.items n.serial)) c.asked_node.ensures (ap (λ (o : Option Row). is_some o) (sym c.get.ensures ∙ c.in-Some.is))

pub returns-in-Some-clause-told : goal.returns-in-Some-clause-told
returns-in-Some-clause-told g c =
    answers_found c.args.core.now c.args.query.now c.in-Some.field-0 (subst (λ (n : NodeId). row_of c.args.core.now.rows.items n.serial ≡ Some c.in-Some.field-0) c.asked_node.ensures (sym c.get.ensures ∙ c.in-Some.is)) (g.S.ReadBytes.image c.args.space.now) c.answer_there.result c.answer_there.ensures.told

pub returns-in-None-clause-told : goal.returns-in-None-clause-told
returns-in-None-clause-told g c =
    answers_gone c.args.core.now c.args.query.now (g.S.ReadBytes.image c.args.space.now) (subst (λ (n : NodeId). row_of c.args.core.now.rows.items n.serial ≡ None) c.asked_node.ensures (sym c.get.ensures ∙ c.in-None.is))
