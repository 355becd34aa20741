use Rattle.std.proofs.Common.{◌∙◌, ap, subst, sym}
use Rattle.std.specs.Prelude.{IfErr, IfOk}
use Rattle.adf_model.specs.Answers.{IsReplyTo}
use Rattle.adf_model.specs.declared.tree.Query.{Query}
use Rattle.adf_model.specs.declared.tree.Query.TheVariants.{Find}
use Rattle.adf_tree.proofs.AskLooks.{find_known}
use Rattle.adf_tree.proofs.AskWalks.{plain_told, search_told}
use Rattle.adf_tree.specs.Asks.{IsAskedCause}
use Rattle.adf_tree.proofs.asks.answer_there.Goals as goal

pub returns-in-Find : goal.returns-in-Find
returns-in-Find g c =
    let same = ap (Find c.in-Find.node) c.items.ensures ∙ sym c.in-Find.is in
    let r = c.find.ensures.reads in
    record {
      told = search_told c.args.core.now c.args.query.now (g.S.ReadBytes.image c.args.space.now) c.find.result c.in-Find.node _ _ c.in-Find.is c.items.ensures c.find.ensures.told;
      kind = subst (λ (q : Query). IfOk c.find.result (IsReplyTo q)) same c.find.ensures.kind;
      known = find_known c.args.core.now c.args.query.now c.in-Find.node _ c.find.result c.in-Find.is c.requires.there;
      names = λ was are. are;
      reads = record { sound = r.sound; bytes = r.bytes; waits = r.waits; effect = r.effect; cause = subst (λ (q : Query). IfErr c.find.result (IsAskedCause q (g.S.ReadBytes.state c.args.space.now).faults (g.S.ReadBytes.state c.find.new.space).faults)) same r.cause };
    }

pub returns-in_default-clause-told : goal.returns-in_default-clause-told
returns-in_default-clause-told g c = plain_told c.args.core.now c.args.query.now (g.S.ReadBytes.image c.args.space.now) c.of_node.result c.in_default.not-Find c.of_node.ensures.told
