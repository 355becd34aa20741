use Rattle.adf_model.specs.declared.tree.Query.{Query}
use Rattle.kept_asks.proofs.Replies.{list_stays, read_refusal}
use Rattle.kept_asks.proofs.asks.read_children.Goals as goal

pub returns-clause-reads : goal.returns-clause-reads
returns-clause-reads g c =
    let r = c.answer_at-result.ensures.reads in
    record {
      sound = r.sound;
      bytes = r.bytes;
      waits = r.waits;
      effect = r.effect;
      cause = read_refusal c.args.core.now (g.S.ReadBytes.image c.args.space.now) c.args.at (Query.ChildrenOf c.args.node) _ _ c.answer_at-result.result r.cause;
    }

pub returns-clause-names : goal.returns-clause-names
returns-clause-names g c =
    list_stays c.args.core.now (g.S.ReadBytes.image c.args.space.now) c.args.names.now c.keep_answer.new.names c.args.at c.args.node c.answer_at-result.result c.keep_answer.ensures c.answer_at-result.ensures.told
