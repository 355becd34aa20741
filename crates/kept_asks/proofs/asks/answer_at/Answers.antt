use Rattle.kept_asks.proofs.Replies.{read_refusal}
use Rattle.tree_asks.proofs.Asked.{told_as}
use Rattle.kept_asks.proofs.asks.answer_at.Goals as goal

pub returns-in-ChildrenOf-clause-told : goal.returns-in-ChildrenOf-clause-told
returns-in-ChildrenOf-clause-told g c =
    told_as c.args.core.now (g.S.ReadBytes.image c.args.space.now) c.args.at c.args.query.now _ c.children_at.result c.in-ChildrenOf.is c.children_at.ensures.told

pub returns-in_default : goal.returns-in_default
returns-in_default g c =
    let r = c.answer_at.ensures.reads in
    record {
      told = c.answer_at.ensures.told;
      kind = c.answer_at.ensures.kind;
      known = c.answer_at.ensures.known;
      reads = record {
        sound = r.sound;
        bytes = r.bytes;
        waits = r.waits;
        effect = r.effect;
        cause = read_refusal c.args.core.now (g.S.ReadBytes.image c.args.space.now) c.args.at c.args.query.now _ _ c.answer_at.result r.cause;
      };
      names = λ was are. are;
      still = λ node is some. absurd (c.in_default.not-ChildrenOf node is);
    }
