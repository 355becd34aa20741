use Rattle.adf_tree.proofs.AskLooks.{enters_plain, enters_through}
use Rattle.adf_tree.proofs.asks.enter.Goals as goal

pub returns-then-through-clause-told : goal.returns-then-through-clause-told
returns-then-through-clause-told g c =
    enters_through c.args.core.now (g.R.ReadBytes.image c.args.bytes.now) c.args.serial c.args.through c.stay.result c.if-through.true c.stay.ensures.told

pub returns-else-through-clause-told : goal.returns-else-through-clause-told
returns-else-through-clause-told g c = enters_plain c.args.core.now (g.R.ReadBytes.image c.args.bytes.now) c.args.serial c.args.through c.if-through.false
