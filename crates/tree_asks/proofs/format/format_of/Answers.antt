use Rattle.tree_asks.proofs.Formats.{format_told, neither_told}
use Rattle.tree_asks.proofs.format.format_of.Goals as goal

pub returns-in-Some-clause-told : goal.returns-in-Some-clause-told
returns-in-Some-clause-told g c = format_told c.args.core.now c.args.at c.args.row c.requires.row c.in-Ok.letter c.in-Ok.ensures.long (g.R.ReadBytes.image c.args.bytes.now) c.in-Some.format c.in-Ok.ensures.told c.in-Some.ensures

pub returns-in-None-clause-told : goal.returns-in-None-clause-told
returns-in-None-clause-told g c = neither_told c.args.core.now c.args.at c.args.row c.requires.row c.in-Ok.letter c.in-Ok.ensures.long (g.R.ReadBytes.image c.args.bytes.now) c.in-Ok.ensures.told c.in-None.ensures.0 c.in-None.ensures.1
