use Rattle.tree_asks.proofs.Nodes.{its, small, free}
use Rattle.tree_asks.proofs.headers.header_of.Goals as goal

pub returns-clause-its : goal.returns-clause-its
returns-clause-its g c = its c.args.core.now c.args.serial c.args.row c.requires.row (g.R.ReadBytes.image c.args.bytes.now) c.read_header.result c.read_header.ensures.header

pub returns-clause-small : goal.returns-clause-small
returns-clause-small g c = small c.args.core.now c.args.serial c.args.row c.requires.row (g.R.ReadBytes.image c.args.bytes.now) c.read_header.result c.read_header.ensures.header

pub returns-clause-free : goal.returns-clause-free
returns-clause-free g c = free c.args.core.now c.args.serial c.args.row c.requires.row (g.R.ReadBytes.image c.args.bytes.now) _ _ c.read_header.result c.read_header.ensures.reads.cause
