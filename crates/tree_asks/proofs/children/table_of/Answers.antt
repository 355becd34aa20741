use Rattle.tree_asks.proofs.Nodes.{unread, table_free}
use Rattle.tree_asks.proofs.children.table_of.Goals as goal

pub returns-in-Err-clause-free : goal.returns-in-Err-clause-free
returns-in-Err-clause-free g c = unread c.args.core.now c.args.serial c.args.row c.requires.row (g.R.ReadBytes.image c.args.bytes.now) _ _ c.in-Err.error c.in-Err.ensures.reads.cause

pub returns-clause-free : goal.returns-clause-free
returns-clause-free g c = table_free c.args.core.now c.args.serial c.args.row c.requires.row (g.R.ReadBytes.image c.args.bytes.now) c.in-Ok.header c.child_table.result c.in-Ok.ensures.header c.child_table.ensures.broken
