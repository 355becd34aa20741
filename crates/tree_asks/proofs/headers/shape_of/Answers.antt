use Rattle.tree_asks.proofs.Answered.{tells_free, shape_told}
use Rattle.tree_asks.proofs.headers.shape_of.Goals as goal

pub returns-in-Ok-clause-told : goal.returns-in-Ok-clause-told
returns-in-Ok-clause-told g c = shape_told c.args.core.now c.args.at c.args.row.place c.in-Ok.header (g.R.ReadBytes.image c.args.bytes.now) c.shape_in.result c.in-Ok.ensures.its c.shape_in.ensures

pub returns-in-Err-clause-told : goal.returns-in-Err-clause-told
returns-in-Err-clause-told g c = tells_free c.args.core.now (g.R.ReadBytes.image c.args.bytes.now) _ c.in-Err.error c.in-Err.ensures.free
