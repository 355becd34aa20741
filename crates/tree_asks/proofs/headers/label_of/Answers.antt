use Rattle.tree_asks.proofs.Answered.{tells_free, label_told}
use Rattle.tree_asks.proofs.headers.label_of.Goals as goal

pub returns-in-Err-clause-told : goal.returns-in-Err-clause-told
returns-in-Err-clause-told g c = tells_free c.args.core.now (g.R.ReadBytes.image c.args.bytes.now) _ c.in-Err.error c.in-Err.ensures.free

pub returns-in-Ok-text_in-clause-told : goal.returns-in-Ok-text_in-clause-told
returns-in-Ok-text_in-clause-told g c = label_told c.args.core.now c.args.at c.args.row.place c.in-Ok.header (g.R.ReadBytes.image c.args.bytes.now) c.in-Ok-text_in.label c.in-Ok.ensures.its c.in-Ok-text_in.ensures.text
