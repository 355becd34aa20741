use Rattle.tree_edits.proofs.PutTwice.{fill_once}
use Rattle.tree_edits.proofs.Causes.{where_ok}
use Rattle.tree_edits.proofs.WaitSteps.{waits_long}
use Rattle.tree_edits.proofs.creation.write_text.Goals as goal

pub returns-clause-written : goal.returns-clause-written
returns-clause-written g c =
    fill_once c.write_field.result c.args.place g.row.N c.args.text.now (g.S.ReadBytes.image c.args.space.now) (g.S.ReadBytes.image c.write_field.new.space) c.told-text c.write_field.ensures.written c.write_field.ensures.bytes

pub returns-clause-waits : goal.returns-clause-waits
returns-clause-waits g c = where_ok c.write_field.result _ (waits_long c.args.place _ g.row.N _ _ c.told-text c.write_field.ensures.only)
