use Rattle.tree_edits.proofs.CopyLaws.{zeros_cleared, zeros_long}
use Rattle.tree_edits.proofs.Causes.{where_ok}
use Rattle.tree_edits.proofs.WaitSteps.{waits_long}
use Rattle.tree_edits.proofs.longer.clear_piece.Goals as goal

pub returns-clause-cleared : goal.returns-clause-cleared
returns-clause-cleared g c =
    zeros_cleared c.write_field.result c.args.at c.args.count 4096 c.requires.count (g.S.ReadBytes.image c.args.space.now) (g.S.ReadBytes.image c.write_field.new.space) c.write_field.ensures.written c.write_field.ensures.bytes

pub returns-clause-waits : goal.returns-clause-waits
returns-clause-waits g c = where_ok c.write_field.result _ (waits_long c.args.at _ c.args.count _ _ (zeros_long c.args.count 4096 c.requires.count) c.write_field.ensures.only)
