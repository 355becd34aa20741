use Rattle.tree_edits.proofs.CopyLaws.{piece_copied}
use Rattle.std.proofs.Common.{[], ◌∷◌}
use Rattle.field_access.specs.Fields.{range}
use Rattle.tree_edits.proofs.Causes.{where_ok}
use Rattle.tree_edits.proofs.WaitSteps.{waits_again, waits_long}
use Rattle.tree_edits.proofs.longer.copy_through.Goals as goal

pub returns-clause-copied : goal.returns-clause-copied
returns-clause-copied g c =
    piece_copied c.write_field.result c.args.from c.args.to _ c.read.new.into (g.S.ReadBytes.image c.args.space.now) (g.S.ReadBytes.image c.read.new.self) (g.S.ReadBytes.image c.write_field.new.space) c.read.auto.into c.in-Ok.ensures.reads.bytes c.in-Ok.ensures.told
    c.write_field.ensures.written c.write_field.ensures.bytes

pub returns-clause-waits : goal.returns-clause-waits
returns-clause-waits g c =
    where_ok c.write_field.result _
    (waits_again (range c.args.to _ ∷ []) (g.S.ReadBytes.waiting c.args.space.now) (g.S.ReadBytes.waiting c.read.new.self) (g.S.ReadBytes.waiting c.write_field.new.space) c.in-Ok.ensures.reads.waits
    (waits_long c.args.to _ _ _ _ c.read.auto.into c.write_field.ensures.only))
