use Rattle.std.proofs.Common.{rules}
use Rattle.layout_lint.proofs.PageLaws.{field_read}
use Rattle.layout_lint.proofs.pages.field_at.Goals as goal

pub returns-in-Ok-clause-told : goal.returns-in-Ok-clause-told
returns-in-Ok-clause-told g c = field_read _ c.args.place g.row.N c.read_at.new.into (search rules) c.in-Ok.ensures.told
