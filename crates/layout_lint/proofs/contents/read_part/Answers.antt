use Rattle.std.proofs.Common.{rules}
use Rattle.std.proofs.lemmas.Result.{on_ok_weaker}
use Rattle.layout_lint.proofs.ContentLaws.{part_read}
use Rattle.layout_lint.proofs.contents.read_part.Goals as goal

pub returns-clause-told : goal.returns-clause-told
returns-clause-told g c = on_ok_weaker c.read_at.result (part_read _ c.args.place c.args.start c.args.count _ c.args.into.now c.read_at.new.into c.requires.fits (search rules)) c.read_at.ensures.told
