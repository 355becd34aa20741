use Rattle.std.proofs.Common.{append_assoc}
use Rattle.layout_report.proofs.TextLaws.{text_is}
use Rattle.layout_report.proofs.lines.extent_line.Goals as goal

pub returns : goal.returns
returns c = text_is _ _ _ c.format.ensures.ok (simp (c.kind_word-word.ensures, append_assoc))
