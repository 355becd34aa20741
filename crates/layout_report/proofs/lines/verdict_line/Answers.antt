use Rattle.layout_report.proofs.TextLaws.{text_is, sound_text}
use Rattle.layout_report.proofs.lines.verdict_line.Goals as goal

pub returns-in-Sound : goal.returns-in-Sound
returns-in-Sound c =
    text_is _ _ _ c.format.ensures.ok (sound_text _ c.in-Sound.nodes c.items.result.now c.in-Sound.gaps c.items-in-Sound.result.now _ _ _ c.in-Sound.is c.items.ensures c.items-in-Sound.ensures)
