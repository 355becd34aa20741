use Rattle.std.proofs.Common.{ap, ◌∙◌}
use Rattle.layout_report.specs.Lines.{part_line}
use Rattle.layout_report.proofs.ListedLaws.{ok_as, lone_line, owned_line, there_below}
use Rattle.layout_report.proofs.map.line_of.Goals as goal

pub returns-in-None-clause-line : goal.returns-in-None-clause-line
returns-in-None-clause-line c =
    ok_as _ _ c.lone_line.result (λ line is tree p tree_is in_order listed are. lone_line tree c.args.part.now line.items c.in-None.is is) c.lone_line.ensures.line

pub path_of-requires-clause-number : goal.path_of-requires-clause-number
path_of-requires-clause-number c = there_below _ _ c.in-Some.number c.in-Some.is c.requires.there

pub returns-in-Ok-part_line-clause-line : goal.returns-in-Ok-part_line-clause-line
returns-in-Ok-part_line-clause-line c tree p tree_is in_order listed are =
    owned_line tree c.args.part.now c.in-Some.number c.in-Ok.path c.in-Ok-part_line.line.items c.in-Some.is
    (c.in-Ok-part_line.ensures ∙ ap (part_line c.args.part.now.extent) c.items.ensures) (c.in-Ok.ensures.path tree p tree_is in_order listed are)
