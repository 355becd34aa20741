use Rattle.std.proofs.Common.{◌+◌, arith}
use Rattle.layout_lint.proofs.StackLaws.{child_read}
use Rattle.layout_lint.proofs.ShapeLaws.{child_is}
use Rattle.layout_lint.proofs.stack.child_of.Goals as goal

pub returns-clause-says : goal.returns-clause-says
returns-clause-says g c = λ image told within.
    child_read image c.args.family.table.place c.args.family.number (c.args.family.depth + 1) c.args.family.next c.entry.result c.in_ok-bytes.bytes c.met_in.result c.entry.ensures (c.in_ok-bytes.ensures.told image told (omega arith)) c.met_in.ensures

pub returns-clause-child : goal.returns-clause-child
returns-clause-child g c = child_is c.args.family c.met_in.result _ _ _ c.met_in.ensures c.requires.shallow
