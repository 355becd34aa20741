use Rattle.std.proofs.Common.{refl}
use Rattle.call_script.specs.Fields.Kind.{a_node}
use Rattle.call_script.proofs.Reading.{ended_by, fails_here, fails_later}
use Rattle.call_script.proofs.lines.read_query.Goals as goal

pub returns-in_err-node : goal.returns-in_err-node
returns-in_err-node c = rw (ended_by _ _ c.from_residual.ensures.1) (fails_here a_node _ _ _ c.in_err-node.ensures)

pub returns-in-Name : goal.returns-in-Name
returns-in-Name c = rw c.in-Name.is ((_, tt), refl, (_, c.in_ok-node.ensures, refl))

pub returns-in-LabelOf : goal.returns-in-LabelOf
returns-in-LabelOf c = rw c.in-LabelOf.is ((_, tt), refl, (_, c.in_ok-node.ensures, refl))

pub returns-in-ShapeOf : goal.returns-in-ShapeOf
returns-in-ShapeOf c = rw c.in-ShapeOf.is ((_, tt), refl, (_, c.in_ok-node.ensures, refl))

pub returns-in-ChildrenOf : goal.returns-in-ChildrenOf
returns-in-ChildrenOf c = rw c.in-ChildrenOf.is ((_, tt), refl, (_, c.in_ok-node.ensures, refl))

pub returns-in-LinkText : goal.returns-in-LinkText
returns-in-LinkText c = rw c.in-LinkText.is ((_, tt), refl, (_, c.in_ok-node.ensures, refl))

pub returns-in-ReadAll : goal.returns-in-ReadAll
returns-in-ReadAll c = rw c.in-ReadAll.is ((_, tt), refl, (_, c.in_ok-node.ensures, refl))

pub returns-in-Next : goal.returns-in-Next
returns-in-Next c = rw c.in-Next.is ((_, tt), refl, (_, c.in_ok-node.ensures, refl))

pub returns-in-FormatOf : goal.returns-in-FormatOf
returns-in-FormatOf c = rw c.in-FormatOf.is ((_, tt), refl, (_, c.in_ok-node.ensures, refl))

pub returns-in-Parent : goal.returns-in-Parent
returns-in-Parent c = rw c.in-Parent.is ((_, tt), refl, (_, c.in_ok-node.ensures, refl))

pub returns-in-Target : goal.returns-in-Target
returns-in-Target c = rw c.in-Target.is ((_, tt), refl, (_, c.in_ok-node.ensures, refl))

pub returns-in_err-selection-in-ReadPart : goal.returns-in_err-selection-in-ReadPart
returns-in_err-selection-in-ReadPart c = rw (c.in-ReadPart.is, ended_by _ _ c.from_residual-in_err-selection-in-ReadPart.ensures.1) (fails_later a_node _ _ _ _ _ c.in_ok-node.ensures c.in_err-selection-in-ReadPart.ensures)

pub returns-in_ok-selection-in-ReadPart : goal.returns-in_ok-selection-in-ReadPart
returns-in_ok-selection-in-ReadPart c = rw c.in-ReadPart.is ((_, (_, tt)), refl, (_, c.in_ok-node.ensures, (_, c.in_ok-selection-in-ReadPart.ensures, refl)))

pub returns-in_err-path-in-Find : goal.returns-in_err-path-in-Find
returns-in_err-path-in-Find c = rw (c.in-Find.is, ended_by _ _ c.from_residual-in_err-path-in-Find.ensures.1) (fails_later a_node _ _ _ _ _ c.in_ok-node.ensures c.in_err-path-in-Find.ensures)

pub returns-in_ok-path-in-Find : goal.returns-in_ok-path-in-Find
returns-in_ok-path-in-Find c = rw c.in-Find.is ((_, (_, tt)), refl, (_, c.in_ok-node.ensures, (_, c.in_ok-path-in-Find.ensures, refl)))
