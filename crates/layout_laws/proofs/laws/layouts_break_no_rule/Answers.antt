use Rattle.adf_format.proofs.FaultLaws.{not_both}
use Rattle.layout_laws.proofs.FreeStand.{no_fault}
use Rattle.layout_laws.proofs.laws.layouts_break_no_rule.Goals as goal

pub returns-clause-no_fault : goal.returns-clause-no_fault
returns-clause-no_fault c = no_fault

pub returns-clause-never_both : goal.returns-clause-never_both
returns-clause-never_both c = λ image fault f s. let n = no_fault image s.0 s.1 s.2 in not_both image n.0 n.1 fault n.2 f
