use Rattle.adf_format.proofs.FaultLaws.{fault_or_none, not_both, one_fault}
use Rattle.adf_format.proofs.laws.one_first_fault.Goals as goal

pub returns-clause-some : goal.returns-clause-some
returns-clause-some c = fault_or_none

pub returns-clause-never_both : goal.returns-clause-never_both
returns-clause-never_both c = not_both

pub returns-clause-alone : goal.returns-clause-alone
returns-clause-alone c = one_fault
