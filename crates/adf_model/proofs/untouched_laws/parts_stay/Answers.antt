use Rattle.adf_model.proofs.Writes.UntouchedParts.{all_stay, header_stays, two_stay, beside_stays, dims_stay}
use Rattle.adf_model.proofs.untouched_laws.parts_stay.Goals as goal

pub returns-clause-all : goal.returns-clause-all
returns-clause-all c = all_stay

pub returns-clause-header : goal.returns-clause-header
returns-clause-header c = header_stays

pub returns-clause-two : goal.returns-clause-two
returns-clause-two c = two_stay

pub returns-clause-beside : goal.returns-clause-beside
returns-clause-beside c = beside_stays

pub returns-clause-dims : goal.returns-clause-dims
returns-clause-dims c = dims_stay
