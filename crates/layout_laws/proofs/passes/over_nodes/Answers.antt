use Rattle.adf_format.specs.FirstFault.{is_wide}
use Rattle.layout_laws.proofs.NodePassLaws.{start, on, broken, ended, met_listed, known_extents}
use Rattle.layout_laws.proofs.passes.over_nodes.Goals as goal

pub returns-clause-start : goal.returns-clause-start
returns-clause-start c = start

pub returns-clause-on : goal.returns-clause-on
returns-clause-on c = on

pub returns-clause-broken : goal.returns-clause-broken
returns-clause-broken c = broken

pub returns-clause-ended : goal.returns-clause-ended
returns-clause-ended c = ended

pub returns-clause-listed : goal.returns-clause-listed
returns-clause-listed c = met_listed

pub returns-clause-extents : goal.returns-clause-extents
returns-clause-extents c = λ image seen nodes met. known_extents image (is_wide image) seen seen nodes met
