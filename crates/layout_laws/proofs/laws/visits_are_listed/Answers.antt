use Rattle.layout_laws.proofs.VisitsListed.{visits_listed}
use Rattle.layout_laws.proofs.laws.visits_are_listed.Goals as goal

pub returns : goal.returns
returns c = visits_listed
