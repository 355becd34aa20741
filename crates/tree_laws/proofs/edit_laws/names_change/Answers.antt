use Rattle.tree_laws.proofs.Edits.NameChanged.{name_changed}
use Rattle.tree_laws.proofs.edit_laws.names_change.Goals as goal

pub returns : goal.returns
returns c old middle new tree p taken s par i node parent its at t name h here stands over placed has listed differ short few near v w is =
    name_changed old middle new tree p taken s par i node parent its at t name h here stands over placed has listed differ short few near v w is
