use Rattle.std.proofs.Common.{refl}
use Rattle.adf_model.proofs.Answering.StandingLaws.{shelf_count, shelf_found, shelf_finds}
use Rattle.adf_model.proofs.standing_laws.shelves_by_name.Goals as goal

pub returns-clause-none : goal.returns-clause-none
returns-clause-none c name = (refl, refl)

pub returns-clause-count : goal.returns-clause-count
returns-clause-count c = shelf_count

pub returns-clause-found : goal.returns-clause-found
returns-clause-found c = shelf_found

pub returns-clause-all : goal.returns-clause-all
returns-clause-all c = shelf_finds
