use Rattle.std.proofs.Common.{◌∙◌, sym, ap}
use Rattle.adf_model.proofs.Basics.{same_Ok}
use Rattle.adf_model.proofs.Writes.StayLaws.{stays_placed, stays_placed_all}
use Rattle.adf_model.proofs.laws.placements_stay.Goals as goal

pub returns-clause-opening : goal.returns-clause-opening
returns-clause-opening c files after before now number limit one opening result h refused = stays_placed result number one before now h.1 refused

pub returns-clause-closing : goal.returns-clause-closing
returns-clause-closing c files after before now number one result h refused = stays_placed result number one before now h.2 refused

pub returns-clause-discarding : goal.returns-clause-discarding
returns-clause-discarding c files after before now number one result h refused = stays_placed result number one before now h.2 refused

pub returns-clause-query : goal.returns-clause-query
returns-clause-query c files after before now one query result h = stays_placed_all one before now h.4

pub returns-clause-group : goal.returns-clause-group
returns-clause-group c files after before now one edits created group h through other =
    h.0.placed one (λ e. other (e ∙ ap (λ g. g.file) (same_Ok (sym h.0.through ∙ through))))
