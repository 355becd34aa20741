use Rattle.std.proofs.Common.{◌∙◌, sym, ap}
use Rattle.sids_tables.specs.Words.{grid_locations, zone_types, simulation_types, data_classes, bc_types}
use Rattle.sids_rules.specs.Values.{is_word}
use Rattle.sids_readings.specs.WordLists.{words_of}
use Rattle.sids_readings.proofs.TextLaws.{word_is}
use Rattle.sids_readings.proofs.texts.is_word.Goals as goal

pub returns-in-ZoneTypes : goal.returns-in-ZoneTypes
returns-in-ZoneTypes c = word_is zone_types _ _ c.is_zone_type.ensures ∙ ap (λ list. is_word (words_of list) c.args.text.now) (sym c.in-ZoneTypes.is)

pub returns-in-Locations : goal.returns-in-Locations
returns-in-Locations c = word_is grid_locations _ _ c.is_location.ensures ∙ ap (λ list. is_word (words_of list) c.args.text.now) (sym c.in-Locations.is)

pub returns-in-BcTypes : goal.returns-in-BcTypes
returns-in-BcTypes c = word_is bc_types _ _ c.is_bc_type.ensures ∙ ap (λ list. is_word (words_of list) c.args.text.now) (sym c.in-BcTypes.is)

pub returns-in-DataClasses : goal.returns-in-DataClasses
returns-in-DataClasses c = word_is data_classes _ _ c.is_data_class.ensures ∙ ap (λ list. is_word (words_of list) c.args.text.now) (sym c.in-DataClasses.is)

pub returns-in-SimulationTypes : goal.returns-in-SimulationTypes
returns-in-SimulationTypes c = word_is simulation_types _ _ c.is_simulation_type.ensures ∙ ap (λ list. is_word (words_of list) c.args.text.now) (sym c.in-SimulationTypes.is)
