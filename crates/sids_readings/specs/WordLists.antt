-- The words that a text may be one of.
use Rattle.std.specs.Prelude.{ℕ, List}
use Rattle.sids_tables.specs.Words.{grid_locations, zone_types, simulation_types, data_classes, bc_types}
use Rattle.sids_readings.specs.declared.texts.WordList.{WordList}
use Rattle.sids_readings.specs.declared.texts.WordList.TheVariants.{ZoneTypes, Locations, BcTypes, DataClasses, SimulationTypes}

abbrev pub words_of : WordList → List (List ℕ)
words_of ZoneTypes = zone_types
words_of Locations = grid_locations
words_of BcTypes = bc_types
words_of DataClasses = data_classes
words_of SimulationTypes = simulation_types
