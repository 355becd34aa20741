use Rattle.tree_laws.proofs.Reading.TreesRead.{tree_is_read, table_is_places}
use Rattle.tree_laws.proofs.Reading.PlacesFound.{places_are}
use Rattle.tree_laws.proofs.reading_laws.trees_are_read.Goals as goal

pub returns-clause-read : goal.returns-clause-read
returns-clause-read c = tree_is_read

pub returns-clause-places : goal.returns-clause-places
returns-clause-places c = places_are

pub returns-clause-table : goal.returns-clause-table
returns-clause-table c = table_is_places
