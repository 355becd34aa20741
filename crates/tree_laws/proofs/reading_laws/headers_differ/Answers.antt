use Rattle.tree_laws.proofs.Reading.PlacesFound.{headers_differ, places_find}
use Rattle.tree_laws.proofs.reading_laws.headers_differ.Goals as goal

pub returns-clause-apart : goal.returns-clause-apart
returns-clause-apart c = headers_differ

pub returns-clause-found : goal.returns-clause-found
returns-clause-found c = places_find
