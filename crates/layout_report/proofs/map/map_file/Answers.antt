use Rattle.layout_report.proofs.MappedLaws.{lacks_at_once}
use Rattle.layout_report.proofs.map.map_file.Goals as goal

pub returns-in-Err-clause-says : goal.returns-in-Err-clause-says
returns-in-Err-clause-says g c = lacks_at_once _ _ _ _
