use Rattle.adf_format.proofs.LinkLaws.{components-path_text, link_parts}
use Rattle.adf_format.proofs.laws.paths_and_links.Goals as goal

pub returns-clause-path : goal.returns-clause-path
returns-clause-path c = components-path_text

pub returns-clause-link : goal.returns-clause-link
returns-clause-link c = link_parts
