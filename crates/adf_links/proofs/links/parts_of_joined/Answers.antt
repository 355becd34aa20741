use Rattle.std.specs.Prelude.{◌==◌}
use Rattle.std.specs.List.{list_any}
use Rattle.adf_model.proofs.Basics.{and_parts}
use Rattle.adf_model.proofs.Keeping.LinkKeeps.{path_part-link_text, is_link_text-link_text}
use Rattle.adf_format.specs.Links.{is_link_path, path_part}
use Rattle.adf_links.proofs.LinkLaws.{file_part-link_text, link_text-parts, parts_linked}
use Rattle.adf_links.proofs.links.parts_of_joined.Goals as goal

pub returns-clause-linked : goal.returns-clause-linked
returns-clause-linked c = is_link_text-link_text

pub returns-clause-file : goal.returns-clause-file
returns-clause-file c = file_part-link_text

pub returns-clause-path : goal.returns-clause-path
returns-clause-path c = path_part-link_text

pub returns-clause-again : goal.returns-clause-again
returns-clause-again c = λ text e. link_text-parts text (and_parts (list_any (λ b. b == 62) text) (is_link_path (path_part text)) e).0

pub returns-clause-grammar : goal.returns-clause-grammar
returns-clause-grammar c = parts_linked
