use Rattle.tree_laws.proofs.Edits.EntryJoined.{tables_join}
use Rattle.tree_laws.proofs.edit_laws.tables_join.Goals as goal

pub returns : goal.returns
returns c = tables_join
