use Rattle.tree_laws.proofs.Edits.EntryJoined.{entry_joins}
use Rattle.tree_laws.proofs.edit_laws.entries_join.Goals as goal

pub returns : goal.returns
returns c = entry_joins
