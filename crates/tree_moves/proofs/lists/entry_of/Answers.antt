use Rattle.tree_edits.proofs.NameWritten.{entry_again}
use Rattle.tree_moves.proofs.lists.entry_of.Goals as goal

pub returns : goal.returns
returns c = entry_again c.args.its.now.source.name c.encode_entry.result c.args.its.now.row.place c.from_place.result c.encode_entry.ensures c.from_place.ensures
