use Rattle.tree_laws.proofs.Facts.EditsTakeThenGive.{edit_takes_then_gives}
use Rattle.tree_laws.proofs.placed_laws.edits_take_then_give.Goals as goal

pub returns : goal.returns
returns c = edit_takes_then_gives
