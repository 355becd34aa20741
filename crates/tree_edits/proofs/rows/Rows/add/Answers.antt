use Rattle.std.proofs.Common.{Some}
use Rattle.tree_edits.proofs.UndoLaws.{state_added}
use Rattle.tree_edits.proofs.rows.Rows.add.Goals as goal

pub returns-clause-ok : goal.returns-clause-ok
returns-clause-ok c = state_added c.args.self.now c.self.inside.items.items c.self.inside.undone.items c.self.inside.kept c.self.invariant c.self.view_is c.push.new.self.items (Some c.args.row) c.in_ok-push.ensures.items
