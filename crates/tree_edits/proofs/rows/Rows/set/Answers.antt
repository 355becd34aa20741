use Rattle.std.proofs.Common.{◌∙◌, arith, None}
use Rattle.tree_edits.proofs.UndoLaws.{state_set_beyond, state_set, read_within}
use Rattle.tree_edits.proofs.rows.Rows.set.Goals as goal

pub returns-then-at-self-clause-ok : goal.returns-then-at-self-clause-ok
returns-then-at-self-clause-ok c =
    state_set_beyond c.args.self.now c.self.inside.items.items c.self.inside.undone.items c.self.inside.kept c.self.invariant c.self.view_is c.args.serial c.args.row c.if-at-self.true

pub returns-clause-ok : goal.returns-clause-ok
returns-clause-ok c =
    state_set c.args.self.now c.self.inside.items.items c.self.inside.undone.items c.self.inside.kept c.self.invariant c.self.view_is c.push.new.self.items _ c.args.row c.in_ok-push.ensures.items
    (c.index.ensures ∙ read_within c.self.inside.items.items c.args.serial _ None (omega (arith, c.self.invariant.within, c.if-at-self.false)))
