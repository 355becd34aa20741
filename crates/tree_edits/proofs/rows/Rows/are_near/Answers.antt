use Rattle.std.proofs.Common.{◌∙◌, sym, ap, subst}
use Rattle.tree_edits.specs.Rows.{AreNear}
use Rattle.tree_edits.specs.Undo.{RowsState}
use Rattle.tree_edits.proofs.rows.Rows.are_near.Goals as goal

pub returns-clause-must : goal.returns-clause-must
returns-clause-must c = λ near. c.all_near.ensures.must (subst (AreNear c.args.wide) (ap (λ (r : RowsState). r.items) (sym c.self.view_is) ∙ sym c.deref.ensures.value) near)
