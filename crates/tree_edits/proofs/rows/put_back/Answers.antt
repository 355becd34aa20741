use Rattle.std.proofs.Common.{◌∙◌, subst, arith, length}
use Rattle.tree_edits.proofs.UndoLaws.{Below, all_but_last, put_one}
use Rattle.tree_edits.proofs.rows.put_back.Goals as goal

pub put_row-requires : goal.put_row-requires
put_row-requires c =
    let rest = all_but_last (length c.args.rows.now) c.pop.new.self.items c.in-Some.last (subst (Below (length c.args.rows.now)) c.in-Some.ensures.items c.loop-last.invariant.1) in
    let same = c.loop-last.auto.rows in
    omega (arith, rest.1, same)

pub loop-last-preserved : goal.loop-last-preserved
loop-last-preserved c = (
  put_one c.loop-last.rows c.put_row.new.rows c.pop.new.self.items c.loop-last.undone.items c.in-Some.last c.in-Some.ensures.items c.put_row.ensures ∙ c.loop-last.invariant.0,
  (all_but_last (length c.args.rows.now) c.pop.new.self.items c.in-Some.last (subst (Below (length c.args.rows.now)) c.in-Some.ensures.items c.loop-last.invariant.1)).0,
)
