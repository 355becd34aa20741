use Rattle.std.proofs.Common.{◌∙◌, sym, subst, arith, Option}
use Rattle.std.specs.Prelude.{OnOk}
use Rattle.tree_edits.specs.declared.rows.Row.{Row}
use Rattle.tree_moves.specs.Below.{SetsRow}
use Rattle.tree_moves.proofs.Climbs.{sets_none, shifted_of_none, shifted_of_false, shifted_of_true, below_deep, fits_own}
use Rattle.tree_moves.proofs.depths.shift_one.Goals as goal

pub returns-in-None-clause-set : goal.returns-in-None-clause-set
returns-in-None-clause-set c = sets_none c.args.rows.now.items c.args.serial _ (shifted_of_none c.args.rows.now.items c.args.top c.args.from c.args.to c.args.serial (sym c.get.ensures ∙ c.in-None.is))

pub returns-then-not-is_below-clause-set : goal.returns-then-not-is_below-clause-set
returns-then-not-is_below-clause-set c = sets_none c.args.rows.now.items c.args.serial _ (shifted_of_false c.args.rows.now.items c.args.top c.args.from c.args.to c.args.serial (sym c.is_below.ensures ∙ c.if-not-is_below.true))

pub overflow_sub-depth : goal.overflow_sub-depth
overflow_sub-depth c = below_deep c.args.rows.now.items c.args.top c.args.from c.args.serial c.in-Some.row (sym c.get.ensures ∙ c.in-Some.is) (sym c.is_below.ensures ∙ c.if-not-is_below.false)

pub overflow_add-depth : goal.overflow_add-depth
overflow_add-depth c =
    let le = below_deep c.args.rows.now.items c.args.top c.args.from c.args.serial c.in-Some.row (sym c.get.ensures ∙ c.in-Some.is) (sym c.is_below.ensures ∙ c.if-not-is_below.false) in
    let few = fits_own c.args.rows.now.items c.args.top c.args.from c.args.to c.args.serial c.in-Some.row (sym c.get.ensures ∙ c.in-Some.is) (sym c.is_below.ensures ∙ c.if-not-is_below.false) c.requires.fits in
    omega (arith, le, few)

pub returns-clause-set : goal.returns-clause-set
returns-clause-set c =
    subst (λ (o : Option Row). OnOk c.set_row.result (SetsRow c.args.rows.now.items c.set_row.new.rows.items c.args.serial o))
    (shifted_of_true c.args.rows.now.items c.args.top c.args.from c.args.to c.args.serial c.in-Some.row (sym c.get.ensures ∙ c.in-Some.is) (sym c.is_below.ensures ∙ c.if-not-is_below.false)) c.set_row.ensures.set
