use Rattle.std.proofs.Common.{◌-◌, ◌+◌, ◌*◌, ◌++◌, ap, sym, refl, ◌∙◌, append_assoc, map, arith, rules}
use Rattle.std.specs.List.{range_with_len}
use Rattle.std.proofs.lemmas.Grind.{common_steps}
use Rattle.adf_model.specs.Selection.{spaced}
use Rattle.strided.specs.RunLists.{spread}
use Rattle.strided.proofs.RowLaws.{row_more, row_of_stride_one}
use Rattle.strided.proofs.rows.push_row.Goals as goal

pub returns-then-axis-eq1-clause-spread : goal.returns-then-axis-eq1-clause-spread
returns-then-axis-eq1-clause-spread c =
    let row = row_of_stride_one c.args.axis c.args.row c.requires.fits.start c.if-axis-eq1.true in
    grind (arith, common_steps, row)

pub loop-step-preserved : goal.loop-step-preserved
loop-step-preserved c =
    let axis = c.args.axis in
    let base = axis.dim * c.args.row in
    let first = base + (axis.start - 1) + axis.stride * c.loop-step.step in
    let before = spread c.args.runs.now.items in
    let so_far = map (λ index. (index - 1) + base) (spaced axis.start axis.stride c.loop-step.step) in
    record {
      spread = c.in_ok-push_run.ensures.spread
          ∙ ap (λ xs. xs ++ range_with_len first 1) c.loop-step.invariant.spread
          ∙ append_assoc before so_far (range_with_len first 1)
          ∙ ap (λ xs. before ++ xs) (sym (row_more base axis.start axis.stride c.loop-step.step first c.requires.fits.start refl));
      maximal = search rules;
      within = search rules;
    }
