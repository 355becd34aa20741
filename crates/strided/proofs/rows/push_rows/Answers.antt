use Rattle.std.proofs.Common.{◌-◌, ◌++◌, ap, sym, ◌∙◌, append_assoc, arith, rules}
use Rattle.std.specs.List.{flat_map, range_with_len}
use Rattle.strided.specs.RunLists.{spread}
use Rattle.strided.specs.Axes.{row_of}
use Rattle.strided.proofs.RowLaws.{rows_more}
use Rattle.strided.proofs.rows.push_rows.Goals as goal

pub loop-row-preserved : goal.loop-row-preserved
loop-row-preserved c =
    let f = row_of c.args.axis in
    let first = c.args.rows.first in
    let row = c.loop-row.row in
    let before = spread c.args.runs.now.items in
    record {
      spread = c.in_ok-push_row.ensures.spread
          ∙ ap (λ xs. xs ++ f row) c.loop-row.invariant.spread
          ∙ append_assoc before (flat_map f (range_with_len first (row - first))) (f row)
          ∙ ap (λ xs. before ++ xs) (sym (rows_more f first row (omega arith)));
      maximal = search rules;
      within = search rules;
    }
