use Rattle.std.proofs.Common.{◌+◌, ◌*◌, ◌∙◌, sym, ap, arith, get_or}
use Rattle.data_edits.proofs.Counts.{bytes_more, none}
use Rattle.data_edits.proofs.put.bytes_in.Goals as goal

pub overflow_mul-total : goal.overflow_mul-total
overflow_mul-total c =
    let most = (bytes_more c.args.element c.args.runs.now c.loop-i.i c.loop-i-test.true).1 in let few = c.requires in omega (arith, most, few)

pub overflow_add-total : goal.overflow_add-total
overflow_add-total c =
    let most = (bytes_more c.args.element c.args.runs.now c.loop-i.i c.loop-i-test.true).1 in let few = c.requires in let so_far = c.loop-i.invariant in omega (arith, most, few, so_far)

pub loop-i-preserved : goal.loop-i-preserved
loop-i-preserved c =
    ap (λ n. n + c.args.element * (get_or c.args.runs.now c.loop-i.i none).count) c.loop-i.invariant
    ∙ sym (bytes_more c.args.element c.args.runs.now c.loop-i.i c.loop-i-test.true).0
