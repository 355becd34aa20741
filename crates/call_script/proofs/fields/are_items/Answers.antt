use Rattle.std.proofs.Common.{sym, ◌∙◌, arith}
use Rattle.call_script.proofs.Items.{items_end}
use Rattle.call_script.proofs.fields.are_items.Goals as goal

pub returns : goal.returns
returns c = sym (c.loop-rest.invariant ∙ items_end c.loop-rest.rest.now (omega arith))
