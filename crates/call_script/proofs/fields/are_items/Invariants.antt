use Rattle.std.proofs.Common.{◌≡◌, is_some, length}
use Rattle.adf_model.specs.Spelling.{items_text}
use Rattle.call_script.proofs.fields.are_items.Given as goal

abbrev pub invariant-loop-rest : goal.invariant-loop-rest
invariant-loop-rest l = is_some (items_text l.bytes) ≡ is_some (items_text l.rest)

abbrev pub decreases-loop-rest : goal.decreases-loop-rest
decreases-loop-rest l = length l.rest
