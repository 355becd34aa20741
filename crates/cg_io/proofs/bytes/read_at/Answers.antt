use Rattle.std.proofs.Common.{List, ℕ, ◌++◌, ◌∙◌, drop, ap}
use Rattle.cg_io.proofs.Places.{copied_front}
use Rattle.cg_io.proofs.bytes.read_at.Goals as goal

pub returns : goal.returns
returns c =
    ap (λ (l : List ℕ). c.copy_from_slice.new.self ++ drop c.min-count.result l) (c.fill.ensures.after (λ y is. is))
    ∙ copied_front _ _ _ _ _ _ c.min-start.ensures c.min-count.ensures c.copy_from_slice.ensures.after
