use Rattle.std.proofs.Common.{refl, arith}
use Rattle.call_script.proofs.Sizes.{no_sizes, size_more, all_sizes, too_many, no_size}
use Rattle.call_script.proofs.dims.read_sizes.Goals as goal

pub loop-piece-init : goal.loop-piece-init
loop-piece-init c = no_sizes _

pub returns-then-rank-eq-MOST_DIMS-clause-none : goal.returns-then-rank-eq-MOST_DIMS-clause-none
returns-then-rank-eq-MOST_DIMS-clause-none c = λ _ dims h. too_many _ _ _ _ _ _ c.loop-piece.invariant (omega arith) c.in-Some.ensures dims h

pub returns-in_err-size-clause-none : goal.returns-in_err-size-clause-none
returns-in_err-size-clause-none c = λ _ dims h. no_size _ _ _ _ _ _ c.loop-piece.invariant c.in-Some.ensures (c.in_err-size.ensures.none refl) dims h

pub loop-piece-preserved : goal.loop-piece-preserved
loop-piece-preserved c = size_more _ _ _ _ _ _ _ c.loop-piece.invariant (omega arith) c.in-Some.ensures c.in_ok-size.ensures.found (omega arith)

pub returns-clause-found : goal.returns-clause-found
returns-clause-found c = all_sizes _ _ _ c.loop-piece.invariant c.in_default.ensures
