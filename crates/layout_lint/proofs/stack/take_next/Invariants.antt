use Rattle.std.proofs.Common.{◌≡◌, ◌++◌, List}
use Rattle.std.specs.List.{All}
use Rattle.std.specs.Vec.{vec_len}
use Rattle.layout_lint.specs.Walks.{IsDone}
use Rattle.layout_lint.specs.declared.stack.Family.{Family}
use Rattle.layout_lint.proofs.stack.take_next.Given as goal

-- the families that were given up are done
abbrev pub invariant-loop-family : goal.invariant-loop-family
invariant-loop-family l = (done : List Family) × (l.initial.families.items ≡ l.families.items ++ done) × All IsDone done

abbrev pub decreases-loop-family : goal.decreases-loop-family
decreases-loop-family l = vec_len l.families
