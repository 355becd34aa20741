use Rattle.std.proofs.Common.{◌≡◌, vec_len}
use Rattle.std.specs.Prelude.{reverse}
use Rattle.cgns_check.specs.Levels.{without_done}
use Rattle.cgns_check.proofs.stack.drop_done.Given as goal

-- what is given up is what has to be
abbrev pub invariant-loop-frame : goal.invariant-loop-frame
invariant-loop-frame l = without_done (reverse l.frames.items) ≡ without_done (reverse l.initial.frames.items)

abbrev pub decreases-loop-frame : goal.decreases-loop-frame
decreases-loop-frame l = vec_len l.frames
