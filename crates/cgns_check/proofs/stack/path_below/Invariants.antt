use Rattle.std.proofs.Common.{◌≡◌, take}
use Rattle.cgns_check.proofs.PathLaws.{printed_names}
use Rattle.cgns_check.proofs.stack.path_below.Given as goal

-- the names of the levels so far
abbrev pub invariant-loop-frame : goal.invariant-loop-frame
invariant-loop-frame l = l.path.items ≡ printed_names (take l.frame-index l.above)
