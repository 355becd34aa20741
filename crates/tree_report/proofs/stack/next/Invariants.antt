use Rattle.std.proofs.Common.{◌≤◌, length, vec_len}
use Rattle.std.specs.Prelude.{reverse}
use Rattle.tree_report.proofs.LevelLaws.{SameWait}
use Rattle.tree_report.proofs.stack.next.Given as goal

-- none waited on the levels that were given up
abbrev pub invariant-loop-frame : goal.invariant-loop-frame
invariant-loop-frame l = record {
  few : length l.frames.items ≤ 255;
  same : SameWait (reverse l.frames.items) (reverse l.initial.frames.items);
}

abbrev pub decreases-loop-frame : goal.decreases-loop-frame
decreases-loop-frame l = vec_len l.frames
