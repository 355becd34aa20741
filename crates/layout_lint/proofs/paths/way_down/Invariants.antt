use Rattle.std.proofs.Common.{◌≤◌, ℕ, length, get_or}
use Rattle.adf_format.specs.Tree.{Tree}
use Rattle.layout_lint.specs.Paths.{AreNames, IsWay, IsWayUp}
use Rattle.layout_lint.proofs.paths.way_down.Given as goal

-- the text is the way of the node that was named last
abbrev pub invariant-loop-k : goal.invariant-loop-k
invariant-loop-k l = record {
  low : l.k ≤ length l.up;
  way : (tree : Tree) (number : ℕ) → AreNames tree l.names → IsWayUp tree number l.up → IsWay tree (get_or l.up l.k 0) l.text.items;
}
