use Rattle.std.proofs.Common.{◌<◌, ℕ, map, length}
use Rattle.std.specs.List.{All}
use Rattle.adf_format.specs.Verdict.{ListsNodes}
use Rattle.adf_format.specs.Tree.{Tree, IsTree, IsNumbered}
use Rattle.adf_format.specs.Placement.{Placement}
use Rattle.layout_lint.specs.Walks.{node_place}
use Rattle.layout_lint.proofs.PathLaws.{IsClimbed}
use Rattle.layout_lint.proofs.paths.numbers_up.Given as goal

abbrev pub invariant-loop-at : goal.invariant-loop-at
invariant-loop-at l = record {
  inside : l.at < length l.nodes;
  there : All (λ (k : ℕ). k < length l.nodes) l.up.items;
  climbed : (tree : Tree) (p : Placement) → IsTree tree → IsNumbered tree → ListsNodes tree p (map node_place l.nodes) → IsClimbed tree l.number l.at l.up.items;
}

abbrev pub decreases-loop-at : goal.decreases-loop-at
decreases-loop-at l = l.at
