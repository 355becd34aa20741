use Rattle.std.proofs.Common.{◌≡◌, ◌++◌, map, drop}
use Rattle.layout_lint.specs.Walks.{node_place}
use Rattle.adf_tree.specs.Opening.{opened_from}
use Rattle.adf_tree.proofs.opening.rows_of.Given as goal

-- the rows so far, and those of the nodes that are left
abbrev pub invariant-loop-serial : goal.invariant-loop-serial
invariant-loop-serial l = record {
  rows : l.rows.items ++ opened_from l.serial (map node_place (drop l.serial l.nodes)) ≡ opened_from 0 (map node_place l.nodes);
}
