use Rattle.std.proofs.Common.{◌≡◌, length, drop}
use Rattle.tree_deletes.specs.Erased.{without_rows, serials_of, ErasesOnly}
use Rattle.tree_deletes.proofs.erase.erase.Given as goal

-- the rows of the nodes that are left are still to become none
abbrev pub invariant-loop-node : goal.invariant-loop-node
invariant-loop-node l =
    (without_rows l.rows.items (serials_of (drop l.node-index l.nodes)) ≡ without_rows l.fn.rows.items (serials_of l.nodes))
    × (length l.rows.items ≡ length l.fn.rows.items) × (l.rows.kept ≡ l.fn.rows.kept)
    × ErasesOnly l.fn.rows.items l.rows.items
