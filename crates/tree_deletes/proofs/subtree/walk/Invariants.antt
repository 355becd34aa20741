use Rattle.std.proofs.Common.{◌≡◌, ◌≤◌, ◌-◌, ◌+◌, length}
use Rattle.std.specs.List.{All}
use Rattle.cg_io.specs.Answers.{OnlyReads}
use Rattle.tree_asks.specs.Told.{OfEach}
use Rattle.tree_deletes.specs.Doomed.{HaveRows, IsSane, IsWalk}
use Rattle.tree_deletes.proofs.subtree.walk.Given as goal

-- of the nodes that were visited all children are found, and not more nodes than there are
abbrev pub invariant-loop-found : goal.invariant-loop-found
invariant-loop-found g l =
    g.S.ReadBytes.is_sound l.space × (g.S.ReadBytes.image l.space ≡ g.S.ReadBytes.image l.fn.space)
    × (g.S.ReadBytes.waiting l.space ≡ g.S.ReadBytes.waiting l.fn.space)
    × OnlyReads (g.S.ReadBytes.state l.fn.space) (g.S.ReadBytes.state l.space)
    × OfEach l.core (g.S.ReadBytes.image l.fn.space) (λ image tree p. IsWalk image tree p l.top l.found.items l.nodes.items)
    × HaveRows l.core l.found.items × All (IsSane l.core) l.nodes.items
    × (length l.found.items ≤ length l.core.rows.items) × (length l.nodes.items ≤ length l.found.items)

abbrev pub decreases-loop-found : goal.decreases-loop-found
decreases-loop-found g l = length l.core.rows.items + 1 - length l.nodes.items
