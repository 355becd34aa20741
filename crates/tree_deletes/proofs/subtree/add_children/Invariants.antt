use Rattle.std.proofs.Common.{◌≡◌, ◌++◌, List, ℕ, length}
use Rattle.cg_io.specs.Answers.{OnlyReads}
use Rattle.tree_deletes.specs.Doomed.{HaveRows}
use Rattle.tree_deletes.proofs.Found.{AddsSome}
use Rattle.tree_deletes.proofs.subtree.add_children.Given as goal

-- the first of the children are added
abbrev pub invariant-loop-position : goal.invariant-loop-position
invariant-loop-position g l =
    g.S.ReadBytes.is_sound l.space × (g.S.ReadBytes.image l.space ≡ g.S.ReadBytes.image l.initial.space)
    × (g.S.ReadBytes.waiting l.space ≡ g.S.ReadBytes.waiting l.initial.space)
    × OnlyReads (g.S.ReadBytes.state l.initial.space) (g.S.ReadBytes.state l.space)
    × AddsSome l.core (g.S.ReadBytes.image l.initial.space) l.table l.position l.initial.found.items l.found.items
    × ((rest : List ℕ) × (l.found.items ≡ l.initial.found.items ++ rest) × (length rest ≡ l.position))
    × HaveRows l.core l.found.items
