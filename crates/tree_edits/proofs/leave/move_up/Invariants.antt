use Rattle.std.proofs.Common.{[], ◌∷◌, ◌≡◌, ◌⊎◌, ◌+◌, ◌-◌, ◌%◌, ◌≤◌}
use Rattle.cg_io.specs.Answers.{OnlyReads}
use Rattle.cg_io.specs.Blocks.{Both, blocks_of}
use Rattle.tree_edits.specs.Left.{MovesUp}
use Rattle.cg_io.specs.Waits.{how_many}
use Rattle.field_access.specs.Fields.{WaitsWithin, range}
use Rattle.tree_edits.proofs.leave.move_up.Given as goal

-- what was done so far stands, and ends at a block of the place
abbrev pub invariant-loop-done : goal.invariant-loop-done
invariant-loop-done g l =
    (l.done ≤ l.count) × g.S.ReadBytes.is_sound l.space
    × Both (MovesUp l.from l.to l.done) (g.S.ReadBytes.image l.initial.space) (g.S.ReadBytes.image l.space)
    × (how_many (g.S.ReadBytes.waiting l.space) ≤ how_many (g.S.ReadBytes.waiting l.initial.space) + blocks_of l.to l.done)
    × OnlyReads (g.S.ReadBytes.state l.initial.space) (g.S.ReadBytes.state l.space)
    × ((l.done ≡ 0) ⊎ ((l.done ≡ l.count) ⊎ ((l.to + l.done) % 4096 ≡ 0)))
    × WaitsWithin (range l.to l.done ∷ []) (g.S.ReadBytes.waiting l.initial.space) (g.S.ReadBytes.waiting l.space)

abbrev pub decreases-loop-done : goal.decreases-loop-done
decreases-loop-done g l = l.count - l.done
