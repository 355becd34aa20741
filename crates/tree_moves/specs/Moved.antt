-- What a move writes at most.
use Rattle.std.specs.Prelude.{◌≡◌, ◌⊎◌, ℕ, List, Option}
use Rattle.adf_model.specs.declared.tree.NodeId.{NodeId}
use Rattle.tree_edits.specs.declared.memory.Core.{Core}
use Rattle.tree_moves.specs.declared.place.Move.{Move}
use Rattle.tree_moves.specs.Movable.{MayMove}
use Rattle.tree_moves.specs.Relisted.{move_cost}

-- the blocks that may wait: none before a node may move, and then those of both lists
abbrev pub MovesWithin : Core → NodeId → NodeId → Option (List ℕ) → ℕ → Type 0
MovesWithin core node at held n = (n ≡ 0) ⊎ ((its : Move) × MayMove core node at held its × (n ≡ move_cost its))
