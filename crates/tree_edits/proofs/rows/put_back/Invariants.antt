use Rattle.std.proofs.Common.{◌≡◌, length}
use Rattle.std.specs.Vec.{vec_len}
use Rattle.tree_edits.specs.Undo.{put_back}
use Rattle.tree_edits.proofs.UndoLaws.{Below}
use Rattle.tree_edits.proofs.rows.put_back.Given as goal

-- what is left to be put back leads to the same
abbrev pub invariant-loop-last : goal.invariant-loop-last
invariant-loop-last l =
    (put_back l.rows l.undone.items ≡ put_back l.initial.rows l.initial.undone.items)
    × Below (length l.initial.rows) l.undone.items

abbrev pub decreases-loop-last : goal.decreases-loop-last
decreases-loop-last l = vec_len l.undone
