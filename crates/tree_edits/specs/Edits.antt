-- What an edit makes of a file, and why it is refused where the bytes are told: the one relation of all nine edits.
use Rattle.std.specs.Prelude.{◌≡◌, ℕ, Bool, false, List}
use Rattle.adf_format.specs.Tree.{Tree}
use Rattle.adf_format.specs.Placement.{Placement}
use Rattle.adf_model.specs.declared.error.AdfError.{AdfError}
use Rattle.adf_model.specs.declared.tree.Edit.{Edit}
use Rattle.adf_model.specs.Steps.{IsFileRefusal}
use Rattle.tree_laws.specs.Spared.{IsEditWhole}
use Rattle.tree_edits.specs.declared.memory.Core.{Core}
use Rattle.tree_edits.specs.Rows.{Memory, Means}

-- what is in memory, in work
abbrev pub memory_of : Core → Memory
memory_of core = record { wide = core.wide; rows = core.rows.items; free = core.heap.work }

-- Of a tree and a placement: the tree of the edit, where the rule of the heap puts it, with all that an edit leaves; and what
-- is in memory afterwards is its.
pub record Follows (limit : ℕ) (writable : Bool) (edit : Edit) (tree : Tree) (p : Placement) (now : Memory)
    (old new : List ℕ) : Type 0 where
  pub after : Tree
  pub placement : Placement
  pub whole : IsEditWhole limit writable edit tree p after placement old new
  pub means : Means new after placement now

-- an edit of each tree and placement that the bytes and the memory mean
abbrev pub Does : Edit → Core → Core → List ℕ → List ℕ → Type 0
Does edit was now old new =
    (tree : Tree) (p : Placement) → Means old tree p (memory_of was)
    → Follows was.heap.limit was.writable edit tree p (memory_of now) old new

-- a refusal has its cause in each tree and placement that the bytes and the memory mean
abbrev pub Refuses : Edit → Core → AdfError → List ℕ → Type 0
Refuses edit was error old =
    (tree : Tree) (p : Placement) → Means old tree p (memory_of was)
    → IsFileRefusal false was.writable was.heap.limit tree p edit error

-- what an edit of the heap and the table keeps, done or refused: what was accepted, to which an undo leads back
pub record KeepsCore (was now : Core) : Type 0 where
  pub rows : now.rows.kept ≡ was.rows.kept
  pub heap : now.heap.kept ≡ was.heap.kept
  pub limit : now.heap.limit ≡ was.heap.limit
  pub wide : now.wide ≡ was.wide
  pub writable : now.writable ≡ was.writable
