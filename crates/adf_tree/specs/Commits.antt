-- What a commit and an undo leave of an open file.
use Rattle.std.specs.Prelude.{◌≡◌, ◌≢◌, ℕ, ◌+◌, ◌≤◌, Bool, true, false, List, [], Result, Ok, Err}
use Rattle.adf_format.specs.Tree.{Tree}
use Rattle.adf_format.specs.Placement.{Placement}
use Rattle.adf_model.specs.Counts.{NoCountFell, OnlyReads, WriteFails}
use Rattle.adf_model.specs.Edits.{Work, file_group}
use Rattle.adf_model.specs.FileGroup.{done_by}
use Rattle.adf_model.specs.Torn.{TornGroup}
use Rattle.adf_model.specs.declared.error.AdfError.{AdfError}
use Rattle.adf_model.specs.declared.error.AdfError.TheVariants as error
use Rattle.adf_model.specs.declared.tree.Edit.{Edit}
use Rattle.cg_io.specs.Blocks.{Both}
use Rattle.cg_io.specs.Waits.{how_many}
use Rattle.tree_edits.specs.declared.memory.Core.{Core}
use Rattle.tree_edits.specs.Edits.{memory_of}
use Rattle.tree_edits.specs.Rows.{Means}
use Rattle.adf_tree.specs.Files.{FileState, accepted}

-- what is in memory, once what is in work is committed
abbrev pub committed : Core → Core
committed core = record core { heap = record core.heap { kept = core.heap.work }; rows = record core.rows { kept = core.rows.items } }

-- the file as it was last committed
abbrev pub undone : FileState → FileState
undone file = record file { core = accepted file.core; steps = []; image = file.device.held; waiting = [] }

-- the edits in work are written, each block that waits at most once; where none is in work nothing is
pub record Commits (old new : FileState) : Type 0 where
  pub live : old.broken ≡ false
  pub broken : new.broken ≡ false
  pub core : new.core ≡ committed old.core
  pub steps : new.steps ≡ []
  pub held : new.device.held ≡ old.image
  pub counts : NoCountFell old.device new.device
  pub writes : new.device.writes ≤ old.device.writes + how_many old.waiting
  pub still : old.steps ≡ [] → OnlyReads old.device new.device

-- What a commit whose write failed leaves of a tree and a placement: the edits are those of one tree, and the bytes a first part of its
-- layout, up to a block that is torn and that the edits may write.
pub record TearsGroup (limit : ℕ) (writable : Bool) (edits : List Edit) (tree : Tree) (p : Placement) (before after : List ℕ) : Type 0 where
  pub work : Work
  pub made : file_group writable tree edits ≡ Ok work
  pub torn : TornGroup limit tree p (done_by writable tree edits) work.tree before after

-- of each tree and placement that the bytes and the memory of the last commit mean
abbrev pub TearsAll : FileState → List ℕ → List ℕ → Type 0
TearsAll old before after =
    (tree : Tree) (p : Placement) → Means before tree p (memory_of (accepted old.core))
    → TearsGroup old.core.heap.limit old.core.writable old.steps tree p before after

-- a write of edits in work failed: the file is broken, and its memory is as it was last committed
pub record Breaks (old new : FileState) : Type 0 where
  pub live : old.broken ≡ false
  pub some : old.steps ≢ []
  pub broken : new.broken ≡ true
  pub core : new.core ≡ accepted old.core
  pub steps : new.steps ≡ []
  pub failed : WriteFails old.device new.device
  pub counts : NoCountFell old.device new.device
  pub writes : new.device.writes ≤ old.device.writes + how_many old.waiting
  pub torn : Both (TearsAll old) old.device.held new.device.held

abbrev pub CommitEnds : Result (Unit {0}) AdfError → FileState → FileState → Type 0
CommitEnds (Ok done) old new = Commits old new
CommitEnds (Err error.WriteFault) old new = Breaks old new
CommitEnds (Err error.Broken) old new = (old.broken ≡ true) × (new ≡ old)
CommitEnds (Err other) old new = ⊥
