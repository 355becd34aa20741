-- What an open file means, what stands between its calls, and what its calls answer.
use Rattle.std.specs.Prelude.{◌≡◌, ℕ, ◌≤◌, Bool, true, false, List, [], map, Option, IfSome}
use Rattle.adf_format.specs.Tree.{Tree}
use Rattle.adf_format.specs.Placement.{Placement}
use Rattle.adf_model.specs.Counts.{DeviceState}
use Rattle.adf_model.specs.Edits.{Work}
use Rattle.adf_model.specs.FileGroup.{done_by}
use Rattle.adf_model.specs.Placing.{group_cost}
use Rattle.adf_model.specs.Slots.{Device}
use Rattle.adf_model.specs.Untouched.{group_touched}
use Rattle.adf_model.specs.declared.tree.Edit.{Edit}
use Rattle.adf_model.specs.declared.tree.NodeId.{NodeId}
use Rattle.adf_tree.specs.Reached.{with_reached}
use Rattle.block_cache.specs.Cache.{IsCache, device_in}
use Rattle.block_draft.specs.Draft.{blocks_below, changes_in, waiting_in, shown_in}
use Rattle.cg_io.specs.Blocks.{Both}
use Rattle.cg_io.specs.Waits.{Waits, how_many}
use Rattle.kept_asks.specs.Named.{AreNames, children_in}
use Rattle.kept_names.specs.Kept.{NamesState}
use Rattle.tree_asks.specs.Told.{OfEach}
use Rattle.tree_laws.specs.Reached.{CanReach}
use Rattle.tree_laws.specs.WholeGroups.{IsGroupWhole}
use Rattle.tree_edits.specs.declared.memory.Core.{Core}
use Rattle.tree_edits.specs.Edits.{memory_of}
use Rattle.tree_edits.specs.Rows.{AreNear, Memory, Means}
use Rattle.adf_tree.specs.declared.file.AdfFile.{AdfFile}

-- ---- what is told of a file

-- the edits that wait for a commit
abbrev pub steps_in : {D : Type 0} → AdfFile D → List Edit
steps_in file = map (λ (e : Edit × Option NodeId). with_reached e.0 e.1) file.steps.items

abbrev pub device_of : {D : Type 0} → (D → DeviceState) → AdfFile D → DeviceState
device_of state file = state (device_in (blocks_below file.draft))

-- the bytes with the edits in work
abbrev pub image_in : {D : Type 0} → (D → DeviceState) → AdfFile D → Option (List ℕ)
image_in state file = shown_in (λ cache. state (device_in cache)) file.draft

-- the device below a file; the bytes with the edits in work, and the blocks that wait; what is kept in memory, in work and as it
-- was last committed; the edits in work, of the nodes that were reached; and whether a write failed
pub record FileState : Type 0 where
  pub device : DeviceState
  pub image : Option (List ℕ)
  pub waiting : List ℕ
  pub core : Core
  pub steps : List Edit
  pub broken : Bool

abbrev pub state_of : {D : Type 0} → (D → DeviceState) → AdfFile D → FileState
state_of state file = record {
  device = device_of state file;
  image = image_in state file;
  waiting = waiting_in file.draft;
  core = file.core;
  steps = steps_in file;
  broken = file.broken;
}

-- what is in memory, as it was last committed
abbrev pub accepted : Core → Core
accepted core = record core { heap = record core.heap { work = core.heap.kept }; rows = record core.rows { items = core.rows.kept } }

-- ---- what it means

-- bytes that are told lay out a tree, and what is in memory is its
abbrev pub HasMeaning : Core → Option (List ℕ) → Type 0
HasMeaning core held = IfSome held (λ image. (tree : Tree) × (p : Placement) × Means image tree p (memory_of core))

-- Of a tree and a placement: the tree of the edits one after another, where the rule of the heap puts it, with all that they
-- leave; what is in memory afterwards is its, and the blocks that wait are no more than the edits cost, each with a byte that they may
-- write.
pub record FollowsAll (limit : ℕ) (writable : Bool) (edits : List Edit) (waiting : List ℕ) (tree : Tree) (p : Placement) (now : Memory)
    (old new : List ℕ) : Type 0 where
  pub work : Work
  pub placement : Placement
  pub whole : IsGroupWhole limit writable edits tree p work placement old new
  pub means : Means new work.tree placement now
  pub cost : how_many waiting ≤ group_cost limit tree p (done_by writable tree edits)
  pub reached : (n : ℕ) → Waits waiting n → CanReach (group_touched limit tree p (done_by writable tree edits)) tree.wide p placement.heap.end n

-- the edits of each tree and placement that the bytes and the memory mean
abbrev pub DoesAll : List Edit → List ℕ → Core → Core → List ℕ → List ℕ → Type 0
DoesAll edits waiting was now old new =
    (tree : Tree) (p : Placement) → Means old tree p (memory_of was)
    → FollowsAll was.heap.limit was.writable edits waiting tree p (memory_of now) old new

-- the lists of children that are kept in memory are those of the tree in work; and those that no edit in work has touched, of the tree
-- that the device holds
abbrev pub KeepsNames : NamesState → Core → Option (List ℕ) → Option (List ℕ) → Type 0
KeepsNames names core held image = OfEach (accepted core) held (λ before tree p. AreNames core image names (children_in tree))

-- ---- what stands between the calls

-- nothing waits for a commit
pub record IsIdle {D : Type 0} (file : AdfFile D) : Type 0 where
  pub changes : changes_in file.draft ≡ []
  pub core : file.core ≡ accepted file.core

-- The memory of the last commit means what the device holds, and the edits in work lead from there to the bytes of the draft and
-- the memory in work, but for a file that is broken. Where no edit is in work, nothing waits.
pub record IsWorking {D : Type 0} (state : D → DeviceState) (file : AdfFile D) : Type 0 where
  pub cache : IsCache state (blocks_below file.draft)
  pub near : AreNear file.core.wide file.core.rows.items
  pub kept_near : AreNear file.core.wide file.core.rows.kept
  pub means : file.broken ≡ false → HasMeaning (accepted file.core) (device_of state file).held
  pub work : file.broken ≡ false
      → Both (DoesAll (steps_in file) (waiting_in file.draft) (accepted file.core) file.core) (device_of state file).held (image_in state file)
  pub names : file.broken ≡ false → KeepsNames file.names file.core (device_of state file).held (image_in state file)
  pub idle : steps_in file ≡ [] → IsIdle file
  pub stopped : file.broken ≡ true → steps_in file ≡ []

-- no edit is in work
pub record IsFile {D : Type 0} (state : D → DeviceState) (file : AdfFile D) : Type 0 where
  pub working : IsWorking state file
  pub none : steps_in file ≡ []

-- ---- as the model has it

-- a device of the model by what is told of it; where its parts stand does not matter
abbrev pub device_with : Placement → DeviceState → Device
device_with p state = record { held = state.held; placement = p; faults = state.faults; lost = state.lost; reads = state.reads; writes = state.writes }
