-- What an opening makes of the verdict of the linter, what it leaves, and why it is refused.
use Rattle.std.specs.Prelude.{◌≡◌, ◌≢◌, ℕ, suc, cond, ◌==◌, ◌+◌, ◌*◌, ◌≤◌, Bool, true, false, List, [], ◌∷◌, map, length, Option, Some, None, IsSome, IfSome}
use Rattle.std.specs.Option.{option_map}
use Rattle.adf_format.specs.declared.types.Extent.{Extent}
use Rattle.adf_format.specs.declared.types.Format.{Format}
use Rattle.adf_format.specs.Fresh.{fresh_block, fresh_end, fresh_placement}
use Rattle.adf_format.specs.Tree.{Tree, IsNumbered, fresh_tree}
use Rattle.adf_format.specs.Placement.{Placement}
use Rattle.adf_format.specs.Verdict.{NodePlace, IsLaidOutAs}
use Rattle.adf_model.specs.Counts.{DeviceState, NoCountFell, OnlyReads, Rose}
use Rattle.adf_model.specs.Slots.Slot.{Raw}
use Rattle.adf_model.specs.Steps.{Opening, Fresh, Stored, IsOpenRefusal}
use Rattle.adf_model.specs.declared.error.AdfError.{AdfError}
use Rattle.adf_model.specs.declared.error.AdfError.TheVariants as error
use Rattle.adf_model.specs.declared.mode.Mode.{Mode}
use Rattle.adf_model.specs.declared.mode.Mode.TheVariants as mode
use Rattle.layout_lint.specs.declared.verdict.NodePlace as code
use Rattle.layout_lint.specs.Shapes.{IsShaped}
use Rattle.cg_io.specs.Answers.{Told}
use Rattle.layout_lint.specs.Walks.{node_place}
use Rattle.tree_edits.specs.declared.memory.Core.{Core}
use Rattle.tree_edits.specs.declared.rows.Row.{Row}
use Rattle.tree_edits.specs.Edits.{memory_of}
use Rattle.tree_edits.specs.Rows.{Means}
use Rattle.adf_tree.specs.Files.{FileState, device_with}

-- ---- the table of a verdict

-- the row that an opening makes of a node of the verdict
abbrev pub opened_row : ℕ → NodePlace → Row
opened_row serial n = record { place = n.place; parent = cond (serial == 0) None (Some n.parent); depth = n.depth }

-- the rows of nodes whose serials are counted from here
abbrev pub opened_from : ℕ → List NodePlace → List (Option Row)
opened_from serial [] = []
opened_from serial (n ∷ nodes) = Some (opened_row serial n) ∷ opened_from (suc serial) nodes

-- where bytes are told, they are laid out with these nodes, gaps and end, in this version
abbrev pub HasVerdict : Option (List ℕ) → List code.NodePlace → List Extent → ℕ → Bool → Type 0
HasVerdict held nodes gaps end wide =
    (image : List ℕ) → held ≡ Some image → (format : Format) × IsLaidOutAs image (map node_place nodes) gaps end format wide

-- ---- done openings

-- a file that was just opened
pub record Starts (writable : Bool) (limit : ℕ) (file : FileState) : Type 0 where
  pub writable_is : file.core.writable ≡ writable
  pub limit_is : file.core.heap.limit ≡ limit
  pub steps : file.steps ≡ []
  pub sound : file.broken ≡ false

-- The rows are those of a tree of nodes in tree order, whose headers lie behind the free table with the gaps between them.
pub record KeepsShape (core : Core) : Type 0 where
  pub nodes : List NodePlace
  pub rows : core.rows.items ≡ opened_from 0 nodes
  pub shape : IsShaped nodes core.heap.work.heap.gaps core.heap.work.heap.end core.wide

-- the bytes lay out a tree that is numbered in tree order, and what is in memory is its
abbrev pub HasNumberedTree : Core → Option (List ℕ) → Type 0
HasNumberedTree core held = IfSome held (λ image. (tree : Tree) × (p : Placement) × Means image tree p (memory_of core) × IsNumbered tree)

-- as it stands: nothing is written
pub record Stands (writable : Bool) (limit : ℕ) (old : DeviceState) (file : FileState) : Type 0 where
  pub starts : Starts writable limit file
  pub device : OnlyReads old file.device
  pub shape : KeepsShape file.core
  pub tree : HasNumberedTree file.core file.device.held

-- and by no more reads than the linter makes, and two for each gap and each of the three lists of free chunks
pub record OpensStored (writable : Bool) (limit : ℕ) (old : DeviceState) (file : FileState) : Type 0 where
  pub stands : Stands writable limit old file
  pub few : Told old.held
      (λ image. file.device.reads ≤ old.reads + (8 * length image + 16) + 2 * (length file.core.heap.work.heap.gaps + 3))

-- the root of the fresh file
abbrev pub fresh_row : Row
fresh_row = record { place = 266; parent = None; depth = 0 }

-- what is kept of the fresh file: its root, and no gap
pub record KeepsFresh (wide : Bool) (core : Core) : Type 0 where
  pub wide_is : core.wide ≡ wide
  pub rows : core.rows.items ≡ Some fresh_row ∷ []
  pub heap : core.heap.work.heap ≡ record { gaps = []; end = fresh_end wide }

-- where bytes are told, there are none
abbrev pub IsEmpty : Option (List ℕ) → Type 0
IsEmpty held = IfSome held (λ bytes. bytes ≡ [])

-- as a fresh file, by one write at most and eight reads, of a device that was empty
pub record OpensFresh (wide : Bool) (limit : ℕ) (old : DeviceState) (file : FileState) : Type 0 where
  pub starts : Starts true limit file
  pub core : KeepsFresh wide file.core
  pub empty : IsEmpty old.held
  pub held : file.device.held ≡ option_map (λ (none : List ℕ). fresh_block wide) old.held
  pub counts : NoCountFell old file.device
  pub writes : file.device.writes ≤ old.writes + 1
  pub few : file.device.reads ≤ old.reads + 8
  pub tree : IfSome file.device.held (λ image. Means image (fresh_tree wide) (fresh_placement wide) (memory_of file.core))

abbrev pub IsOpened : Mode → ℕ → DeviceState → FileState → Type 0
IsOpened mode.New limit old file = OpensFresh false limit old file
IsOpened mode.NewWide limit old file = OpensFresh true limit old file
IsOpened mode.ReadWrite limit old file = OpensStored true limit old file
IsOpened mode.ReadOnly limit old file = OpensStored false limit old file

-- ---- refusals

-- why a device is not found empty: a failed read, or bytes that it holds
abbrev pub IsEmptyCause : Option (List ℕ) → ℕ → ℕ → AdfError → Type 0
IsEmptyCause held before now error.ReadFault = Rose before now
IsEmptyCause held before now error.NotEmpty = (image : List ℕ) → held ≡ Some image → image ≢ []
IsEmptyCause held before now e = ⊥

-- what a refused opening leaves: only a write of the fresh bytes that failed has written, and once; a device that told its bytes tells them
abbrev pub RefusedLeaves : AdfError → DeviceState → DeviceState → Type 0
RefusedLeaves error.WriteFault old new = NoCountFell old new × (new.writes ≤ old.writes + 1) × (IsSome old.held → IsSome new.held)
RefusedLeaves error old new = OnlyReads old new

-- a refused opening has its cause, as the model has it for a file of any bytes
pub record IsRefused (opening : Opening) (old new : DeviceState) (error : AdfError) : Type 0 where
  pub cause : (p q : Placement) → IsOpenRefusal opening Raw (device_with p old) (device_with q new) error
  pub leaves : RefusedLeaves error old new

-- how often a refused opening reads at most: as often as a done one, with a gap for each byte that there is
abbrev pub ReadsWithin : Opening → DeviceState → DeviceState → Type 0
ReadsWithin (Fresh wide) old new = new.reads ≤ old.reads + 8
ReadsWithin (Stored writable) old new = Told old.held (λ image. new.reads ≤ old.reads + (8 * length image + 16) + 2 * (length image + 3))
