-- What an opened file is of the bytes that its device held.
use Rattle.std.proofs.Common.{◌≡◌, ℕ, List, [], Bool, true, false, refl, sym, ◌∙◌, ap, subst}
use Rattle.std.specs.Map.{keys_of}
use Rattle.std.specs.Prelude.{Option, Some, None, IsSome, IfSome, option_map, if◌then◌else◌}
use Rattle.adf_follow.specs.Groups.{at_rest}
use Rattle.adf_format.specs.Fresh.{fresh_block, fresh_placement}
use Rattle.adf_format.specs.LaysOut.{LaysOut}
use Rattle.adf_format.specs.Placement.{Placement, Heap}
use Rattle.adf_format.specs.Tree.{Tree, IsNumbered, fresh_tree, numbered}
use Rattle.adf_library.specs.Calls.{IsAtRest}
use Rattle.adf_library.specs.Places.{committed, in_work, slot_as, device_as, work_as, tree_by, placement_by, IsLeftAs}
use Rattle.adf_library.specs.declared.places.Place.TheVariants as place
use Rattle.adf_library.proofs.Meaning.{tree_meant, placement_meant, core_meant, kept_means}
use Rattle.adf_model.proofs.Basics.{not_true}
use Rattle.adf_model.specs.FileGroup.{done_by}
use Rattle.adf_model.specs.Slots.{Open, Device, standing_of, is_gone, IsToldAt}
use Rattle.adf_model.specs.Slots as model
use Rattle.adf_model.specs.Steps.{HoldsTree, IsLaidOut, IsLaidOutAt}
use Rattle.adf_model.specs.declared.tree.Edit.{Edit}
use Rattle.adf_tree.specs.Files.{FileState, IsFile, IsIdle, IsWorking, accepted, device_of, device_with, image_in, state_of}
use Rattle.adf_tree.specs.Opening.{HasNumberedTree}
use Rattle.adf_tree.specs.declared.file.AdfFile.{AdfFile}
use Rattle.block_draft.specs.Changes.{image_of}
use Rattle.block_draft.specs.Draft.{waiting_in}
use Rattle.cg_io.specs.Device.{DeviceState}
use Rattle.cg_io.specs.Waits.{how_many}
use Rattle.layout_laws.proofs.SameLayouts.{one_layout}
use Rattle.tree_edits.specs.declared.memory.Core.{Core}
use Rattle.tree_edits.specs.declared.rows.Row.{Row}
use Rattle.tree_edits.specs.Edits.{memory_of}
use Rattle.tree_edits.specs.Rows.{Means}

-- ---- a file in which no edit is in work

no_changes : (held : Option (List ℕ)) → image_of held [] ≡ held
no_changes None = refl
no_changes (Some bytes) = refl

module _ {D : Type 0} (state : D → DeviceState) (file : AdfFile D) (is : IsFile state file) where
  abbrev f : FileState
  f = state_of state file

  idle : IsIdle file
  idle = is.working.idle is.none

  pub image_is : image_in state file ≡ (device_of state file).held
  image_is = ap (λ (changes : List (ℕ × List ℕ)). image_of (device_of state file).held changes) idle.changes ∙ no_changes (device_of state file).held

  pub rows_are : file.core.rows.items ≡ file.core.rows.kept
  rows_are = ap (λ (c : Core). c.rows.items) idle.core

  pub heap_is : file.core.heap.work.heap ≡ file.core.heap.kept.heap
  heap_is = ap (λ (c : Core). c.heap.work.heap) idle.core

  tree_is : tree_by (image_in state file) file.core.rows.items ≡ tree_by (device_of state file).held file.core.rows.kept
  tree_is = ap (λ (h : Option (List ℕ)). tree_by h file.core.rows.items) image_is ∙ ap (tree_by (device_of state file).held) rows_are

  placement_is : placement_by (image_in state file) file.core.rows.items file.core.heap.work.heap ≡ placement_by (device_of state file).held file.core.rows.kept file.core.heap.kept.heap
  placement_is = ap (λ (h : Option (List ℕ)). placement_by h file.core.rows.items file.core.heap.work.heap) image_is
      ∙ ap (λ (rows : List (Option Row)). placement_by (device_of state file).held rows file.core.heap.work.heap) rows_are
      ∙ ap (placement_by (device_of state file).held file.core.rows.kept) heap_is

  views_are : in_work f ≡ committed f
  views_are = ap (λ (t : Tree). record { tree = t; writable = file.core.writable; limit = file.core.heap.limit }) tree_is

  work_is : work_as f ≡ at_rest (device_as f)
  work_is =
      ap (λ (edits : List Edit). record { done = done_by file.core.writable (committed f).tree edits; placement = placement_by (image_in state file) file.core.rows.items file.core.heap.work.heap; cost = how_many (waiting_in file.draft) }) is.none
      ∙ ap (λ (p : Placement). record { done = []; placement = p; cost = how_many (waiting_in file.draft) }) placement_is
      ∙ ap (λ (changes : List (ℕ × List ℕ)). record { done = []; placement = (device_as f).placement; cost = how_many (keys_of changes) }) idle.changes

  pub file_rests : IsAtRest state (place.Open file)
  file_rests = record { file = ap (λ (o : Open). if file.broken then model.Slot.Broken else model.Slot.Live o) views_are; work = work_is }

-- ---- what an open file lays out

laid_by : (held : Option (List ℕ)) (rows : List (Option Row)) (heap : Heap) (core : Core) (writable : Bool) (limit : ℕ) (device : DeviceState) → IfSome held (λ image. Means image (tree_by (Some image) rows) (placement_by (Some image) rows heap) (memory_of core))
    → IsLaidOut (model.Slot.Live (record { tree = tree_by held rows; writable = writable; limit = limit })) (device_with (placement_by held rows heap) device) held
laid_by None rows heap core writable limit device means = tt
laid_by (Some image) rows heap core writable limit device means = means.laid_out

module _ {D : Type 0} (state : D → DeviceState) (file : AdfFile D) (working : IsWorking state file) where
  pub live_committed : file.broken ≡ false → slot_as committed (state_of state file) ≡ model.Slot.Live (committed (state_of state file))
  live_committed sound = ap (λ (b : Bool). if b then model.Slot.Broken else model.Slot.Live (committed (state_of state file))) sound

  sound_laid : file.broken ≡ false → IsLaidOutAt (slot_as committed (state_of state file)) (device_as (state_of state file))
  sound_laid sound = subst (λ (s : model.Slot). IsLaidOutAt s (device_as (state_of state file))) (sym (live_committed sound))
      (laid_by (device_of state file).held file.core.rows.kept file.core.heap.kept.heap (accepted file.core) file.core.writable file.core.heap.limit (device_of state file) (kept_means state file working sound))

  -- a tree that is open is laid out by its device
  pub file_laid : IsLaidOutAt (slot_as committed (state_of state file)) (device_as (state_of state file))
  file_laid = by_test file.broken refl
    where
      by_test : (b : Bool) → file.broken ≡ b → IsLaidOutAt (slot_as committed (state_of state file)) (device_as (state_of state file))
      by_test false sound = sound_laid sound
      by_test true broken = subst (λ (s : model.Slot). IsLaidOutAt s (device_as (state_of state file)))
          (sym (ap (λ (b : Bool). if b then model.Slot.Broken else model.Slot.Live (committed (state_of state file))) broken)) (no_tree (device_of state file).held)
        where
          no_tree : (held : Option (List ℕ)) → IsLaidOut model.Slot.Broken (device_as (state_of state file)) held
          no_tree None = tt
          no_tree (Some image) = tt

-- ---- the tree of an opened file

-- a fresh one
pub fresh_is : (core : Core) (wide : Bool) (before held : Option (List ℕ)) → IsSome before → held ≡ option_map (λ (none : List ℕ). fresh_block wide) before
    → IfSome held (λ image. Means image (fresh_tree wide) (fresh_placement wide) (memory_of core))
    → (tree_by held core.rows.items ≡ fresh_tree wide) × (placement_by held core.rows.items core.heap.work.heap ≡ fresh_placement wide) × IsSome held
fresh_is core wide None held some e means = absurd (not_true some)
fresh_is core wide (Some old) None some e means = absurd cc
fresh_is core wide (Some old) (Some image) some e means =
    (sym (tree_meant image (fresh_tree wide) (fresh_placement wide) (memory_of core) means), sym (placement_meant image (fresh_tree wide) (fresh_placement wide) (memory_of core) means), refl)

-- one as it is
pub stored_is : (core : Core) (own : model.Slot) (held : Option (List ℕ)) → IsSome held → HasNumberedTree core held
    → ((image : List ℕ) (tree : Tree) (p : Placement) → held ≡ Some image → LaysOut image tree p → IsNumbered tree → HoldsTree own (Some image) tree)
    → HoldsTree own held (tree_by held core.rows.items)
stored_is core own None some has holds = absurd (not_true some)
stored_is core own (Some image) some has holds =
    subst (HoldsTree own (Some image)) (tree_meant image has.0 has.1 (memory_of core) has.2) (holds image has.0 has.1 refl has.2.laid_out has.3)

-- the tree with which a file was closed is the one that its next opening finds
module _ {D : Type 0} (state : D → DeviceState) (device : DeviceState) (file : AdfFile D) (left : IsLeftAs state device file) (image : List ℕ) (told : device.held ≡ Some image) where
  left_means : Means image (tree_by (Some image) file.core.rows.kept) (placement_by (Some image) file.core.rows.kept file.core.heap.kept.heap) (memory_of (accepted file.core))
  left_means = subst (λ (h : Option (List ℕ)). IfSome h (λ i. Means i (tree_by (Some i) file.core.rows.kept) (placement_by (Some i) file.core.rows.kept file.core.heap.kept.heap) (memory_of (accepted file.core)))) told
      (core_meant (accepted file.core) device.held left.means)

  pub left_found : (tree : Tree) (p : Placement) → LaysOut image tree p → IsNumbered tree → tree ≡ numbered (committed (state_of state file)).tree
  left_found tree p laid in_order =
      sym in_order ∙ (one_layout image tree (tree_by (Some image) file.core.rows.kept) p (placement_by (Some image) file.core.rows.kept file.core.heap.kept.heap) laid left_means.laid_out).tree
      ∙ ap (λ (h : Option (List ℕ)). numbered (tree_by h file.core.rows.kept)) (sym told ∙ left.held)

  pub left_sound : LaysOut image (tree_by (Some image) file.core.rows.kept) (placement_by (Some image) file.core.rows.kept file.core.heap.kept.heap)
  left_sound = left_means.laid_out
