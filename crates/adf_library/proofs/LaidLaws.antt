-- Between its calls each tree of a library is laid out by its device.
use Rattle.std.proofs.Common.{◌≡◌, ℕ, zero, suc, List, [], ◌∷◌, get_or, length, refl, sym, ◌∙◌, ap, subst, arith}
use Rattle.std.specs.List.{All}
use Rattle.std.specs.Prelude.{Option, Some, None}
use Rattle.adf_follow.specs.Groups.{WaitsIn}
use Rattle.adf_format.specs.Tree.{Tree, numbered}
use Rattle.adf_library.specs.Library.{files_in_work, files_kept, devices_in, pending_in}
use Rattle.adf_library.specs.Places.{committed, slot_in, device_in, tree_by, placement_by, tree_left, IsLeft, IsReadyPlace, IsReadySlot}
use Rattle.adf_library.specs.declared.places.Place.{Place}
use Rattle.adf_library.specs.declared.places.Place.TheVariants as place
use Rattle.adf_library.specs.declared.places.Slot.{Slot}
use Rattle.adf_library.proofs.OpenedFile.{file_laid, left_sound}
use Rattle.adf_library.proofs.OpenedPlace.{raw_laid}
use Rattle.adf_model.proofs.Answering.LayoutLemmas.{laid_out_trees}
use Rattle.adf_model.proofs.Trees.NumberedLaidOut.{numbered_laid_out}
use Rattle.adf_model.specs.Placing.{numbered_placement}
use Rattle.adf_model.specs.Slots.{Files, Device, no_device, slot_at, device_at, AreTrees, IsTold}
use Rattle.adf_model.specs.Slots as model
use Rattle.adf_model.specs.Steps.{AllLaidOut, HasTree, IsLaidOut, IsLaidOutAt}
use Rattle.adf_tree.specs.Files.{device_with}
use Rattle.adf_tree.specs.declared.file.AdfFile.{AdfFile}
use Rattle.cg_io.specs.Device.{DeviceState}

gone_laid : (device : Device) → IsLaidOutAt model.Slot.Gone device
gone_laid device = by_held device.held
  where
    by_held : (h : Option (List ℕ)) → IsLaidOut model.Slot.Gone device h
    by_held None = tt
    by_held (Some image) = tt

module _ {D : Type 0} (state : D → DeviceState) where
  -- the tree with which a file was closed
  saved_laid : (device : DeviceState) (items : List (AdfFile D × ℕ)) → IsLeft state device items → IsLaidOutAt (model.Slot.Saved (tree_left state items)) (device_with no_device.placement device)
  saved_laid device [] left = absurd left
  saved_laid device (entry ∷ entries) left = by_held device.held refl
    where
      by_held : (h : Option (List ℕ)) → device.held ≡ h → IsLaidOut (model.Slot.Saved (tree_left state (entry ∷ entries))) (device_with no_device.placement device) h
      by_held None told = tt
      by_held (Some image) told =
          let kept = entry.0.core.rows.kept in
          let p = placement_by (Some image) kept entry.0.core.heap.kept.heap in
          subst (λ (t : Tree). HasTree image (numbered t)) (ap (λ (h : Option (List ℕ)). tree_by h kept) (sym told ∙ left.held))
          (numbered_placement (tree_by (Some image) kept) p, numbered_laid_out image (tree_by (Some image) kept) p (left_sound state device entry.0 left image told))

  place_laid : (p : Place D) → IsReadyPlace state p → IsLaidOutAt (slot_in committed state p) (device_in state p)
  place_laid place.Taken ready = absurd ready
  place_laid (place.Closed device) ready = raw_laid (device_with no_device.placement (state device))
  place_laid (place.Saved device left) ready = saved_laid (state device) left.last.items ready
  place_laid (place.Open file) ready = file_laid state file ready
  place_laid (place.Gone husk) ready = gone_laid (device_in state (place.Gone husk))

  kept_laid : (slots : List (Slot D)) → All (IsReadySlot state) slots → AllLaidOut (files_kept state slots) (devices_in state slots)
  kept_laid [] all n = gone_laid no_device
  kept_laid (x ∷ xs) all zero = place_laid x.place (all 0 x (omega arith))
  kept_laid (x ∷ xs) all (suc n) = kept_laid xs (λ k d lt. all (suc k) d (omega (arith, lt))) n

  module _ (slots : List (Slot D)) (all : All (IsReadySlot state) slots) (rest : WaitsIn None (files_in_work state slots) (devices_in state slots) (pending_in state slots)) where
    pub all_laid : AllLaidOut (files_in_work state slots) (devices_in state slots)
    all_laid = subst (λ (fs : Files). AllLaidOut fs (devices_in state slots)) (sym rest.others) (kept_laid slots all)

    -- so what is open are trees, where the devices tell
    pub are_trees : IsTold (files_in_work state slots) (devices_in state slots) → AreTrees (files_in_work state slots)
    are_trees told = laid_out_trees (files_in_work state slots) (devices_in state slots) told all_laid
