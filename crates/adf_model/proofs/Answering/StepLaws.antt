-- What is held of trees stays sound over each call, and an opening leaves a tree that is numbered.
use Rattle.std.proofs.Common.{◌≡◌, ◌⊎◌, inl, inr, ℕ, zero, suc, Bool, false, List, [], ◌∷◌, refl, sym, ap, subst}
use Rattle.std.specs.Prelude.{Option, Some, None, IsSome, Result, Ok, Err}
use Rattle.adf_format.specs.Tree.{Tree, IsTree, IsNumbered, tree_order, fresh_tree}
use Rattle.adf_format.proofs.FreshLaidOut.{fresh_is_tree}
use Rattle.adf_model.specs.declared.error.AdfError.{AdfError}
use Rattle.adf_model.specs.declared.error.AdfError.TheVariants.{Memory, WriteFault}
use Rattle.adf_model.specs.declared.error.EditError.{EditError}
use Rattle.adf_model.specs.declared.tree.Edit.{Edit}
use Rattle.adf_model.specs.declared.tree.NodeId.{NodeId}
use Rattle.adf_model.specs.Tests.{Test}
use Rattle.adf_model.specs.Slots.{Open, Slot, Files, Devices, slot_at, open_of, with_slot, is_gone, device_at, IsTold, AreTrees, IsSoundSlot, AreSound, entry_files}
use Rattle.adf_model.specs.Slots.Slot.{Gone, Raw, Saved, Live}
use Rattle.adf_model.specs.Steps.{Opening, Fresh, Stored, HoldsTree, Opens, IsOpening, after_refusal, closed, close_tests, open_tests, IsMoved, IsEdit, IsGroupRefusal, Call, Opened, Closed, Discarded, Asked, Changed, Skipped, Misread, Step}
use Rattle.adf_model.proofs.Basics.{not_true}
use Rattle.adf_model.proofs.Answering.LayoutLemmas.{live_slot, entry_slot}
use Rattle.adf_model.proofs.Trees.Renumbered.{numbered_is_tree, numbered_is_numbered}
use Rattle.adf_model.proofs.Keeping.GroupKeeps.{edit_group_keeps, LeavesOthers, edit_group_others}

sound_entry : (slot : Slot) → (slot ≡ Gone) ⊎ (slot ≡ Raw) → IsSoundSlot slot
sound_entry slot (inl e) = subst IsSoundSlot (sym e) tt
sound_entry slot (inr e) = subst IsSoundSlot (sym e) tt

-- before the first call there is no tree
pub sound_at_entry : (names : List (Option (List ℕ))) → AreSound (entry_files names)
sound_at_entry names number = sound_entry (slot_at (entry_files names) number) (entry_slot names number)

pub open_are_trees : (files : Files) → AreSound files → AreTrees files
open_are_trees files sound number opened e = subst IsSoundSlot (live_slot (slot_at files number) opened e) (sound number)

sound_with : (files : Files) (number : ℕ) (slot : Slot) → AreSound files → IsSoundSlot slot → AreSound (with_slot files number slot)
sound_with [] number slot sound good n = sound n
sound_with (file ∷ files) zero slot sound good zero = good
sound_with (file ∷ files) zero slot sound good (suc n) = sound (suc n)
sound_with (file ∷ files) (suc number) slot sound good zero = sound zero
sound_with (file ∷ files) (suc number) slot sound good (suc n) = sound_with files number slot (λ k. sound (suc k)) good n

-- ---- openings

stored_tree : (slot : Slot) (held : Option (List ℕ)) (tree : Tree) → IsSoundSlot slot → (is_gone slot ≡ false → IsSome held) → HoldsTree slot held tree → IsTree tree × IsNumbered tree
stored_tree Gone held tree sound told h = absurd h
stored_tree Raw None tree sound told h = absurd (not_true (told refl))
stored_tree Raw (Some image) tree sound told h = (h.0.1.is_tree, h.1)
stored_tree (Saved saved) held tree sound told h = subst (λ (t : Tree). IsTree t × IsNumbered t) (sym h) sound
stored_tree (Live opened) held tree sound told h = absurd h
stored_tree Slot.Broken held tree sound told h = absurd h

fresh_is_numbered : (wide : Bool) → IsNumbered (fresh_tree wide)
unfolding tree_order
fresh_is_numbered wide = refl

-- the tree that an opening gives is sound and numbered
pub opened_tree : (opening : Opening) (slot : Slot) (held : Option (List ℕ)) (opened : Open) → IsSoundSlot slot → (is_gone slot ≡ false → IsSome held) → Opens opening slot held opened → IsTree opened.tree × IsNumbered opened.tree
opened_tree (Fresh wide) slot held opened sound told h = subst (λ (t : Tree). IsTree t × IsNumbered t) (sym h.0) (fresh_is_tree wide, fresh_is_numbered wide)
opened_tree (Stored writable) slot held opened sound told h = stored_tree slot held opened.tree sound told h.0

refused_opening : (files : Files) (number : ℕ) (error : AdfError) → AreSound files → AreSound (after_refusal files number error)
refused_opening files number WriteFault sound = sound_with files number Raw sound tt
refused_opening files number error sound = sound

opening_keeps : (files : Files) (before : Devices) (number : ℕ) (opening : Opening) (limit : ℕ) (result : Result Unit AdfError) (now : Devices) (after : Files)
    → AreSound files → IsTold files before → IsOpening files before number opening limit result now after → AreSound after
opening_keeps files before number opening limit (Ok done) now after sound told h =
    subst AreSound (sym h.4) (sound_with files number (Live h.0) sound (opened_tree opening (slot_at files number) (device_at before number).held h.0 (sound number) (told number) h.3).0)
opening_keeps files before number opening limit (Err Memory) now after sound told h = subst AreSound (sym h.0) sound
opening_keeps files before number opening limit (Err error) now after sound told h = subst AreSound (sym h.1) (refused_opening files number error sound)

-- ---- the other calls

moved_keeps : (tests : List Test) (files : Files) (slot : Slot) (number : ℕ) (result : Result Unit AdfError) (after : Files) → AreSound files → IsSoundSlot slot → IsMoved tests files slot number result after → AreSound after
moved_keeps tests files slot number (Ok done) after sound good h = subst AreSound (sym h.1) (sound_with files number slot sound good)
moved_keeps tests files slot number (Err error) after sound good h = subst AreSound (sym h.1) sound

refused_group : (files : Files) (before : Devices) (edits : List Edit) (at : ℕ) (error : AdfError) (now : Devices) (after : Files) → AreSound files → IsGroupRefusal files before edits at error now after → AreSound after
refused_group files before edits at WriteFault now after sound h = subst AreSound (sym h.stop.broken) (sound_with files h.stop.number Slot.Broken sound tt)
refused_group files before edits at error now after sound h = subst AreSound (sym h.files_stay) sound

group_sound : (files after : Files) → AreSound files → AreTrees after → LeavesOthers files after → AreSound after
group_sound files after sound trees others number = by_slot (others number)
  where
    by_slot : (slot_at after number ≡ slot_at files number) ⊎ ((o : Open) × (slot_at after number ≡ Live o)) → IsSoundSlot (slot_at after number)
    by_slot (inl same) = subst IsSoundSlot (sym same) (sound number)
    by_slot (inr live) = subst IsSoundSlot (sym live.1) (trees number live.0 (ap open_of live.1))

edit_keeps : (files : Files) (before : Devices) (edits : List Edit) (result : Result (List NodeId) EditError) (now : Devices) (after : Files) → AreSound files → IsEdit files before edits result now after → AreSound after
edit_keeps files before edits (Ok created) now after sound h =
    subst AreSound (sym h.trees) (group_sound files h.group.files sound (edit_group_keeps files edits h.group (open_are_trees files sound) h.through) (edit_group_others files edits h.group h.through))
edit_keeps files before edits (Err refusal) now after sound h = refused_group files before edits refusal.at refusal.error now after sound h

closed_sound : (slot : Slot) → IsSoundSlot slot → IsSoundSlot (closed slot)
closed_sound Gone sound = sound
closed_sound Raw sound = sound
closed_sound (Saved tree) sound = sound
closed_sound (Live opened) sound = (numbered_is_tree opened.tree sound, numbered_is_numbered opened.tree sound)
closed_sound Slot.Broken sound = tt

-- a call over devices that tell keeps all trees sound
pub step_keeps : (files : Files) (before : Devices) (call : Call) (now : Devices) (after : Files) → AreSound files → IsTold files before → Step files before call now after → AreSound after
step_keeps files before (Opened number opening limit result) now after sound told h = opening_keeps files before number opening limit result now after sound told h.0
step_keeps files before (Closed number result) now after sound told h = moved_keeps (close_tests files number) files (closed (slot_at files number)) number result after sound (closed_sound (slot_at files number) (sound number)) h.0
step_keeps files before (Discarded number result) now after sound told h = moved_keeps (open_tests files number) files Gone number result after sound tt h.0
step_keeps files before (Asked query result) now after sound told h = subst AreSound (sym h.2) sound
step_keeps files before (Changed edits result) now after sound told h = edit_keeps files before edits result now after sound h.0
step_keeps files before Skipped now after sound told h = subst AreSound (sym h.1) sound
step_keeps files before (Misread error) now after sound told h = subst AreSound (sym h.2) sound
