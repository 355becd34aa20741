-- A group of edits on one open file: what its answers say of the file and its device.
use Rattle.std.proofs.Common.{◌≡◌, ◌⊎◌, inl, inr, ℕ, false, List, [], ◌∷◌, refl, sym, ◌∙◌, ap}
use Rattle.std.specs.Prelude.{Result, Ok, Err}
use Rattle.adf_model.specs.declared.error.AdfError.{AdfError}
use Rattle.adf_model.specs.declared.error.AdfError.TheVariants.{Memory, ReadFault, WriteFault}
use Rattle.adf_model.specs.declared.error.EditError.{EditError}
use Rattle.adf_model.specs.declared.tree.Edit.{Edit}
use Rattle.adf_model.specs.declared.tree.NodeId.{NodeId}
use Rattle.adf_model.specs.Edits.{Work}
use Rattle.adf_model.specs.Slots.{Open, Slot, Standing, Device}
use Rattle.adf_model.specs.Slots.Slot.{Gone, Raw, Saved, Live}
use Rattle.adf_model.specs.Steps.{OnlyRead, WriteFailed, IsMemoryOr}
use Rattle.adf_model.specs.Counts.{Rose}
use Rattle.adf_model.specs.FileGroup.{is_of_many_files, IsFileGroup, IsFileGroupRefusal, IsBrokenGroup, HasFileCause, RefusedAnyway, FileGroupAnyway}
use Rattle.adf_model.proofs.Basics.{not_there, same_Ok}

refused_of : (opened : Open) (before : Device) (edits : List Edit) (at : ℕ) (error : AdfError) (now : Device) (after : Slot) → IsFileGroupRefusal opened before edits at error now after
    → (error ≡ WriteFault) ⊎ ((after ≡ Live opened) × OnlyRead before now)
refused_of opened before edits at WriteFault now after h = inl refl
refused_of opened before edits at error now after h = inr (h.leaves.stands, h.leaves.device)

pub refused_stays : (opened : Open) (after : Slot) (before now : Device) (edits : List Edit) (at : ℕ) (error : AdfError) → IsFileGroup (Live opened) before edits (Err (record { at = at; error = error })) now after
    → (error ≡ WriteFault) ⊎ ((after ≡ Live opened) × OnlyRead before now)
refused_stays opened after before now edits at error h = refused_of opened before edits at error now after h

pub written_breaks : (opened : Open) (after : Slot) (before now : Device) (edits : List Edit) (at : ℕ) → IsFileGroup (Live opened) before edits (Err (record { at = at; error = WriteFault })) now after → (after ≡ Slot.Broken) × WriteFailed before now
written_breaks opened after before now edits at h = (h.stands, h.failed)

pub read_fails : (opened : Open) (after : Slot) (before now : Device) (edits : List Edit) (at : ℕ) → IsFileGroup (Live opened) before edits (Err (record { at = at; error = ReadFault })) now after → Rose before.faults now.faults
read_fails opened after before now edits at h = h.fault refl

-- ---- a group without edits

none_reached : {P : Type 0} (opened : Open) (before : Device) (at : ℕ) (error : AdfError) (now : Device) (after : Slot) → IsFileGroupRefusal opened before [] at error now after → P
none_reached opened before at WriteFault now after h = absurd (h.some refl)
none_reached opened before at error now after h = absurd (not_there h.edit h.reached)

pub empty_group : (slot after : Slot) (before now : Device) (result : Result (List NodeId) EditError) → IsFileGroup slot before [] result now after → (result ≡ Ok []) × (after ≡ slot) × OnlyRead before now
empty_group (Live opened) after before now (Ok created) h =
    let same = same_Ok h.made in
    (ap Ok (h.nodes ∙ sym (ap (λ (w : Work). w.created) same)), h.stands ∙ sym (ap (λ (w : Work). Live (record opened { tree = w.tree })) same), h.still refl)
empty_group (Live opened) after before now (Err refusal) h = none_reached opened before refusal.at refusal.error now after h
empty_group Slot.Broken after before now result h = (h.0, h.1.stands, h.1.device)
empty_group Gone after before now result h = absurd h
empty_group Raw after before now result h = absurd h
empty_group (Saved tree) after before now result h = absurd h

-- ---- a broken file

memory_or : (error : AdfError) → IsMemoryOr AdfError.Broken error → (error ≡ AdfError.Broken) ⊎ (error ≡ Memory)
memory_or Memory h = inr refl
memory_or error h = inl h

broken_first : (edit : Edit) (edits : List Edit) (result : Result (List NodeId) EditError) → IsBrokenGroup (edit ∷ edits) result
    → (result ≡ Err (record { at = 0; error = AdfError.Broken })) ⊎ (result ≡ Err (record { at = 0; error = Memory }))
broken_first edit edits (Ok created) h = absurd h
broken_first edit edits (Err refusal) h = elim (memory_or refusal.error h.1) [
  | inl e ↦ inl (ap (λ a. Err (record { at = a; error = refusal.error })) h.0 ∙ ap (λ x. Err (record { at = 0; error = x })) e)
  | inr e ↦ inr (ap (λ a. Err (record { at = a; error = refusal.error })) h.0 ∙ ap (λ x. Err (record { at = 0; error = x })) e)
]

pub broken_group : (after : Slot) (before now : Device) (edit : Edit) (edits : List Edit) (result : Result (List NodeId) EditError) → IsFileGroup Slot.Broken before (edit ∷ edits) result now after
    → (result ≡ Err (record { at = 0; error = AdfError.Broken })) ⊎ (result ≡ Err (record { at = 0; error = Memory }))
broken_group after before now edit edits result h = broken_first edit edits result h.0

-- ---- where nothing is told

fault_rose : (standing : Standing) (before now : Device) (edits : List Edit) (after : Standing) → RefusedAnyway standing before edits ReadFault now after → Rose before.faults now.faults
fault_rose standing before now edits after h = h.0

not_read : {P : Type 0} (edits : List Edit) (at : ℕ) → IsBrokenGroup edits (Err (record { at = at; error = ReadFault })) → P
not_read [] at h = cc
not_read (edit ∷ edits) at h = cc

pub silent_read_fails : (standing after : Standing) (before now : Device) (edits : List Edit) (at : ℕ) → FileGroupAnyway standing before edits (Err (record { at = at; error = ReadFault })) now after → Rose before.faults now.faults
silent_read_fails Standing.Failed after before now edits at h = not_read edits at h.0
silent_read_fails Standing.Absent after before now edits at h = h.1.0
silent_read_fails Standing.Closed after before now edits at h = h.1.0
silent_read_fails Standing.Reading after before now edits at h = h.1.0
silent_read_fails Standing.Editing after before now edits at h = h.1.0

own_of_broken : (edits : List Edit) (at : ℕ) (error : AdfError) → IsBrokenGroup edits (Err (record { at = at; error = error })) → is_of_many_files error ≡ false
own_of_broken [] at error h = cc
own_of_broken (edit ∷ edits) at error h = elim (memory_or error h.1) [ inl e ↦ ap is_of_many_files e | inr e ↦ ap is_of_many_files e ]

own_cause : (before now : Device) (error : AdfError) → HasFileCause before now error → is_of_many_files error ≡ false
own_cause before now ReadFault h = refl
own_cause before now AdfError.Broken h = refl
own_cause before now error h = h.1

own_refusal : (standing : Standing) (before now : Device) (edits : List Edit) (error : AdfError) (after : Standing) → RefusedAnyway standing before edits error now after → is_of_many_files error ≡ false
own_refusal standing before now edits WriteFault after h = refl
own_refusal standing before now edits error after h = own_cause before now error h.0

pub own_errors : (standing after : Standing) (before now : Device) (edits : List Edit) (at : ℕ) (error : AdfError) → FileGroupAnyway standing before edits (Err (record { at = at; error = error })) now after → is_of_many_files error ≡ false
own_errors Standing.Failed after before now edits at error h = own_of_broken edits at error h.0
own_errors Standing.Absent after before now edits at error h = own_refusal Standing.Absent before now edits error after h.1
own_errors Standing.Closed after before now edits at error h = own_refusal Standing.Closed before now edits error after h.1
own_errors Standing.Reading after before now edits at error h = own_refusal Standing.Reading before now edits error after h.1
own_errors Standing.Editing after before now edits at error h = own_refusal Standing.Editing before now edits error after h.1
