-- A file that was opened for reading is open, and not broken.
use Rattle.std.proofs.Common.{◌≡◌, sym, refl, ℕ, zero, suc, Bool, true, false, List, [], ◌∷◌}
use Rattle.std.specs.Prelude.{Some, None, Ok, slice_get}
use Rattle.adf_model.specs.declared.error.AdfError.{AdfError}
use Rattle.adf_model.specs.declared.error.AdfError.TheVariants.{AlreadyOpen, NoSuchFile}
use Rattle.adf_model.specs.Tests.{Test, first_refusal}
use Rattle.adf_model.specs.Slots.{Slot, Standing, Files, Devices, standings, standing_of, slot_at, is_gone, is_open, is_broken}
use Rattle.adf_model.specs.Slots.Slot.{Gone, Raw, Saved, Live}
use Rattle.adf_model.specs.Steps.{Stored}
use Rattle.adf_model.specs.Causes.{OpensStanding, HasOpenCause}
use Rattle.adf_model.proofs.Basics.{not_there, same_Some}
use Rattle.adf_model.proofs.Answering.StandingLaws.{opened_stands}

abbrev MayBeRead : Slot → Type 0
MayBeRead slot = (is_open slot ≡ true) × (is_broken slot ≡ false)

not_absent : Standing.Absent ≡ Standing.Reading → ⊥
not_absent e = cc

not_closed : Standing.Closed ≡ Standing.Reading → ⊥
not_closed e = cc

not_failed : Standing.Failed ≡ Standing.Reading → ⊥
not_failed e = cc

slot_reads : (slot : Slot) → standing_of slot ≡ Standing.Reading → MayBeRead slot
slot_reads Gone e = absurd (not_absent e)
slot_reads Raw e = absurd (not_closed e)
slot_reads (Saved tree) e = absurd (not_closed e)
slot_reads (Live opened) e = (refl, refl)
slot_reads Slot.Broken e = absurd (not_failed e)

file_reads : (files : Files) (number : ℕ) → slice_get (standings files) number ≡ Some Standing.Reading → MayBeRead (slot_at files number)
file_reads [] number h = absurd (not_there _ h)
file_reads (file ∷ files) zero h = slot_reads file.slot (same_Some _ _ h)
file_reads (file ∷ files) (suc number) h = file_reads files number h

not_refused : (b : Bool) (e : AdfError) (tests : List Test) → first_refusal ((b, e) ∷ tests) ≡ None → b ≡ false
not_refused true e tests h = absurd (not_there e (sym h))
not_refused false e tests h = refl

pub reads_opened : (files after : Files) (before now : Devices) (number : ℕ) → OpensStanding (Stored false) number (Ok tt) files after → HasOpenCause files number (Stored false) before now (Ok tt)
    → (is_open (slot_at after number) ≡ true) × (is_broken (slot_at after number) ≡ false)
reads_opened files after before now number stands cause =
    file_reads after number (opened_stands (Stored false) number files after stands (not_refused (is_gone (slot_at files number)) NoSuchFile ((is_open (slot_at files number), AlreadyOpen) ∷ []) cause))
