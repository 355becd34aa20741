-- Looks at files, one after another.
use Rattle.std.proofs.Common.{◌≡◌, ℕ, ◌≤◌, sym, ◌∙◌, subst, arith}
use Rattle.std.specs.Prelude.{Result, Ok, Err}
use Rattle.adf_model.specs.declared.error.AdfError.{AdfError}
use Rattle.adf_model.specs.declared.error.AdfError.TheVariants.{Memory, ReadFault, LinkMissing, LinkChain, Layout}
use Rattle.adf_model.specs.Counts.{Rose}
use Rattle.adf_model.specs.Slots.{Files, Devices, device_at, IsTold}
use Rattle.adf_model.specs.Causes.{OnlyAsks}
use Rattle.adf_model.proofs.Answering.AskLaws.{asks_keep}
use Rattle.adf_follow.specs.Looking.{IsToldIn, IsFound, HasFileFault, HasLookCause, HasWalkCause}

-- ---- what tells goes on telling

pub told_on : (files after : Files) (before now : Devices) → OnlyAsks files before now after → IsTold files before → IsTold after now
told_on files after before now leaves told number = (asks_keep files after before now leaves).told number (told number)

pub told_in_on : (files after : Files) (before now : Devices) (number : ℕ) → OnlyAsks files before now after → IsToldIn files before number → IsToldIn after now number
told_in_on files after before now number leaves told = (asks_keep files after before now leaves).told number told

-- ---- causes

pub rose_before : (a b c : ℕ) → a ≤ b → Rose b c → Rose a c
rose_before a b c le rose = omega (arith, le, rose)

pub fault_before : (files after : Files) (before between now : Devices) (number : ℕ) → OnlyAsks files before between after → HasFileFault after number between now → HasFileFault files number before now
fault_before files after before between now number leaves fault = subst (λ (f : Files). HasFileFault f number before now) leaves.files_stay
    (fault.0, rose_before (device_at before number).faults (device_at between number).faults (device_at now number).faults (leaves.devices_stay.counts number).faults fault.1)

-- a look fails as a walk may
pub look_walks : (missing : AdfError) (files : Files) (number : ℕ) (before now : Devices) (error : AdfError) → HasLookCause files number before now error → HasWalkCause missing files before now error
look_walks missing files number before now Memory h = tt
look_walks missing files number before now ReadFault h = (number, h.0, h.1)
look_walks missing files number before now (Layout rule place) h = h
look_walks missing files number before now error h = absurd h

-- a walk of links fails as each walk may
pub links_walk : (missing : AdfError) (files : Files) (before now : Devices) (error : AdfError) → HasWalkCause LinkMissing files before now error → HasWalkCause missing files before now error
links_walk missing files before now Memory h = tt
links_walk missing files before now ReadFault h = h
links_walk missing files before now (Layout rule place) h = h
links_walk missing files before now AdfError.Broken h = h
links_walk missing files before now LinkMissing h = tt
links_walk missing files before now LinkChain h = tt
links_walk missing files before now error h = subst (HasWalkCause missing files before now) (sym h) tt

-- a cause of what looks came before is one of the whole
pub walk_before : (missing : AdfError) (files after : Files) (before between now : Devices) (error : AdfError) → OnlyAsks files before between after
    → HasWalkCause missing after between now error → HasWalkCause missing files before now error
walk_before missing files after before between now error leaves h = by_error error (subst (λ (f : Files). HasWalkCause missing f between now error) leaves.files_stay h)
  where
    by_error : (error : AdfError) → HasWalkCause missing files between now error → HasWalkCause missing files before now error
    by_error Memory h = tt
    by_error ReadFault h = (h.0, h.1, rose_before (device_at before h.0).faults (device_at between h.0).faults (device_at now h.0).faults (leaves.devices_stay.counts h.0).faults h.2)
    by_error (Layout rule place) h = h
    by_error AdfError.Broken h = h
    by_error LinkMissing h = tt
    by_error LinkChain h = tt
    by_error error h = h

-- ---- parts of a look

-- a refusal of a part is one of the whole
pub passed_on : {A B C D : Type 0} (told after : Type 0) (Part Whole : AdfError → Type 0) (view : A → B) (other : C → D) (wanted : Result B AdfError) (whole : Result D AdfError) (error : AdfError)
    → (Part error → Whole error) → (told → after) → (told → wanted ≡ Err error → whole ≡ Err error) → IsFound after Part view wanted (Err error) → IsFound told Whole other whole (Err error)
passed_on told after Part Whole view other wanted whole Memory cause on same h = tt
passed_on told after Part Whole view other wanted whole ReadFault cause on same h = cause h
passed_on told after Part Whole view other wanted whole error cause on same h = (cause h.0, λ t. same t (h.1 (on t)))

-- what follows answers for the whole
pub goes_on : {A B : Type 0} (told after : Type 0) (Part Whole : AdfError → Type 0) (view : A → B) (next whole : Result B AdfError) (result : Result A AdfError)
    → ((error : AdfError) → Part error → Whole error) → (told → after) → (told → whole ≡ next) → IsFound after Part view next result → IsFound told Whole view whole result
goes_on told after Part Whole view next whole (Ok value) cause on same h = λ t. same t ∙ h (on t)
goes_on told after Part Whole view next whole (Err error) cause on same h = passed_on told after Part Whole view view next whole error (cause error) on (λ t e. same t ∙ e) h
