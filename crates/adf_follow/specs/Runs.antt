-- Runs of calls: where the parts of one file stand since its last opening, and what the trees alone answer.
use Rattle.std.specs.Prelude.{◌≡◌, ◌⊎◌, ◌≢◌, ℕ, ◌==◌, IsSome, if◌then◌else◌, List, [], ◌∷◌, Option, Some, None, Result, Ok, Err}
use Rattle.adf_format.specs.Placement.{Placement}
use Rattle.adf_format.specs.HeapRule.{LimitReached}
use Rattle.adf_model.specs.declared.error.AdfError.{AdfError}
use Rattle.adf_model.specs.declared.error.AdfError.TheVariants.{Memory, ReadFault, WriteFault}
use Rattle.adf_model.specs.declared.error.EditError.{EditError}
use Rattle.adf_model.specs.Placing.{place_group}
use Rattle.adf_model.specs.Slots.{Open, Files, Devices, open_at, device_at}
use Rattle.adf_model.specs.Calls.{Group, edit_group}
use Rattle.adf_model.specs.Answers.{answer}
use Rattle.adf_model.specs.Steps.{Call, Opened, Asked, Changed, IsWithinLimit, IsModelEdit}
use Rattle.adf_model.specs.Runs.{Makes}

-- ---- where the parts of one file stand

abbrev pub if_placed : Result Placement LimitReached → Option Placement
if_placed (Ok p) = Some p
if_placed (Err full) = None

-- by the heap rule, over the edits of a group of the open file
abbrev pub placed_on : Option Open → Group → Option Placement → Option Placement
placed_on (Some opened) group (Some p) = if_placed (place_group opened.limit opened.tree p group.done)
placed_on opened group p = p

abbrev pub placed_in : ℕ → Files → Group → Option ℕ → Option Placement → Option Placement
placed_in one files group None p = p
placed_in one files group (Some number) p = if number == one then placed_on (open_at files one) group p else p

abbrev pub placed_by_group : ℕ → Files → Result Group EditError → Option Placement → Option Placement
placed_by_group one files (Ok group) p = placed_in one files group group.file p
placed_by_group one files (Err refusal) p = p

-- an opening begins with the placement that it finds, and each group that is done goes on by the heap rule; what stands there while the file is not open does not matter
abbrev pub placed_by : ℕ → Files → Devices → Call → Option Placement → Option Placement
placed_by one files now (Opened number opening limit (Ok done)) p = if number == one then Some (device_at now one).placement else p
placed_by one files now (Changed edits (Ok created)) p = placed_by_group one files (edit_group files edits) p
placed_by one files now call p = p

-- calls one after another, and where they put the parts of one file in the end
abbrev pub RunPlaces : ℕ → Files → Devices → List Call → Devices → Files → Option Placement → Option Placement → Type 0
RunPlaces one files before [] now after p last = (now ≡ before) × (after ≡ files) × (last ≡ p)
RunPlaces one files before (call ∷ calls) now after p last =
    (middle : Files) × (between : Devices) × Makes files before call between middle × RunPlaces one middle between calls now after (placed_by one files between call p) last

-- the file is not open, or its parts stand there
abbrev pub StandsAt : ℕ → Files → Devices → Option Placement → Type 0
StandsAt one files devices p = IsSome (open_at files one) → p ≡ Some (device_at devices one).placement

-- ---- what the trees alone answer

-- no read and no write failed
abbrev pub IsFree : Result Unit AdfError → Type 0
IsFree result = (result ≢ Err ReadFault) × (result ≢ Err WriteFault)

-- what the trees alone answer, or want of memory: of openings their relation is exact but for faults, and closings and discardings are exact
abbrev pub IsModelCall : Files → Call → Type 0
IsModelCall files (Opened number opening limit result) = IsFree result
IsModelCall files (Asked query result) = (result ≡ Err Memory) ⊎ (result ≡ answer files query)
IsModelCall files (Changed edits result) = IsModelEdit files edits result
IsModelCall files call = Unit {0}

-- the needs of a group are within the limit
abbrev pub HasRoom : Files → Devices → Call → Type 0
HasRoom files before (Changed edits result) = IsWithinLimit files before edits
HasRoom files before call = Unit {0}

-- a run in which each group has room
abbrev pub RunHasRoom : Files → Devices → List Call → Devices → Files → Type 0
RunHasRoom files before [] now after = (now ≡ before) × (after ≡ files)
RunHasRoom files before (call ∷ calls) now after =
    (middle : Files) × (between : Devices) × Makes files before call between middle × HasRoom files before call × RunHasRoom middle between calls now after

-- and one in which the trees alone answer each call
abbrev pub RunIsModel : Files → Devices → List Call → Devices → Files → Type 0
RunIsModel files before [] now after = (now ≡ before) × (after ≡ files)
RunIsModel files before (call ∷ calls) now after =
    (middle : Files) × (between : Devices) × Makes files before call between middle × IsModelCall files call × RunIsModel middle between calls now after
