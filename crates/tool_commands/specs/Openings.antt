-- The openings of files for reading, one after another.
use Rattle.std.specs.Prelude.{◌≡◌, ◌⊎◌, ℕ, ◌^◌, ◌≤◌, ⊤, Bool, true, false, not, List, [], ◌∷◌, ◌++◌, length, Result, Ok, Err, IfOk}
use Rattle.std.specs.List.{AllByRecursion}
use Rattle.adf_model.specs.declared.error.AdfError.{AdfError}
use Rattle.adf_model.specs.declared.error.AdfError.TheVariants as error
use Rattle.adf_model.specs.Runs.{Makes, Run}
use Rattle.adf_model.specs.Slots.{Files, Devices}
use Rattle.adf_model.specs.Steps.{Call, Opened, Stored}
use Rattle.tool_commands.specs.declared.named_files.NamedFile.{NamedFile}

-- how an opening was answered
abbrev pub Outcome : Type 0
Outcome = Result Unit AdfError

-- the opening of a file for reading
abbrev pub opening_for : ℕ → Outcome → Call
opening_for number outcome = Opened number (Stored false) (2 ^ 32) outcome

-- the openings of the first files, one after another, as many as these outcomes are
abbrev pub openings : List Outcome → List NamedFile → List Call
openings [] files = []
openings (outcome ∷ outcomes) [] = []
openings (outcome ∷ outcomes) (file ∷ files) = opening_for file.number outcome ∷ openings outcomes files

-- nothing is opened behind a first file that is refused
abbrev pub StopsAtFirst : List Outcome → Type 0
StopsAtFirst [] = ⊤
StopsAtFirst (Ok done ∷ outcomes) = ⊤
StopsAtFirst (Err error ∷ outcomes) = outcomes ≡ []

-- the first file was opened
abbrev pub is_first_open : List Outcome → Bool
is_first_open [] = false
is_first_open (Ok done ∷ outcomes) = true
is_first_open (Err error ∷ outcomes) = false

-- the first file is refused, and nothing is opened behind it
abbrev pub IsFirstClosed : List Outcome → Type 0
IsFirstClosed [] = ⊥
IsFirstClosed (Ok done ∷ outcomes) = ⊥
IsFirstClosed (Err error ∷ outcomes) = outcomes ≡ []

abbrev pub is_refused : Outcome → Bool
is_refused (Ok done) = false
is_refused (Err error) = true

abbrev pub lacks_memory : Outcome → Bool
lacks_memory (Err error.Memory) = true
lacks_memory other = false

-- a device failed
abbrev pub is_fault : Outcome → Bool
is_fault (Err error.ReadFault) = true
is_fault other = false

-- no opening lacked memory
abbrev pub HaveMemory : List Outcome → Type 0
HaveMemory outcomes = AllByRecursion (λ (outcome : Outcome). lacks_memory outcome ≡ false) outcomes

-- each file was opened or refused, and the first one was opened
pub record AreOpened (files : List NamedFile) (outcomes : List Outcome) : Type 0 where
  pub all : length outcomes ≡ length files
  pub first : is_first_open outcomes ≡ true
  pub memory : HaveMemory outcomes

-- The openings of some files in their order, with these outcomes: as many as were made.
pub record Opens (named : List NamedFile) (outcomes : List Outcome) (files : Files) (before now : Devices) (after : Files) : Type 0 where
  pub few : length outcomes ≤ length named
  pub stops : StopsAtFirst outcomes
  pub run : Run files before (openings outcomes named) now after

-- how openings end that did not lack memory: each file was opened or refused; or the first one was refused
abbrev pub HaveEnded : List NamedFile → List Outcome → Type 0
HaveEnded files outcomes = AreOpened files outcomes ⊎ (IsFirstClosed outcomes × HaveMemory outcomes)

-- the number of the first file
abbrev pub first_number : List NamedFile → ℕ
first_number [] = 0
first_number (file ∷ files) = file.number

-- ---- one opening

-- an outcome that did not lack memory stands behind the others
pub record Adds (outcome : Outcome) (is_open : Bool) (before after : List Outcome) : Type 0 where
  pub opened : is_open ≡ not (is_refused outcome)
  pub memory : lacks_memory outcome ≡ false
  pub behind : after ≡ before ++ outcome ∷ []

-- a file was opened or refused, and that is noted where memory is not wanting
pub record OpensFile {E : Type 0} (number : ℕ) (result : Result Bool E) (before_all after_all : List Outcome) (files : Files) (before now : Devices) (after : Files) : Type 0 where
  pub outcome : Outcome
  pub made : Makes files before (opening_for number outcome) now after
  pub added : IfOk result (λ is_open. Adds outcome is_open before_all after_all)
