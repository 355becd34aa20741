-- What a session does: the lines that it takes, the calls that these are, and the replies that it prints.
use Rattle.std.specs.Prelude.{◌≡◌, ℕ, ◌^◌, ◌<◌, ◌≤◌, List, [], ◌++◌, length, take, Option, ⊤}
use Rattle.std.specs.Io.KnownBytes.{Appends, IsAtEnd, prepend_known}
use Rattle.adf_model.specs.Slots.{Files, Devices}
use Rattle.session.specs.Input.{NoFeed, CutsLines}
use Rattle.session.specs.Turns.{Turn, Ran, lines_of, replies_of}
use Rattle.session.specs.declared.session.Ended.{Ended}
use Rattle.session.specs.declared.session.Ended.TheVariants as ended
use Rattle.session.specs.declared.reader.Stopped.{Stopped}
use Rattle.session.specs.declared.reader.Stopped.TheVariants as stopped

-- the files and their devices, the text that is still to be cut into lines, and what the output took
pub record Scene : Type 0 where
  pub files : Files
  pub devices : Devices
  pub text : Option (List ℕ)
  pub taken : Option (List ℕ)

-- whole turns: the first lines of the text, with their calls, and with all their replies
pub record HasGoneOn (first now : Scene) : Type 0 where
  pub turns : List Turn
  pub ran : Ran first.files first.devices turns now.devices now.files
  pub cut : CutsLines first.text (lines_of turns) now.text
  pub printed : Appends first.taken now.taken (replies_of turns)

-- the replies of all turns but the last one are printed, and a first part of the last one's
pub record PrintsPart (turns : List Turn) (printed : List ℕ) : Type 0 where
  pub before : List Turn
  pub last : List Turn
  pub split : turns ≡ before ++ last
  pub one : length last ≤ 1
  pub count : ℕ
  pub replies : printed ≡ replies_of before ++ take count (replies_of last)

-- what is printed of the replies, by how a session ends
abbrev pub Prints : Ended → List Turn → List ℕ → Type 0
Prints ended.Done turns printed = printed ≡ replies_of turns
Prints ended.SourceFault turns printed = printed ≡ replies_of turns
Prints ended.TooLong turns printed = printed ≡ replies_of turns
Prints ended.SinkFault turns printed = PrintsPart turns printed
Prints ended.Memory turns printed = PrintsPart turns printed

-- what was taken of the input behind the lines of the turns, by how a session ends: nothing at its end; at a fault of the source and at the limit no whole line
abbrev pub IsBehind : Ended → List ℕ → Option (List ℕ) → Type 0
IsBehind ended.Done ahead left = (ahead ≡ []) × IsAtEnd left
IsBehind ended.SourceFault ahead left = NoFeed ahead
IsBehind ended.TooLong ahead left = NoFeed ahead
IsBehind ended.SinkFault ahead left = ⊤
IsBehind ended.Memory ahead left = ⊤

-- how many bytes of the input were taken, by how a session ends: it ends as too long exactly at the limit
abbrev pub IsBounded : Ended → ℕ → Type 0
IsBounded ended.Done taken = taken < 2 ^ 40
IsBounded ended.SourceFault taken = taken < 2 ^ 40
IsBounded ended.TooLong taken = taken ≡ 2 ^ 40
IsBounded ended.SinkFault taken = taken ≤ 2 ^ 40
IsBounded ended.Memory taken = taken ≤ 2 ^ 40

-- how a session ends where no line was found
abbrev pub ending : Stopped → Ended
ending stopped.Source = ended.SourceFault
ending stopped.Limit = ended.TooLong
ending stopped.Memory = ended.Memory

-- an end that may cut a reply short
abbrev pub IsCut : Ended → Type 0
IsCut ended.SinkFault = ⊤
IsCut ended.Memory = ⊤
IsCut how = ⊥

-- a session that ended: the turns of the first lines of its input, what was taken of the input behind them, and what is printed of their replies
pub record HasRun (how : Ended) (first now : Scene) : Type 0 where
  pub turns : List Turn
  pub ran : Ran first.files first.devices turns now.devices now.files
  pub ahead : List ℕ
  pub cut : CutsLines first.text (lines_of turns) (prepend_known ahead now.text)
  pub behind : IsBehind how ahead now.text
  pub printed : List ℕ
  pub replies : Prints how turns printed
  pub put : Appends first.taken now.taken printed
