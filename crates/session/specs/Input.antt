-- How the input is cut into lines, and what a reader of lines uses up of it.
use Rattle.std.specs.Prelude.{◌≡◌, ◌≢◌, ◌⊎◌, ℕ, ◌+◌, ◌^◌, ◌<◌, ◌≤◌, ◌==◌, Bool, true, false, List, [], ◌∷◌, ◌++◌, length, Option, Some, None, All, ⊤}
use Rattle.std.specs.Io.KnownBytes.{Consumes, IsAtEnd, prepend_known}
use Rattle.session.specs.declared.reader.Found.{Found}
use Rattle.session.specs.declared.reader.Found.TheVariants as found
use Rattle.session.specs.declared.reader.Stopped.{Stopped}
use Rattle.session.specs.declared.reader.Stopped.TheVariants as stopped

-- no byte is a line feed
abbrev pub NoFeed : List ℕ → Type 0
NoFeed bytes = All (λ b. (b == 10) ≡ false) bytes

-- the first line of a text, and what is behind it: a line ends at a line feed, or at the end of the text where it is not empty
abbrev pub StartsWithLine : List ℕ → List ℕ → List ℕ → Type 0
StartsWithLine text line rest = NoFeed line × ((text ≡ line ++ (10 ∷ rest)) ⊎ ((text ≡ line) × (line ≢ []) × (rest ≡ [])))

-- the first lines of a text, and what is behind them
abbrev pub FirstLines : List ℕ → List (List ℕ) → List ℕ → Type 0
FirstLines text [] rest = rest ≡ text
FirstLines text (line ∷ lines) rest = (middle : List ℕ) × StartsWithLine text line middle × FirstLines middle lines rest

-- the same of a text that is told
abbrev pub CutsLines : Option (List ℕ) → List (List ℕ) → Option (List ℕ) → Type 0
CutsLines None lines now = ⊤
CutsLines (Some text) lines None = ⊥
CutsLines (Some text) lines (Some rest) = FirstLines text lines rest

-- what was taken of an input: the bytes that are not used up yet, and how many it was in all
pub record InputState : Type 0 where
  pub pending : List ℕ
  pub taken : ℕ

-- a reader of lines: what it took of the input, and the line that it holds
pub record ReaderState : Type 0 where
  pub input : InputState
  pub line : List ℕ

-- these bytes of the input were used up, and what was taken is counted
pub record Uses (old new : InputState) (before now : Option (List ℕ)) (used : List ℕ) : Type 0 where
  pub text : Consumes (prepend_known old.pending before) (prepend_known new.pending now) used
  pub count : new.taken + length old.pending ≡ old.taken + length used + length new.pending

-- a line was used up: with its line feed, or at the end of the input, which comes before the limit
pub record UsesLine (old new : InputState) (before now : Option (List ℕ)) (line : List ℕ) : Type 0 where
  pub plain : NoFeed line
  pub used : Uses old new before now (line ++ (10 ∷ [])) ⊎ ((line ≢ []) × Uses old new before now line × IsAtEnd (prepend_known new.pending now) × (new.taken < 2 ^ 40))

-- what was found: a line, which the reader holds; a line that is too long to be held; or the end of the input, before the limit
abbrev pub HasFound : Found → List ℕ → InputState → InputState → Option (List ℕ) → Option (List ℕ) → Type 0
HasFound found.Line held old new before now = UsesLine old new before now held
HasFound found.TooLong held old new before now = (line : List ℕ) × (2 ^ 20 < length line) × UsesLine old new before now line
HasFound found.End held old new before now = Uses old new before now [] × IsAtEnd (prepend_known new.pending now) × (new.pending ≡ []) × (new.taken < 2 ^ 40)

-- the source fails only before the limit, and the limit is that number of bytes; both come behind the last byte taken
abbrev pub HasReason : Stopped → InputState → Type 0
HasReason stopped.Source new = (new.pending ≡ []) × (new.taken < 2 ^ 40)
HasReason stopped.Limit new = (new.pending ≡ []) × (new.taken ≡ 2 ^ 40)
HasReason stopped.Memory new = ⊤

-- no line was found: a part of one was used up
pub record HasStopped (why : Stopped) (old new : InputState) (before now : Option (List ℕ)) : Type 0 where
  pub part : List ℕ
  pub plain : NoFeed part
  pub used : Uses old new before now part
  pub reason : HasReason why new

-- of the part of a line that was used up: it is held, or it is too long
abbrev pub IsHeld : Bool → List ℕ → List ℕ → Type 0
IsHeld true line used = 2 ^ 20 < length used
IsHeld false line used = (line ≡ used) × (length used ≤ 2 ^ 20)

-- what is found at the end of the input, by the part of a line before it
abbrev pub at_end : Bool → List ℕ → Found
at_end true line = found.TooLong
at_end false [] = found.End
at_end false (byte ∷ bytes) = found.Line

-- what is pending behind a part of a line: where the line has ended, its line feed comes first
abbrev pub behind_part : Bool → List ℕ → List ℕ
behind_part true pending = 10 ∷ pending
behind_part false pending = pending

-- what was pending was moved into the line, up to a line feed
pub record MovesPart (old new : InputState) (line longer : List ℕ) (was_long has_ended is_long : Bool) : Type 0 where
  pub part : List ℕ
  pub plain : NoFeed part
  pub cut : old.pending ≡ part ++ behind_part has_ended new.pending
  pub all : has_ended ≡ false → new.pending ≡ []
  pub held : (used : List ℕ) → IsHeld was_long line used → IsHeld is_long longer (used ++ part)
  pub taken : new.taken ≡ old.taken
