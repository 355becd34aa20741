-- What was printed, and how a run ends then.
use Rattle.std.specs.Prelude.{ℕ, List, [], ◌∷◌, ◌++◌, Option}
use Rattle.session.specs.Printed as printed
use Rattle.tool_commands.specs.declared.status.Status.{Status}
use Rattle.tool_commands.specs.declared.status.Status.TheVariants as status

-- a text and a line feed
abbrev pub line : List ℕ → List ℕ
line text = text ++ 10 ∷ []

-- the whole text was taken, and the run ends with this status; or the sink failed, and took some first bytes of it
abbrev pub EndsWith : Status → List ℕ → Status → Option (List ℕ) → Option (List ℕ) → ℕ → ℕ → Type 0
EndsWith wanted text result taken now faults later = printed.EndsWith status.SinkFault wanted text result taken now faults later
