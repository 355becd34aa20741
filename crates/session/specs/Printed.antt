-- What a sink took.
use Rattle.std.specs.Prelude.{◌≡◌, ◌⊎◌, ℕ, ◌≤◌, List, length, take, Option}
use Rattle.std.specs.Io.KnownBytes.{Appends}
use Rattle.adf_model.specs.Counts.{Rose}

-- some first bytes of a text were taken
abbrev pub AppendsPart : Option (List ℕ) → Option (List ℕ) → List ℕ → Type 0
AppendsPart taken now text = (n : ℕ) × (n ≤ length text) × Appends taken now (take n text)

-- what was printed last, and how it ended: the whole text was taken, and it ended as wanted; or the sink failed, and took some first bytes of it. The sink's count of faults never falls
abbrev pub EndsWith : {A : Type 0} → A → A → List ℕ → A → Option (List ℕ) → Option (List ℕ) → ℕ → ℕ → Type 0
EndsWith failed wanted text result taken now faults later =
    (faults ≤ later) × (((result ≡ wanted) × Appends taken now text) ⊎ ((result ≡ failed) × Rose faults later × AppendsPart taken now text))
