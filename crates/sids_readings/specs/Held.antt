-- Tests with the numbers of their rules.
use Rattle.std.specs.Prelude.{ℕ, Bool, if◌then◌else◌, List, [], ◌∷◌}

-- the numbers of those that hold
abbrev pub held : List (ℕ × Bool) → List ℕ
held [] = []
held (test ∷ tests) = if test.1 then test.0 ∷ held tests else held tests
