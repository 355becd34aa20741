-- The numbers of the rules of a layout.
use Rattle.std.specs.Prelude.{ℕ, ◌≤◌}

-- the rules are numbered from 1 to 30
abbrev pub IsRule : ℕ → Type 0
IsRule rule = (1 ≤ rule) × (rule ≤ 30)
