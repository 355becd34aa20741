-- Ranges in order, of which one that meets others is found by halves.
use Rattle.std.specs.Prelude.{ℕ, ◌≤◌, Bool, false, ◌&&◌, nat_le, List, [], ◌∷◌, ⊤}
use Rattle.std.specs.List.{AllByRecursion}
use Rattle.element_ranges.specs.declared.union.Span.{Span}

-- a range has a number in common with those from one to another
abbrev pub touches : ℕ → ℕ → Span → Bool
touches first last range = nat_le range.start last && nat_le first range.end

-- the second of two ranges neither begins nor ends before the first
abbrev pub Follows : Span → Span → Type 0
Follows a b = (a.start ≤ b.start) × (a.end ≤ b.end)

-- none begins or ends before one that stands before it
abbrev pub IsRising : List Span → Type 0
IsRising [] = ⊤
IsRising (range ∷ ranges) = AllByRecursion (Follows range) ranges × IsRising ranges

-- the first of some ranges begins at a number, or before it
abbrev pub begins_by : ℕ → List Span → Bool
begins_by start [] = false
begins_by start (range ∷ ranges) = nat_le range.start start
