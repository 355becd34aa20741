-- Ranges of element numbers as whole numbers from 0 on.
use Rattle.std.specs.Prelude.{ℕ, ℤ, pos, unsigned_abs, int_lt, if◌then◌else◌, Option, Some, None}
use Rattle.element_ranges.specs.declared.union.Span.{Span}
use Rattle.sids_rules.specs.Terms.{Range}

-- 0 for a number under it
abbrev pub from_0 : ℤ → ℕ
from_0 n = if int_lt n (pos 0) then 0 else unsigned_abs n

-- the numbers of a range from 0 on, where it does not end before
abbrev pub span_of : Range → Option Span
span_of range = if int_lt range.end (pos 0) then None else Some (record { start = from_0 range.start; end = unsigned_abs range.end })
