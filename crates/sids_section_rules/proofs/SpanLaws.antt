-- Ranges of element numbers, put together, have the numbers that one of them has.
use Rattle.std.proofs.Common.{◌≡◌, ◌∙◌, sym, ap, refl, arith, ℕ, ℤ, pos, negsuc, Bool, true, false, List, [], ◌∷◌}
use Rattle.std.specs.Prelude.{◌&&◌, ◌||◌, nat_le, nat_lt, int_le, unsigned_abs, if◌then◌else◌, Option, Some, None}
use Rattle.std.specs.List.{list_any}
use Rattle.std.proofs.lemmas.Bool.Decides.{nat_tests}
use Rattle.sids_views.specs.Views.{given}
use Rattle.element_ranges.specs.declared.union.Span.{Span}
use Rattle.element_ranges.specs.Ranges.{touches}
use Rattle.sids_rules.specs.Terms.{Range}
use Rattle.sids_rules.specs.OffsetRules.{is_in_range}
use Rattle.sids_section_rules.specs.Spans.{from_0, span_of}

-- ---- one range

none_under : (n : ℕ) → nat_lt n 0 ≡ false
none_under n = grind (arith, nat_tests)

all_from : (n : ℕ) → nat_le 0 n ≡ true
all_from n = grind (arith, nat_tests)

and_false : (b : Bool) → (b && false) ≡ false
and_false true = refl
and_false false = refl

begins : (start : ℤ) (a : ℕ) → nat_le (from_0 start) a ≡ int_le start (pos a)
begins (pos s) a = ap (λ b. nat_le (if b then 0 else s) a) (none_under s)
begins (negsuc s) a = all_from a

between : (start end : ℤ) (a : ℕ) → given (span_of (record { start = start; end = end })) (touches a a) ≡ (int_le start (pos a) && int_le (pos a) end)
between start (pos e) a =
    let span : Span = record { start = from_0 start; end = e } in
    ap (λ b. given (if b then None else Some span) (touches a a)) (none_under e)
    ∙ ap (λ b. b && nat_le a e) (begins start a)
between start (negsuc e) a = sym (and_false (int_le start (pos a)))

-- the amount of a number is in the span exactly where the range has it
in_span : (range : Range) (n : ℤ) → given (span_of range) (touches (unsigned_abs n) (unsigned_abs n)) ≡ is_in_range n range
in_span range n = between range.start range.end (unsigned_abs n)

abbrev pub has_amount : List Span → ℤ → Bool
has_amount spans n = list_any (touches (unsigned_abs n) (unsigned_abs n)) spans

-- a range whose numbers are all under 0 adds none
pub no_span : (range : Range) (n : ℤ) (spans : List Span) → span_of range ≡ None → has_amount spans n ≡ (is_in_range n range || has_amount spans n)
no_span range n spans is = ap (λ b. b || has_amount spans n) (sym (ap (λ o. given o (touches (unsigned_abs n) (unsigned_abs n))) is) ∙ in_span range n)

-- another adds its own
pub one_span : (range : Range) (n : ℤ) (spans : List Span) (span : Span) → span_of range ≡ Some span
    → (touches (unsigned_abs n) (unsigned_abs n) span || has_amount spans n) ≡ (is_in_range n range || has_amount spans n)
one_span range n spans span is = ap (λ b. b || has_amount spans n) (sym (ap (λ o. given o (touches (unsigned_abs n) (unsigned_abs n))) is) ∙ in_span range n)

-- ---- some ranges

-- what is put together, with the ranges that are left, has what all have
abbrev pub Covers : List Span → List Range → List Range → Type 0
Covers spans left all = (n : ℤ) → (has_amount spans n || list_any (is_in_range n) left) ≡ list_any (is_in_range n) all

either : (a b c : Bool) → ((a || b) || c) ≡ (b || (a || c))
either true true c = refl
either true false c = refl
either false b c = refl

pub covers_more : (before after : List Span) (range : Range) (left all : List Range) → Covers before (range ∷ left) all
    → ((n : ℤ) → has_amount after n ≡ (is_in_range n range || has_amount before n)) → Covers after left all
covers_more before after range left all covers more n =
    ap (λ b. b || list_any (is_in_range n) left) (more n) ∙ either (is_in_range n range) (has_amount before n) (list_any (is_in_range n) left) ∙ covers n

or_false : (b : Bool) → b ≡ (b || false)
or_false true = refl
or_false false = refl

pub covers_all : (spans : List Span) (all : List Range) → Covers spans [] all → (n : ℤ) → has_amount spans n ≡ list_any (is_in_range n) all
covers_all spans all covers n = or_false (has_amount spans n) ∙ covers n

-- ---- lists

pub any_alike : (p q : ℤ → Bool) → ((n : ℤ) → p n ≡ q n) → (ns : List ℤ) → list_any p ns ≡ list_any q ns
any_alike p q same [] = refl
any_alike p q same (n ∷ ns) = ap (λ b. b || list_any p ns) (same n) ∙ ap (λ b. q n || b) (any_alike p q same ns)
