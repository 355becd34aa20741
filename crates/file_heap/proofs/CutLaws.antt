-- A cut at the first gap that is long enough, and two fillers made one.
use Rattle.std.proofs.Common.{◌≡◌, ℕ, zero, suc, add-one, refl, ap, arith, List, [], ◌∷◌, ◌++◌, length, take, drop, ◌+◌, ◌<◌, ◌≤◌, Bool, true, false}
use Rattle.std.specs.Prelude.{◌&&◌, ◌==◌, slice_set, remove, nat_le}
use Rattle.std.proofs.lemmas.Bool.Decides.{nat_tests}
use Rattle.adf_format.specs.declared.types.Extent.{Extent}
use Rattle.adf_format.specs.declared.types.ExtentKind.{ExtentKind}
use Rattle.adf_format.specs.Tiles.{end_of, is_filler, is_free}
use Rattle.adf_format.specs.Placement.{extent}
use Rattle.adf_format.specs.HeapRule.{is_fit, before_gaps}
use Rattle.file_heap.specs.Gaps.{IsFirstFit, NoneBefore, gap_at}

next_none : (n k : ℕ) (g : Extent) (gs : List Extent) → NoneBefore n (g ∷ gs) (suc k) → NoneBefore n gs k
next_none n k g gs none j lt = none (suc j) (omega (arith, lt))

tells : (n : ℕ) (g : Extent) (b : Bool) → (b && nat_le n g.length) ≡ true → n ≤ g.length
tells n g true e = grind (arith, nat_tests)
tells n g false e = cc

is_one : (a b : Bool) → (a && b) ≡ true → a ≡ true
is_one true b e = refl
is_one false b e = cc

pub first_fit : (n i : ℕ) (gaps : List Extent) → i < length gaps → is_fit n (gap_at gaps i) ≡ true → NoneBefore n gaps i → IsFirstFit n gaps i
first_fit n i [] lt fits none = absurd (omega (arith, lt))
first_fit n zero (h ∷ gs) lt fits none = record { within = lt; free = is_one (is_free h) (nat_le n h.length) fits; fits = tells n h (is_free h) fits; first = rw fits; left = rw fits }
first_fit n (suc i) (h ∷ gs) lt fits none =
    let off : is_fit n h ≡ false = none 0 (omega arith) in
    let r : IsFirstFit n gs i = first_fit n i gs (omega (arith, lt)) fits (next_none n i h gs none) in
    record { within = lt; free = r.free; fits = r.fits; first = rw off r.first; left = rw (off, add-one) (ap (λ xs. h ∷ xs) (rw add-one at r.left)) }

-- ---- two gaps in a row

-- nothing behind the last gap is joined with it
pub stays_last : (i : ℕ) (gaps : List Extent) → i < length gaps → length gaps ≤ suc i → gaps ≡ take i gaps ++ before_gaps (gap_at gaps i) (drop (suc i) gaps)
stays_last i [] lt le = absurd (omega (arith, lt))
stays_last zero (h ∷ []) lt le = refl
stays_last zero (h ∷ k ∷ gs) lt le = absurd (omega (arith, le))
stays_last (suc i) (h ∷ gs) lt le = ap (λ xs. h ∷ xs) (stays_last i gs (omega (arith, lt)) (omega (arith, le)))

pub stays_apart : (i : ℕ) (gaps : List Extent) → suc i < length gaps → (is_filler (gap_at gaps i) && is_filler (gap_at gaps (suc i)) && (end_of (gap_at gaps i) == (gap_at gaps (suc i)).place)) ≡ false
    → gaps ≡ take i gaps ++ before_gaps (gap_at gaps i) (drop (suc i) gaps)
stays_apart i [] lt off = absurd (omega (arith, lt))
stays_apart zero (h ∷ []) lt off = absurd (omega (arith, lt))
stays_apart zero (h ∷ k ∷ gs) lt off = rw off
stays_apart (suc i) (h ∷ gs) lt off = ap (λ xs. h ∷ xs) (stays_apart i gs (omega (arith, lt)) off)

pub is_joined : (i : ℕ) (gaps : List Extent) → suc i < length gaps → (is_filler (gap_at gaps i) && is_filler (gap_at gaps (suc i)) && (end_of (gap_at gaps i) == (gap_at gaps (suc i)).place)) ≡ true
    → remove (slice_set gaps (suc i) (extent ExtentKind.Filler (gap_at gaps i).place ((gap_at gaps i).length + (gap_at gaps (suc i)).length))) i ≡ take i gaps ++ before_gaps (gap_at gaps i) (drop (suc i) gaps)
is_joined i [] lt on = absurd (omega (arith, lt))
is_joined zero (h ∷ []) lt on = absurd (omega (arith, lt))
is_joined zero (h ∷ k ∷ gs) lt on = rw on
is_joined (suc i) (h ∷ gs) lt on = ap (λ xs. h ∷ xs) (is_joined i gs (omega (arith, lt)) on)
