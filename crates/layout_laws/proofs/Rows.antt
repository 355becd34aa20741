-- Rows that are all kept, and the words of their tests.
use Rattle.std.proofs.Common.{◌≡◌, ℕ, zero, suc, refl, ◌∙◌, ap, arith, List, [], ◌∷◌, ◌++◌, length, map, ◌+◌, ◌<◌, ◌≤◌, Bool, true, false, cond}
use Rattle.std.proofs.lemmas.Bool.Decides.{nat_tests}
use Rattle.std.proofs.lemmas.Slice.Eq.{bytes_eq-Decides}
use Rattle.std.specs.Prelude.{Option, Some, None, slice_get, nat_le, nat_lt, ◌&&◌, ◌==◌}
use Rattle.std.specs.List.{range_with_len}
use Rattle.adf_format.specs.Pointer.{Pointer, Blank, To, pointer, is_place, is_place_value, place_of, place_value}
use Rattle.adf_format.specs.Fields.{field, holds}
use Rattle.adf_format.specs.Checks.{Row, first_broken}
use Rattle.adf_format.specs.FirstFault.{fits, has_room, is_pointer_to}
use Rattle.adf_model.proofs.Basics.{and_parts, equal}
use Rattle.adf_model.proofs.Walks.WalkNodes.{Kept}

-- ---- rows

pub kept_none : (rows : List Row) → Kept rows → first_broken rows ≡ None
kept_none [] h = refl
kept_none (r ∷ rows) h = ap (λ k. cond k (first_broken rows) (Some r.fault)) h.0 ∙ kept_none rows h.1

pub kept-append : (xs ys : List Row) → Kept xs → Kept ys → Kept (xs ++ ys)
kept-append [] ys h k = k
kept-append (x ∷ xs) ys h k = (h.0, kept-append xs ys h.1 k)

pub kept_counted : (f : ℕ → Row) (a n : ℕ) → ((i : ℕ) → i < n → (f (a + i)).kept ≡ true) → Kept (map f (range_with_len a n))
kept_counted f a zero h = tt
kept_counted f a (suc n) h = (ap (λ k. (f k).kept) (plain a) ∙ h 0 (omega arith), kept_counted f (a + 1) n (λ i lt. ap (λ k. (f k).kept) (shift a i) ∙ h (suc i) (omega (arith, lt))))
  where
    plain : (a : ℕ) → a ≡ a + 0
    plain a = omega arith

    shift : (a i : ℕ) → a + 1 + i ≡ a + suc i
    shift a i = omega arith

-- ---- tests

pub both : (a b : Bool) → a ≡ true → b ≡ true → (a && b) ≡ true
both a b h k = ap (λ t. t && b) h ∙ k

pub le_of : (m n : ℕ) → nat_le m n ≡ true → m ≤ n
le_of m n e = grind (arith, nat_tests)

pub of_le : (m n : ℕ) → m ≤ n → nat_le m n ≡ true
of_le m n h = grind (arith, nat_tests)

pub of_lt : (m n : ℕ) → m < n → nat_lt m n ≡ true
of_lt m n h = grind (arith, nat_tests)

pub of_equal : (m n : ℕ) → m ≡ n → (m == n) ≡ true
of_equal m n h = grind (arith, nat_tests)

pub differ_of : (m n : ℕ) → (m == n) ≡ false → m ≡ n → ⊥
differ_of m n e h = grind (arith, nat_tests)

pub holds_of : (bytes : List ℕ) (offset : ℕ) (text : List ℕ) → field bytes offset (length text) ≡ text → holds bytes offset text ≡ true
holds_of bytes offset text e = (bytes_eq-Decides (field bytes offset (length text)) text).1 e

place_step : (o : Option Pointer) → is_place_value o ≡ true → o ≡ Some (To (place_value o))
place_step (Some (To place)) e = refl
place_step (Some Blank) e = cc
place_step None e = cc

pub place_tells : (bytes : List ℕ) → is_place bytes ≡ true → pointer bytes ≡ Some (To (place_of bytes))
place_tells bytes e = place_step (pointer bytes) e

pub points_place : (bytes : List ℕ) (n : ℕ) → pointer bytes ≡ Some (To n) → is_place bytes ≡ true
points_place bytes n e = ap is_place_value e

pub points_to : (bytes : List ℕ) (n : ℕ) → pointer bytes ≡ Some (To n) → place_of bytes ≡ n
points_to bytes n e = ap place_value e

pub pointer_to_of : (bytes : List ℕ) (n : ℕ) → pointer bytes ≡ Some (To n) → is_pointer_to bytes n ≡ true
pointer_to_of bytes n e = both (is_place bytes) (place_of bytes == n) (points_place bytes n e) (of_equal (place_of bytes) n (points_to bytes n e))

pub pointer_to_tells : (bytes : List ℕ) (n : ℕ) → is_pointer_to bytes n ≡ true → pointer bytes ≡ Some (To n)
pointer_to_tells bytes n e =
    let h = and_parts (is_place bytes) (place_of bytes == n) e in
    place_tells bytes h.0 ∙ ap (λ k. Some (To k)) (equal (place_of bytes) n h.1)

pub fits_of : (end place length : ℕ) → 266 ≤ place → place + length ≤ end + 1 → fits end place length ≡ true
fits_of end place length h k = both (nat_le 266 place) (nat_le (place + length) (end + 1)) (of_le 266 place h) (of_le (place + length) (end + 1) k)

pub fits_tells : (end place length : ℕ) → fits end place length ≡ true → (266 ≤ place) × (place + length ≤ end + 1)
fits_tells end place length e = let h = and_parts (nat_le 266 place) (nat_le (place + length) (end + 1)) e in (le_of 266 place h.0, le_of (place + length) (end + 1) h.1)

pub room_of : (end used length : ℕ) → used + length ≤ end + 1 → has_room end used length ≡ true
room_of end used length h = of_le (used + length) (end + 1) h

-- ---- lists

-- a list is what a function gives on the numbers of its places
pub counted_is : {A : Type 0} (f : ℕ → A) (a : ℕ) (xs : List A) → ((i : ℕ) (x : A) → slice_get xs i ≡ Some x → f (a + i) ≡ x) → map f (range_with_len a (length xs)) ≡ xs
counted_is f a [] h = refl
counted_is f a (x ∷ xs) h =
    ap (λ y. y ∷ map f (range_with_len (a + 1) (length xs))) (ap f (plain a) ∙ h 0 x refl)
    ∙ ap (λ ys. x ∷ ys) (counted_is f (a + 1) xs (λ i y e. ap f (shift a i) ∙ h (suc i) y e))
  where
    plain : (a : ℕ) → a ≡ a + 0
    plain a = omega arith

    shift : (a i : ℕ) → a + 1 + i ≡ a + suc i
    shift a i = omega arith
