-- Lists of numbers by how often each stands in them.
use Rattle.std.proofs.Common.{◌≡◌, inl, inr, ℕ, zero, suc, refl, sym, ◌∙◌, ap, arith, List, [], ◌∷◌, length, get_or, ◌+◌, ◌<◌, ◌≤◌, Bool, true, false, cond}
use Rattle.std.specs.Prelude.{◌==◌}
use Rattle.std.specs.List.{remove}
use Rattle.std.specs.List.Sorted.{IsPermutation}
use Rattle.std.proofs.lemmas.Bool.Decides.{eqb_tells}
use Rattle.std.proofs.lemmas.List.Sorted.{IsPermutation-refl, IsPermutation-sym, IsPermutation-cons, IsPermutation-trans, IsPermutation-remove, length_permutation, sum_by-IsPermutation}
use Rattle.adf_format.specs.Tree.{is_among, IsAmong}
use Rattle.adf_model.proofs.Trees.TreeOrder.{times, times-count_by, same_test, times_none}

pub times_permuted : (q : ℕ) (xs ys : List ℕ) → IsPermutation xs ys → times q ys ≡ times q xs
times_permuted q xs ys perm = times-count_by q ys ∙ sum_by-IsPermutation (λ s. cond (s == q) 1 0) xs ys perm ∙ sym (times-count_by q xs)

-- where a number stands
place_of : (q : ℕ) (xs : List ℕ) → 0 < times q xs → (i : ℕ) × (i < length xs) × (q ≡ get_or xs i q)
place_of q [] some = absurd (omega (arith, some))
place_of q (x ∷ xs) some = elim (eqb_tells x q) [
  | inl e ↦ (0, omega arith, sym e.1)
  | inr e ↦ (let r = place_of q xs (later (x == q) e.0 some) in let lt = r.1 in (suc r.0, omega (arith, lt), r.2))
]
  where
    later : (b : Bool) → b ≡ false → 0 < cond b 1 0 + times q xs → 0 < times q xs
    later true e some = cc
    later false e some = omega (arith, some)

head_times : (x : ℕ) (xs : List ℕ) → 0 < times x (x ∷ xs)
head_times x xs = by_test (x == x) (same_test x)
  where
    by_test : (b : Bool) → b ≡ true → 0 < cond b 1 0 + times x xs
    by_test true e = omega arith
    by_test false e = cc

-- the rest, once a number is taken out
taken_out : (x q i : ℕ) (ys : List ℕ) → i < length ys → x ≡ get_or ys i x → times q ys ≡ cond (x == q) 1 0 + times q (remove ys i)
taken_out x q i ys lt at = sym (times_permuted q ys (x ∷ remove ys i) (IsPermutation-remove ys i x lt at))

pub permuted_by_times : (xs ys : List ℕ) → ((q : ℕ) → times q xs ≡ times q ys) → IsPermutation xs ys
permuted_by_times [] [] same = IsPermutation-refl []
permuted_by_times [] (y ∷ ys) same = absurd (let some = head_times y ys in let none = same y in omega (arith, some, none))
permuted_by_times (x ∷ xs) ys same =
    let p = place_of x ys (let some = head_times x xs in let e = same x in omega (arith, some, e)) in
    IsPermutation-trans (x ∷ xs) (x ∷ remove ys p.0) ys
    (IsPermutation-cons x xs (remove ys p.0) (permuted_by_times xs (remove ys p.0) (λ q. cancel (cond (x == q) 1 0) (times q xs) (times q (remove ys p.0)) (same q ∙ taken_out x q p.0 ys p.1 p.2))))
    (IsPermutation-sym ys (x ∷ remove ys p.0) (IsPermutation-remove ys p.0 x p.1 p.2))
  where
    cancel : (a b c : ℕ) → a + b ≡ a + c → b ≡ c
    cancel a b c e = omega (arith, e)

pub shorter_by_times : (xs ys : List ℕ) → ((q : ℕ) → times q xs ≤ times q ys) → length xs ≤ length ys
shorter_by_times [] ys less = omega arith
shorter_by_times (x ∷ xs) ys less =
    let p = place_of x ys (let some = head_times x xs in let e = less x in omega (arith, some, e)) in
    let long = length_permutation ys (x ∷ remove ys p.0) (IsPermutation-remove ys p.0 x p.1 p.2) in
    let rest = shorter_by_times xs (remove ys p.0) (λ q. cancel (cond (x == q) 1 0) (times q xs) (times q (remove ys p.0)) (times q ys) (taken_out x q p.0 ys p.1 p.2) (less q)) in
    omega (arith, long, rest)
  where
    cancel : (a b c d : ℕ) → d ≡ a + c → a + b ≤ d → b ≤ c
    cancel a b c d e le = omega (arith, e, le)

-- the numbers below n
abbrev below : ℕ → List ℕ
below zero = []
below (suc n) = n ∷ below n

length-below : (n : ℕ) → length (below n) ≡ n
length-below zero = refl
length-below (suc n) = ap (λ k. suc k) (length-below n)

some_below : (n q : ℕ) → q < n → 1 ≤ times q (below n)
some_below zero q lt = absurd (omega (arith, lt))
some_below (suc n) q lt = elim (eqb_tells n q) [
  | inl e ↦ by_test (n == q) e.0
  | inr e ↦ (let r = some_below n q (less n q e.1 lt) in omega (arith, r))
]
  where
    by_test : (b : Bool) → b ≡ true → 1 ≤ cond b 1 0 + times q (below n)
    by_test true e = omega arith
    by_test false e = cc

    less : (n q : ℕ) → (n ≡ q → ⊥) → q < suc n → q < n
    less zero zero ne lt = absurd (ne refl)
    less zero (suc q) ne lt = absurd (omega (arith, lt))
    less (suc n) zero ne lt = omega arith
    less (suc n) (suc q) ne lt = let r = less n q (λ e. ne (ap suc e)) (omega (arith, lt)) in omega (arith, r)

-- numbers below n that stand once are n at most
pub few_below : (n : ℕ) (xs : List ℕ) → ((q : ℕ) → times q xs ≤ 1) → ((q : ℕ) → IsAmong xs q → q < n) → length xs ≤ n
few_below n xs once low =
    let le = shorter_by_times xs (below n) (λ q. by_test q (is_among xs q) refl) in
    let long = length-below n in omega (arith, le, long)
  where
    by_test : (q : ℕ) (b : Bool) → is_among xs q ≡ b → times q xs ≤ times q (below n)
    by_test q true e = let one = once q in let some = some_below n q (low q e) in omega (arith, one, some)
    by_test q false e = let none = times_none q xs e in omega (arith, none)
