-- The end of a text.
use Rattle.std.proofs.Common.{◌≡◌, ◌≢◌, ℕ, suc, ◌-◌, ◌≤◌, List, [], ◌∷◌, ◌++◌, length, take, refl, ap, sym, ◌∙◌, arith, get_or, sub-one}
use Rattle.std.specs.Prelude.{◌==◌, false, Some, None, slice_get}
use Rattle.adf_format.specs.Fields.{trimmed, before_text}
use Rattle.adf_format.specs.Names.{ends_with_space}
use Rattle.std.proofs.Math.Seq.{take-suc}
use Rattle.std.proofs.lemmas.Bool.Decides.{nat_tests}

pub trimmed-space : (xs : List ℕ) → trimmed (xs ++ 32 ∷ []) ≡ trimmed xs
trimmed-space [] = refl
trimmed-space (x ∷ xs) = ap (before_text x) (trimmed-space xs)

before-front : (x : ℕ) (xs : List ℕ) (b : ℕ) → before_text x (xs ++ b ∷ []) ≡ x ∷ (xs ++ b ∷ [])
before-front x [] b = refl
before-front x (y ∷ ys) b = refl

pub trimmed-end : (xs : List ℕ) (b : ℕ) → (b == 32) ≡ false → trimmed (xs ++ b ∷ []) ≡ xs ++ b ∷ []
trimmed-end [] b h = rw h refl
trimmed-end (x ∷ xs) b h = ap (before_text x) (trimmed-end xs b h) ∙ before-front x xs b

one_more : (xs : List ℕ) (n m : ℕ) → n ≡ suc m → n ≤ length xs → take n xs ≡ take m xs ++ get_or xs m 0 ∷ []
one_more xs n m e h = ap (λ k. take k xs) e ∙ take-suc xs m 0 (omega (arith, h, e))

pub cut_space : (xs : List ℕ) (n m : ℕ) → n ≡ suc m → n ≤ length xs → get_or xs m 0 ≡ 32 → trimmed (take n xs) ≡ trimmed (take m xs)
cut_space xs n m p h e = ap trimmed (one_more xs n m p h) ∙ ap (λ b. trimmed (take m xs ++ b ∷ [])) e ∙ trimmed-space (take m xs)

not_space : (b : ℕ) → b ≢ 32 → (b == 32) ≡ false
not_space b h = grind (arith, nat_tests)

pub kept_end : (xs : List ℕ) (n m : ℕ) → n ≡ suc m → n ≤ length xs → get_or xs m 0 ≢ 32 → trimmed (take n xs) ≡ take n xs
kept_end xs n m p h e = ap trimmed (one_more xs n m p h) ∙ trimmed-end (take m xs) (get_or xs m 0) (not_space (get_or xs m 0) e) ∙ sym (one_more xs n m p h)

-- the last byte decides whether a text ends with a space
last_at : (c b : ℕ) (text : List ℕ) → slice_get (c ∷ text) (length text) ≡ Some b → ends_with_space (c ∷ text) ≡ (b == 32)
last_at c b [] e = ap (λ x. x == 32) (same e)
  where
    same : Some c ≡ Some b → c ≡ b
    same e = cc
last_at c b (d ∷ text) e = last_at d b text e

none_at : (c : ℕ) (text : List ℕ) → slice_get (c ∷ text) (length text) ≡ None → ⊥
none_at c [] e = cc
none_at c (d ∷ text) e = none_at d text e

pub last_space : (text : List ℕ) (b : ℕ) → slice_get text (length text - 1) ≡ Some b → ends_with_space text ≡ (b == 32)
last_space [] b e = cc
last_space (c ∷ text) b e = last_at c b text (rw sub-one at e)

pub no_last : (text : List ℕ) → slice_get text (length text - 1) ≡ None → ends_with_space text ≡ false
no_last [] e = refl
no_last (c ∷ text) e = absurd (none_at c text (rw sub-one at e))
