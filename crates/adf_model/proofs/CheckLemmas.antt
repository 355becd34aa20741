-- What the sizes of shapes stand on.
use Rattle.std.proofs.Common.{◌≡◌, ℕ, zero, suc, ◌+◌, ◌*◌, ◌<◌, ◌≤◌, min, List, [], ◌∷◌, ◌++◌, length, get_or, take, refl, sym, ◌∙◌, ap, arith}
use Rattle.std.proofs.Math.Nat.{mul-suc, mul-zero, mul_assoc, min-eq_left}
use Rattle.std.proofs.lemmas.List.{take_more}
use Rattle.adf_format.specs.Names.{product}

one_more : (m x y a bound : ℕ) → m ≡ min a bound → (a ≤ bound → x ≡ y) → min (x + m) bound ≡ min (y + a) bound
one_more m x y a bound e same = grind (arith, same)

-- a number that is kept at its bound stays there when it is multiplied, but by 0
pub min-mul : (a d bound : ℕ) → min (min a bound * d) bound ≡ min (a * d) bound
min-mul a zero bound = rw (mul-zero, mul-zero)
min-mul a (suc d) bound =
    let same : a ≤ bound → min a bound * d ≡ a * d = λ h. ap (λ n. n * d) (min-eq_left h) in
    rw (mul-suc, mul-suc) (one_more (min a bound) (min a bound * d) (a * d) a bound refl same)

pub product-take : (dims : List ℕ) (i : ℕ) → i < length dims → product (take (i + 1) dims) ≡ product (take i dims) * get_or dims i 0
product-take dims i h = rw (take_more dims i 0 h) (at_end (take i dims) (get_or dims i 0))
  where
    at_end : (xs : List ℕ) (d : ℕ) → product (xs ++ d ∷ []) ≡ product xs * d
    at_end [] d = omega arith
    at_end (x ∷ xs) d = rw (at_end xs d) (sym (mul_assoc x (product xs) d))

-- one more dimension of a size that is kept at its bound
pub size_more : (element bound i : ℕ) (dims : List ℕ) → i < length dims
    → min (min (element * product (take i dims)) bound * get_or dims i 0) bound ≡ min (element * product (take (i + 1) dims)) bound
size_more element bound i dims h = min-mul (element * product (take i dims)) (get_or dims i 0) bound ∙ ap (λ n. min n bound) (mul_assoc element (product (take i dims)) (get_or dims i 0) ∙ ap (λ n. element * n) (sym (product-take dims i h)))
