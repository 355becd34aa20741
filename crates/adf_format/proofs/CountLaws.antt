-- Extents that do not overlap are together no longer than the bytes that they lie in.
use Rattle.std.proofs.Common.{◌≡◌, ◌⊎◌, inl, inr, ℕ, zero, suc, refl, sym, ◌∙◌, ap, subst, arith, List, [], ◌∷◌, ◌+◌, ◌-◌, ◌<◌, ◌≤◌, min, Bool, true, false, cond}
use Rattle.std.proofs.lemmas.Bool.Decides.{nat_tests, leb_tells}
use Rattle.std.specs.List.{AllByRecursion}
use Rattle.adf_format.specs.declared.types.Extent.{Extent}
use Rattle.adf_format.specs.Tiles.{Tiles, cover, holds_byte, total_length, end_of}
use Rattle.adf_format.proofs.HeapLaws.{in_range}

-- the sum of f over the numbers below n
abbrev pub sum_below : (ℕ → ℕ) → ℕ → ℕ
sum_below f zero = 0
sum_below f (suc n) = sum_below f n + f n

pub sum_zero : (n : ℕ) → sum_below (λ b. 0) n ≡ 0
sum_zero zero = refl
sum_zero (suc n) = let ih : sum_below (λ b. 0) n ≡ 0 = sum_zero n in omega (arith, ih)

pub sum_add : (f g : ℕ → ℕ) (n : ℕ) → sum_below (λ b. f b + g b) n ≡ sum_below f n + sum_below g n
sum_add f g zero = refl
sum_add f g (suc n) = plain (sum_below (λ b. f b + g b) n) (sum_below f n) (sum_below g n) (f n) (g n) (sum_add f g n)
  where
    plain : (s a b c d : ℕ) → s ≡ a + b → s + (c + d) ≡ (a + c) + (b + d)
    plain s a b c d h = omega arith

pub sum_at_most : (f : ℕ → ℕ) (n : ℕ) → ((b : ℕ) → b < n → f b ≤ 1) → sum_below f n ≤ n
sum_at_most f zero h = omega arith
sum_at_most f (suc n) h =
    let ih : sum_below f n ≤ n = sum_at_most f n (λ b k. h b (omega (arith, k))) in
    let last : f n ≤ 1 = h n (omega arith) in omega (arith, ih, last)

-- a range counts its own bytes
range_sum : (p k n : ℕ) → sum_below (λ b. in_range p k b) n + min n p ≡ min n (p + k)
range_sum p k zero = omega arith
range_sum p k (suc n) = plain (sum_below (λ b. in_range p k b) n) (range_sum p k n)
  where
    plain : (s : ℕ) → s + min n p ≡ min n (p + k) → s + in_range p k n + min (suc n) p ≡ min (suc n) (p + k)
    plain s h = grind (arith, nat_tests)

one_sum : (e : Extent) (n : ℕ) → end_of e ≤ n → sum_below (λ b. in_range e.place e.length b) n ≡ e.length
one_sum e n h = let r : sum_below (λ b. in_range e.place e.length b) n + min n e.place ≡ min n (e.place + e.length) = range_sum e.place e.length n in plain (sum_below (λ b. in_range e.place e.length b) n) e.place e.length r h
  where
    plain : (s p k : ℕ) → s + min n p ≡ min n (p + k) → p + k ≤ n → s ≡ k
    plain s p k r h = omega arith

cover_sum : (xs : List Extent) (n : ℕ) → AllByRecursion (λ (e : Extent). end_of e ≤ n) xs → sum_below (λ b. cover xs b) n ≡ total_length xs
cover_sum [] n h = sum_zero n
cover_sum (e ∷ es) n h =
    sum_add (λ b. in_range e.place e.length b) (λ b. cover es b) n ∙ ap (λ x. x + sum_below (λ b. cover es b) n) (one_sum e n h.0) ∙ ap (λ x. e.length + x) (cover_sum es n h.1)

-- no byte twice: the lengths are no more than the bytes
pub total_length-at_most : (xs : List Extent) (n : ℕ) → AllByRecursion (λ (e : Extent). end_of e ≤ n) xs → ((b : ℕ) → b < n → cover xs b ≤ 1) → total_length xs ≤ n
total_length-at_most xs n within once = subst (λ (t : ℕ). t ≤ n) (cover_sum xs n within) (sum_at_most (λ b. cover xs b) n once)

-- ---- tiles add up

-- none of the extents holds a byte that they do not cover
pub none_holds : (e : Extent) (es : List Extent) (b : ℕ) → cover (e ∷ es) b ≡ 0 → (holds_byte e b ≡ false) × (cover es b ≡ 0)
none_holds e es b h = by_case (holds_byte e b) h
  where
    by_case : (t : Bool) → cond t 1 0 + cover es b ≡ 0 → (t ≡ false) × (cover es b ≡ 0)
    by_case true h = absurd (omega (arith, h))
    by_case false h = (refl, omega (arith, h))

-- a range that holds no byte from n on is empty or ends by n
pub ends_by : (e : Extent) (n : ℕ) → ((b : ℕ) → n ≤ b → holds_byte e b ≡ false) → (end_of e ≤ n) ⊎ (e.length ≡ 0)
ends_by e n none = elim (leb_tells (end_of e) n) [ inl h ↦ inl h.1 | inr h ↦ inr (empty (end_of e - 1) refl h.1) ]
  where
    empty : (b : ℕ) → b ≡ end_of e - 1 → n < end_of e → e.length ≡ 0
    empty b is more = let out : holds_byte e b ≡ false = none b (omega (arith, is, more)) in grind (arith, nat_tests)

inside_sum : (xs : List Extent) (n : ℕ) → ((b : ℕ) → n ≤ b → cover xs b ≡ 0) → sum_below (λ b. cover xs b) n ≡ total_length xs
inside_sum [] n none = sum_zero n
inside_sum (e ∷ es) n none =
    let first : sum_below (λ b. in_range e.place e.length b) n ≡ e.length = plain (sum_below (λ b. in_range e.place e.length b) n) e.place e.length (range_sum e.place e.length n) (ends_by e n (λ b low. (none_holds e es b (none b low)).0)) in
    sum_add (λ b. in_range e.place e.length b) (λ b. cover es b) n ∙ ap (λ x. x + sum_below (λ b. cover es b) n) first
    ∙ ap (λ x. e.length + x) (inside_sum es n (λ b low. (none_holds e es b (none b low)).1))
  where
    plain : (s p k : ℕ) → s + min n p ≡ min n (p + k) → (p + k ≤ n) ⊎ (k ≡ 0) → s ≡ k
    plain s p k r (inl h) = omega arith
    plain s p k r (inr h) = omega arith

sum_ones : (f : ℕ → ℕ) (n : ℕ) → ((b : ℕ) → b < n → f b ≡ 1) → sum_below f n ≡ n
sum_ones f zero h = refl
sum_ones f (suc n) h =
    let ih : sum_below f n ≡ n = sum_ones f n (λ b k. h b (omega (arith, k))) in
    let last : f n ≡ 1 = h n (omega arith) in omega (arith, ih, last)

-- extents that tile a file are together as long as it
pub tiles_add_up : (xs : List Extent) (end : ℕ) → Tiles xs end → total_length xs ≡ end + 1
tiles_add_up xs end t = sym (inside_sum xs (end + 1) (λ b low. t.inside b (omega (arith, low)))) ∙ sum_ones (λ b. cover xs b) (end + 1) (λ b high. t.once b (omega (arith, high)))
