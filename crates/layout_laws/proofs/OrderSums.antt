-- A sum over tree order is the sum over all serials.
use Rattle.std.proofs.Common.{◌≡◌, inl, inr, ℕ, zero, suc, refl, sym, ◌∙◌, ap, arith, List, [], ◌∷◌, length, ◌+◌, ◌<◌, ◌≤◌, Bool, true, false, cond}
use Rattle.std.proofs.lemmas.Bool.Decides.{eqb_tells, leb_tells}
use Rattle.std.specs.Prelude.{Option, Some, None, is_some, ◌==◌, slice_index_or, if◌then◌else◌, IsSome}
use Rattle.adf_format.specs.Tree.{Tree, IsTree, tree_order, is_live, is_among, IsAmong}
use Rattle.adf_format.specs.Placement.{NodeParts}
use Rattle.adf_format.proofs.CountLaws.{sum_below, sum_zero, sum_add}
use Rattle.adf_model.proofs.Basics.{or_right, among_head, not_true}
use Rattle.adf_model.proofs.Trees.TreeOrder.{times, only_live, listed_times}

-- the sum of f over a list
abbrev pub total : (ℕ → ℕ) → List ℕ → ℕ
total f [] = 0
total f (x ∷ xs) = f x + total f xs

pub sum_same : (f g : ℕ → ℕ) (n : ℕ) → ((q : ℕ) → q < n → f q ≡ g q) → sum_below f n ≡ sum_below g n
sum_same f g zero h = refl
sum_same f g (suc n) h = ap (λ x. x + f n) (sum_same f g n (λ q lt. h q (omega (arith, lt)))) ∙ ap (λ x. sum_below g n + x) (h n (omega arith))

-- one number's share
abbrev share : (ℕ → ℕ) → ℕ → ℕ → ℕ
share f x q = cond (x == q) (f q) 0

share_below : (f : ℕ → ℕ) (x n : ℕ) → n ≤ x → sum_below (share f x) n ≡ 0
share_below f x zero h = refl
share_below f x (suc n) h = elim (eqb_tells x n) [
  | inl e ↦ absurd (let s = e.1 in omega (arith, h, s))
  | inr e ↦ (let rest = share_below f x n (omega (arith, h)) in rw (rest, e.0) refl)
]

share_within : (f : ℕ → ℕ) (x n : ℕ) → x < n → sum_below (share f x) n ≡ f x
share_within f x zero h = absurd (omega (arith, h))
share_within f x (suc n) h = elim (eqb_tells x n) [
  | inl e ↦ (let s = e.1 in let rest = share_below f x n (omega (arith, s)) in rw (rest, e.0) (first (f n) ∙ ap f (sym s)))
  | inr e ↦ (let rest = share_within f x n (below x n h e.1) in rw (rest, e.0) (last (f x)))
]
  where
    first : (k : ℕ) → 0 + k ≡ k
    first k = omega arith

    last : (k : ℕ) → k + 0 ≡ k
    last k = omega arith

    below : (x n : ℕ) → x < suc n → (x ≡ n → ⊥) → x < n
    below x n h differ = elim (leb_tells (suc x) n) [ inl k ↦ k.1 | inr k ↦ absurd (differ (let g = k.1 in omega (arith, h, g))) ]

abbrev gathered : (ℕ → ℕ) → List ℕ → ℕ → ℕ
gathered f [] q = 0
gathered f (x ∷ xs) q = share f x q + gathered f xs q

gathered_none : (f : ℕ → ℕ) (xs : List ℕ) (q : ℕ) → times q xs ≡ 0 → gathered f xs q ≡ 0
gathered_none f [] q h = refl
gathered_none f (x ∷ xs) q h = by_test (x == q) refl h (gathered_none f xs q)
  where
    by_test : (t : Bool) → (x == q) ≡ t → cond t 1 0 + times q xs ≡ 0 → (times q xs ≡ 0 → gathered f xs q ≡ 0) → share f x q + gathered f xs q ≡ 0
    by_test true e h ih = absurd (omega (arith, h))
    by_test false e h ih = let rest = ih (omega (arith, h)) in rw (e, rest) refl

gathered_one : (f : ℕ → ℕ) (xs : List ℕ) (q : ℕ) → times q xs ≡ 1 → gathered f xs q ≡ f q
gathered_one f [] q h = absurd (omega (arith, h))
gathered_one f (x ∷ xs) q h = by_test (x == q) refl h (gathered_one f xs q)
  where
    last : (k : ℕ) → k + 0 ≡ k
    last k = omega arith

    first : (k : ℕ) → 0 + k ≡ k
    first k = omega arith

    by_test : (t : Bool) → (x == q) ≡ t → cond t 1 0 + times q xs ≡ 1 → (times q xs ≡ 1 → gathered f xs q ≡ f q) → share f x q + gathered f xs q ≡ f q
    by_test true e h ih = let rest = gathered_none f xs q (omega (arith, h)) in rw (e, rest) (last (f q))
    by_test false e h ih = let rest = ih (omega (arith, h)) in rw (e, rest) (first (f q))

all_gathered : (f : ℕ → ℕ) (n : ℕ) (xs : List ℕ) → ((s : ℕ) → IsAmong xs s → s < n) → total f xs ≡ sum_below (gathered f xs) n
all_gathered f n [] h = sym (sum_zero n)
all_gathered f n (x ∷ xs) h =
    ap (λ k. k + total f xs) (sym (share_within f x n (h x (among_head x xs))))
    ∙ ap (λ k. sum_below (share f x) n + k) (all_gathered f n xs (λ s k. h s (or_right (x == s) (is_among xs s) k)))
    ∙ sym (sum_add (share f x) (gathered f xs) n)

-- ---- sums over a list of parts

abbrev pub sum_of : (Option NodeParts → ℕ) → List (Option NodeParts) → ℕ
sum_of g [] = 0
sum_of g (x ∷ xs) = g x + sum_of g xs

sum_first : (f : ℕ → ℕ) (n : ℕ) → sum_below f (suc n) ≡ f 0 + sum_below (λ q. f (suc q)) n
sum_first f zero = plain (f 0)
  where
    plain : (k : ℕ) → 0 + k ≡ k + 0
    plain k = omega arith
sum_first f (suc n) = ap (λ k. k + f (suc n)) (sum_first f n) ∙ assoc (f 0) (sum_below (λ q. f (suc q)) n) (f (suc n))
  where
    assoc : (a b c : ℕ) → a + b + c ≡ a + (b + c)
    assoc a b c = omega arith

sum_listed : (g : Option NodeParts → ℕ) (xs : List (Option NodeParts)) → sum_below (λ q. g (slice_index_or xs q None)) (length xs) ≡ sum_of g xs
sum_listed g [] = refl
sum_listed g (x ∷ xs) = sum_first (λ q. g (slice_index_or (x ∷ xs) q None)) (length xs) ∙ ap (λ k. g x + k) (sum_listed g xs)

inside : (xs : List (Option NodeParts)) (q : ℕ) → is_some (slice_index_or xs q None) ≡ true → q < length xs
inside [] q h = absurd (not_true h)
inside (x ∷ xs) zero h = omega arith
inside (x ∷ xs) (suc q) h = let rest = inside xs q h in omega (arith, rest)

module _ (tree : Tree) (is : IsTree tree) (parts : List (Option NodeParts)) (same : (s : ℕ) → is_some (slice_index_or parts s None) ≡ is_live tree s) where
  listed_live : (s : ℕ) → IsAmong (tree_order tree) s → IsSome (slice_index_or parts s None)
  unfolding tree_order
  listed_live s h = same s ∙ only_live tree is 256 0 s is.root h

  pub order_sum : (g : Option NodeParts → ℕ) → g None ≡ 0 → total (λ s. g (slice_index_or parts s None)) (tree_order tree) ≡ sum_of g parts
  order_sum g none =
      all_gathered (λ s. g (slice_index_or parts s None)) (length parts) (tree_order tree) (λ s h. inside parts s (listed_live s h))
      ∙ sum_same (gathered (λ s. g (slice_index_or parts s None)) (tree_order tree)) (λ s. g (slice_index_or parts s None)) (length parts) (λ q lt. one q (is_live tree q) refl)
      ∙ sum_listed g parts
    where
      one : (q : ℕ) (t : Bool) → is_live tree q ≡ t → gathered (λ s. g (slice_index_or parts s None)) (tree_order tree) q ≡ g (slice_index_or parts q None)
      one q true e = gathered_one (λ s. g (slice_index_or parts s None)) (tree_order tree) q (listed_times tree is q ∙ ap (λ t. if t then 1 else 0) e)
      one q false e =
          gathered_none (λ s. g (slice_index_or parts s None)) (tree_order tree) q (listed_times tree is q ∙ ap (λ t. if t then 1 else 0) e)
          ∙ sym (no_parts (slice_index_or parts q None) (same q ∙ e))
        where
          no_parts : (o : Option NodeParts) → is_some o ≡ false → g o ≡ 0
          no_parts None h = none
          no_parts (Some x) h = absurd (not_true (sym h))
