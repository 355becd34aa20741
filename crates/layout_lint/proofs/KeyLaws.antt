-- Keys in a row that is in order.
use Rattle.std.proofs.Common.{◌≡◌, ◌⊎◌, inl, inr, ℕ, suc, ◌<◌, ◌≤◌, Bool, true, false, List, [], ◌∷◌, ◌++◌, length, get_or, cond, refl, sym, ◌∙◌, ap, arith, append_assoc, append-nil}
use Rattle.std.specs.Prelude.{◌||◌, Result, Ok, Err, is_ok, nat_le}
use Rattle.std.specs.Cmp.{IsTotalOrder, eq_by_cmp_equiv}
use Rattle.std.specs.List.{All, list_any}
use Rattle.std.specs.List.Sorted.{IsPermutation, IsSorted, IsBinarySearchResult, IsSearchInRange, IsPartitionPoint}
use Rattle.std.specs.declared.cmp.Ordering.{Ordering}
use Rattle.std.specs.declared.cmp.Ordering.TheVariants.{Less, Greater}
use Rattle.std.specs.Ordering.{is_eq}
use Rattle.std.specs.BTreeMap.{is_at}
use Rattle.std.proofs.lemmas.Bool.Decides.{leb_tells}
use Rattle.std.proofs.lemmas.List.Folds.{list_any_at, list_any_none, list_any-append}
use Rattle.std.proofs.lemmas.List.Sorted.{searchable_from_sorted, list_any-IsPermutation}
use Rattle.layout_lint.specs.Keys.{contains}

module _ {K : Type 0} {R : K → K → Ordering} (o : IsTotalOrder R) where
  turned : (x y : K) → is_at (R x) y ≡ is_at (R y) x
  turned x y = (eq_by_cmp_equiv o).symm x y

  -- what a search in a row in order finds
  pub searched : (xs : List K) (x : K) (r : Result ℕ ℕ) → IsSorted R xs → IsSearchInRange r (length xs) → IsBinarySearchResult (λ y. R y x) xs r → is_ok r ≡ list_any (is_at (R x)) xs
  searched xs x (Ok i) up bound at = sym (list_any_at (is_at (R x)) xs i x bound (turned x (get_or xs i x) ∙ ap is_eq (at x)))
  searched xs x (Err i) up bound at = sym (list_any_none (is_at (R x)) xs none)
    where
      parts : IsPartitionPoint (λ y. R y x ≡ Less) (λ y. R y x ≡ Greater) xs i
      parts = at (searchable_from_sorted o (λ y. y) xs x up)

      none : All (λ y. is_at (R x) y ≡ false) xs
      none k d within = by_side (leb_tells (suc k) i)
        where
          by_side : ((nat_le (suc k) i ≡ true) × (suc k ≤ i)) ⊎ ((nat_le (suc k) i ≡ false) × (i < suc k)) → is_at (R x) (get_or xs k d) ≡ false
          by_side (inl h) = turned x (get_or xs k d) ∙ ap is_eq (parts.0 k d (omega arith) h.1)
          by_side (inr h) = turned x (get_or xs k d) ∙ ap is_eq (parts.1 k d (let g = h.1 in omega (arith, g)) within)

  either_way : (a b c : Bool) → (a || (b || c)) ≡ cond b true (a || c)
  either_way true true c = refl
  either_way true false c = refl
  either_way false true c = refl
  either_way false false c = refl

  -- one more key behind a row
  pub one_more : (xs ys : List K) (x q : K) → contains R ((xs ++ x ∷ []) ++ ys) q ≡ cond (is_at (R x) q) true (contains R (xs ++ ys) q)
  one_more xs ys x q =
      ap (list_any (is_at (R q))) (append_assoc xs (x ∷ []) ys) ∙ list_any-append (is_at (R q)) xs (x ∷ ys)
      ∙ either_way (list_any (is_at (R q)) xs) (is_at (R q) x) (list_any (is_at (R q)) ys)
      ∙ ap (λ b. cond b true (list_any (is_at (R q)) xs || list_any (is_at (R q)) ys)) (turned q x)
      ∙ ap (cond (is_at (R x) q) true) (sym (list_any-append (is_at (R q)) xs ys))

  either_last : (a b c : Bool) → (a || cond b true c) ≡ cond b true (a || c)
  either_last true true c = refl
  either_last true false c = refl
  either_last false true c = refl
  either_last false false c = refl

  -- one more key among the others
  pub more_others : (xs old new : List K) (x q : K) → contains R new q ≡ cond (is_at (R x) q) true (contains R old q) → contains R (xs ++ new) q ≡ cond (is_at (R x) q) true (contains R (xs ++ old) q)
  more_others xs old new x q more =
      list_any-append (is_at (R q)) xs new ∙ ap (λ b. list_any (is_at (R q)) xs || b) more
      ∙ either_last (list_any (is_at (R q)) xs) (is_at (R x) q) (contains R old q) ∙ ap (cond (is_at (R x) q) true) (sym (list_any-append (is_at (R q)) xs old))

  -- the others are sorted into the row
  pub sorted_in : (xs ys zs rest : List K) (q : K) → IsPermutation (xs ++ ys) zs → rest ≡ [] → contains R (zs ++ rest) q ≡ contains R (xs ++ ys) q
  sorted_in xs ys zs rest q same none = ap (λ ks. list_any (is_at (R q)) (zs ++ ks)) none ∙ ap (list_any (is_at (R q))) (append-nil zs) ∙ sym (list_any-IsPermutation (is_at (R q)) (xs ++ ys) zs same)
