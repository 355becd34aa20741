-- The first free chunk that is long enough.
use Rattle.std.proofs.Common.{◌≡◌, inl, inr, ℕ, suc, ◌+◌, ◌<◌, ◌≤◌, Bool, true, false, cond, max, List, [], ◌∷◌, ◌++◌, length, refl, sym, ap, ◌∙◌, arith}
use Rattle.std.specs.Prelude.{Option, Some, None, ◌&&◌, nat_le}
use Rattle.std.proofs.lemmas.Bool.Decides.{nat_tests, leb_tells}
use Rattle.adf_format.specs.declared.types.Extent.{Extent}
use Rattle.adf_format.specs.Tiles.{is_free}
use Rattle.adf_format.specs.HeapRule.{is_fit}
use Rattle.gap_tree.specs.declared.slot.Slot.{Slot}
use Rattle.gap_tree.specs.Slots.{free_length, longest_of, fit_index, one_on}

longest_append : (xs ys : List Slot) → longest_of (xs ++ ys) ≡ max (longest_of xs) (longest_of ys)
longest_append [] ys = omega arith
longest_append (x ∷ xs) ys = let ih = longest_append xs ys in omega (arith, ih)

pub longest_fork : (l : List Slot) (g : Slot) (r : List Slot) → max (free_length g.gap) (max (longest_of l) (longest_of r)) ≡ longest_of (l ++ g ∷ r)
longest_fork l g r = let a = longest_append l (g ∷ r) in omega (arith, a)

fit_is_long : (n : ℕ) (g : Extent) → 1 ≤ n → n ≤ free_length g → (is_free g && nat_le n g.length) ≡ true
fit_is_long n g some le = by_test (is_free g) le
  where
    long : (m : ℕ) → n ≤ m → nat_le n m ≡ true
    long m h = grind (arith, nat_tests)

    by_test : (t : Bool) → n ≤ cond t g.length 0 → (t && nat_le n g.length) ≡ true
    by_test true h = long g.length h
    by_test false h = absurd (omega (arith, some, h))

short_is_no_fit : (n : ℕ) (g : Extent) → free_length g < n → (is_free g && nat_le n g.length) ≡ false
short_is_no_fit n g lt = by_test (is_free g) lt
  where
    short : (m : ℕ) → m < n → nat_le n m ≡ false
    short m h = grind (arith, nat_tests)

    by_test : (t : Bool) → cond t g.length 0 < n → (t && nat_le n g.length) ≡ false
    by_test true h = short g.length h
    by_test false h = refl

none_fits : (n : ℕ) (xs : List Slot) → longest_of xs < n → fit_index n xs ≡ None
none_fits n [] lt = refl
none_fits n (x ∷ xs) lt = let off : is_fit n x.gap ≡ false = short_is_no_fit n x.gap (omega (arith, lt)) in rw off (ap one_on (none_fits n xs (omega (arith, lt))))

one_fits : (n : ℕ) (xs : List Slot) → 1 ≤ n → n ≤ longest_of xs → (i : ℕ) × (fit_index n xs ≡ Some i)
one_fits n [] some le = absurd (omega (arith, some, le))
one_fits n (x ∷ xs) some le = by_test (is_fit n x.gap) refl (one_fits n xs some)
  where
    clash : (t : Bool) → t ≡ true → t ≡ false → ⊥
    clash t p q = cc

    rest : (is_free x.gap && nat_le n x.gap.length) ≡ false → n ≤ longest_of xs
    rest off = elim (leb_tells n (free_length x.gap)) [
      | inl h ↦ absurd (clash (is_free x.gap && nat_le n x.gap.length) (fit_is_long n x.gap some h.1) off)
      | inr h ↦ (let short = h.1 in omega (arith, short, le))
    ]

    by_test : (t : Bool) → is_fit n x.gap ≡ t → (n ≤ longest_of xs → (i : ℕ) × (fit_index n xs ≡ Some i)) → (i : ℕ) × (cond t (Some 0) (one_on (fit_index n xs)) ≡ Some i)
    by_test true e ih = (0, refl)
    by_test false e ih = let f = ih (rest e) in (suc f.0, ap one_on f.1)

-- the index in what stands behind the left side
abbrev pub behind : ℕ → Option ℕ → Option ℕ
behind k None = None
behind k (Some i) = Some (k + i)

index_front : (n i : ℕ) (l r : List Slot) → fit_index n l ≡ Some i → fit_index n (l ++ r) ≡ Some i
index_front n i [] r e = cc
index_front n i (x ∷ xs) r e = by_test (is_fit n x.gap) e (fit_index n xs) refl (λ j f. index_front n j xs r f)
  where
    by_test : (t : Bool) → cond t (Some 0) (one_on (fit_index n xs)) ≡ Some i → (o : Option ℕ) → fit_index n xs ≡ o → ((j : ℕ) → fit_index n xs ≡ Some j → fit_index n (xs ++ r) ≡ Some j) → cond t (Some 0) (one_on (fit_index n (xs ++ r))) ≡ Some i
    by_test true e o f ih = e
    by_test false e None f ih = let g : one_on (fit_index n xs) ≡ None = ap one_on f in cc
    by_test false e (Some j) f ih = ap one_on (ih j f) ∙ sym (ap one_on f) ∙ e

index_behind : (n : ℕ) (l r : List Slot) → fit_index n l ≡ None → fit_index n (l ++ r) ≡ behind (length l) (fit_index n r)
index_behind n [] r e = plain (fit_index n r)
  where
    plain : (o : Option ℕ) → o ≡ behind 0 o
    plain None = refl
    plain (Some i) = let z : i ≡ 0 + i = omega arith in ap (λ j. Some j) z
index_behind n (x ∷ xs) r e = by_test (is_fit n x.gap) e (fit_index n xs) refl (λ f. index_behind n xs r f)
  where
    next : (o : Option ℕ) → one_on (behind (length xs) o) ≡ behind (suc (length xs)) o
    next None = refl
    next (Some i) = let z : suc (length xs + i) ≡ suc (length xs) + i = omega arith in ap (λ j. Some j) z

    by_test : (t : Bool) → cond t (Some 0) (one_on (fit_index n xs)) ≡ None → (o : Option ℕ) → fit_index n xs ≡ o → (fit_index n xs ≡ None → fit_index n (xs ++ r) ≡ behind (length xs) (fit_index n r))
        → cond t (Some 0) (one_on (fit_index n (xs ++ r))) ≡ behind (suc (length xs)) (fit_index n r)
    by_test true e o f ih = cc
    by_test false e None f ih = ap one_on (ih f) ∙ next (fit_index n r)
    by_test false e (Some j) f ih = let g : one_on (fit_index n xs) ≡ Some (suc j) = ap one_on f in cc

pub fit_left : (n : ℕ) (l : List Slot) (g : Slot) (r : List Slot) → 1 ≤ n → n ≤ longest_of l → fit_index n (l ++ g ∷ r) ≡ fit_index n l
fit_left n l g r some le = let f = one_fits n l some le in index_front n f.0 l (g ∷ r) f.1 ∙ sym f.1

pub fit_middle : (n k : ℕ) (l : List Slot) (g : Slot) (r : List Slot) → k ≡ length l → longest_of l < n → is_fit n g.gap ≡ true → fit_index n (l ++ g ∷ r) ≡ Some k
fit_middle n k l g r is lt on = index_behind n l (g ∷ r) (none_fits n l lt) ∙ rw on (let z : length l + 0 ≡ k = omega (arith, is) in ap (λ j. Some j) z)

fit_behind : (n : ℕ) (l : List Slot) (g : Slot) (r : List Slot) → longest_of l < n → is_fit n g.gap ≡ false → fit_index n (l ++ g ∷ r) ≡ behind (length l) (one_on (fit_index n r))
fit_behind n l g r lt off = index_behind n l (g ∷ r) (none_fits n l lt) ∙ rw off

pub fit_right : (n k i : ℕ) (l : List Slot) (g : Slot) (r : List Slot) → k ≡ length l → longest_of l < n → is_fit n g.gap ≡ false → fit_index n r ≡ Some i → fit_index n (l ++ g ∷ r) ≡ Some (k + i + 1)
fit_right n k i l g r is lt off e = fit_behind n l g r lt off ∙ ap (λ o. behind (length l) (one_on o)) e ∙ (let z : length l + suc i ≡ k + i + 1 = omega (arith, is) in ap (λ j. Some j) z)

pub fit_nowhere : (n : ℕ) (l : List Slot) (g : Slot) (r : List Slot) → longest_of l < n → is_fit n g.gap ≡ false → fit_index n r ≡ None → fit_index n (l ++ g ∷ r) ≡ None
fit_nowhere n l g r lt off e = fit_behind n l g r lt off ∙ ap (λ o. behind (length l) (one_on o)) e

pub fit_within : (n i : ℕ) (xs : List Slot) → fit_index n xs ≡ Some i → i < length xs
fit_within n i [] e = cc
fit_within n i (x ∷ xs) e = by_test (is_fit n x.gap) e (fit_index n xs) refl (λ j f. fit_within n j xs f)
  where
    same : (a b : ℕ) → ◌≡◌ {A = Option ℕ} (Some a) (Some b) → a ≡ b
    same a b e = cc

    by_test : (t : Bool) → cond t (Some 0) (one_on (fit_index n xs)) ≡ Some i → (o : Option ℕ) → fit_index n xs ≡ o → ((j : ℕ) → fit_index n xs ≡ Some j → j < length xs) → i < suc (length xs)
    by_test true e o f ih = let z = same 0 i e in omega (arith, z)
    by_test false e None f ih = let g : one_on (fit_index n xs) ≡ None = ap one_on f in cc
    by_test false e (Some j) f ih = let z = same (suc j) i (sym (ap one_on f) ∙ e) in let lt = ih j f in omega (arith, z, lt)
