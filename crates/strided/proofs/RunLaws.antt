-- Lists of runs: one more run behind them, and that a list is known by its elements.
use Rattle.std.proofs.Common.{◌≡◌, ◌≢◌, ℕ, zero, suc, ◌+◌, ◌-◌, ◌<◌, ◌≤◌, List, [], ◌∷◌, ◌++◌, length, take, get_or, set, refl, sym, ◌∙◌, ap, subst, arith, append_assoc}
use Rattle.std.specs.List.{range_with_len}
use Rattle.std.proofs.lemmas.List.{append-nil, set_split, take_more, take_all, drop_all}
use Rattle.std.proofs.lemmas.Grind.{flat_map-append}
use Rattle.adf_model.specs.declared.lists.Run.{Run}
use Rattle.strided.specs.RunLists.{elements_of, spread, BeginsElsewhere, AreMaximal}

-- ---- numbers one behind another

pub range-add : (a m n : ℕ) → range_with_len a (m + n) ≡ range_with_len a m ++ range_with_len (a + m) n
range-add a zero n = let e : 0 + n ≡ n = omega arith in let s : a ≡ a + 0 = omega arith in ap (range_with_len a) e ∙ ap (λ b. range_with_len b n) s
range-add a (suc m) n =
    let e : suc m + n ≡ suc (m + n) = omega arith in
    let s : a + 1 + m ≡ a + suc m = omega arith in
    ap (range_with_len a) e ∙ ap (λ xs. a ∷ xs) (range-add (a + 1) m n ∙ ap (λ b. range_with_len (a + 1) m ++ range_with_len b n) s)

-- ---- one more run

pub spread-push : (runs : List Run) (run : Run) → spread (runs ++ run ∷ []) ≡ spread runs ++ elements_of run
spread-push runs run = flat_map-append elements_of runs (run ∷ []) ∙ ap (λ xs. spread runs ++ xs) (append-nil (elements_of run))

-- the last run with as many more elements
pub spread-longer : (runs : List Run) (first count more : ℕ) → spread (runs ++ record { first = first; count = count + more } ∷ []) ≡ spread (runs ++ record { first = first; count = count } ∷ []) ++ range_with_len (first + count) more
spread-longer runs first count more =
    spread-push runs (record { first = first; count = count + more })
    ∙ ap (λ xs. spread runs ++ xs) (range-add first count more)
    ∙ sym (append_assoc (spread runs) (range_with_len first count) (range_with_len (first + count) more))
    ∙ ap (λ xs. xs ++ range_with_len (first + count) more) (sym (spread-push runs (record { first = first; count = count })))

pub AreMaximal-longer : (runs : List Run) (first count longer : ℕ) → count ≤ longer → AreMaximal (runs ++ record { first = first; count = count } ∷ []) → AreMaximal (runs ++ record { first = first; count = longer } ∷ [])
AreMaximal-longer [] first count longer le m = (omega (arith, le, m.0), tt, tt)
AreMaximal-longer (run ∷ []) first count longer le m = (m.0, m.1, AreMaximal-longer [] first count longer le m.2)
AreMaximal-longer (run ∷ next ∷ runs) first count longer le m = (m.0, m.1, AreMaximal-longer (next ∷ runs) first count longer le m.2)

pub AreMaximal-push : (runs : List Run) (last run : Run) → last.first + last.count ≢ run.first → 1 ≤ run.count → AreMaximal (runs ++ last ∷ []) → AreMaximal ((runs ++ last ∷ []) ++ run ∷ [])
AreMaximal-push [] last run ne some m = (m.0, ne, (some, tt, tt))
AreMaximal-push (before ∷ []) last run ne some m = (m.0, m.1, AreMaximal-push [] last run ne some m.2)
AreMaximal-push (before ∷ next ∷ runs) last run ne some m = (m.0, m.1, AreMaximal-push (next ∷ runs) last run ne some m.2)

-- ---- the last run of a list, as a read and a write of it give it

pub split_last : (runs : List Run) (n : ℕ) (last : Run) → n ≡ length runs → 0 < n → last ≡ get_or runs (n - 1) last → runs ≡ take (n - 1) runs ++ last ∷ []
split_last runs n last e some at =
    let k : n - 1 + 1 ≡ n = omega (arith, some) in
    sym (take_all n runs (omega (arith, e))) ∙ ap (λ m. take m runs) (sym k) ∙ take_more runs (n - 1) last (omega (arith, e, some)) ∙ ap (λ run. take (n - 1) runs ++ run ∷ []) (sym at)

set_last : (runs : List Run) (n : ℕ) (run : Run) → n ≡ length runs → 0 < n → set runs (n - 1) run ≡ take (n - 1) runs ++ run ∷ []
set_last runs n run e some = set_split runs (n - 1) run (omega (arith, e, some)) ∙ ap (λ rest. take (n - 1) runs ++ run ∷ rest) (drop_all (suc (n - 1)) runs (omega (arith, e, some)))

module _ (runs : List Run) (n : ℕ) (last run : Run) (e : n ≡ length runs) (some : 0 < n) (at : last ≡ get_or runs (n - 1) last) where
  -- the last run grows by one that begins at its end
  pub spread-joined : last.first + last.count ≡ run.first → spread (set runs (n - 1) (record { first = last.first; count = last.count + run.count })) ≡ spread runs ++ elements_of run
  spread-joined meets =
      ap spread (set_last runs n (record { first = last.first; count = last.count + run.count }) e some)
      ∙ spread-longer (take (n - 1) runs) last.first last.count run.count
      ∙ ap (λ first. spread (take (n - 1) runs ++ last ∷ []) ++ range_with_len first run.count) meets
      ∙ ap (λ all. spread all ++ elements_of run) (sym (split_last runs n last e some at))

  pub AreMaximal-joined : AreMaximal runs → AreMaximal (set runs (n - 1) (record { first = last.first; count = last.count + run.count }))
  AreMaximal-joined m =
      subst AreMaximal (sym (set_last runs n (record { first = last.first; count = last.count + run.count }) e some))
      (AreMaximal-longer (take (n - 1) runs) last.first last.count (last.count + run.count) (omega arith) (subst AreMaximal (split_last runs n last e some at) m))

  -- a run that begins elsewhere stands behind it
  pub AreMaximal-behind : last.first + last.count ≢ run.first → 1 ≤ run.count → AreMaximal runs → AreMaximal (runs ++ run ∷ [])
  AreMaximal-behind ne one m =
      let split = split_last runs n last e some at in
      subst (λ (all : List Run). AreMaximal (all ++ run ∷ [])) (sym split) (AreMaximal-push (take (n - 1) runs) last run ne one (subst AreMaximal split m))

pub AreMaximal-one : (runs : List Run) (run : Run) → length runs ≡ 0 → 1 ≤ run.count → AreMaximal (runs ++ run ∷ [])
AreMaximal-one [] run e some = (some, tt, tt)
AreMaximal-one (r ∷ runs) run e some = absurd (omega (arith, e))

-- ---- one list for the elements

-- a list begins with no such number
abbrev NotHead : ℕ → List ℕ → Type 0
NotHead n [] = Unit {0}
NotHead n (x ∷ xs) = n ≢ x

same_head : (x y : ℕ) (xs ys : List ℕ) → x ∷ xs ≡ y ∷ ys → x ≡ y
same_head x y xs ys e = cc

same_tail : (x y : ℕ) (xs ys : List ℕ) → x ∷ xs ≡ y ∷ ys → xs ≡ ys
same_tail x y xs ys e = cc

no_cons : (x : ℕ) (xs : List ℕ) → [] ≡ x ∷ xs → ⊥
no_cons x xs e = cc

head_not : (n x : ℕ) (xs ys : List ℕ) → xs ≡ x ∷ ys → NotHead n xs → n ≢ x
head_not n x [] ys e h = absurd (no_cons x ys e)
head_not n x (y ∷ xs) ys e h = λ same. h (same ∙ sym (same_head y x xs ys e))

-- two runs, each with what does not go on behind it
same_front : (f c g d : ℕ) (xs ys : List ℕ) → range_with_len f (suc c) ++ xs ≡ range_with_len g (suc d) ++ ys → NotHead (f + suc c) xs → NotHead (g + suc d) ys → (f ≡ g) × (c ≡ d) × (xs ≡ ys)
same_front f zero g zero xs ys e h k = (same_head f g xs ys e, refl, same_tail f g xs ys e)
same_front f zero g (suc d) xs ys e h k =
    let first : f ≡ g = same_head f g xs _ e in
    absurd (head_not (f + 1) (g + 1) xs _ (same_tail f g xs _ e) h (omega (arith, first)))
same_front f (suc c) g zero xs ys e h k =
    let first : f ≡ g = same_head f g _ ys e in
    absurd (head_not (g + 1) (f + 1) ys _ (sym (same_tail f g _ ys e)) k (omega (arith, first)))
same_front f (suc c) g (suc d) xs ys e h k =
    let a : f + suc (suc c) ≡ f + 1 + suc c = omega arith in
    let b : g + suc (suc d) ≡ g + 1 + suc d = omega arith in
    let rest = same_front (f + 1) c (g + 1) d xs ys (same_tail f g _ _ e) (subst (λ n. NotHead n xs) a h) (subst (λ n. NotHead n ys) b k) in
    (same_head f g _ _ e, ap suc rest.1, rest.2)

head_of : (run : Run) (rest : List ℕ) (n : ℕ) → 1 ≤ run.count → n ≢ run.first → NotHead n (elements_of run ++ rest)
head_of run rest n some ne = by_count run.count some
  where
    by_count : (count : ℕ) → 1 ≤ count → NotHead n (range_with_len run.first count ++ rest)
    by_count zero s = absurd (omega (arith, s))
    by_count (suc count) s = ne

goes_on_elsewhere : (n : ℕ) (runs : List Run) → BeginsElsewhere n runs → AreMaximal runs → NotHead n (spread runs)
goes_on_elsewhere n [] b m = tt
goes_on_elsewhere n (run ∷ runs) b m = head_of run (spread runs) n m.0 b

none_of_nil : (run : Run) (rest : List ℕ) → 1 ≤ run.count → [] ≡ elements_of run ++ rest → ⊥
none_of_nil run rest some e = by_count run.count some e
  where
    by_count : (count : ℕ) → 1 ≤ count → [] ≡ range_with_len run.first count ++ rest → ⊥
    by_count zero s e = absurd (omega (arith, s))
    by_count (suc count) s e = no_cons _ _ e

same_runs : (r s : Run) (xs ys : List ℕ) → 1 ≤ r.count → 1 ≤ s.count → NotHead (r.first + r.count) xs → NotHead (s.first + s.count) ys → elements_of r ++ xs ≡ elements_of s ++ ys → (r ≡ s) × (xs ≡ ys)
same_runs r s xs ys some one h k e = by_counts r.count s.count refl refl some one
  where
    by_counts : (c d : ℕ) → r.count ≡ c → s.count ≡ d → 1 ≤ c → 1 ≤ d → (r ≡ s) × (xs ≡ ys)
    by_counts zero d p q a b = absurd (omega (arith, a))
    by_counts (suc c) zero p q a b = absurd (omega (arith, b))
    by_counts (suc c) (suc d) p q a b =
        let all : range_with_len r.first (suc c) ++ xs ≡ range_with_len s.first (suc d) ++ ys = ap (λ n. range_with_len r.first n ++ xs) (sym p) ∙ e ∙ ap (λ n. range_with_len s.first n ++ ys) q in
        let same = same_front r.first c s.first d xs ys all (subst (λ n. NotHead (r.first + n) xs) p h) (subst (λ n. NotHead (s.first + n) ys) q k) in
        let counts : r.count ≡ s.count = p ∙ ap suc same.1 ∙ sym q in
        let made : Run = record { first = s.first; count = r.count } in
        let one_field : r ≡ made = ap (λ n. record { first = n; count = r.count }) same.0 in
        let other : made ≡ s = ap (λ n. record { first = s.first; count = n }) counts in
        (one_field ∙ other, same.2)

-- runs that are as long as can be are known by their elements
pub one_list : (a b : List Run) → AreMaximal a → AreMaximal b → spread a ≡ spread b → a ≡ b
one_list [] [] m n e = refl
one_list [] (s ∷ b) m n e = absurd (none_of_nil s (spread b) n.0 e)
one_list (r ∷ a) [] m n e = absurd (none_of_nil r (spread a) m.0 (sym e))
one_list (r ∷ a) (s ∷ b) m n e =
    let same = same_runs r s (spread a) (spread b) m.0 n.0 (goes_on_elsewhere (r.first + r.count) a m.1 m.2) (goes_on_elsewhere (s.first + s.count) b n.1 n.2) e in
    ap (λ x. x ∷ a) same.0 ∙ ap (λ xs. s ∷ xs) (one_list a b m.2 n.2 same.1)
