-- The lists that an undo leaves.
use Rattle.std.proofs.Common.{◌≡◌, ℕ, refl, sym, ◌∙◌, ap, subst, arith, List, [], ◌∷◌, length, ◌+◌, ◌≤◌, Bool, true, false, cond, Option, None, Some}
use Rattle.std.proofs.lemmas.List.Sums.{sum_by-cons}
use Rattle.std.proofs.lemmas.Map.Entries.{lookup-filter-values, option_filter}
use Rattle.std.specs.Cmp.{nat_eq_equiv}
use Rattle.std.specs.Prelude.{nat_eq, nat_lt, filter}
use Rattle.std.specs.List.{IsDistinct}
use Rattle.std.specs.Map.{lookup, keys_of, values_of}
use Rattle.kept_names.specs.declared.names.Kept.{Kept}
use Rattle.kept_names.specs.Kept.{NamesState, kept_at, AreKept}
use Rattle.kept_names.proofs.Counts.{names_of}

-- whether a list was not changed by a group
abbrev is_old : ℕ → ℕ × Kept → Bool
is_old group e = nat_lt e.1.group group

names_cons : (e : ℕ × Kept) (es : List (ℕ × Kept)) → names_of (e ∷ es) ≡ length e.1.list + names_of es
names_cons e es = sum_by-cons (λ k. length k.list) e.1 (values_of es)

filtered_fewer : (group : ℕ) (es : List (ℕ × Kept)) → names_of (filter (is_old group) es) ≤ names_of es
filtered_fewer group [] = omega arith
filtered_fewer group (e ∷ es) = by_test (is_old group e) (filtered_fewer group es)
  where
    by_test : (b : Bool) → names_of (filter (is_old group) es) ≤ names_of es → names_of (cond b (e ∷ filter (is_old group) es) (filter (is_old group) es)) ≤ names_of (e ∷ es)
    by_test true less = omega (arith, less, names_cons e es, names_cons e (filter (is_old group) es))
    by_test false less = omega (arith, less, names_cons e es)

module _ (group : ℕ) (es fs : List (ℕ × Kept)) (is : fs ≡ filter (is_old group) es) where
  pub left_fewer : names_of fs ≤ names_of es
  left_fewer = subst (λ gs. names_of gs ≤ names_of es) (sym is) (filtered_fewer group es)

  module _ (unique : IsDistinct nat_eq (keys_of es)) (node : ℕ) where
    found : lookup (nat_eq node) fs ≡ option_filter (λ k. nat_lt k.group group) (lookup (nat_eq node) es)
    found = ap (lookup (nat_eq node)) is ∙ lookup-filter-values nat_eq_equiv (λ k. nat_lt k.group group) node es unique

    pub stays : (k : Kept) → lookup (nat_eq node) es ≡ Some k → nat_lt k.group group ≡ true → lookup (nat_eq node) fs ≡ Some k
    stays k at less = found ∙ ap (option_filter (λ k. nat_lt k.group group)) at ∙ ap (λ b. cond b (Some k) None) less

    pub was_old : (k : Kept) → lookup (nat_eq node) fs ≡ Some k → (lookup (nat_eq node) es ≡ Some k) × (nat_lt k.group group ≡ true)
    was_old k at = by_found (lookup (nat_eq node) es) refl (sym found ∙ at)
      where
        by_test : (x : Kept) (b : Bool) → nat_lt x.group group ≡ b → lookup (nat_eq node) es ≡ Some x → cond b (Some x) None ≡ Some k → (lookup (nat_eq node) es ≡ Some k) × (nat_lt k.group group ≡ true)
        by_test x true less e h = let same : x ≡ k = cc in (e ∙ ap (λ y. Some y) same, subst (λ y. nat_lt y.group group ≡ true) same less)
        by_test x false less e h = cc

        by_found : (o : Option Kept) → lookup (nat_eq node) es ≡ o → option_filter (λ k. nat_lt k.group group) o ≡ Some k → (lookup (nat_eq node) es ≡ Some k) × (nat_lt k.group group ≡ true)
        by_found None e h = cc
        by_found (Some x) e h = by_test x (nat_lt x.group group) refl e h

-- they are those of the children as they were
pub undone_tied : (old new : NamesState) (now was : ℕ → List (List ℕ × ℕ)) → AreKept old now was → new.group ≡ old.group
    → ((node : ℕ) (k : Kept) → kept_at new node ≡ Some k → (kept_at old node ≡ Some k) × (nat_lt k.group old.group ≡ true)) → AreKept new was was
undone_tied old new now was are group left = record {
  work = λ node k at. let l = left node k at in are.undo node k l.0 l.1;
  undo = λ node k at less. let l = left node k at in are.undo node k l.0 l.1;
}
