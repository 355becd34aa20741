-- Lists that are kept stay those of the children where a list is altered as the children are.
use Rattle.std.proofs.Common.{◌≡◌, ℕ, refl, sym, ◌∙◌, ap, subst, arith, List, Bool, true, false, Option, None, Some}
use Rattle.std.proofs.lemmas.Bool.Decides.{nat_tests}
use Rattle.std.specs.Prelude.{nat_eq, nat_lt, option_map, cond}
use Rattle.kept_names.specs.declared.names.Kept.{Kept}
use Rattle.kept_names.specs.Kept.{NamesState, kept_at, list_at, AreKept, Alters, changed}

same : (a b : ℕ) → nat_eq a b ≡ true → a ≡ b
same a b h = grind (arith, nat_tests)

no_less : {P : Type 0} (a b : ℕ) → a ≡ b → nat_lt a b ≡ true → P
no_less a b is h = absurd (grind (arith, nat_tests))

pub list_kept : (names : NamesState) (now was : ℕ → List (List ℕ × ℕ)) (node : ℕ) (l : List (List ℕ × ℕ)) → AreKept names now was → list_at names node ≡ Some l → l ≡ now node
list_kept names now was node l are e = by_kept (kept_at names node) refl e
  where
    by_kept : (o : Option Kept) → kept_at names node ≡ o → option_map (λ (k : Kept). k.list) o ≡ Some l → l ≡ now node
    by_kept None at e = cc
    by_kept (Some k) at e = let is : k.list ≡ l = cc in sym is ∙ are.work node k at

pub altered_tied : (f : List (List ℕ × ℕ) → List (List ℕ × ℕ)) (node : ℕ) (old new : NamesState) (now was : ℕ → List (List ℕ × ℕ)) → Alters node (option_map f (list_at old node)) old new → AreKept old now was → AreKept new (changed now node (f (now node))) was
altered_tied f node old new now was a are = record { work = λ q k at. by_node q k at (nat_eq node q) refl; undo = λ q k at less. undone q k at less (nat_eq node q) refl }
  where
    this : (k : Kept) → kept_at new node ≡ Some k → k.list ≡ f (now node)
    this k at = by_list (list_at old node) refl (a.this k at).0
      where
        by_list : (o : Option (List (List ℕ × ℕ))) → list_at old node ≡ o → option_map f o ≡ Some k.list → k.list ≡ f (now node)
        by_list None e h = cc
        by_list (Some l) e h = let is : f l ≡ k.list = cc in sym is ∙ ap f (list_kept old now was node l are e)

    by_node : (q : ℕ) (k : Kept) → kept_at new q ≡ Some k → (b : Bool) → nat_eq node q ≡ b → k.list ≡ changed now node (f (now node)) q
    by_node q k at true e =
        let is : node ≡ q = same node q e in
        this k (subst (λ n. kept_at new n ≡ Some k) (sym is) at) ∙ sym (ap (λ b. cond b (f (now node)) (now q)) e)
    by_node q k at false e = are.work q k (sym (a.others q e) ∙ at) ∙ sym (ap (λ b. cond b (f (now node)) (now q)) e)

    undone : (q : ℕ) (k : Kept) → kept_at new q ≡ Some k → nat_lt k.group new.group ≡ true → (b : Bool) → nat_eq node q ≡ b → k.list ≡ was q
    undone q k at less true e =
        let is : node ≡ q = same node q e in
        no_less k.group new.group ((a.this k (subst (λ n. kept_at new n ≡ Some k) (sym is) at)).1 ∙ sym a.group) less
    undone q k at less false e = are.undo q k (sym (a.others q e) ∙ at) (subst (λ g. nat_lt k.group g ≡ true) a.group less)

-- what is made of a list that was taken out and is put back
pub put_altered : (node : ℕ) (made : Option (List (List ℕ × ℕ))) (l : List (List ℕ × ℕ)) (old mid new : NamesState) → made ≡ Some l → mid.group ≡ old.group → ((q : ℕ) → nat_eq node q ≡ false → kept_at mid q ≡ kept_at old q)
    → Alters node (Some l) mid new → Alters node made old new
put_altered node made l old mid new is group others a = record {
  group = a.group ∙ group;
  others = λ q apart. a.others q apart ∙ others q apart;
  this = λ k at. let t = a.this k at in (is ∙ t.0, t.1 ∙ group);
}

-- a list that is dropped is that of any children
pub dropped_tied : (node : ℕ) (list : List (List ℕ × ℕ)) (old new : NamesState) (now was : ℕ → List (List ℕ × ℕ)) → Alters node None old new → AreKept old now was → AreKept new (changed now node list) was
dropped_tied node list old new now was a are = record { work = λ q k at. by_node q k at (nat_eq node q) refl; undo = λ q k at less. undone q k at less (nat_eq node q) refl }
  where
    none : {P : Type 0} (k : Kept) → kept_at new node ≡ Some k → P
    none k at = let e = (a.this k at).0 in cc

    by_node : (q : ℕ) (k : Kept) → kept_at new q ≡ Some k → (b : Bool) → nat_eq node q ≡ b → k.list ≡ changed now node list q
    by_node q k at true e = none k (subst (λ n. kept_at new n ≡ Some k) (sym (same node q e)) at)
    by_node q k at false e = are.work q k (sym (a.others q e) ∙ at) ∙ sym (ap (λ b. cond b list (now q)) e)

    undone : (q : ℕ) (k : Kept) → kept_at new q ≡ Some k → nat_lt k.group new.group ≡ true → (b : Bool) → nat_eq node q ≡ b → k.list ≡ was q
    undone q k at less true e = none k (subst (λ n. kept_at new n ≡ Some k) (sym (same node q e)) at)
    undone q k at less false e = are.undo q k (sym (a.others q e) ∙ at) (subst (λ g. nat_lt k.group g ≡ true) a.group less)

pub gone_altered : (node : ℕ) (old new : NamesState) → new.group ≡ old.group → ((q : ℕ) → nat_eq node q ≡ false → kept_at new q ≡ kept_at old q) → kept_at new node ≡ None → Alters node None old new
gone_altered node old new group others gone = record { group = group; others = others; this = λ k at. absurd (none k (sym gone ∙ at)) }
  where
    none : (k : Kept) → ◌≡◌ {A = Option Kept} None (Some k) → ⊥
    none k e = cc
