-- Children with a name, of whom one is left out.
use Rattle.std.proofs.Common.{◌≡◌, ◌≢◌, ◌⊎◌, inl, inr, ℕ, suc, refl, sym, ◌∙◌, ap, arith, List, [], ◌∷◌, map, ◌<◌, ◌≤◌, Bool, true, false, not, ◌||◌}
use Rattle.std.proofs.lemmas.Bool.Decides.{eqb_tells}
use Rattle.std.specs.Prelude.{Some, slice_get, is_some, ◌==◌, filter, bytes_eq, cond}
use Rattle.adf_format.specs.Tree.{Tree, IsAmong, is_among, name_at, first_named, AllDiffer}
use Rattle.adf_model.proofs.Basics.{not_true, or_right, among_head}
use Rattle.adf_model.proofs.Writes.Reaches.{less_or}
use Rattle.layout_laws.proofs.NodesStand.{differ_at}

-- what is among is at an index
pub listed_at : (xs : List ℕ) (c : ℕ) → IsAmong xs c → (i : ℕ) × (slice_get xs i ≡ Some c)
listed_at [] c h = absurd (not_true h)
listed_at (x ∷ xs) c h = elim (eqb_tells x c) [
  | inl t ↦ (0, ap (λ y. Some y) t.1)
  | inr t ↦ let rest = listed_at xs c (sym (ap (λ b. b || is_among xs c) t.0) ∙ h) in (suc rest.0, rest.1)
]

abbrev pub without : ℕ → List ℕ → List ℕ
without s xs = filter (λ c. not (c == s)) xs

-- none but the one that is left out has the name
pub none_other : (tree : Tree) (s : ℕ) (name : List ℕ) (xs : List ℕ) → ((c : ℕ) → IsAmong xs c → c ≢ s → bytes_eq (name_at tree c) name ≡ false) → is_some (first_named tree (filter (λ c. not (c == s)) xs) name) ≡ false
none_other tree s name [] none = refl
none_other tree s name (x ∷ xs) none = step (x == s) refl (none_other tree s name xs (λ c h. none c (or_right (x == c) (is_among xs c) h)))
  where
    step : (t : Bool) → (x == s) ≡ t → is_some (first_named tree (without s xs) name) ≡ false → is_some (first_named tree (cond (not t) (x ∷ without s xs) (without s xs)) name) ≡ false
    step true e rest = rest
    step false e rest =
        let differ : x ≢ s = elim (eqb_tells x s) [ inl t ↦ absurd (not_true (sym e ∙ t.0)) | inr t ↦ t.1 ] in
        ap (λ b. is_some (cond b (Some x) (first_named tree (without s xs) name))) (none x (among_head x xs) differ) ∙ rest

-- one that is not left out has the name
pub some_other : (tree : Tree) (s : ℕ) (name : List ℕ) (xs : List ℕ) (c : ℕ) → IsAmong xs c → c ≢ s → bytes_eq (name_at tree c) name ≡ true → is_some (first_named tree (filter (λ c. not (c == s)) xs) name) ≡ true
some_other tree s name [] c h differ same = absurd (not_true h)
some_other tree s name (x ∷ xs) c h differ same = step (x == s) refl (λ apart. some_other tree s name xs c (behind apart) differ same)
  where
    behind : x ≢ c → IsAmong xs c
    behind apart = elim (eqb_tells x c) [ inl t ↦ absurd (apart t.1) | inr t ↦ sym (ap (λ b. b || is_among xs c) t.0) ∙ h ]

    left_out : (x == s) ≡ true → x ≡ s
    left_out e = elim (eqb_tells x s) [ inl t ↦ t.1 | inr t ↦ absurd (not_true (sym t.0 ∙ e)) ]

    by_name : (u : Bool) → bytes_eq (name_at tree x) name ≡ u → (x ≢ c → is_some (first_named tree (without s xs) name) ≡ true) → is_some (cond (bytes_eq (name_at tree x) name) (Some x) (first_named tree (without s xs) name)) ≡ true
    by_name true f again = ap (λ b. is_some (cond b (Some x) (first_named tree (without s xs) name))) f
    by_name false f again =
        ap (λ b. is_some (cond b (Some x) (first_named tree (without s xs) name))) f
        ∙ again (λ e. not_true (sym f ∙ ap (λ k. bytes_eq (name_at tree k) name) e ∙ same))

    step : (t : Bool) → (x == s) ≡ t → (x ≢ c → is_some (first_named tree (without s xs) name) ≡ true) → is_some (first_named tree (cond (not t) (x ∷ without s xs) (without s xs)) name) ≡ true
    step true e again = again (λ same_c. differ (sym same_c ∙ left_out e))
    step false e again = by_name (bytes_eq (name_at tree x) name) refl again

-- children with different names: those at two indexes with the same name are at one
pub one_index : (f : ℕ → List ℕ) (xs : List ℕ) (i j c d : ℕ) → AllDiffer (map f xs) → slice_get xs i ≡ Some c → slice_get xs j ≡ Some d → f c ≡ f d → i ≡ j
one_index f xs i j c d differ here there same = ordered (less_or i j)
  where
    behind : j ≤ i → (j < i) ⊎ (i ≤ j) → i ≡ j
    behind le (inl lt) = absurd (differ_at f xs j i d c differ there here lt (sym same))
    behind le (inr ge) = omega (arith, le, ge)

    ordered : (i < j) ⊎ (j ≤ i) → i ≡ j
    ordered (inl lt) = absurd (differ_at f xs i j c d differ here there lt same)
    ordered (inr le) = behind le (less_or j i)
