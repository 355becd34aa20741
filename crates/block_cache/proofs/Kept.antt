-- What is kept after a block was used, put or taken out.
use Rattle.std.proofs.Common.{◌≡◌, ◌≢◌, ℕ, zero, suc, ◌-◌, ◌≤◌, ◌<◌, true, false, cond, List, [], ◌∷◌, take, length, nat_eq, option_map, Option, Some, None, refl, sym, ap, subst, ◌∙◌, inl, inr, arith}
use Rattle.std.specs.Cmp.{nat_eq_equiv}
use Rattle.std.specs.List.{AllByRecursion, IsDistinct}
use Rattle.std.specs.Prelude.{IsSome}
use Rattle.std.specs.Map.{lookup, lookup_entry, remove_entry, set_value, keys_of}
use Rattle.std.specs.Option.{option_map_or}
use Rattle.std.proofs.lemmas.Map.{lookup-remove_entry, lookup-set_value, length-set_value}
use Rattle.std.proofs.lemmas.Bool.{eqb-true}
use Rattle.std.proofs.lemmas.Bool.Decides.{eqb_tells}
use Rattle.lru.specs.LruCache.{LruCache, promoted, put_entries}
use Rattle.lru.proofs.CallerLemmas.{Contains-lookup_entry}
use Rattle.lru.proofs.Pairs.{lookup-lookup_entry}

whole : {X : Type 0} (xs : List X) (k : ℕ) → length xs ≤ k → take k xs ≡ xs
whole [] zero h = refl
whole [] (suc k) h = refl
whole (x ∷ xs) zero h = absurd (omega arith)
whole (x ∷ xs) (suc k) h = ap (λ l. x ∷ l) (whole xs k (omega arith))

pub unlike : (m n : ℕ) → m ≢ n → nat_eq m n ≡ false
unlike m n other = elim (eqb_tells m n) [
  | inl same ↦ absurd (other same.1)
  | inr ne ↦ ne.0
]

module _ {V : Type 0} where
  -- a block that is taken out is found no more
  pub lookup-gone : (n : ℕ) (es : List (ℕ × V)) → IsDistinct nat_eq (keys_of es) → lookup (nat_eq n) (remove_entry (nat_eq n) es) ≡ None
  lookup-gone n es distinct = let gone = lookup-remove_entry nat_eq_equiv (nat_eq n) (nat_eq_equiv.congr n) n es distinct in let same = nat_eq_equiv.refl n in rw same at gone

  -- and the others are found as before
  pub removed_other : (m n : ℕ) (es : List (ℕ × V)) → m ≢ n → lookup (nat_eq m) (remove_entry (nat_eq n) es) ≡ lookup (nat_eq m) es
  removed_other m n [] other = refl
  removed_other m n (e ∷ es) other = (elim (nat_eq n e.0) as (λ y. nat_eq n e.0 ≡ y → lookup (nat_eq m) (remove_entry (nat_eq n) (e ∷ es)) ≡ lookup (nat_eq m) (e ∷ es)) [
    | true ↦ λ t. let apart : nat_eq m e.0 ≡ false = unlike m e.0 (λ same. other (same ∙ sym (eqb-true n e.0 t))) in rw (t, apart) refl
    | false ↦ λ t. rw t (ap (λ o. cond (nat_eq m e.0) (Some e.1) o) (removed_other m n es other))
  ]) refl

  -- what is found among the first was there
  pub taken_among : (m k : ℕ) (es : List (ℕ × V)) (v : V) → lookup (nat_eq m) (take k es) ≡ Some v → lookup (nat_eq m) es ≡ Some v
  taken_among m zero es v is = cc
  taken_among m (suc k) [] v is = is
  taken_among m (suc k) (e ∷ es) v is = (elim (nat_eq m e.0) as (λ y. nat_eq m e.0 ≡ y → lookup (nat_eq m) (e ∷ es) ≡ Some v) [
    | true ↦ λ t. let here = rw t at is in rw t here
    | false ↦ λ t. rw t (taken_among m k es v (rw t at is))
  ]) refl

  missing : (n : ℕ) (es : List (ℕ × V)) → lookup_entry (nat_eq n) es ≡ None → remove_entry (nat_eq n) es ≡ es
  missing n [] h = refl
  missing n (e ∷ es) h = (elim (nat_eq n e.0) as (λ y. nat_eq n e.0 ≡ y → remove_entry (nat_eq n) (e ∷ es) ≡ e ∷ es) [
    | true ↦ λ t. let h' = rw t at h in cc
    | false ↦ λ t. rw t (ap (λ l. e ∷ l) (missing n es (rw t at h)))
  ]) refl

  shorter : (n : ℕ) (es : List (ℕ × V)) (e : ℕ × V) → lookup_entry (nat_eq n) es ≡ Some e → suc (length (remove_entry (nat_eq n) es)) ≡ length es
  shorter n [] e h = cc
  shorter n (f ∷ es) e h = (elim (nat_eq n f.0) as (λ y. nat_eq n f.0 ≡ y → suc (length (remove_entry (nat_eq n) (f ∷ es))) ≡ length (f ∷ es)) [
    | true ↦ λ t. rw t refl
    | false ↦ λ t. rw t (ap suc (shorter n es e (rw t at h)))
  ]) refl

  pub removed_fits : (n : ℕ) (es : List (ℕ × V)) → length (remove_entry (nat_eq n) es) ≤ length es
  removed_fits n es = by (lookup_entry (nat_eq n) es) refl
    where
      by : (o : Option (ℕ × V)) → lookup_entry (nat_eq n) es ≡ o → length (remove_entry (nat_eq n) es) ≤ length es
      by None was = let same = ap length (missing n es was) in omega arith
      by (Some e) was = let less = shorter n es e was in omega arith

  all-removed : (P : ℕ → Type 0) (n : ℕ) (es : List (ℕ × V)) → AllByRecursion P (keys_of es) → AllByRecursion P (keys_of (remove_entry (nat_eq n) es))
  all-removed P n [] all = tt
  all-removed P n (e ∷ es) all = elim (nat_eq n e.0) as (λ b. AllByRecursion P (keys_of (cond b es (e ∷ remove_entry (nat_eq n) es)))) [
    | true ↦ all.1
    | false ↦ (all.0, all-removed P n es all.1)
  ]

  all-take : (P : ℕ → Type 0) (k : ℕ) (es : List (ℕ × V)) → AllByRecursion P (keys_of es) → AllByRecursion P (keys_of (take k es))
  all-take P zero es all = tt
  all-take P (suc k) [] all = tt
  all-take P (suc k) (e ∷ es) all = (all.0, all-take P k es all.1)

  -- numbers that are distinct stay so
  pub distinct-removed : (n : ℕ) (es : List (ℕ × V)) → IsDistinct nat_eq (keys_of es) → IsDistinct nat_eq (keys_of (remove_entry (nat_eq n) es))
  unfolding IsDistinct
  distinct-removed n [] distinct = tt
  distinct-removed n (e ∷ es) distinct = elim (nat_eq n e.0) as (λ b. IsDistinct nat_eq (keys_of (cond b es (e ∷ remove_entry (nat_eq n) es)))) [
    | true ↦ distinct.1
    | false ↦ (all-removed (λ y. nat_eq e.0 y ≡ false) n es distinct.0, distinct-removed n es distinct.1)
  ]

  distinct-take : (k : ℕ) (es : List (ℕ × V)) → IsDistinct nat_eq (keys_of es) → IsDistinct nat_eq (keys_of (take k es))
  unfolding IsDistinct
  distinct-take zero es distinct = tt
  distinct-take (suc k) [] distinct = tt
  distinct-take (suc k) (e ∷ es) distinct = (all-take (λ y. nat_eq e.0 y ≡ false) k es distinct.0, distinct-take k es distinct.1)

  none-removed : (n : ℕ) (es : List (ℕ × V)) → IsDistinct nat_eq (keys_of es) → AllByRecursion (λ y. nat_eq n y ≡ false) (keys_of (remove_entry (nat_eq n) es))
  unfolding IsDistinct
  none-removed n [] distinct = tt
  none-removed n (e ∷ es) distinct = (elim (nat_eq n e.0) as (λ b. nat_eq n e.0 ≡ b → AllByRecursion (λ y. nat_eq n y ≡ false) (keys_of (cond b es (e ∷ remove_entry (nat_eq n) es)))) [
    | true ↦ λ t. subst (λ m. AllByRecursion (λ y. nat_eq m y ≡ false) (keys_of es)) (sym (eqb-true n e.0 t)) distinct.0
    | false ↦ λ t. (t, none-removed n es distinct.1)
  ]) refl

  pub distinct-first : (cap n : ℕ) (v : V) (es : List (ℕ × V)) → IsDistinct nat_eq (keys_of es) → IsDistinct nat_eq (keys_of (take cap ((n, v) ∷ remove_entry (nat_eq n) es)))
  unfolding IsDistinct
  distinct-first cap n v es distinct = distinct-take cap ((n, v) ∷ remove_entry (nat_eq n) es) (none-removed n es distinct, distinct-removed n es distinct)

  -- one that is found goes first with what it then has, and all that was kept stays
  found_first : (n cap : ℕ) (w : V) (es : List (ℕ × V)) (e : ℕ × V) → length es ≤ cap → lookup_entry (nat_eq n) es ≡ Some e → (e.0, w) ∷ remove_entry (nat_eq n) es ≡ take cap ((n, w) ∷ remove_entry (nat_eq n) es)
  found_first n cap w es e fits was =
      let key : n ≡ e.0 = eqb-true n e.0 (Contains-lookup_entry (nat_eq n) es e was).1 in
      let long : length ((n, w) ∷ remove_entry (nat_eq n) es) ≤ cap = omega (arith, shorter n es e was) in
      ap (λ k. (k, w) ∷ remove_entry (nat_eq n) es) (sym key) ∙ sym (whole _ cap long)

  -- a block that is used goes first
  pub promoted_first : (n cap : ℕ) (v : V) (es : List (ℕ × V)) → length es ≤ cap → lookup (nat_eq n) es ≡ Some v → promoted (nat_eq n) es ≡ take cap ((n, v) ∷ remove_entry (nat_eq n) es)
  promoted_first n cap v es fits is = by (lookup_entry (nat_eq n) es) refl
    where
      value : option_map (λ (f : ℕ × V). f.1) (lookup_entry (nat_eq n) es) ≡ Some v
      value = lookup-lookup_entry (nat_eq n) es ∙ is

      by : (o : Option (ℕ × V)) → lookup_entry (nat_eq n) es ≡ o → option_map_or (λ e. e ∷ remove_entry (nat_eq n) es) o es ≡ take cap ((n, v) ∷ remove_entry (nat_eq n) es)
      by None was = let none = rw was at value in cc
      by (Some e) was = let told : Some e.1 ≡ Some v = rw was at value in let same : e.1 ≡ v = cc in subst (λ w. e ∷ remove_entry (nat_eq n) es ≡ take cap ((n, w) ∷ remove_entry (nat_eq n) es)) same (found_first n cap e.1 es e fits was)

  removed_written : (n : ℕ) (w : V) (es : List (ℕ × V)) → remove_entry (nat_eq n) (set_value (nat_eq n) es w) ≡ remove_entry (nat_eq n) es
  removed_written n w [] = refl
  removed_written n w (e ∷ es) = (elim (nat_eq n e.0) as (λ y. nat_eq n e.0 ≡ y → remove_entry (nat_eq n) (set_value (nat_eq n) (e ∷ es) w) ≡ remove_entry (nat_eq n) (e ∷ es)) [
    | true ↦ λ t. rw (t, t) refl
    | false ↦ λ t. rw (t, t) (ap (λ l. e ∷ l) (removed_written n w es))
  ]) refl

  -- a block that is written over and then used goes first
  pub written_first : (n cap : ℕ) (v w : V) (es : List (ℕ × V)) → length es ≤ cap → lookup (nat_eq n) es ≡ Some v → promoted (nat_eq n) (set_value (nat_eq n) es w) ≡ take cap ((n, w) ∷ remove_entry (nat_eq n) es)
  written_first n cap v w es fits is = promoted_first n cap w (set_value (nat_eq n) es w) (rw (length-set_value (nat_eq n) es w) fits) found ∙ ap (λ l. take cap ((n, w) ∷ l)) (removed_written n w es)
    where
      found : lookup (nat_eq n) (set_value (nat_eq n) es w) ≡ Some w
      found = let told = lookup-set_value nat_eq_equiv (nat_eq n) (nat_eq_equiv.congr n) n w es (subst IsSome (sym is) refl) in let same = nat_eq_equiv.refl n in rw same at told

  -- a block that is put goes first
  pub put_first : (c : LruCache ℕ V) (n : ℕ) (w : V) → length c.entries ≤ c.cap → 0 < c.cap → put_entries nat_eq c n w ≡ take c.cap ((n, w) ∷ remove_entry (nat_eq n) c.entries)
  put_first c n w fits some = by (lookup_entry (nat_eq n) c.entries) refl
    where
      front : (k : ℕ) (l : List (ℕ × V)) → 0 < k → (n, w) ∷ take (k - 1) l ≡ take k ((n, w) ∷ l)
      front zero l h = absurd (omega arith)
      front (suc k) l h = let one : suc k - 1 ≡ k = omega arith in ap (λ i. (n, w) ∷ take i l) one

      by : (o : Option (ℕ × V)) → lookup_entry (nat_eq n) c.entries ≡ o → option_map_or (λ e. (e.0, w) ∷ remove_entry (nat_eq n) c.entries) o ((n, w) ∷ take (c.cap - 1) c.entries) ≡ take c.cap ((n, w) ∷ remove_entry (nat_eq n) c.entries)
      by None was = front c.cap c.entries some ∙ ap (λ l. take c.cap ((n, w) ∷ l)) (sym (missing n c.entries was))
      by (Some e) was = found_first n c.cap w c.entries e fits was
