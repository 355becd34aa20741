-- Rows that become none.
use Rattle.std.proofs.Common.{◌≡◌, ◌⊎◌, inl, inr, ℕ, zero, suc, refl, sym, ◌∙◌, ap, subst, arith, List, [], ◌∷◌, length, get_or, drop, ◌+◌, ◌<◌, ◌≤◌, Bool, true, false, Option, None}
use Rattle.std.proofs.lemmas.Bool.Decides.{eqb_tells}
use Rattle.std.proofs.lemmas.List.{length-set}
use Rattle.std.specs.Prelude.{slice_set, ◌==◌, ◌||◌, IfSome}
use Rattle.std.specs.List.{All}
use Rattle.adf_format.specs.Tree.{is_among, IsAmong}
use Rattle.adf_model.proofs.Basics.{or_none}
use Rattle.tree_edits.specs.declared.rows.Row.{Row}
use Rattle.tree_edits.specs.Rows.{row_of}
use Rattle.tree_deletes.specs.declared.doomed.Doomed.{Doomed}
use Rattle.tree_deletes.specs.Erased.{without_rows, serials_of, ErasesOnly}

-- ---- one row after another

pub drawn_here : (nodes : List Doomed) (n m i : ℕ) (d : Doomed) → All (λ (x : Doomed). x.serial < n) nodes → i < length nodes → m ≡ n → (get_or nodes i d).serial < m
drawn_here nodes n m i d all lt same = let h : (get_or nodes i d).serial < n = all i d lt in omega (arith, h, same)

drop_one : (nodes : List Doomed) (i : ℕ) (d : Doomed) → i < length nodes → drop i nodes ≡ get_or nodes i d ∷ drop (suc i) nodes
drop_one [] i d lt = absurd (omega (arith, lt))
drop_one (x ∷ xs) zero d lt = refl
drop_one (x ∷ xs) (suc i) d lt = drop_one xs i d (omega (arith, lt))

drop_none : (nodes : List Doomed) (i : ℕ) → length nodes ≤ i → drop i nodes ≡ []
drop_none [] zero le = refl
drop_none [] (suc i) le = refl
drop_none (x ∷ xs) zero le = absurd (omega (arith, le))
drop_none (x ∷ xs) (suc i) le = drop_none xs i (omega (arith, le))

pub erased_one : (rows new whole : List (Option Row)) (nodes : List Doomed) (i : ℕ) (d : Doomed) → i < length nodes → new ≡ slice_set rows (get_or nodes i d).serial None → without_rows rows (serials_of (drop i nodes)) ≡ whole
    → without_rows new (serials_of (drop (i + 1) nodes)) ≡ whole
erased_one rows new whole nodes i d lt set before =
    let one : i + 1 ≡ suc i = omega arith in
    ap (λ xs. without_rows xs (serials_of (drop (i + 1) nodes))) set
    ∙ ap (λ k. without_rows (slice_set rows (get_or nodes i d).serial None) (serials_of (drop k nodes))) one
    ∙ sym (ap (λ ds. without_rows rows (serials_of ds)) (drop_one nodes i d lt)) ∙ before

pub erased_all : (rows whole : List (Option Row)) (nodes : List Doomed) (i : ℕ) → length nodes ≤ i → without_rows rows (serials_of (drop i nodes)) ≡ whole → rows ≡ whole
erased_all rows whole nodes i le before = sym (ap (λ ds. without_rows rows (serials_of ds)) (drop_none nodes i le)) ∙ before

pub same_length : (rows new : List (Option Row)) (s n : ℕ) → new ≡ slice_set rows s None → length rows ≡ n → length new ≡ n
same_length rows new s n set before = ap length set ∙ length-set rows s None ∙ before

-- ---- what the rows are then

length-without : (rows : List (Option Row)) (ss : List ℕ) → length (without_rows rows ss) ≡ length rows
length-without rows [] = refl
length-without rows (s ∷ ss) = length-without (slice_set rows s None) ss ∙ length-set rows s None

set_here : (rows : List (Option Row)) (s : ℕ) → get_or (slice_set rows s None) s None ≡ None
set_here [] s = refl
set_here (r ∷ rows) zero = refl
set_here (r ∷ rows) (suc s) = set_here rows s

set_there : (rows : List (Option Row)) (s k : ℕ) → (s ≡ k → ⊥) → get_or (slice_set rows s None) k None ≡ get_or rows k None
set_there [] s k ne = refl
set_there (r ∷ rows) zero zero ne = absurd (ne refl)
set_there (r ∷ rows) zero (suc k) ne = refl
set_there (r ∷ rows) (suc s) zero ne = refl
set_there (r ∷ rows) (suc s) (suc k) ne = set_there rows s k (λ e. ne (ap suc e))

pub row_kept : (rows : List (Option Row)) (ss : List ℕ) (k : ℕ) → is_among ss k ≡ false → row_of (without_rows rows ss) k ≡ row_of rows k
row_kept rows [] k out = refl
row_kept rows (s ∷ ss) k out =
    let both = or_none (s == k) (is_among ss k) out in
    row_kept (slice_set rows s None) ss k both.1 ∙ set_there rows s k (elim (eqb_tells s k) [ inl e ↦ absurd (not_both (s == k) e.0 both.0) | inr e ↦ e.1 ])
  where
    not_both : (b : Bool) → b ≡ true → b ≡ false → ⊥
    not_both true e f = cc
    not_both false e f = cc

none_stays : (rows : List (Option Row)) (ss : List ℕ) (k : ℕ) → row_of rows k ≡ None → row_of (without_rows rows ss) k ≡ None
none_stays rows [] k none = none
none_stays rows (s ∷ ss) k none = none_stays (slice_set rows s None) ss k (elim (eqb_tells s k) [ inl e ↦ ap (λ j. get_or (slice_set rows s None) j None) (sym e.1) ∙ set_here rows s | inr e ↦ set_there rows s k e.1 ∙ none ])

pub row_gone : (rows : List (Option Row)) (ss : List ℕ) (k : ℕ) → IsAmong ss k → row_of (without_rows rows ss) k ≡ None
row_gone rows [] k h = absurd (no h)
  where
    no : ◌≡◌ {A = Bool} false true → ⊥
    no e = cc
row_gone rows (s ∷ ss) k h = elim (eqb_tells s k) [
  | inl e ↦ none_stays (slice_set rows s None) ss k (ap (λ j. get_or (slice_set rows s None) j None) (sym e.1) ∙ set_here rows s)
  | inr e ↦ row_gone (slice_set rows s None) ss k (later (s == k) (is_among ss k) e.0 h)
]
  where
    later : (a b : Bool) → a ≡ false → (a || b) ≡ true → b ≡ true
    later true b p q = cc
    later false b p q = q

pub count_kept : (rows : List (Option Row)) (ss : List ℕ) → length (without_rows rows ss) ≡ length rows
count_kept rows ss = length-without rows ss

pub erases_none : (rows : List (Option Row)) → ErasesOnly rows rows
erases_none rows k = inr refl

pub erases_more : (old rows new : List (Option Row)) (s : ℕ) → new ≡ slice_set rows s None → ErasesOnly old rows → ErasesOnly old new
erases_more old rows new s set only k = elim (eqb_tells s k) [
  | inl e ↦ inl (ap (λ xs. row_of xs k) set ∙ ap (λ j. get_or (slice_set rows s None) j None) (sym e.1) ∙ set_here rows s)
  | inr e ↦ later (only k)
]
  where
    moved : (s ≡ k → ⊥) → row_of new k ≡ row_of rows k
    moved ne = ap (λ xs. row_of xs k) set ∙ set_there rows s k ne

    later : (row_of rows k ≡ None) ⊎ (row_of rows k ≡ row_of old k) → (row_of new k ≡ None) ⊎ (row_of new k ≡ row_of old k)
    later (inl none) = elim (eqb_tells s k) [ inl e ↦ inl (ap (λ xs. row_of xs k) set ∙ ap (λ j. get_or (slice_set rows s None) j None) (sym e.1) ∙ set_here rows s) | inr e ↦ inl (moved e.1 ∙ none) ]
    later (inr same) = elim (eqb_tells s k) [ inl e ↦ inl (ap (λ xs. row_of xs k) set ∙ ap (λ j. get_or (slice_set rows s None) j None) (sym e.1) ∙ set_here rows s) | inr e ↦ inr (moved e.1 ∙ same) ]

-- rows that are left keep what holds of all
pub still_each : (P : Row → Type 0) (old new : List (Option Row)) → ErasesOnly old new → ((k : ℕ) → IfSome (row_of old k) P) → (k : ℕ) → IfSome (row_of new k) P
still_each P old new only all k = by_row (only k)
  where
    by_row : (row_of new k ≡ None) ⊎ (row_of new k ≡ row_of old k) → IfSome (row_of new k) P
    by_row (inl none) = subst (λ (o : Option Row). IfSome o P) (sym none) tt
    by_row (inr same) = subst (λ (o : Option Row). IfSome o P) (sym same) (all k)
