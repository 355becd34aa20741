-- Rows that are set, and who stands below whom where only depths change.
use Rattle.std.proofs.Common.{◌≡◌, ◌⊎◌, inl, inr, ℕ, zero, suc, refl, sym, ◌∙◌, ap, subst, arith, List, [], ◌∷◌, length, get_or, ◌+◌, ◌-◌, ◌<◌, ◌≤◌, Bool, true, false, Option, None, Some}
use Rattle.std.proofs.lemmas.Bool.Decides.{eqb_tells, nat_tests}
use Rattle.std.proofs.lemmas.List.{length-set}
use Rattle.std.specs.Prelude.{slice_set, nat_lt, if◌then◌else◌, option_map, IfSome}
use Rattle.adf_model.proofs.Basics.{not_true}
use Rattle.adf_model.proofs.Writes.Reaches.{less_or}
use Rattle.tree_edits.specs.declared.rows.Row.{Row}
use Rattle.tree_edits.specs.Rows.{row_of}
use Rattle.tree_moves.specs.Below.{above_of, climb_rows, is_there, is_below_by, is_below, NoneDeeper, IsDepthBelow, IsDeepest, deeper_row, shifted_row, SetsRow, FitsBelow}

-- ---- a row that is set

set_here : (rows : List (Option Row)) (s : ℕ) (o : Option Row) → s < length rows → get_or (slice_set rows s o) s None ≡ o
set_here [] s o lt = absurd (omega (arith, lt))
set_here (r ∷ rows) zero o lt = refl
set_here (r ∷ rows) (suc s) o lt = set_here rows s o (omega (arith, lt))

set_there : (rows : List (Option Row)) (s k : ℕ) (o : Option Row) → (s ≡ k → ⊥) → get_or (slice_set rows s o) k None ≡ get_or rows k None
set_there [] s k o ne = refl
set_there (r ∷ rows) zero zero o ne = absurd (ne refl)
set_there (r ∷ rows) zero (suc k) o ne = refl
set_there (r ∷ rows) (suc s) zero o ne = refl
set_there (r ∷ rows) (suc s) (suc k) o ne = set_there rows s k o (λ e. ne (ap suc e))

pub sets_row : (old new : List (Option Row)) (s : ℕ) (o : Option Row) → s < length old → new ≡ slice_set old s o → SetsRow old new s o
sets_row old new s o lt e = record {
  count = ap length e ∙ length-set old s o;
  each = λ k. ap (λ xs. row_of xs k) e ∙ elim (eqb_tells k s) [
    | inl same ↦ ap (λ j. get_or (slice_set old s o) j None) same.1 ∙ set_here old s o lt ∙ ap (λ b. if b then o else row_of old k) (sym same.0)
    | inr differ ↦ set_there old s k o (λ x. differ.1 (sym x)) ∙ ap (λ b. if b then o else row_of old k) (sym differ.0)
  ];
}

-- the same row is set
pub sets_none : (old : List (Option Row)) (s : ℕ) (o : Option Row) → row_of old s ≡ o → SetsRow old old s o
sets_none old s o is = record {
  count = refl;
  each = λ k. elim (eqb_tells k s) [
    | inl same ↦ ap (row_of old) same.1 ∙ is ∙ ap (λ b. if b then o else row_of old k) (sym same.0)
    | inr differ ↦ ap (λ b. if b then o else row_of old k) (sym differ.0)
  ];
}

pub past : (rows : List (Option Row)) (k : ℕ) → length rows ≤ k → row_of rows k ≡ None
past [] k le = refl
past (r ∷ rows) zero le = absurd (omega (arith, le))
past (r ∷ rows) (suc k) le = past rows k (omega (arith, le))

pub drawn : (rows : List (Option Row)) (k : ℕ) (row : Row) → row_of rows k ≡ Some row → k < length rows
drawn [] k row e = cc
drawn (r ∷ rows) zero row e = omega arith
drawn (r ∷ rows) (suc k) row e = let lt = drawn rows k row e in omega (arith, lt)

-- ---- steps up

pub climb_same : (n : ℕ) (old new : List (Option Row)) → ((k : ℕ) → above_of (row_of new k) ≡ above_of (row_of old k)) → (o : Option ℕ) → climb_rows n new o ≡ climb_rows n old o
climb_same zero old new same o = refl
climb_same (suc n) old new same None = refl
climb_same (suc n) old new same (Some s) = ap (climb_rows n new) (same s) ∙ climb_same n old new same (above_of (row_of old s))

pub below_same : (old new : List (Option Row)) (top depth serial : ℕ) → ((k : ℕ) → above_of (row_of new k) ≡ above_of (row_of old k)) → row_of new serial ≡ row_of old serial → is_below new top depth serial ≡ is_below old top depth serial
unfolding is_below
below_same old new top depth serial same row = ap (is_below_by new top depth serial) row ∙ by_row (row_of old serial)
  where
    by_row : (o : Option Row) → is_below_by new top depth serial o ≡ is_below_by old top depth serial o
    by_row None = refl
    by_row (Some r) = ap (λ x. if nat_lt r.depth depth then false else is_there top x) (climb_same (r.depth - depth) old new same (Some serial))

-- ---- as the code finds it

less : (a b : ℕ) → a < b → nat_lt a b ≡ true
less a b lt = grind (arith, nat_tests)

not_less : (a b : ℕ) → b ≤ a → nat_lt a b ≡ false
not_less a b le = grind (arith, nat_tests)

pub below_as : (rows : List (Option Row)) (top depth serial : ℕ) (o : Option Row) → row_of rows serial ≡ o → is_below rows top depth serial ≡ is_below_by rows top depth serial o
unfolding is_below
below_as rows top depth serial o e = ap (is_below_by rows top depth serial) e

pub below_of_none : (rows : List (Option Row)) (top depth serial : ℕ) → row_of rows serial ≡ None → is_below rows top depth serial ≡ false
below_of_none rows top depth serial e = below_as rows top depth serial None e

module _ (rows : List (Option Row)) (top depth serial : ℕ) (row : Row) (found : row_of rows serial ≡ Some row) where
  pub below_of_some : is_below rows top depth serial ≡ (if nat_lt row.depth depth then false else is_there top (climb_rows (row.depth - depth) rows (Some serial)))
  below_of_some = below_as rows top depth serial (Some row) found

  pub not_below : row.depth < depth → is_below rows top depth serial ≡ false
  not_below lt = below_of_some ∙ ap (λ b. if b then false else is_there top (climb_rows (row.depth - depth) rows (Some serial))) (less row.depth depth lt)

  pub below_by_climb : depth ≤ row.depth → (o : Option ℕ) → o ≡ climb_rows (row.depth - depth) rows (Some serial) → is_below rows top depth serial ≡ is_there top o
  below_by_climb le o e = below_of_some ∙ ap (λ b. if b then false else is_there top (climb_rows (row.depth - depth) rows (Some serial))) (not_less row.depth depth le) ∙ ap (is_there top) (sym e)

  pub below_deep : is_below rows top depth serial ≡ true → depth ≤ row.depth
  below_deep t = elim (less_or row.depth depth) [ inl lt ↦ absurd (not_true (sym (not_below lt) ∙ t)) | inr le ↦ le ]

pub one_more_step : (rows : List (Option Row)) (n i at : ℕ) (o whole : Option ℕ) → i < n → above_of (row_of rows at) ≡ o → climb_rows (n - i) rows (Some at) ≡ whole → climb_rows (n - (i + 1)) rows o ≡ whole
one_more_step rows n i at o whole lt up e =
    let more : n - i ≡ suc (n - (i + 1)) = omega (arith, lt) in
    ap (climb_rows (n - (i + 1)) rows) (sym up) ∙ sym (ap (λ m. climb_rows m rows (Some at)) more) ∙ e

pub no_more_step : (rows : List (Option Row)) (n : ℕ) → climb_rows n rows None ≡ None
no_more_step rows zero = refl
no_more_step rows (suc n) = refl

pub no_step_left : (rows : List (Option Row)) (n i at : ℕ) (whole : Option ℕ) → n ≤ i → climb_rows (n - i) rows (Some at) ≡ whole → Some at ≡ whole
no_step_left rows n i at whole le e = let none : n - i ≡ 0 = omega (arith, le) in sym (ap (λ m. climb_rows m rows (Some at)) none) ∙ e

-- ---- the deepest

pub none_deeper_more : (rows : List (Option Row)) (top depth a b k : ℕ) → a ≤ b → NoneDeeper rows top depth a k → NoneDeeper rows top depth b k
none_deeper_more rows top depth a b k le h t = by_row (row_of rows k) (h t)
  where
    by_row : (o : Option Row) → IfSome o (λ row. row.depth ≤ a) → IfSome o (λ row. row.depth ≤ b)
    by_row None x = tt
    by_row (Some r) x = omega (arith, le, x)

pub none_deeper_not : (rows : List (Option Row)) (top depth deep k : ℕ) → is_below rows top depth k ≡ false → NoneDeeper rows top depth deep k
none_deeper_not rows top depth deep k e t = absurd (not_true (sym e ∙ t))

pub none_deeper_own : (rows : List (Option Row)) (top depth deep k : ℕ) (row : Row) → row_of rows k ≡ Some row → row.depth ≤ deep → NoneDeeper rows top depth deep k
none_deeper_own rows top depth deep k row e le t = subst (λ (o : Option Row). IfSome o (λ r. r.depth ≤ deep)) (sym e) le

-- the deepest of the first serials
pub record IsDeepestOf (rows : List (Option Row)) (top depth deep i : ℕ) : Type 0 where
  pub all : (k : ℕ) → k < i → NoneDeeper rows top depth deep k
  pub least : depth ≤ deep
  pub one : (deep ≡ depth) ⊎ IsDepthBelow rows top depth deep

pub deepest_none : (rows : List (Option Row)) (top depth : ℕ) → IsDeepestOf rows top depth depth 0
deepest_none rows top depth = record { all = λ k lt. absurd (omega (arith, lt)); least = omega arith; one = inl refl }

pub deepest_more : (rows : List (Option Row)) (top depth most now i : ℕ) → most ≤ now → NoneDeeper rows top depth now i → (now ≡ most) ⊎ IsDepthBelow rows top depth now → IsDeepestOf rows top depth most i → IsDeepestOf rows top depth now (i + 1)
deepest_more rows top depth most now i le own one d = record {
  all = λ k lt. elim (less_or k i) [
    | inl before ↦ none_deeper_more rows top depth most now k le (d.all k before)
    | inr here ↦ subst (NoneDeeper rows top depth now) (let same : i ≡ k = omega (arith, lt, here) in same) own
  ];
  least = let l = d.least in omega (arith, l, le);
  one = by_one one;
}
  where
    was : now ≡ most → (most ≡ depth) ⊎ IsDepthBelow rows top depth most → (now ≡ depth) ⊎ IsDepthBelow rows top depth now
    was e (inl f) = inl (e ∙ f)
    was e (inr x) = inr (subst (IsDepthBelow rows top depth) (sym e) x)

    by_one : (now ≡ most) ⊎ IsDepthBelow rows top depth now → (now ≡ depth) ⊎ IsDepthBelow rows top depth now
    by_one (inl e) = was e d.one
    by_one (inr x) = inr x

pub deepest_all : (rows : List (Option Row)) (top depth deep i : ℕ) → length rows ≤ i → IsDeepestOf rows top depth deep i → IsDeepest rows top depth deep
deepest_all rows top depth deep i le d = record {
  all = λ k. elim (less_or k i) [
    | inl before ↦ d.all k before
    | inr past_it ↦ none_deeper_not rows top depth deep k (below_of_none rows top depth k (past rows k (omega (arith, le, past_it))))
  ];
  least = d.least;
  one = d.one;
}

-- ---- one row that shifts

pub shifted_of_none : (rows : List (Option Row)) (top from to k : ℕ) → row_of rows k ≡ None → row_of rows k ≡ shifted_row rows top from to k
shifted_of_none rows top from to k e = e ∙ by_test (is_below rows top from k) ∙ ap (λ o. if is_below rows top from k then option_map (deeper_row from to) o else o) (sym e)
  where
    by_test : (b : Bool) → None ≡ (if b then option_map (deeper_row from to) None else None)
    by_test true = refl
    by_test false = refl

pub shifted_of_false : (rows : List (Option Row)) (top from to k : ℕ) → is_below rows top from k ≡ false → row_of rows k ≡ shifted_row rows top from to k
shifted_of_false rows top from to k e = ap (λ b. if b then option_map (deeper_row from to) (row_of rows k) else row_of rows k) (sym e)

pub shifted_of_true : (rows : List (Option Row)) (top from to k : ℕ) (row : Row) → row_of rows k ≡ Some row → is_below rows top from k ≡ true → Some (deeper_row from to row) ≡ shifted_row rows top from to k
shifted_of_true rows top from to k row found e = ap (option_map (deeper_row from to)) (sym found) ∙ ap (λ b. if b then option_map (deeper_row from to) (row_of rows k) else row_of rows k) (sym e)

pub fits_own : (rows : List (Option Row)) (top from to k : ℕ) (row : Row) → row_of rows k ≡ Some row → is_below rows top from k ≡ true → FitsBelow rows top from to k → row.depth + to ≤ 255 + from
fits_own rows top from to k row found t fits = subst (λ (o : Option Row). IfSome o (λ r. r.depth + to ≤ 255 + from)) found (fits t)
