-- Rows that are put back.
use Rattle.std.proofs.Common.{◌≡◌, ℕ, ◌<◌, ◌≤◌, List, [], ◌∷◌, ◌++◌, length, take, refl, sym, ◌∙◌, ap, arith, Option, None, get_or, zero, suc}
use Rattle.std.proofs.lemmas.List.{take-set-le, take-append-le, set-get_or}
use Rattle.std.proofs.Math.Seq.{take-set-lt}
use Rattle.std.specs.Prelude.{slice_set}
use Rattle.std.specs.List.{AllByRecursion}
use Rattle.tree_edits.specs.declared.rows.Row.{Row}
use Rattle.tree_edits.specs.declared.rows.Undone.{Undone}
use Rattle.tree_edits.specs.Undo.{RowsState, put_back, kept_of, AreUndone}

abbrev pub Below : ℕ → List Undone → Type 0
Below kept us = AllByRecursion (λ (u : Undone). u.serial < kept) us

pub put_back-take : (kept : ℕ) (us : List Undone) → Below kept us → (rows : List (Option Row)) → take kept (put_back rows us) ≡ put_back (take kept rows) us
put_back-take kept [] all rows = refl
put_back-take kept (u ∷ us) all rows = take-set-lt kept (put_back rows us) u.serial u.row all.0 ∙ ap (λ xs. slice_set xs u.serial u.row) (put_back-take kept us all.1 rows)

pub put_back-append : (us vs : List Undone) (rows : List (Option Row)) → put_back rows (us ++ vs) ≡ put_back (put_back rows vs) us
put_back-append [] vs rows = refl
put_back-append (u ∷ us) vs rows = ap (λ xs. slice_set xs u.serial u.row) (put_back-append us vs rows)

-- rows that are the same as far as they were accepted are put back as the same
pub same_kept : (kept : ℕ) (us : List Undone) (rows others : List (Option Row)) → Below kept us → take kept others ≡ take kept rows → kept_of others us kept ≡ kept_of rows us kept
same_kept kept us rows others all same = put_back-take kept us all others ∙ ap (λ xs. put_back xs us) same ∙ sym (put_back-take kept us all rows)

pub added : (kept : ℕ) (us : List Undone) (rows more : List (Option Row)) → Below kept us → kept ≤ length rows → kept_of (rows ++ more) us kept ≡ kept_of rows us kept
added kept us rows more all within = same_kept kept us rows (rows ++ more) all (take-append-le kept rows more within)

pub set_beyond : (kept : ℕ) (us : List Undone) (rows : List (Option Row)) (serial : ℕ) (row : Option Row) → Below kept us → kept ≤ serial → kept_of (slice_set rows serial row) us kept ≡ kept_of rows us kept
set_beyond kept us rows serial row all high = same_kept kept us rows (slice_set rows serial row) all (take-set-le kept rows serial row high)

set_twice : (rows : List (Option Row)) (k : ℕ) (a b : Option Row) → slice_set (slice_set rows k a) k b ≡ slice_set rows k b
set_twice [] k a b = refl
set_twice (x ∷ xs) zero a b = refl
set_twice (x ∷ xs) (suc k) a b = ap (λ ys. x ∷ ys) (set_twice xs k a b)

pub set_kept : (kept : ℕ) (us : List Undone) (rows : List (Option Row)) (u : Undone) (row : Option Row) → u.row ≡ get_or rows u.serial None → kept_of (slice_set rows u.serial row) (us ++ u ∷ []) kept ≡ kept_of rows us kept
set_kept kept us rows u row was =
    ap (take kept) (put_back-append us (u ∷ []) (slice_set rows u.serial row)
    ∙ ap (λ xs. put_back xs us) (set_twice rows u.serial row u.row ∙ ap (slice_set rows u.serial) was ∙ set-get_or rows u.serial None))

-- the latest is put back first
pub all_but_last : (n : ℕ) (us : List Undone) (u : Undone) → Below n (us ++ u ∷ []) → Below n us × (u.serial < n)
all_but_last n [] u h = (tt, h.0)
all_but_last n (v ∷ us) u h = let rest = all_but_last n us u h.1 in ((h.0, rest.0), rest.1)

pub put_one : (rows now : List (Option Row)) (us all : List Undone) (u : Undone) → all ≡ us ++ u ∷ [] → now ≡ slice_set rows u.serial u.row → put_back now us ≡ put_back rows all
put_one rows now us all u e f = ap (λ xs. put_back xs us) f ∙ sym (put_back-append us (u ∷ []) rows) ∙ ap (put_back rows) (sym e)

pub read_within : {A : Type 0} (xs : List A) (k : ℕ) (d e : A) → k < length xs → get_or xs k d ≡ get_or xs k e
read_within [] k d e lt = absurd (omega (arith, lt))
read_within (x ∷ xs) zero d e lt = refl
read_within (x ∷ xs) (suc k) d e lt = read_within xs k d e (omega (arith, lt))

-- ---- the states of rows

abbrev pub state : List (Option Row) → List (Option Row) → RowsState
state items kept = record { items = items; kept = kept }

same_state : (a b k l : List (Option Row)) → a ≡ b → k ≡ l → state a k ≡ state b l
same_state a b k l e f = ap (λ x. state x k) e ∙ ap (state b) f

module _ (was : RowsState) (items : List (Option Row)) (us : List Undone) (kept : ℕ) (valid : AreUndone items us kept) (is : state items (kept_of items us kept) ≡ was) where
  pub state_added : (now : List (Option Row)) (row : Option Row) → now ≡ items ++ row ∷ [] → state now (kept_of now us kept) ≡ state (was.items ++ row ∷ []) was.kept
  state_added now row e =
      same_state now (was.items ++ row ∷ []) (kept_of now us kept) was.kept (e ∙ ap (λ (r : RowsState). r.items ++ row ∷ []) is)
      (ap (λ xs. kept_of xs us kept) e ∙ added kept us items (row ∷ []) valid.each valid.within ∙ ap (λ (r : RowsState). r.kept) is)

  pub state_set_beyond : (serial : ℕ) (row : Option Row) → kept ≤ serial → state (slice_set items serial row) (kept_of (slice_set items serial row) us kept) ≡ state (slice_set was.items serial row) was.kept
  state_set_beyond serial row high =
      same_state (slice_set items serial row) (slice_set was.items serial row) (kept_of (slice_set items serial row) us kept) was.kept (ap (λ (r : RowsState). slice_set r.items serial row) is)
      (set_beyond kept us items serial row valid.each high ∙ ap (λ (r : RowsState). r.kept) is)

  pub state_set : (more : List Undone) (u : Undone) (row : Option Row) → more ≡ us ++ u ∷ [] → u.row ≡ get_or items u.serial None
      → state (slice_set items u.serial row) (kept_of (slice_set items u.serial row) more kept) ≡ state (slice_set was.items u.serial row) was.kept
  state_set more u row e old =
      same_state (slice_set items u.serial row) (slice_set was.items u.serial row) (kept_of (slice_set items u.serial row) more kept) was.kept (ap (λ (r : RowsState). slice_set r.items u.serial row) is)
      (ap (λ vs. kept_of (slice_set items u.serial row) vs kept) e ∙ set_kept kept us items u row old ∙ ap (λ (r : RowsState). r.kept) is)
