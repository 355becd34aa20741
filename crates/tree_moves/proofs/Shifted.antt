-- Rows whose depths shift one after another, and then the row on top.
use Rattle.std.proofs.Common.{◌≡◌, inl, inr, ℕ, refl, sym, ◌∙◌, ap, subst, arith, List, length, ◌+◌, ◌<◌, ◌≤◌, Bool, true, false, Option, None, Some}
use Rattle.std.proofs.lemmas.Bool.Decides.{eqb_tells, nat_tests}
use Rattle.std.specs.Prelude.{◌==◌, nat_lt, if◌then◌else◌, option_map, IfSome}
use Rattle.adf_model.proofs.Writes.Reaches.{less_or}
use Rattle.tree_edits.specs.declared.rows.Row.{Row}
use Rattle.tree_edits.specs.Rows.{row_of}
use Rattle.tree_moves.specs.Below.{above_of, is_below, deeper_row, shifted_row, SetsRow, Shifts, FitsBelow, SamePlaces}
use Rattle.tree_moves.proofs.Climbs.{past, below_same, below_of_none}

-- the rows of the first serials are shifted, and the others are not yet
abbrev pub part_shifted : List (Option Row) → ℕ → ℕ → ℕ → ℕ → ℕ → Option Row
part_shifted old top from to i k = if nat_lt k i then shifted_row old top from to k else row_of old k

pub record IsPartShifted (old now : List (Option Row)) (top from to i : ℕ) : Type 0 where
  pub count : length now ≡ length old
  pub each : (k : ℕ) → row_of now k ≡ part_shifted old top from to i k

less : (a b : ℕ) → a < b → nat_lt a b ≡ true
less a b lt = grind (arith, nat_tests)

not_less : (a b : ℕ) → b ≤ a → nat_lt a b ≡ false
not_less a b le = grind (arith, nat_tests)

same_less : (k i : ℕ) → (k ≡ i → ⊥) → nat_lt k (i + 1) ≡ nat_lt k i
same_less k i differ = elim (less_or k i) [
  | inl lt ↦ less k (i + 1) (omega (arith, lt)) ∙ sym (less k i lt)
  | inr le ↦ not_less k (i + 1) (after le) ∙ sym (not_less k i le)
]
  where
    after : i ≤ k → i + 1 ≤ k
    after le = elim (less_or i k) [ inl lt ↦ omega (arith, lt) | inr same ↦ absurd (differ (omega (arith, le, same))) ]

module _ (old : List (Option Row)) (top from to : ℕ) where
  -- parents and places stay in a row that is shifted
  above_shifted : (b : Bool) (o : Option Row) → above_of (if b then option_map (deeper_row from to) o else o) ≡ above_of o
  above_shifted true None = refl
  above_shifted true (Some r) = refl
  above_shifted false o = refl

  place_shifted : (b : Bool) (o : Option Row) → option_map (λ (r : Row). r.place) (if b then option_map (deeper_row from to) o else o) ≡ option_map (λ (r : Row). r.place) o
  place_shifted true None = refl
  place_shifted true (Some r) = refl
  place_shifted false o = refl

  above_part : (i k : ℕ) → above_of (part_shifted old top from to i k) ≡ above_of (row_of old k)
  above_part i k = by_test (nat_lt k i)
    where
      by_test : (b : Bool) → above_of (if b then shifted_row old top from to k else row_of old k) ≡ above_of (row_of old k)
      by_test true = above_shifted (is_below old top from k) (row_of old k)
      by_test false = refl

  place_part : (i k : ℕ) → option_map (λ (r : Row). r.place) (part_shifted old top from to i k) ≡ option_map (λ (r : Row). r.place) (row_of old k)
  place_part i k = by_test (nat_lt k i)
    where
      by_test : (b : Bool) → option_map (λ (r : Row). r.place) (if b then shifted_row old top from to k else row_of old k) ≡ option_map (λ (r : Row). r.place) (row_of old k)
      by_test true = place_shifted (is_below old top from k) (row_of old k)
      by_test false = refl

  pub shifted_none : IsPartShifted old old top from to 0
  shifted_none = record { count = refl; each = λ k. ap (λ b. if b then shifted_row old top from to k else row_of old k) (sym (not_less k 0 (omega arith))) }

  module _ (now : List (Option Row)) (i : ℕ) (p : IsPartShifted old now top from to i) where
    own_row : row_of now i ≡ row_of old i
    own_row = p.each i ∙ ap (λ b. if b then shifted_row old top from to i else row_of old i) (not_less i i (omega arith))

    pub own_below : is_below now top from i ≡ is_below old top from i
    own_below = below_same old now top from i (λ k. ap above_of (p.each k) ∙ above_part i k) own_row

    pub still_fits : FitsBelow old top from to i → FitsBelow now top from to i
    still_fits fits t = subst (λ (o : Option Row). IfSome o (λ r. r.depth + to ≤ 255 + from)) (sym own_row) (fits (sym own_below ∙ t))

    own_shifted : shifted_row now top from to i ≡ shifted_row old top from to i
    own_shifted = ap (λ b. if b then option_map (deeper_row from to) (row_of now i) else row_of now i) own_below ∙ ap (λ o. if is_below old top from i then option_map (deeper_row from to) o else o) own_row

    pub shifted_one : (new : List (Option Row)) → SetsRow now new i (shifted_row now top from to i) → IsPartShifted old new top from to (i + 1)
    shifted_one new s = record {
      count = s.count ∙ p.count;
      each = λ k. s.each k ∙ elim (eqb_tells k i) [
        | inl same ↦ ap (λ b. if b then shifted_row now top from to i else row_of now k) same.0 ∙ own_shifted ∙ ap (shifted_row old top from to) (sym same.1)
            ∙ ap (λ b. if b then shifted_row old top from to k else row_of old k) (sym (less k (i + 1) (let e = same.1 in omega (arith, e))))
        | inr differ ↦ ap (λ b. if b then shifted_row now top from to i else row_of now k) differ.0 ∙ p.each k
            ∙ ap (λ b. if b then shifted_row old top from to k else row_of old k) (sym (same_less k i differ.1))
      ];
    }

    pub places_kept : SamePlaces old now
    places_kept k = ap (option_map (λ (r : Row). r.place)) (p.each k) ∙ place_part i k

    -- all of them are shifted
    module _ (all : length old ≤ i) where
      each_shifted : (k : ℕ) → row_of now k ≡ shifted_row old top from to k
      each_shifted k = p.each k ∙ elim (less_or k i) [
        | inl lt ↦ ap (λ b. if b then shifted_row old top from to k else row_of old k) (less k i lt)
        | inr le ↦ ap (λ b. if b then shifted_row old top from to k else row_of old k) (not_less k i le)
            ∙ ap (λ b. if b then option_map (deeper_row from to) (row_of old k) else row_of old k) (sym (below_of_none old top from k (past old k (omega (arith, all, le)))))
      ]

      pub all_shifted : (new : List (Option Row)) (parent : ℕ) (row : Row) → SetsRow now new top (Some (record row { parent = Some parent; depth = to })) → Shifts old new top from parent to row
      all_shifted new parent row s = record {
        count = s.count ∙ p.count;
        each = λ k. s.each k ∙ ap (λ o. if k == top then Some (record row { parent = Some parent; depth = to }) else o) (each_shifted k);
      }

      pub places_last : (new : List (Option Row)) (parent : ℕ) (row : Row) → row_of old top ≡ Some row → SetsRow now new top (Some (record row { parent = Some parent; depth = to })) → SamePlaces old new
      places_last new parent row found s k = ap (option_map (λ (r : Row). r.place)) (s.each k) ∙ elim (eqb_tells k top) [
        | inl same ↦ ap (λ b. option_map (λ (r : Row). r.place) (if b then Some (record row { parent = Some parent; depth = to }) else row_of now k)) same.0
            ∙ sym (ap (option_map (λ (r : Row). r.place)) (ap (row_of old) same.1 ∙ found))
        | inr differ ↦ ap (λ b. option_map (λ (r : Row). r.place) (if b then Some (record row { parent = Some parent; depth = to }) else row_of now k)) differ.0 ∙ places_kept k
      ]
