-- Entries in a piece of a table are those of the table.
use Rattle.std.proofs.Common.{◌≡◌, ℕ, ◌+◌, ◌-◌, ◌*◌, ◌≤◌, ◌<◌, ◌/◌, ◌%◌, ◌⊎◌, min, List, length, take, drop, sym, ◌∙◌, ap, arith, Option, None, Some, IfSome, length-take, subst, inl, inr}
use Rattle.std.proofs.lemmas.Bool.{cases_lt}
use Rattle.std.specs.Prelude.{Bool, bytes_eq}
use Rattle.cg_io.specs.Blocks.{blocks_of}
use Rattle.cg_io.specs.Device.{GivesAt}
use Rattle.adf_format.specs.Fields.{field}
use Rattle.adf_format.specs.FirstFault.{is_pointer_to}
use Rattle.adf_format.proofs.FieldLaws.{inner_field}
use Rattle.field_access.proofs.FieldLaws.{field_given}
use Rattle.node_reads.specs.declared.find.Wanted.{Wanted}
use Rattle.node_reads.specs.declared.find.Wanted.TheVariants.{Name, Place}
use Rattle.node_reads.specs.Reads.{IsFirst}
use Rattle.node_reads.specs.Entries.{is_wanted, is_wanted_at, pieces_of}

pub wanted_in : (w : Wanted) (image : List ℕ) (t i p : ℕ) → p ≡ t + 16 + 44 * i → is_wanted w (field image p 44) ≡ is_wanted_at w image t i
wanted_in (Name name) image t i p at = ap (λ (f : List ℕ). bytes_eq f name) (inner_field image p 44 0 32 (omega arith) ∙ ap (λ k. field image k 32) (omega (arith, at)))
wanted_in (Place place) image t i p at = ap (λ (f : List ℕ). is_pointer_to f place) (inner_field image p 44 32 12 (omega arith) ∙ ap (λ k. field image k 12) (omega (arith, at)))

-- the entries of a piece that was read
pub piece_wanted : (w : Wanted) (image : List ℕ) (t from n j : ℕ) (piece : List ℕ) → 44 * n ≤ length piece → j < n → t + 16 + 44 * (from + n) ≤ length image
    → GivesAt (Some image) (t + 16 + 44 * from) (take (44 * n) piece) → is_wanted w (field piece (44 * j) 44) ≡ is_wanted_at w image t (from + j)
piece_wanted w image t from n j piece long lt within gives =
    ap (is_wanted w) (ap (λ k. field piece k 44) (omega arith) ∙ sym (inner_field piece 0 (44 * n) (44 * j) 44 (omega (arith, lt)))
    ∙ ap (λ (xs : List ℕ). field xs (44 * j) 44) (field_given (Some image) (t + 16 + 44 * from) (44 * n) (take (44 * n) piece) (length-take (44 * n) piece ∙ omega (arith, long)) gives (omega (arith, within)))
    ∙ inner_field image (t + 16 + 44 * from) (44 * n) (44 * j) 44 (omega (arith, lt)))
    ∙ wanted_in w image t (from + j) (t + 16 + 44 * from + 44 * j) (omega arith)

-- a slice of a piece is a field of it
pub sliced : (xs : List ℕ) (a n : ℕ) → take (a + n - a) (drop a xs) ≡ field xs a n
sliced xs a n = ap (λ k. take k (drop a xs)) (omega arith)

-- ---- a search, piece by piece

-- what was found from one position up to another, where the bytes are told and have the whole table
abbrev pub FoundIn : Wanted → Option (List ℕ) → ℕ → ℕ → ℕ → ℕ → Option ℕ → Type 0
FoundIn w held t count from to found = IfSome held (λ image. t + 16 + 44 * count ≤ length image → IsFirst (is_wanted_at w image t) from to found)

module _ (w : Wanted) (t count from to : ℕ) (piece : List ℕ) (order : from ≤ to) (fits : to ≤ count) (long : 44 * (to - from) ≤ length piece) where
  abbrev Gives : Option (List ℕ) → Type 0
  Gives held = GivesAt held (t + 16 + 44 * from) (take (44 * (to - from)) piece)

  abbrev in_piece : ℕ → Bool
  in_piece i = is_wanted w (field piece (44 * (i - from)) 44)

  at_piece : (image : List ℕ) (k : ℕ) → from ≤ k → k < to → t + 16 + 44 * count ≤ length image → Gives (Some image) → is_wanted_at w image t k ≡ in_piece k
  at_piece image k low lt within gives =
      ap (is_wanted_at w image t) (omega (arith, low)) ∙ sym (piece_wanted w image t from (to - from) (k - from) piece long (omega (arith, low, lt)) (omega (arith, order, fits, within)) gives)

  in_table : (image : List ℕ) (found : Option ℕ) → t + 16 + 44 * count ≤ length image → Gives (Some image) → IsFirst in_piece from to found → IsFirst (is_wanted_at w image t) from to found
  in_table image None within gives none = λ j low lt. at_piece image j low lt within gives ∙ none j low lt
  in_table image (Some i) within gives first =
      let lt : i < to = first.1 in (
        first.0,
        first.1,
        at_piece image i first.0 first.1 within gives ∙ first.2,
        λ j low less. at_piece image j low (omega (arith, lt, less)) within gives ∙ first.3 j low less,
      )

  joined : (test : ℕ → Bool) (found : Option ℕ) → IsFirst test 0 from None → IsFirst test from to found → IsFirst test 0 to found
  joined test None before none = λ j low lt. elim (cases_lt j from) [
    | inl less ↦ before j low less
    | inr high ↦ none j high lt
  ]
  joined test (Some i) before first = (
    omega arith,
    first.1,
    first.2,
    λ j low lt. elim (cases_lt j from) [
      | inl less ↦ before j low less
      | inr high ↦ first.3 j high lt
    ],
  )

  -- the table up to the end of a piece that was read
  pub found_until : (held : Option (List ℕ)) (found : Option ℕ) → Gives held → IsFirst in_piece from to found → FoundIn w held t count 0 from None → FoundIn w held t count 0 to found
  found_until None found gives first before = tt
  found_until (Some image) found gives first before = λ within. joined (is_wanted_at w image t) found (before within) (in_table image found within gives first)

-- the first up to a position is the first of all
pub first_of_all : (w : Wanted) (held : Option (List ℕ)) (t count to i : ℕ) → to ≤ count → FoundIn w held t count 0 to (Some i) → FoundIn w held t count 0 count (Some i)
first_of_all w None t count to i le first = tt
first_of_all w (Some image) t count to i le first = λ within. let f = first within in let lt : i < to = f.1 in (f.0, omega (arith, le, lt), f.2, f.3)

pub gives_again : (held : Option (List ℕ)) (p from n : ℕ) (piece : List ℕ) → GivesAt held p (take (44 * n) piece) → GivesAt held p (take (44 * (from + n - from)) piece)
gives_again held p from n piece gives = subst (λ k. GivesAt held p (take (44 * k) piece)) (omega arith) gives

-- ---- pieces of 93 entries

pub at_edge : (from count : ℕ) → (from % 93 ≡ 0) ⊎ (from ≡ count) → from < count → from % 93 ≡ 0
at_edge from count (inl edge) lt = edge
at_edge from count (inr all) lt = absurd (omega (arith, all, lt))

pub edge_after : (from n count long : ℕ) → from % 93 ≡ 0 → from < count → long ≡ 4092 → n ≡ min (count - from) (long / 44) → ((from + n) % 93 ≡ 0) ⊎ (from + n ≡ count)
edge_after from n count long edge lt is e = elim (cases_lt (count - from) 93) [
  | inl few ↦ inr (omega (arith, is, e, lt, few))
  | inr many ↦ inl (omega (arith, is, e, lt, many, edge))
]

pub piece_cost : (p from n m long count : ℕ) → from % 93 ≡ 0 → from < count → long ≡ 4092 → n ≡ min (count - from) (long / 44) → m ≡ n → 2 * pieces_of from + blocks_of p (44 * m) ≤ 2 * pieces_of (from + n)
piece_cost p from n m long count edge lt is e f =
    let few : n ≤ 93 = omega (arith, is, e) in
    let some : 1 ≤ n = omega (arith, is, e, lt) in
    let blocks : blocks_of p (44 * m) ≤ 2 = omega (arith, f, few) in
    omega (arith, edge, few, some, blocks)
