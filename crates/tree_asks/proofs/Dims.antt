-- The dimensions that are read of a header that bytes spell.
use Rattle.std.proofs.Common.{◌≡◌, ℕ, zero, suc, ◌+◌, ◌*◌, ◌≤◌, ◌<◌, List, [], ◌∷◌, length, map, take, refl, sym, ◌∙◌, ap, arith, Bool, true, None, Some}
use Rattle.std.specs.Prelude.{slice_get, slice_index_or, unwrap_or}
use Rattle.std.specs.List.{range_with_len}
use Rattle.std.proofs.lemmas.List.FromFn.{take-map-range_with_len}
use Rattle.adf_format.specs.Hex.{hex_value}
use Rattle.adf_format.specs.Fields.{field, number}
use Rattle.adf_format.specs.Parts.{NodeFields, SpellsNode, dimension_digits}
use Rattle.adf_format.specs.Records.{NodeRecord, node_record}
use Rattle.adf_format.specs.FirstFault.{count_up, node_rows}
use Rattle.adf_format.proofs.WalkLaws.{all_kept}
use Rattle.layout_laws.proofs.HeaderRead.{header_says}
use Rattle.layout_laws.proofs.NodeRead.{number_read}
use Rattle.adf_records.specs.declared.NodeHeader.{NodeHeader}
use Rattle.adf_records.specs.View.{record_of}
use Rattle.node_reads.specs.Headers.{IsHeader}
use Rattle.tree_asks.specs.Headers.{dims_of}

map_same : {A : Type 0} (f g : ℕ → A) (a n : ℕ) → ((i : ℕ) → i < n → f (a + i) ≡ g (a + i)) → map f (range_with_len a n) ≡ map g (range_with_len a n)
map_same f g a zero same = refl
map_same f g a (suc n) same =
    let front : a ≡ a + 0 = omega arith in
    ap (λ x. x ∷ map f (range_with_len (a + 1) n)) (ap f front ∙ same 0 (omega arith) ∙ ap g (sym front))
    ∙ ap (λ xs. g a ∷ xs) (map_same f g (a + 1) n (λ i lt. let shift : a + 1 + i ≡ a + suc i = omega arith in ap f shift ∙ same (suc i) (omega (arith, lt)) ∙ ap g (sym shift)))

-- numbers that are those of a list, one by one
map_is : (f : ℕ → ℕ) (xs : List ℕ) (a : ℕ) → ((i d : ℕ) → slice_get xs i ≡ Some d → f (a + i) ≡ d) → map f (range_with_len a (length xs)) ≡ xs
map_is f [] a each = refl
map_is f (x ∷ xs) a each =
    let front : a ≡ a + 0 = omega arith in
    ap (λ y. y ∷ map f (range_with_len (a + 1) (length xs))) (ap f front ∙ each 0 x refl)
    ∙ ap (λ ys. x ∷ ys) (map_is f xs (a + 1) (λ i d e. let shift : a + 1 + i ≡ a + suc i = omega arith in ap f shift ∙ each (suc i) d e))

-- an element that is taken from is one of those taken from
taken_at : (d : ℕ) (xs : List (List ℕ)) (i : ℕ) → take d (slice_index_or xs i []) ≡ slice_index_or (map (take d) xs) i []
taken_at zero [] i = refl
taken_at (suc d) [] i = refl
taken_at d (x ∷ xs) zero = refl
taken_at d (x ∷ xs) (suc i) = taken_at d xs i

abbrev number_of : List ℕ → ℕ
number_of text = unwrap_or (hex_value text) 0

-- twelve texts that are those of twelve fields are their numbers
twelve : (d : ℕ) (dims : List (List ℕ)) (f : ℕ → List ℕ) → map (take d) dims ≡ map f (count_up 12) → map (λ i. number_of (take d (slice_index_or dims i []))) (count_up 12) ≡ map (λ i. number_of (f i)) (count_up 12)
twelve d dims f e =
    map_same (λ i. number_of (take d (slice_index_or dims i []))) (λ i. number_of (slice_index_or (map (take d) dims) i [])) 0 12 (λ i lt. ap number_of (taken_at d dims (0 + i)))
    ∙ ap (λ ds. map (λ i. number_of (slice_index_or ds i [])) (count_up 12)) e

record_dims : (wide : Bool) (bytes : List ℕ) → (node_record wide bytes).dims ≡ map (λ i. field bytes (130 + dimension_digits wide * i) (dimension_digits wide)) (count_up 12)
unfolding node_record
record_dims wide bytes = refl

-- a header that breaks no rule has at most twelve dimensions
pub few_dims : (wide : Bool) (place : ℕ) (header : NodeHeader) (bytes : List ℕ) → IsHeader wide place None header bytes → header.rank ≤ 12
unfolding node_record
few_dims wide place header bytes h =
    let read : number bytes 128 2 ≤ 12 = (header_says wide place true bytes (all_kept (node_rows wide place true bytes) h.kept)).few in
    let rank : header.rank ≡ number bytes 128 2 = ap (λ (r : NodeRecord). r.rank) h.says in
    omega (arith, read, rank)

module _ (wide : Bool) (bytes : List ℕ) (node : NodeFields) (header : NodeHeader) (s : SpellsNode wide bytes node) (says : record_of header ≡ node_record wide bytes) (few : header.rank ≤ 12) where
  abbrev field_of : ℕ → List ℕ
  field_of i = field bytes (130 + dimension_digits wide * i) (dimension_digits wide)

  dims_read : map (take (dimension_digits header.wide)) header.dims ≡ map field_of (count_up 12)
  dims_read = ap (λ (r : NodeRecord). r.dims) says ∙ record_dims wide bytes

  rank_read : header.rank ≡ length node.dims
  unfolding node_record
  rank_read = ap (λ (r : NodeRecord). r.rank) says ∙ number_read bytes 128 2 (length node.dims) s.rank

  at_index : (i d : ℕ) → slice_get node.dims i ≡ Some d → number_of (field_of (0 + i)) ≡ d
  at_index i d e =
      let front : 0 + i ≡ i = omega arith in
      ap (λ j. number_of (field_of j)) front ∙ ap (λ o. unwrap_or o 0) (s.dims i d e)

  pub dims_said : dims_of header ≡ node.dims
  dims_said =
      ap (take header.rank) (twelve (dimension_digits header.wide) header.dims field_of dims_read)
      ∙ take-map-range_with_len (λ i. number_of (field_of i)) 0 12 header.rank few
      ∙ ap (λ r. map (λ i. number_of (field_of i)) (count_up r)) rank_read
      ∙ map_is (λ i. number_of (field_of i)) node.dims 0 at_index
