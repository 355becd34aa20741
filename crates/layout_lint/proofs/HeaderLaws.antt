-- What a header in code says of the bytes at its place.
use Rattle.std.proofs.Common.{◌≡◌, ℕ, zero, suc, ◌+◌, ◌*◌, ◌≤◌, ◌<◌, List, [], ◌∷◌, map, take, refl, sym, ◌∙◌, ap, arith, Bool, true, false}
use Rattle.std.specs.Prelude.{None, unwrap_or, slice_index_or}
use Rattle.std.specs.List.{range_with_len}
use Rattle.std.proofs.lemmas.List.FromFn.{take-map-range_with_len}
use Rattle.adf_format.specs.Hex.{hex_value}
use Rattle.adf_format.specs.Fields.{field, number}
use Rattle.adf_format.specs.Pointer.{place_of}
use Rattle.adf_format.specs.Parts.{node_length, dimension_digits, chunk_count_at}
use Rattle.adf_format.specs.Records.{NodeRecord, node_record, pointer_in}
use Rattle.adf_format.specs.Checks.{first_broken}
use Rattle.adf_format.specs.FirstFault.{count_up, node_rows, type_or_mt, dims_in}
use Rattle.adf_format.proofs.FieldLaws.{inner_field}
use Rattle.adf_format.proofs.WalkLaws.{all_kept}
use Rattle.disk_ptr.specs.View.{view}
use Rattle.adf_records.specs.declared.NodeHeader.{NodeHeader}
use Rattle.adf_records.specs.View.{record_of}
use Rattle.layout_laws.proofs.HeaderRead.{header_says}
use Rattle.layout_lint.specs.Nodes.{IsHeaderAt, numbers_of}
use Rattle.layout_lint.proofs.HeadLaws.{place_said}

-- ---- numbers that hold for a range of places

map_same : {A : Type 0} (f g : ℕ → A) (a n : ℕ) → ((i : ℕ) → i < n → f (a + i) ≡ g (a + i)) → map f (range_with_len a n) ≡ map g (range_with_len a n)
map_same f g a zero same = refl
map_same f g a (suc n) same =
    let front : a ≡ a + 0 = omega arith in
    ap (λ x. x ∷ map f (range_with_len (a + 1) n)) (ap f front ∙ same 0 (omega arith) ∙ ap g (sym front))
    ∙ ap (λ xs. g a ∷ xs) (map_same f g (a + 1) n (λ i lt. let shift : a + 1 + i ≡ a + suc i = omega arith in ap f shift ∙ same (suc i) (omega (arith, lt)) ∙ ap g (sym shift)))

-- an element that is taken from is one of those taken from
taken_at : (d : ℕ) (xs : List (List ℕ)) (i : ℕ) → take d (slice_index_or xs i []) ≡ slice_index_or (map (take d) xs) i []
taken_at zero [] i = refl
taken_at (suc d) [] i = refl
taken_at d (x ∷ xs) zero = refl
taken_at d (x ∷ xs) (suc i) = taken_at d xs i

abbrev number_of : List ℕ → ℕ
number_of text = unwrap_or (hex_value text) 0

-- ---- the dimensions of a header

-- twelve texts that are those of twelve fields are their numbers
twelve : (d : ℕ) (dims : List (List ℕ)) (f : ℕ → List ℕ) → map (take d) dims ≡ map f (count_up 12) → map (λ i. number_of (take d (slice_index_or dims i []))) (count_up 12) ≡ map (λ i. number_of (f i)) (count_up 12)
twelve d dims f e =
    map_same (λ i. number_of (take d (slice_index_or dims i []))) (λ i. number_of (slice_index_or (map (take d) dims) i [])) 0 12 (λ i lt. ap number_of (taken_at d dims (0 + i)))
    ∙ ap (λ ds. map (λ i. number_of (slice_index_or ds i [])) (count_up 12)) e

record_dims : (wide : Bool) (bytes : List ℕ) → (node_record wide bytes).dims ≡ map (λ i. field bytes (130 + dimension_digits wide * i) (dimension_digits wide)) (count_up 12)
unfolding node_record
record_dims true bytes = refl
record_dims false bytes = refl

long_dims : (wide : Bool) (i : ℕ) → i < 12 → (130 + dimension_digits wide * i) + dimension_digits wide ≤ node_length wide
long_dims true i lt = omega arith
long_dims false i lt = omega arith

dims_moved : (wide : Bool) (p i : ℕ) → p + (130 + dimension_digits wide * i) ≡ p + 130 + dimension_digits wide * i
dims_moved wide p i = omega arith

rank_long : (wide : Bool) → 130 ≤ node_length wide
rank_long true = omega arith
rank_long false = omega arith

count_long : (wide : Bool) → chunk_count_at wide + 20 ≤ node_length wide
count_long true = omega arith
count_long false = omega arith

module _ (image : List ℕ) (wide : Bool) (p : ℕ) (n : NodeHeader) (says : record_of n ≡ node_record wide (field image p (node_length wide))) (same : n.wide ≡ wide) where
  abbrev h : ℕ
  h = node_length wide

  abbrev bytes : List ℕ
  bytes = field image p h

  -- a number in the header is one in the image
  number_at : (k w : ℕ) → k + w ≤ h → number bytes k w ≡ number image (p + k) w
  number_at k w within = ap number_of (inner_field image p h k w within)

  children_said : n.children ≡ number image (p + 68) 8
  unfolding node_record
  children_said = ap (λ (r : NodeRecord). r.children) says ∙ number_at 68 8 (let l = rank_long wide in omega arith)

  entries_said : n.entries ≡ number image (p + 76) 8
  unfolding node_record
  entries_said = ap (λ (r : NodeRecord). r.entries) says ∙ number_at 76 8 (let l = rank_long wide in omega arith)

  kind_said : n.kind ≡ type_or_mt (field image (p + 96) 32)
  unfolding node_record
  kind_said = ap (λ (r : NodeRecord). r.kind) says ∙ ap type_or_mt (inner_field image p h 96 32 (let l = rank_long wide in omega arith))

  rank_said : n.rank ≡ number image (p + 128) 2
  unfolding node_record
  rank_said = ap (λ (r : NodeRecord). r.rank) says ∙ number_at 128 2 (rank_long wide)

  chunks_said : n.chunks ≡ number image (p + chunk_count_at wide) 4
  unfolding node_record
  chunks_said = ap (λ (r : NodeRecord). r.chunks) says ∙ number_at (chunk_count_at wide) 4 (let l = count_long wide in omega arith)

  table_pointer : view n.table ≡ pointer_in bytes 84
  unfolding node_record
  table_pointer = ap (λ (r : NodeRecord). r.table) says

  chunk_pointer : view n.chunk ≡ pointer_in bytes (chunk_count_at wide + 4)
  unfolding node_record
  chunk_pointer = ap (λ (r : NodeRecord). r.chunk) says

  abbrev field_of : ℕ → List ℕ
  field_of i = field bytes (130 + dimension_digits wide * i) (dimension_digits wide)

  dims_read : map (take (dimension_digits n.wide)) n.dims ≡ map field_of (count_up 12)
  dims_read = ap (λ (r : NodeRecord). r.dims) says ∙ record_dims wide bytes

  numbers_said : numbers_of n ≡ map (λ i. number image (p + 130 + dimension_digits wide * i) (dimension_digits wide)) (count_up 12)
  numbers_said =
      twelve (dimension_digits n.wide) n.dims field_of dims_read
      ∙ map_same (λ i. number_of (field_of i)) (λ i. number image (p + 130 + dimension_digits wide * i) (dimension_digits wide)) 0 12 (λ i lt. moved (0 + i) (omega (arith, lt)))
    where
      moved : (i : ℕ) → i < 12 → number_of (field_of i) ≡ number image (p + 130 + dimension_digits wide * i) (dimension_digits wide)
      moved i lt = number_at (130 + dimension_digits wide * i) (dimension_digits wide) (long_dims wide i lt) ∙ ap (λ k. number image k (dimension_digits wide)) (dims_moved wide p i)

  module _ (named : Bool) (kept : first_broken (node_rows wide p named (field image p (node_length wide))) ≡ None) where
    few : n.rank ≤ 12
    few =
        let read : number bytes 128 2 ≤ 12 = (header_says wide p named bytes (all_kept (node_rows wide p named bytes) kept)).few in
        let rank : n.rank ≡ number bytes 128 2 = rank_said ∙ sym (number_at 128 2 (rank_long wide)) in
        omega arith

    dims_said : take n.rank (numbers_of n) ≡ dims_in image wide p
    dims_said =
        ap (take n.rank) numbers_said
        ∙ take-map-range_with_len (λ i. number image (p + 130 + dimension_digits wide * i) (dimension_digits wide)) 0 12 n.rank few
        ∙ ap (λ r. map (λ i. number image (p + 130 + dimension_digits wide * i) (dimension_digits wide)) (count_up r)) rank_said

    pub header_said : IsHeaderAt image wide p n
    header_said = record {
      children = children_said;
      entries = entries_said;
      table = place_said image p h 84 (view n.table) (let l = rank_long wide in omega arith) table_pointer;
      kind = kind_said;
      rank = few;
      dims = dims_said;
      chunks = chunks_said;
      chunk = place_said image p h (chunk_count_at wide + 4) (view n.chunk) (let l = count_long wide in omega arith) chunk_pointer ∙ ap (λ k. place_of (field image k 12)) (omega arith);
    }
