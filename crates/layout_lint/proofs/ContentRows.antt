-- The rules of what a node is and what its chunks hold.
use Rattle.std.proofs.Common.{◌≡◌, ℕ, ◌+◌, ◌-◌, ◌^◌, min, ◌≤◌, ◌<◌, List, [], ◌∷◌, ◌++◌, map, length, take, refl, sym, ◌∙◌, ap, subst, arith, inl, inr, Bool, true, false}
use Rattle.std.specs.Prelude.{not, ◌&&◌, ◌||◌, ◌==◌, nat_le, nat_lt, if◌then◌else◌, None, unwrap_or, slice_index_or}
use Rattle.adf_format.specs.Hex.{hex_value}
use Rattle.std.proofs.lemmas.List.{length-take, length-map}
use Rattle.std.proofs.lemmas.List.FromFn.{length-map-range_with_len}
use Rattle.std.proofs.lemmas.Bool.{cases_lt}
use Rattle.std.proofs.lemmas.Bool.Decides.{nat_tests}
use Rattle.adf_format.specs.declared.types.DataType.{DataType}
use Rattle.adf_format.specs.declared.types.Extent.{Extent}
use Rattle.adf_format.specs.declared.fields.TheConstants.{NODE_TYPE}
use Rattle.adf_format.specs.RecordFields.{at_place, node_chunks, field_in}
use Rattle.adf_format.specs.Parts.{node_length, dimension_digits}
use Rattle.adf_format.specs.Names.{is_mt, is_lk, data_size}
use Rattle.adf_format.specs.Links.{is_link_text}
use Rattle.adf_format.specs.Checks.{Row, row, first_broken}
use Rattle.adf_format.specs.FirstFault.{data_rows, chunks_in, dims_in, payload_total, payloads_in, type_or_mt}
use Rattle.adf_records.specs.declared.NodeHeader.{NodeHeader}
use Rattle.layout_lint.specs.declared.verdict.Halt.TheVariants as halt
use Rattle.layout_lint.specs.Halts.{Breaks}
use Rattle.layout_lint.specs.Chunks.{data_extent}
use Rattle.layout_lint.specs.Nodes.{IsHeaderAt, numbers_of}
use Rattle.layout_lint.proofs.RowSteps.{kept_2, breaks_first, breaks_then, row_kept, row_breaks}

-- ---- the size of the data, cut off at 2^64 - 1

same_payload : (most t s total : ℕ) → s ≡ min t most → total < most → nat_le t total ≡ nat_le s total
same_payload most t s total is short = grind (arith, nat_tests)

too_long : (n : ℕ) → 4096 < n → nat_le n 4096 ≡ false
too_long n lt = grind (arith, nat_tests)

none_of : (a b : Bool) → ((a && false) && b) ≡ false
none_of true b = refl
none_of false b = refl

same_short : (most t s : ℕ) (a : Bool) (f : ℕ → Bool) → 4096 < most → s ≡ min t most → ((a && nat_le t 4096) && f t) ≡ ((a && nat_le s 4096) && f s)
same_short most t s a f long is = elim (cases_lt most t) [
  | inl more ↦
      let first : nat_le t 4096 ≡ false = too_long t (omega arith) in
      let second : nat_le s 4096 ≡ false = too_long s (omega arith) in
      ap (λ x. (a && x) && f t) first ∙ none_of a (f t) ∙ sym (ap (λ x. (a && x) && f s) second ∙ none_of a (f s))
  | inr same ↦ let equal : t ≡ s = omega arith in ap (λ n. (a && nat_le n 4096) && f n) equal
]

-- ---- the rules, by what they read

-- the chunks are as the type wants them, and hold the data
abbrev pub holds_data : DataType → ℕ → ℕ → ℕ → Bool
holds_data kind count size total = (not (is_mt kind) || (count == 0)) && (not (is_lk kind) || nat_lt 0 count) && ((count == 0) || nat_le size total)

-- a link has one dimension, and its text
abbrev pub is_sound_link : DataType → ℕ → ℕ → List ℕ → Bool
is_sound_link kind rank size payload = not (is_lk kind) || (rank == 1) && nat_le size 4096 && is_link_text (take size payload)

abbrev number_of : NodeHeader → ℕ → ℕ
number_of n i = unwrap_or (hex_value (take (dimension_digits n.wide) (slice_index_or n.dims i []))) 0

module _ (image : List ℕ) (wide : Bool) (p : ℕ) where
  abbrev chunks_row : DataType → List ℕ → ℕ → ℕ → List Row
  chunks_row kind dims count total = row 27 (at_place p (node_chunks wide)).offset (holds_data kind count (data_size kind dims) total) ∷ []

  abbrev link_row : DataType → List ℕ → List ℕ → List Row
  link_row kind dims payload = row 28 (p + NODE_TYPE.offset) (is_sound_link kind (length dims) (data_size kind dims) payload) ∷ []

  in_groups : data_rows image wide p ≡ chunks_row (type_or_mt (field_in image (at_place p NODE_TYPE))) (dims_in image wide p) (length (chunks_in image wide p)) (payload_total image (chunks_in image wide p))
      ++ link_row (type_or_mt (field_in image (at_place p NODE_TYPE))) (dims_in image wide p) (payloads_in image (chunks_in image wide p))
  unfolding data_rows
  in_groups = refl

  rank_of : (n : NodeHeader) → n.rank ≤ 12 → length (take n.rank (numbers_of n)) ≡ n.rank
  rank_of n few = length-take n.rank (numbers_of n) ∙ omega (arith, few, length-map-range_with_len (number_of n) 0 12)

  chunks_offset : (at_place p (node_chunks wide)).offset ≡ p + node_length wide - 20
  chunks_offset = omega arith

  module _ (n : NodeHeader) (extents : List Extent) (size payload : ℕ) (is : IsHeaderAt image wide p n) (sized : size ≡ min (data_size n.kind (take n.rank (numbers_of n))) (2 ^ 64 - 1)) (count : length extents ≡ n.chunks)
      (are : extents ≡ map (data_extent image) (chunks_in image wide p)) (total : payload ≡ payload_total image (chunks_in image wide p)) (short : payload < 2 ^ 64 - 1) where
    abbrev first : List Row
    first = row 27 (p + node_length wide - 20) (holds_data n.kind n.chunks size payload) ∷ []

    abbrev second : List Row
    second = row 28 (p + 96) (is_sound_link n.kind n.rank size (payloads_in image (chunks_in image wide p))) ∷ []

    chunks_said : chunks_row (type_or_mt (field_in image (at_place p NODE_TYPE))) (dims_in image wide p) (length (chunks_in image wide p)) (payload_total image (chunks_in image wide p))
        ≡ first
    chunks_said =
        let long : length (chunks_in image wide p) ≡ n.chunks = sym (length-map (chunks_in image wide p) (data_extent image)) ∙ ap length (sym are) ∙ count in
        let dims : List ℕ = take n.rank (numbers_of n) in
        ap (λ (k : DataType). chunks_row k (dims_in image wide p) (length (chunks_in image wide p)) (payload_total image (chunks_in image wide p))) (sym is.kind)
        ∙ ap (λ ds. chunks_row n.kind ds (length (chunks_in image wide p)) (payload_total image (chunks_in image wide p))) (sym is.dims)
        ∙ ap (λ m. chunks_row n.kind dims m (payload_total image (chunks_in image wide p))) long ∙ ap (λ m. chunks_row n.kind dims n.chunks m) (sym total)
        ∙ ap (λ b. row 27 (at_place p (node_chunks wide)).offset ((not (is_mt n.kind) || (n.chunks == 0)) && (not (is_lk n.kind) || nat_lt 0 n.chunks) && ((n.chunks == 0) || b)) ∷ [])
        (same_payload (2 ^ 64 - 1) (data_size n.kind dims) size payload sized short)
        ∙ ap (λ o. row 27 o (holds_data n.kind n.chunks size payload) ∷ []) chunks_offset

    link_said : link_row (type_or_mt (field_in image (at_place p NODE_TYPE))) (dims_in image wide p) (payloads_in image (chunks_in image wide p))
        ≡ second
    link_said =
        let dims : List ℕ = take n.rank (numbers_of n) in
        let payload : List ℕ = payloads_in image (chunks_in image wide p) in
        ap (λ (k : DataType). link_row k (dims_in image wide p) payload) (sym is.kind) ∙ ap (λ ds. link_row n.kind ds payload) (sym is.dims)
        ∙ ap (λ r. row 28 (p + 96) (is_sound_link n.kind r (data_size n.kind dims) payload) ∷ []) (rank_of n is.rank)
        ∙ ap (λ b. row 28 (p + 96) (not (is_lk n.kind) || b) ∷ []) (same_short (2 ^ 64 - 1) (data_size n.kind dims) size (n.rank == 1) (λ k. is_link_text (take k payload)) (omega arith) sized)

    said : data_rows image wide p ≡ first ++ second
    said = in_groups ∙ ap (λ rows. rows ++ link_row (type_or_mt (field_in image (at_place p NODE_TYPE))) (dims_in image wide p) (payloads_in image (chunks_in image wide p))) chunks_said
        ∙ ap (λ rows. first ++ rows) link_said

    pub breaks_payload : holds_data n.kind n.chunks size payload ≡ false → Breaks (data_rows image wide p) (halt.Broken (record { rule = 27; place = p + node_length wide - 20 }))
    breaks_payload e = subst (λ rows. Breaks rows (halt.Broken (record { rule = 27; place = p + node_length wide - 20 }))) (sym said)
        (breaks_first first second (halt.Broken (record { rule = 27; place = p + node_length wide - 20 })) (row_breaks 27 _ _ e))

    pub breaks_link : holds_data n.kind n.chunks size payload ≡ true → is_sound_link n.kind n.rank size (payloads_in image (chunks_in image wide p)) ≡ false → Breaks (data_rows image wide p) (halt.Broken (record { rule = 28; place = p + 96 }))
    breaks_link e l = subst (λ rows. Breaks rows (halt.Broken (record { rule = 28; place = p + 96 }))) (sym said)
        (breaks_then first second (halt.Broken (record { rule = 28; place = p + 96 })) (row_kept 27 _ _ e) (row_breaks 28 _ _ l))

    pub keeps_contents : holds_data n.kind n.chunks size payload ≡ true → is_sound_link n.kind n.rank size (payloads_in image (chunks_in image wide p)) ≡ true → first_broken (data_rows image wide p) ≡ None
    keeps_contents e l = ap first_broken said ∙ kept_2 first second (row_kept 27 _ _ e) (row_kept 28 (p + 96) _ l)

-- ---- a link's text is within the payload

within : (empty link : Bool) (count size total : ℕ) → ((not empty || (count == 0)) && (not link || nat_lt 0 count) && ((count == 0) || nat_le size total)) ≡ true → link ≡ true → size ≤ total
within empty link count size total holds is = grind (arith, nat_tests)

pub link_within : (kind : DataType) (count size total : ℕ) → holds_data kind count size total ≡ true → is_lk kind ≡ true → size ≤ total
link_within kind count size total holds is = within (is_mt kind) (is_lk kind) count size total holds is

at_most : (link : Bool) (size total : ℕ) → (link ≡ true → size ≤ total) → (if link then size else 0) ≤ total
at_most true size total fits = fits refl
at_most false size total fits = omega arith

pub few_reads : (kind : DataType) (count size total : ℕ) → holds_data kind count size total ≡ true → (if is_lk kind then size else 0) ≤ total
few_reads kind count size total holds = at_most (is_lk kind) size total (link_within kind count size total holds)
