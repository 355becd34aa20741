-- The chunks of a kept node, as its header says them.
use Rattle.std.proofs.Common.{◌≡◌, ◌≢◌, ℕ, zero, suc, refl, sym, ◌∙◌, ap, subst, arith, List, [], ◌∷◌, ◌++◌, length, take, get_or, ◌+◌, ◌-◌, ◌*◌, ◌^◌, ◌<◌, ◌≤◌, Bool, true, false, cond}
use Rattle.std.proofs.lemmas.Bool.{ne_eqb}
use Rattle.std.proofs.lemmas.Bool.Decides.{nat_tests}
use Rattle.std.proofs.lemmas.Option.{slice_get-get_or}
use Rattle.std.specs.Prelude.{Some, None, slice_get, nat_le, nat_lt, ◌==◌, codes}
use Rattle.std.specs.List.{range_with_len, flat_map}
use Rattle.adf_format.specs.declared.fields.TheConstants.{CHUNK_START, HEAD_POINTER}
use Rattle.adf_format.specs.Checks.{first_broken}
use Rattle.adf_format.specs.Fields.{field, holds}
use Rattle.adf_format.specs.FirstFault.{Visit, ChunkVisit, chunk_count, chunk_in, chunks_in, chunk_visits, listed_chunks, chunk_length, payloads_in, chunk_table_rows, is_wide}
use Rattle.adf_format.specs.Parts.{chunk_table_length, payload}
use Rattle.adf_format.specs.Pointer.{To, pointer, is_place, place_of}
use Rattle.adf_format.specs.RecordFields.{field_in}
use Rattle.adf_format.specs.Records.{NodeRecord}
use Rattle.adf_format.specs.SoundPart.{data_when}
use Rattle.adf_format.proofs.FieldLaws.{inner_field}
use Rattle.adf_model.proofs.Basics.{and_parts, not_there, same_Some}
use Rattle.adf_model.proofs.Walks.WalkNodes.{Kept}
use Rattle.cg_io.specs.Device.{bytes_at}
use Rattle.layout_laws.proofs.FoundNodes.{RowsKept, unless_kept}
use Rattle.layout_laws.proofs.Frames.{Chunk, ChunkRead, ChunkTableRead, at_front, chunk_table_spelled, chunks_spelled}
use Rattle.layout_laws.proofs.NodeRules.{at_counted}
use Rattle.layout_laws.proofs.Rows.{kept_none, both, of_le, of_equal, points_to, points_place, holds_of, fits_tells}
use Rattle.layout_laws.proofs.VisitExtents.{length-chunk_visits}
use Rattle.node_reads.specs.Entries.{chunk_head_rows}
use Rattle.adf_repack.specs.Given.{HasChunk, HoldsData}
use Rattle.adf_repack.specs.Payloads.{chunk_of, entry_at, chunk_at, payload_length, payload_at, payloads_of}
use Rattle.adf_repack.specs.Plans.{record_at}
use Rattle.adf_repack.proofs.WholeLaws.{at_field}
use Rattle.salvage_given.proofs.HeaderRead.{count, chunk_at as chunk_named}

take_again : (n : ℕ) (xs : List ℕ) → take (length (take n xs)) xs ≡ take n xs
take_again zero [] = refl
take_again zero (x ∷ xs) = refl
take_again (suc n) [] = refl
take_again (suc n) (x ∷ xs) = ap (λ ys. x ∷ ys) (take_again n xs)

table_fits : (image : List ℕ) (end used c n : ℕ) → Kept (chunk_table_rows image end used c n) → c + chunk_table_length n ≤ end + 1
unfolding chunk_table_rows
table_fits image end used c n h = (fits_tells end c (chunk_table_length n) (and_parts _ _ h.0).0).1

-- ---- where a chunk stands

module _ (image : List ℕ) (end : ℕ) (ends : end < length image) (low : end < 2 ^ 44) (r : NodeRecord) where
  -- what the header says of the i-th chunk, and its entry where there are several
  pub record ChunkSays (i : ℕ) (w : ChunkVisit) : Type 0 where
    pub stands : chunk_at image r i ≡ w.place
    pub entry_near : r.chunks ≢ 1 → entry_at r i + 24 ≤ 2 ^ 44
    pub entry : r.chunks ≢ 1 → is_place (field_in (bytes_at image (entry_at r i) 24) CHUNK_START) ≡ true

  one_says : (c i : ℕ) (w : ChunkVisit) → r.chunks ≡ 1 → chunk_of r ≡ c → slice_get (record { place = c; listed = None } ∷ []) i ≡ Some w → ChunkSays i w
  one_says c (suc i) w one at e = absurd (not_there w e)
  one_says c zero w one at e = record {
    stands = ap (λ (b : Bool). cond b (chunk_of r) (place_of (field_in (bytes_at image (entry_at r 0) 24) CHUNK_START))) (of_equal r.chunks 1 one)
        ∙ at ∙ ap (λ (x : ChunkVisit). x.place) (same_Some (record { place = c; listed = None }) w e);
    entry_near = λ several. absurd (several one);
    entry = λ several. absurd (several one);
  }

  many_says : (c n i : ℕ) (w : ChunkVisit) → r.chunks ≢ 1 → chunk_of r ≡ c → c + chunk_table_length n ≤ end + 1 → ChunkTableRead image c n → slice_get (listed_chunks image c n) i ≡ Some w → ChunkSays i w
  many_says c n i w several at fit table e =
      let listed = at_counted (λ i. record { place = place_of (field image (c + 16 + 24 * i) 12); listed = Some (place_of (field image (c + 28 + 24 * i) 12)) }) 0 n i w e in
      let inside = listed.0 in
      let here : entry_at r i ≡ c + 16 + 24 * i = ap (λ (m : ℕ). m + 16 + 24 * i) at in
      let entry_is : field_in (bytes_at image (entry_at r i) 24) CHUNK_START ≡ field image (c + 16 + 24 * i) 12 =
      ap (λ (m : ℕ). field (bytes_at image m 24) 0 12) here ∙ ap (λ (b : List ℕ). field b 0 12) (at_field image (c + 16 + 24 * i) 24 (omega (arith, fit, inside, ends))) ∙ at_front image (c + 16 + 24 * i) 24 12 (omega arith) in
      record {
        stands = ap (λ (b : Bool). cond b (chunk_of r) (place_of (field_in (bytes_at image (entry_at r i) 24) CHUNK_START))) (ne_eqb r.chunks 1 several)
            ∙ ap place_of entry_is ∙ ap (λ (j : ℕ). place_of (field image (c + 16 + 24 * j) 12)) (front i) ∙ ap (λ (x : ChunkVisit). x.place) listed.1;
        entry_near = λ h. omega (arith, here, fit, inside, low);
        entry = λ h. ap is_place entry_is ∙ table.starts i inside;
      }
    where
      front : (i : ℕ) → i ≡ 0 + i
      front i = omega arith

  abbrev TableStands : ℕ → ℕ → Type 0
  TableStands c n = nat_lt n 2 ≡ false → (c + chunk_table_length n ≤ end + 1) × ChunkTableRead image c n

  says_of : (c n i : ℕ) (w : ChunkVisit) → r.chunks ≡ n → chunk_of r ≡ c → TableStands c n → slice_get (chunk_visits image c n) i ≡ Some w → ChunkSays i w
  says_of c zero i w many at table e = absurd (not_there w e)
  says_of c (suc zero) i w many at table e = one_says c i w many at e
  says_of c (suc (suc n)) i w many at table e =
      let t = table (long n) in
      many_says c (n + 2) i w (λ one. omega (arith, many, one)) at (subst (λ (m : ℕ). c + chunk_table_length m ≤ end + 1) (two n) t.0) (subst (ChunkTableRead image c) (two n) t.1) e
    where
      two : (n : ℕ) → suc (suc n) ≡ n + 2
      two n = omega arith

      long : (n : ℕ) → nat_lt (suc (suc n)) 2 ≡ false
      long n = grind (arith, nat_tests)

-- ---- what it holds

chunk_there : (image : List ℕ) (end : ℕ) (vs : List ChunkVisit) (i : ℕ) (w : ChunkVisit) → Chunk image end vs → slice_get vs i ≡ Some w → ChunkRead image end w
chunk_there image end [] i w h e = absurd (not_there w e)
chunk_there image end (v ∷ vs) zero w h e = subst (ChunkRead image end) (same_Some v w e) h.0
chunk_there image end (v ∷ vs) (suc i) w h e = chunk_there image end vs i w h.1 e

module _ (image : List ℕ) (end : ℕ) (ends : end < length image) (w : ChunkVisit) (chunk : ChunkRead image end w) where
  head_field : bytes_at image w.place 16 ≡ field image w.place 16
  head_field = let high = chunk.high in let long = chunk.spelled.long in at_field image w.place 16 (omega (arith, high, long, ends))

  head_points : pointer (field_in (bytes_at image w.place 16) HEAD_POINTER) ≡ Some (To (w.place + chunk_length image w.place - 4))
  head_points = ap (λ (b : List ℕ). pointer (field b 4 12)) head_field ∙ ap pointer (inner_field image w.place 16 4 12 (omega arith)) ∙ chunk.points

  head_starts : holds (bytes_at image w.place 16) 0 (codes "DaTa") ≡ true
  head_starts =
      let long = chunk.spelled.long in
      holds_of (bytes_at image w.place 16) 0 (codes "DaTa") (ap (λ (b : List ℕ). field b 0 4) head_field ∙ at_front image w.place 16 4 (omega arith)
      ∙ sym (at_front image w.place (chunk_length image w.place) 4 (omega (arith, long))) ∙ chunk.spelled.framed.start_tag)

  pub head_kept : first_broken (chunk_head_rows w.place (bytes_at image w.place 16)) ≡ None
  head_kept =
      let long = chunk.spelled.long in
      let tail = points_to (field_in (bytes_at image w.place 16) HEAD_POINTER) (w.place + chunk_length image w.place - 4) head_points in
      kept_none (chunk_head_rows w.place (bytes_at image w.place 16)) (
        head_starts,
        (
          both (is_place (field_in (bytes_at image w.place 16) HEAD_POINTER)) (nat_le (w.place + 21) (place_of (field_in (bytes_at image w.place 16) HEAD_POINTER) + 4))
              (points_place (field_in (bytes_at image w.place 16) HEAD_POINTER) (w.place + chunk_length image w.place - 4) head_points)
              (of_le (w.place + 21) (place_of (field_in (bytes_at image w.place 16) HEAD_POINTER) + 4) (omega (arith, tail, long))),
          tt,
        ),
      )

  pub payload_so : payload_at image w.place ≡ payload image w.place (chunk_length image w.place)
  payload_so =
      let long = chunk.spelled.long in
      let high = chunk.high in
      let tail = points_to (field_in (bytes_at image w.place 16) HEAD_POINTER) (w.place + chunk_length image w.place - 4) head_points in
      let size : payload_length image w.place ≡ chunk_length image w.place - 20 = omega (arith, tail, long) in
      ap (bytes_at image (w.place + 16)) size ∙ at_field image (w.place + 16) (chunk_length image w.place - 20) (omega (arith, high, long, ends))

-- what the chunks of a list hold, by the number of each
payloads_from : (image : List ℕ) (at : ℕ → ℕ) (vs : List ChunkVisit) (a : ℕ) → ((i : ℕ) (w : ChunkVisit) → slice_get vs i ≡ Some w → payload_at image (at (a + i)) ≡ payload image w.place (chunk_length image w.place))
    → flat_map (λ i. payload_at image (at i)) (range_with_len a (length vs)) ≡ payloads_in image vs
payloads_from image at [] a each = refl
payloads_from image at (v ∷ vs) a each =
    ap (λ (l : List ℕ). l ++ flat_map (λ i. payload_at image (at i)) (range_with_len (a + 1) (length vs))) (ap (λ (i : ℕ). payload_at image (at i)) (plain a) ∙ each 0 v refl)
    ∙ ap (λ (l : List ℕ). payload image v.place (chunk_length image v.place) ++ l) (payloads_from image at vs (a + 1) (λ i w e. ap (λ (j : ℕ). payload_at image (at j)) (shift a i) ∙ each (suc i) w e))
  where
    plain : (a : ℕ) → a ≡ a + 0
    plain a = omega arith

    shift : (a i : ℕ) → a + 1 + i ≡ a + suc i
    shift a i = omega arith

-- ---- the chunks of a node

module _ (image : List ℕ) (end : ℕ) (ends : end < length image) (low : end < 2 ^ 44) (v : Visit) (rows : RowsKept image (is_wide image) end v) where
  abbrev says : NodeRecord
  says = record_at image (is_wide image) v.place

  abbrev chunks : List ChunkVisit
  chunks = chunks_in image (is_wide image) v.place

  many : (record_at image (is_wide image) v.place).chunks ≡ chunk_count image (is_wide image) v.place
  many = count image end ends v rows

  all_long : length (chunks_in image (is_wide image) v.place) ≡ chunk_count image (is_wide image) v.place
  all_long = length-chunk_visits image (chunk_in image (is_wide image) v.place) (chunk_count image (is_wide image) v.place)

  all_read : Chunk image end (chunks_in image (is_wide image) v.place)
  all_read = chunks_spelled image end rows.behind_chunk_table (chunks_in image (is_wide image) v.place) rows.chunks

  said : (i : ℕ) (w : ChunkVisit) → slice_get (chunks_in image (is_wide image) v.place) i ≡ Some w → ChunkSays image end ends low (record_at image (is_wide image) v.place) i w
  said i w e =
      says_of image end ends low (record_at image (is_wide image) v.place) (chunk_in image (is_wide image) v.place) (chunk_count image (is_wide image) v.place) i w many (chunk_named image end ends v rows) (λ several.
      let kept = unless_kept (nat_lt (chunk_count image (is_wide image) v.place) 2) (chunk_table_rows image end rows.behind_table (chunk_in image (is_wide image) v.place) (chunk_count image (is_wide image) v.place)) several rows.chunk_table in (
        table_fits image end rows.behind_table (chunk_in image (is_wide image) v.place) (chunk_count image (is_wide image) v.place) kept,
        chunk_table_spelled image end rows.behind_table (chunk_in image (is_wide image) v.place) (chunk_count image (is_wide image) v.place) kept,
      )) e

  no_chunk : ChunkVisit
  no_chunk = record { place = 0; listed = None }

  pub all_chunks : (i : ℕ) → i < (record_at image (is_wide image) v.place).chunks → HasChunk image (record_at image (is_wide image) v.place) i
  all_chunks i lt = has (get_or (chunks_in image (is_wide image) v.place) i no_chunk) (slice_get-get_or (chunks_in image (is_wide image) v.place) i no_chunk (let m = many in let l = all_long in omega (arith, lt, m, l)))
    where
      has : (w : ChunkVisit) → slice_get (chunks_in image (is_wide image) v.place) i ≡ Some w → HasChunk image (record_at image (is_wide image) v.place) i
      has w e =
          let h = said i w e in
          let c = chunk_there image end (chunks_in image (is_wide image) v.place) i w all_read e in
          let at = h.stands in
          let high = c.high in
          let long = c.spelled.long in
          record {
            entry_near = h.entry_near;
            entry = h.entry;
            near = omega (arith, at, high, long, low);
            head = subst (λ (m : ℕ). first_broken (chunk_head_rows m (bytes_at image m 16)) ≡ None) (sym at) (head_kept image end ends w c);
          }

  payloads_so : payloads_of image (record_at image (is_wide image) v.place) ≡ payloads_in image (chunks_in image (is_wide image) v.place)
  payloads_so =
      ap (λ (m : ℕ). flat_map (λ i. payload_at image (chunk_at image (record_at image (is_wide image) v.place) i)) (range_with_len 0 m)) (many ∙ sym all_long)
      ∙ payloads_from image (chunk_at image (record_at image (is_wide image) v.place)) (chunks_in image (is_wide image) v.place) 0 (λ i w e.
      ap (λ (j : ℕ). payload_at image (chunk_at image (record_at image (is_wide image) v.place) j)) (front i)
      ∙ ap (payload_at image) (said i w e).stands ∙ payload_so image end ends w (chunk_there image end (chunks_in image (is_wide image) v.place) i w all_read e))
    where
      front : (i : ℕ) → 0 + i ≡ i
      front i = omega arith

  pub data_so : (size : ℕ) → HoldsData image (record_at image (is_wide image) v.place) (data_when (length (chunks_in image (is_wide image) v.place)) (take size (payloads_in image (chunks_in image (is_wide image) v.place))))
  data_so size = by_count (length (chunks_in image (is_wide image) v.place)) (many ∙ sym all_long)
    where
      by_count : (n : ℕ) → (record_at image (is_wide image) v.place).chunks ≡ n → HoldsData image (record_at image (is_wide image) v.place) (data_when n (take size (payloads_in image (chunks_in image (is_wide image) v.place))))
      by_count zero e = e
      by_count (suc n) e =
          subst (λ (b : Bool). HoldsData image (record_at image (is_wide image) v.place) (cond b None (Some (take size (payloads_in image (chunks_in image (is_wide image) v.place)))))) (sym (some n)) (
            (λ none. omega (arith, e, none)),
            ap (take (length (take size (payloads_in image (chunks_in image (is_wide image) v.place))))) payloads_so ∙ take_again size (payloads_in image (chunks_in image (is_wide image) v.place)),
          )
        where
          some : (n : ℕ) → (suc n == 0) ≡ false
          some n = grind (arith, nat_tests)
