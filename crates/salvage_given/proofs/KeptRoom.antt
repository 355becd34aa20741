-- The packed file of the sound part of a damaged file is not much longer than that file.
use Rattle.std.proofs.Common.{◌≡◌, ℕ, zero, suc, refl, sym, subst, arith, List, [], ◌∷◌, ◌++◌, length, map, take, length-append, length-take, ◌+◌, ◌-◌, ◌*◌, ◌^◌, ◌<◌, ◌≤◌, Bool, true, false, cond}
use Rattle.std.proofs.lemmas.Bool.Decides.{nat_tests}
use Rattle.std.specs.Prelude.{Option, Some, None, slice_get, nat_lt, ◌==◌, ◌&&◌, drop}
use Rattle.std.specs.List.{filter_map, range_with_len}
use Rattle.adf_format.specs.declared.types.ExtentKind.{ExtentKind}
use Rattle.adf_format.specs.Checks.{Row, row, Fault, Survey, surveyed, omits, keeps, first_broken}
use Rattle.adf_format.specs.FirstFault.{Visit, ChunkVisit, child_visits, visit_rows, visit_extents, found_extents, table_rows, chunk_table_rows, chunk_rows, rows_unless, is_wide, count_up, type_or_mt, dims_in, children_in, entries_in, table_in, table_extents_at, chunk_count, chunk_in, chunks_in, chunk_table_extents_at, chunk_length, payloads_in, node_rows_at, count_row_at, one_chunk_rows}
use Rattle.adf_format.specs.Fields.{field}
use Rattle.adf_format.specs.Names.{data_size}
use Rattle.adf_format.specs.Packed.{packed_table, packed_data, packed_nodes, packed_length}
use Rattle.adf_format.specs.Parts.{node_length, table_length, chunk_table_length, payload}
use Rattle.adf_format.specs.Placement.{extent}
use Rattle.adf_format.specs.Pointer.{is_place}
use Rattle.adf_format.specs.SoundPart.{data_when, node_of_visit, children_among, visit_number, tree_of, last_byte}
use Rattle.adf_format.specs.Tiles.{total_length}
use Rattle.adf_format.proofs.NumberLaws.{left_part, right_part}
use Rattle.adf_format.proofs.WalkLaws.{all_kept, room_tells, total_length-append}
use Rattle.adf_model.proofs.Basics.{and_parts}
use Rattle.adf_model.proofs.Walks.WalkNodes.{Kept}
use Rattle.layout_laws.proofs.FoundNodes.{RowsKept}
use Rattle.layout_laws.proofs.Frames.{Chunk, chunks_spelled}
use Rattle.layout_laws.proofs.Rows.{le_of}
use Rattle.packed_laws.specs.PackedForm.{packed_room}
use Rattle.salvage_laws.specs.Surveys.{NodeSurvey, Outcome}
use Rattle.adf_repack.specs.Given.{in_version}

-- ---- rule 14: the extents of the kept nodes fit into the file

table_fits : (image : List ℕ) (end used t n : ℕ) (b : Bool) → used ≤ end + 1 → Kept (rows_unless b (table_rows image end used t n)) → used + total_length (cond b [] (extent ExtentKind.SubNodes t (table_length n) ∷ [])) ≤ end + 1
unfolding table_rows
table_fits image end used t n true le h = omega (arith, le)
table_fits image end used t n false le h = let room = room_tells end used (table_length n) h.1.1.1.0 in omega (arith, room)

abbrev entry_row : List ℕ → ℕ → ℕ → Row
entry_row image c i = row 25 (c + 16 + 24 * i) (is_place (field image (c + 16 + 24 * i) 12) && is_place (field image (c + 28 + 24 * i) 12))

chunk_table_fits : (image : List ℕ) (end used c n : ℕ) (b : Bool) → used ≤ end + 1 → Kept (rows_unless b (chunk_table_rows image end used c n))
    → used + total_length (cond b [] (extent ExtentKind.ChunkTable c (chunk_table_length n) ∷ [])) ≤ end + 1
unfolding chunk_table_rows
chunk_table_fits image end used c n true le h = omega (arith, le)
chunk_table_fits image end used c n false le h =
    let room = room_tells end used (chunk_table_length n) (right_part (map (entry_row image c) (count_up n)) _ h.1.1).1.0 in
    omega (arith, room)

chunks_fit : (image : List ℕ) (end used : ℕ) (vs : List ChunkVisit) → used ≤ end + 1 → Kept (chunk_rows image end used vs)
    → used + total_length (map (λ (c : ChunkVisit). extent ExtentKind.DataChunk c.place (chunk_length image c.place)) vs) ≤ end + 1
unfolding chunk_rows one_chunk_rows
chunks_fit image end used [] le h = omega (arith, le)
chunks_fit image end used (v ∷ vs) le h =
    let room = room_tells end used (chunk_length image v.place) h.1.1.1.0 in
    let rest = chunks_fit image end (used + chunk_length image v.place) vs (omega (arith, room)) h.1.1.1.1 in
    omega (arith, rest)

split_rows : (node table entries chunk_table chunks datas : List Row) (count : Row) → Kept (node ++ (count ∷ table) ++ entries ++ chunk_table ++ chunks ++ datas) → Kept table × Kept chunk_table × Kept chunks
split_rows node table entries chunk_table chunks datas count h =
    let to_chunks = left_part (node ++ (count ∷ table) ++ entries ++ chunk_table ++ chunks) datas h in
    let to_chunk_table = left_part (node ++ (count ∷ table) ++ entries ++ chunk_table) chunks to_chunks in
    let to_entries = left_part (node ++ (count ∷ table) ++ entries) chunk_table to_chunk_table in
    let to_table = left_part (node ++ (count ∷ table)) entries to_entries in (
      (right_part node (count ∷ table) to_table).1,
      right_part (node ++ (count ∷ table) ++ entries) chunk_table to_chunk_table,
      right_part (node ++ (count ∷ table) ++ entries ++ chunk_table) chunks to_chunks,
    )

visit_fits : (image : List ℕ) (wide : Bool) (end : ℕ) (seen : List Visit) (v : Visit) → first_broken (visit_rows image wide end seen v) ≡ None
    → total_length (found_extents image wide seen) + total_length (visit_extents image wide v) ≤ end + 1
unfolding node_rows_at visit_extents
visit_fits image wide end seen v e =
    let p = v.place in
    let used = 266 + total_length (found_extents image wide seen) in
    let all = all_kept (visit_rows image wide end seen v) e in
    let room = room_tells end (266 + total_length (found_extents image wide seen)) (node_length wide) all.1.1.0 in
    let parts = split_rows _ _ _ _ _ _ _ all.1.1.1 in
    let tables = table_extents_at image v.place in
    let chunk_tables = chunk_table_extents_at image wide v.place in
    let datas = map (λ (c : ChunkVisit). extent ExtentKind.DataChunk c.place (chunk_length image c.place)) (chunks_in image wide v.place) in
    let first = table_fits image end (used + node_length wide) (table_in image p) (entries_in image p) (entries_in image p == 0) room parts.0 in
    let second = chunk_table_fits image end (used + node_length wide + total_length tables) (chunk_in image wide p) (chunk_count image wide p) (nat_lt (chunk_count image wide p) 2) first parts.1 in
    let third = chunks_fit image end (used + node_length wide + total_length tables + total_length chunk_tables) (chunks_in image wide p) second parts.2 in
    let front = total_length-append tables chunk_tables in
    let whole = total_length-append (tables ++ chunk_tables) datas in
    omega (arith, third, front, whole)

found-append : (image : List ℕ) (wide : Bool) (seen : List Visit) (v : Visit) → total_length (found_extents image wide (seen ++ v ∷ [])) ≡ total_length (found_extents image wide seen) + total_length (visit_extents image wide v)
found-append image wide [] v = let both = total_length-append (visit_extents image wide v) [] in omega (arith, both)
found-append image wide (w ∷ seen) v =
    let rest = found-append image wide seen v in
    let one = total_length-append (visit_extents image wide w) (found_extents image wide (seen ++ v ∷ [])) in
    let other = total_length-append (visit_extents image wide w) (found_extents image wide seen) in
    omega (arith, rest, one, other)

survey_fits : (image : List ℕ) (wide : Bool) (end : ℕ) {todo kept : List Visit} {left : List (Visit × Fault)} {outcome : Outcome} → Survey (visit_rows image wide end) (child_visits image) todo kept left outcome
    → total_length (found_extents image wide kept) ≤ end + 1 → total_length (found_extents image wide outcome.0) ≤ end + 1
survey_fits image wide end surveyed h = h
survey_fits image wide end (omits e s) h = survey_fits image wide end s h
survey_fits image wide end (keeps {item = v} {kept = kept} e s) h =
    survey_fits image wide end s (let fit = visit_fits image wide end kept v e in let more = found-append image wide kept v in omega (arith, fit, more))

-- ---- a node in a packed file

header_twice : (wide : Bool) → 342 ≤ 2 * node_length wide
header_twice false = omega arith
header_twice true = omega arith

table_room : (kids : List ℕ) (t n : ℕ) → length kids ≤ n → packed_table kids ≤ total_length (cond (n == 0) [] (extent ExtentKind.SubNodes t (table_length n) ∷ []))
table_room [] t n few = omega arith
table_room (c ∷ cs) t n few = subst (λ (b : Bool). packed_table (c ∷ cs) ≤ total_length (cond b [] (extent ExtentKind.SubNodes t (table_length n) ∷ []))) (sym (some n (omega (arith, few)))) (omega (arith, few))
  where
    some : (n : ℕ) → 0 < n → (n == 0) ≡ false
    some n h = grind (arith, nat_tests)

abbrev chunks_long : List ℕ → List ChunkVisit → ℕ
chunks_long image vs = total_length (map (λ (c : ChunkVisit). extent ExtentKind.DataChunk c.place (chunk_length image c.place)) vs)

-- what the chunks hold, and their frames
payloads_room : (image : List ℕ) (end : ℕ) (vs : List ChunkVisit) → Chunk image end vs → (length (payloads_in image vs) + 20 * length vs ≤ chunks_long image vs) × (21 * length vs ≤ chunks_long image vs)
payloads_room image end [] h = (omega arith, omega arith)
payloads_room image end (v ∷ vs) h =
    let long = h.0.spelled.long in
    let rest = payloads_room image end vs h.1 in
    let held = rest.0 in
    let frames = rest.1 in
    let both = length-append (payload image v.place (chunk_length image v.place)) (payloads_in image vs) in
    let one = length-take (chunk_length image v.place - 20) (drop (v.place + 16) image) in (
      omega (arith, long, held, both, one),
      omega (arith, long, frames),
    )

data_room : (n size total : ℕ) (payloads : List ℕ) → length payloads + 20 * n ≤ total → 21 * n ≤ total → packed_data (data_when n (take size payloads)) ≤ 2 * total
data_room zero size total payloads held frames = omega arith
data_room (suc n) size total payloads held frames =
    subst (λ (b : Bool). packed_data (cond b None (Some (take size payloads))) ≤ 2 * total) (sym (some n)) (let taken = length-take size payloads in omega (arith, taken, held, frames))
  where
    some : (n : ℕ) → (suc n == 0) ≡ false
    some n = grind (arith, nat_tests)

pub filter_short : (g : ℕ → Option ℕ) (a m : ℕ) → length (filter_map g (range_with_len a m)) ≤ m
filter_short g a zero = omega arith
filter_short g a (suc m) = by_first (g a) refl (filter_short g (a + 1) m)
  where
    by_first : (o : Option ℕ) → g a ≡ o → length (filter_map g (range_with_len (a + 1) m)) ≤ m → length (filter_map g (range_with_len a (suc m))) ≤ suc m
    by_first None e rest = rw e (omega (arith, rest))
    by_first (Some k) e rest = rw e (omega (arith, rest))

pub fewer : (image : List ℕ) (end : ℕ) (v : Visit) → RowsKept image (is_wide image) end v → children_in image v.place ≤ entries_in image v.place
unfolding count_row_at
fewer image end v rows = le_of (children_in image v.place) (entries_in image v.place) (and_parts _ _ (and_parts _ _ (and_parts _ _ rows.count).0).0).0

visit_room : (image : List ℕ) (end : ℕ) (all : List Visit) (v : Visit) → RowsKept image (is_wide image) end v → packed_room true (node_of_visit image (is_wide image) all v) ≤ 2 * total_length (visit_extents image (is_wide image) v)
unfolding visit_extents
visit_room image end all v rows =
    let few = filter_short (λ i. visit_number all (v.path ++ i ∷ [])) 0 (children_in image v.place) in
    let less = fewer image end v rows in
    let table = table_room (children_among image all v) (table_in image v.place) (entries_in image v.place) (omega (arith, few, less)) in
    let read = payloads_room image end (chunks_in image (is_wide image) v.place) (chunks_spelled image end rows.behind_chunk_table (chunks_in image (is_wide image) v.place) rows.chunks) in
    let datas = data_room (length (chunks_in image (is_wide image) v.place)) (data_size (type_or_mt (field image (v.place + 96) 32)) (dims_in image (is_wide image) v.place)) (chunks_long image (chunks_in image (is_wide image) v.place)) (payloads_in image (chunks_in image (is_wide image) v.place)) read.0 read.1 in
    let header = header_twice (is_wide image) in
    let front = total_length-append (table_extents_at image v.place) (chunk_table_extents_at image (is_wide image) v.place) in
    let whole = total_length-append (table_extents_at image v.place ++ chunk_table_extents_at image (is_wide image) v.place) (map (λ (c : ChunkVisit). extent ExtentKind.DataChunk c.place (chunk_length image c.place)) (chunks_in image (is_wide image) v.place)) in
    omega (arith, table, datas, header, front, whole)

nodes_room : (image : List ℕ) (end : ℕ) (all vs : List Visit) → ((k : ℕ) (v : Visit) → slice_get vs k ≡ Some v → RowsKept image (is_wide image) end v)
    → packed_nodes true (map (λ v. Some (node_of_visit image (is_wide image) all v)) vs) ≤ 2 * total_length (found_extents image (is_wide image) vs)
nodes_room image end all [] each = omega arith
nodes_room image end all (v ∷ vs) each =
    let here = visit_room image end all v (each 0 v refl) in
    let rest = nodes_room image end all vs (λ k w e. each (suc k) w e) in
    let both = total_length-append (visit_extents image (is_wide image) v) (found_extents image (is_wide image) vs) in
    omega (arith, here, rest, both)

-- its length is one of 64 bits
pub short : (image : List ℕ) (kept : List Visit) (left : List (Visit × Fault)) → NodeSurvey image (kept, left) → last_byte image < 2 ^ 44
    → ((k : ℕ) (v : Visit) → slice_get kept k ≡ Some v → RowsKept image (is_wide image) (last_byte image) v) → packed_length (in_version true (tree_of image kept)) < 2 ^ 64 - 1
short image kept left survey low each =
    let nodes = nodes_room image (last_byte image) kept kept each in
    let fit = survey_fits image (is_wide image) (last_byte image) survey (omega arith) in
    bound (packed_nodes true (map (λ v. Some (node_of_visit image (is_wide image) kept v)) kept)) (total_length (found_extents image (is_wide image) kept)) (last_byte image) nodes fit low
  where
    bound : (n total end : ℕ) → n ≤ 2 * total → total ≤ end + 1 → end < 2 ^ 44 → 266 + n < 2 ^ 64 - 1
    bound n total end h k low = omega (arith, h, k, low)
