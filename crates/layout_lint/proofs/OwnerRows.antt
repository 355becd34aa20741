-- The rules of a node that is looked at by itself: kept where a walk kept them, and there is room.
use Rattle.std.proofs.Common.{◌≡◌, ℕ, refl, ◌∙◌, ap, arith, List, [], ◌∷◌, ◌++◌, map, ◌+◌, ◌*◌, ◌^◌, ◌≤◌, Bool, true, false, not, cond}
use Rattle.std.specs.Prelude.{Option, None, ◌==◌, ◌&&◌, ◌||◌, nat_le, nat_lt, codes}
use Rattle.adf_format.specs.declared.types.ExtentKind.{ExtentKind}
use Rattle.adf_format.specs.Parts.{node_length, table_length, chunk_table_length}
use Rattle.adf_format.specs.Placement.{extent}
use Rattle.adf_format.specs.Tiles.{total_length}
use Rattle.adf_format.specs.Fields.{field, holds, trimmed}
use Rattle.adf_format.specs.Names.{is_lk, is_label}
use Rattle.adf_format.specs.Pointer.{is_place}
use Rattle.adf_format.specs.RecordFields.{node_fields}
use Rattle.adf_format.specs.Checks.{Row, row, first_broken}
use Rattle.adf_format.specs.FirstFault.{ChunkVisit, tag_rows, count_up, has_room, is_name_field, type_or_mt, children_in, node_rows, text_rows, table_rows, chunk_table_rows, chunk_rows, rows_unless, visit_extents, table_extents_at, chunk_table_extents_at, entries_in, table_in, chunk_count, chunk_in, chunks_in, chunk_length, node_rows_at, count_row_at, one_chunk_rows}
use Rattle.adf_format.proofs.WalkLaws.{all_kept, total_length-append}
use Rattle.adf_model.proofs.Basics.{and_parts}
use Rattle.adf_model.proofs.Walks.WalkNodes.{Kept}
use Rattle.layout_laws.proofs.Frames.{lengths}
use Rattle.layout_laws.proofs.Rows.{kept_none, kept-append, both, room_of}
use Rattle.layout_lint.specs.Nodes.{extents_at}
use Rattle.adf_format.proofs.NumberLaws.{left_part, right_part}

-- ---- the header

other_front : (x y b c d : List Row) → (Kept x → Kept y) → Kept (x ++ b ++ c ++ d) → Kept (y ++ b ++ c ++ d)
other_front x y b c d f h =
    let h1 = left_part (x ++ b ++ c) d h in
    let h2 = left_part (x ++ b) c h1 in
    kept-append (y ++ b ++ c) d (kept-append (y ++ b) c (kept-append y b (f (left_part x b h2)) (right_part x b h2)) (right_part (x ++ b) c h1)) (right_part (x ++ b ++ c) d h)

one_row : (xs : List Row) (r s t : Row) → (r.kept ≡ true → s.kept ≡ true) → Kept (xs ++ r ∷ t ∷ []) → Kept (xs ++ s ∷ t ∷ [])
one_row xs r s t f h = let rest = right_part xs (r ∷ t ∷ []) h in kept-append xs (s ∷ t ∷ []) (left_part xs (r ∷ t ∷ []) h) (f rest.0, rest.1)

text_alone : (wide : Bool) (p : ℕ) (named : Bool) (bytes : List ℕ) → Kept (text_rows wide p named bytes) → Kept (text_rows wide p true bytes)
unfolding text_rows
text_alone wide p named bytes h =
    one_row (tag_rows 15 p bytes (node_fields wide)) (row 16 (p + 4) (is_name_field (field bytes 4 32) && named)) (row 16 (p + 4) (is_name_field (field bytes 4 32) && true)) (row 17 (p + 36) (is_label (trimmed (field bytes 36 32))))
    (λ k. both (is_name_field (field bytes 4 32)) true (and_parts (is_name_field (field bytes 4 32)) named k).0 refl) h

named_alone : (wide : Bool) (p : ℕ) (named : Bool) (bytes : List ℕ) → Kept (node_rows wide p named bytes) → Kept (node_rows wide p true bytes)
unfolding node_rows
named_alone wide p named bytes h = other_front (text_rows wide p named bytes) (text_rows wide p true bytes) _ _ _ (text_alone wide p named bytes) h

count_alone : (image : List ℕ) (p depth : ℕ) → (count_row_at image p depth).kept ≡ true → (count_row_at image p 0).kept ≡ true
unfolding count_row_at
count_alone image p depth h =
    let children = children_in image p in
    let fewer = nat_le (children_in image p) (entries_in image p) && nat_le (children_in image p) (2 ^ 20) in
    let childless = not (is_lk (type_or_mt (field image (p + 96) 32))) || (children_in image p == 0) in
    let most = and_parts (fewer && (nat_lt depth 255 || (children == 0))) childless h in
    let few = and_parts fewer (nat_lt depth 255 || (children == 0)) most.0 in
    both (fewer && (nat_lt 0 255 || (children == 0))) childless (both fewer (nat_lt 0 255 || (children == 0)) few.0 refl) most.1

-- ---- the parts, with other bytes found before them

table_alone : (image : List ℕ) (end before used t n : ℕ) → used + table_length n ≤ end + 1 → Kept (table_rows image end before t n) → Kept (table_rows image end used t n)
unfolding table_rows
table_alone image end before used t n room h = (h.0, (h.1.0, (h.1.1.0, (room_of end used (table_length n) room, tt))))

abbrev entry_row : List ℕ → ℕ → ℕ → Row
entry_row image c i = row 25 (c + 16 + 24 * i) (is_place (field image (c + 16 + 24 * i) 12) && is_place (field image (c + 28 + 24 * i) 12))

chunk_table_alone : (image : List ℕ) (end before used c n : ℕ) → used + chunk_table_length n ≤ end + 1 → Kept (chunk_table_rows image end before c n) → Kept (chunk_table_rows image end used c n)
unfolding chunk_table_rows
chunk_table_alone image end before used c n room h =
    let rest = right_part (map (entry_row image c) (count_up n)) (row 25 (c + 16 + 24 * n) (holds image (c + 16 + 24 * n) (codes "dcTE")) ∷ row 14 c (has_room end before (chunk_table_length n)) ∷ []) h.1.1 in
    let entries = left_part (map (entry_row image c) (count_up n)) (row 25 (c + 16 + 24 * n) (holds image (c + 16 + 24 * n) (codes "dcTE")) ∷ row 14 c (has_room end before (chunk_table_length n)) ∷ []) h.1.1 in (
      h.0,
      (h.1.0, kept-append (map (entry_row image c) (count_up n)) (row 25 (c + 16 + 24 * n) (holds image (c + 16 + 24 * n) (codes "dcTE")) ∷ row 14 c (has_room end used (chunk_table_length n)) ∷ []) entries (rest.0, (room_of end used (chunk_table_length n) room, tt))),
    )

chunks_alone : (image : List ℕ) (end before used : ℕ) (vs : List ChunkVisit) → used + lengths image vs ≤ end + 1 → Kept (chunk_rows image end before vs) → Kept (chunk_rows image end used vs)
unfolding chunk_rows one_chunk_rows
chunks_alone image end before used [] room h = tt
chunks_alone image end before used (v ∷ vs) room h =
    (h.0, (h.1.0, (h.1.1.0, (room_of end used (chunk_length image v.place) (omega (arith, room)), chunks_alone image end (before + chunk_length image v.place) (used + chunk_length image v.place) vs (omega (arith, room)) h.1.1.1.1))))

unless_alone : (b : Bool) (xs ys : List Row) → (b ≡ false → Kept xs → Kept ys) → Kept (rows_unless b xs) → Kept (rows_unless b ys)
unless_alone true xs ys f h = tt
unless_alone false xs ys f h = f refl h

-- ---- the whole node

split_rows : (a table entries chunk_table chunks datas : List Row) (count : Row) → Kept (a ++ (count ∷ table) ++ entries ++ chunk_table ++ chunks ++ datas)
    → Kept a × (count.kept ≡ true) × Kept table × Kept entries × Kept chunk_table × Kept chunks × Kept datas
split_rows a table entries chunk_table chunks datas count h =
    let h1 = left_part (a ++ (count ∷ table) ++ entries ++ chunk_table ++ chunks) datas h in
    let h2 = left_part (a ++ (count ∷ table) ++ entries ++ chunk_table) chunks h1 in
    let h3 = left_part (a ++ (count ∷ table) ++ entries) chunk_table h2 in
    let h4 = left_part (a ++ (count ∷ table)) entries h3 in
    let h5 = right_part a (count ∷ table) h4 in (
      left_part a (count ∷ table) h4,
      h5.0,
      h5.1,
      right_part (a ++ (count ∷ table)) entries h3,
      right_part (a ++ (count ∷ table) ++ entries) chunk_table h2,
      right_part (a ++ (count ∷ table) ++ entries ++ chunk_table) chunks h1,
      right_part (a ++ (count ∷ table) ++ entries ++ chunk_table ++ chunks) datas h,
    )

join_rows : (a table entries chunk_table chunks datas : List Row) (count : Row) → Kept a → count.kept ≡ true → Kept table → Kept entries → Kept chunk_table → Kept chunks → Kept datas
    → Kept (a ++ (count ∷ table) ++ entries ++ chunk_table ++ chunks ++ datas)
join_rows a table entries chunk_table chunks datas count ka kc kt ke kct kch kd =
    kept-append (a ++ (count ∷ table) ++ entries ++ chunk_table ++ chunks) datas
    (kept-append (a ++ (count ∷ table) ++ entries ++ chunk_table) chunks
    (kept-append (a ++ (count ∷ table) ++ entries) chunk_table (kept-append (a ++ (count ∷ table)) entries (kept-append a (count ∷ table) ka (kc, kt)) ke) kct) kch) kd

-- the lengths of its parts
one_long : (b : Bool) (kind : ExtentKind) (place n : ℕ) → b ≡ false → total_length (cond b [] (extent kind place n ∷ [])) ≡ n
one_long true kind place n e = cc
one_long false kind place n e = plain n
  where
    plain : (n : ℕ) → n + 0 ≡ n
    plain n = omega arith

chunks_long : (image : List ℕ) (vs : List ChunkVisit) → total_length (map (λ (c : ChunkVisit). extent ExtentKind.DataChunk c.place (chunk_length image c.place)) vs) ≡ lengths image vs
chunks_long image [] = refl
chunks_long image (v ∷ vs) = ap (λ n. chunk_length image v.place + n) (chunks_long image vs)

node_long : (image : List ℕ) (wide : Bool) (p : ℕ)
    → total_length (extents_at image wide p) ≡ node_length wide + (total_length (table_extents_at image p) + total_length (chunk_table_extents_at image wide p) + lengths image (chunks_in image wide p))
unfolding visit_extents
node_long image wide p = ap (λ n. node_length wide + n)
    (total_length-append (table_extents_at image p ++ chunk_table_extents_at image wide p) _
    ∙ ap (λ n. n + total_length (map (λ (c : ChunkVisit). extent ExtentKind.DataChunk c.place (chunk_length image c.place)) (chunks_in image wide p))) (total_length-append (table_extents_at image p) (chunk_table_extents_at image wide p))
    ∙ ap (λ n. total_length (table_extents_at image p) + total_length (chunk_table_extents_at image wide p) + n) (chunks_long image (chunks_in image wide p)))

pub alone_kept : (image : List ℕ) (wide : Bool) (end : ℕ) (known : Bool) (before p : ℕ) (entry : Option (List ℕ)) (depth used : ℕ)
    → first_broken (node_rows_at image wide end known before p entry depth) ≡ None → used + total_length (extents_at image wide p) ≤ end + 1 → first_broken (node_rows_at image wide end false used p None 0) ≡ None
unfolding node_rows_at
alone_kept image wide end known before p entry depth used e room =
    let all = all_kept (node_rows_at image wide end known before p entry depth) e in
    let parts = split_rows _ _ _ _ _ _ _ all.1.1.1 in
    let long = node_long image wide p in
    kept_none (node_rows_at image wide end false used p None 0) (
      all.0,
      (
        refl,
        (
          room_of end used (node_length wide) (omega (arith, room, long)),
          join_rows _ _ _ _ _ _ _ (named_alone wide p _ _ parts.0) (count_alone image p depth parts.1)
              (unless_alone (entries_in image p == 0) _ _ (λ some h. table_alone image end _ (used + node_length wide) (table_in image p) (entries_in image p) (let t = one_long (entries_in image p == 0) ExtentKind.SubNodes (table_in image p) (table_length (entries_in image p)) some in omega (arith, room, long, t)) h) parts.2)
              parts.3
              (unless_alone (nat_lt (chunk_count image wide p) 2) _ _ (λ some h. chunk_table_alone image end _ (used + node_length wide + total_length (table_extents_at image p)) (chunk_in image wide p) (chunk_count image wide p) (let t = one_long (nat_lt (chunk_count image wide p) 2) ExtentKind.ChunkTable (chunk_in image wide p) (chunk_table_length (chunk_count image wide p)) some in omega (arith, room, long, t)) h) parts.4)
              (chunks_alone image end _ (used + node_length wide + total_length (table_extents_at image p) + total_length (chunk_table_extents_at image wide p)) (chunks_in image wide p) (omega (arith, room, long)) parts.5)
              parts.6,
        ),
      ),
    )
