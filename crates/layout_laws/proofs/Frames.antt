-- Parts with a head and an end tag: spelled exactly where their rules are kept.
use Rattle.std.proofs.Common.{◌≡◌, ℕ, refl, sym, ◌∙◌, ap, subst, arith, List, [], ◌∷◌, map, ◌+◌, ◌-◌, ◌*◌, ◌<◌, ◌≤◌, true}
use Rattle.std.specs.Prelude.{Some, nat_le, ◌&&◌, codes}
use Rattle.std.specs.List.{AllByRecursion}
use Rattle.adf_format.specs.Pointer.{To, pointer, is_place, place_of}
use Rattle.adf_format.specs.Fields.{field, holds}
use Rattle.adf_format.specs.Parts.{IsFramed, SpellsTable, SpellsChunkTable, SpellsChunk, table_length, chunk_table_length}
use Rattle.adf_format.specs.Checks.{Row, row}
use Rattle.adf_format.specs.FirstFault.{fits, has_room, table_rows, chunk_table_rows, chunk_rows, ChunkVisit, chunk_length, agrees, count_up, one_chunk_rows}
use Rattle.adf_format.proofs.FieldLaws.{inner_field}
use Rattle.adf_format.proofs.RowLaws.{holds_tells, kept_index}
use Rattle.adf_model.proofs.Basics.{and_parts}
use Rattle.adf_model.proofs.Walks.WalkNodes.{Kept}
use Rattle.layout_laws.proofs.Rows.{kept-append, kept_counted, both, le_of, of_le, holds_of, place_tells, points_place, points_to, pointer_to_of, pointer_to_tells, fits_of, fits_tells}
use Rattle.adf_format.proofs.NumberLaws.{left_part, right_part}

plus_none : (c : ℕ) → c + 0 ≡ c
plus_none c = omega arith

pub at_front : (image : List ℕ) (c l n : ℕ) → n ≤ l → field (field image c l) 0 n ≡ field image c n
at_front image c l n le = inner_field image c l 0 n (omega (arith, le)) ∙ ap (λ k. field image k n) (plus_none c)

-- the bytes of the image that a framed part fixes
pub record Frame (image : List ℕ) (c tail : ℕ) (opening closing : List ℕ) : Type 0 where
  pub starts : field image c 4 ≡ opening
  pub points : pointer (field image (c + 4) 12) ≡ Some (To tail)
  pub ends : field image tail 4 ≡ closing

tail_at : (c l tail : ℕ) → 20 ≤ l → tail ≡ c + l - 4 → c + (l - 4) ≡ tail
tail_at c l tail h e = omega (arith, h, e)

pub frame_in : (image : List ℕ) (c l tail : ℕ) (opening closing : List ℕ) → 20 ≤ l → tail ≡ c + l - 4 → Frame image c tail opening closing → IsFramed (field image c l) c l opening closing
frame_in image c l tail opening closing long e f = record {
  start_tag = at_front image c l 4 (omega (arith, long)) ∙ f.starts;
  end_pointer = ap pointer (inner_field image c l 4 12 (omega (arith, long))) ∙ f.points ∙ ap (λ n. Some (To n)) e;
  end_tag = inner_field image c l (l - 4) 4 (omega (arith, long)) ∙ ap (λ k. field image k 4) (tail_at c l tail long e) ∙ f.ends;
}

pub frame_out : (image : List ℕ) (c l tail : ℕ) (opening closing : List ℕ) → 20 ≤ l → tail ≡ c + l - 4 → IsFramed (field image c l) c l opening closing → Frame image c tail opening closing
frame_out image c l tail opening closing long e f = record {
  starts = sym (at_front image c l 4 (omega (arith, long))) ∙ f.start_tag;
  points = ap pointer (sym (inner_field image c l 4 12 (omega (arith, long)))) ∙ f.end_pointer ∙ ap (λ n. Some (To n)) (sym e);
  ends = ap (λ k. field image k 4) (sym (tail_at c l tail long e)) ∙ sym (inner_field image c l (l - 4) 4 (omega (arith, long))) ∙ f.end_tag;
}

-- ---- sub-node tables

table_tail : (t n : ℕ) → t + 16 + 44 * n ≡ t + table_length n - 4
table_tail t n = omega arith

pub table_spelled : (image : List ℕ) (end used t entries : ℕ) → Kept (table_rows image end used t entries) → SpellsTable (field image t (table_length entries)) t entries
unfolding table_rows
table_spelled image end used t entries h =
    frame_in image t (table_length entries) (t + 16 + 44 * entries) (codes "SNTb") (codes "snTE") (omega arith) (table_tail t entries) (record {
      starts = holds_tells image t (codes "SNTb") (and_parts (fits end t (table_length entries)) (holds image t (codes "SNTb")) h.0).1;
      points = pointer_to_tells (field image (t + 4) 12) (t + 16 + 44 * entries) h.1.0;
      ends = holds_tells image (t + 16 + 44 * entries) (codes "snTE") h.1.1.0;
    })

pub table_unbroken : (image : List ℕ) (end used t entries : ℕ) → fits end t (table_length entries) ≡ true → has_room end used (table_length entries) ≡ true → SpellsTable (field image t (table_length entries)) t entries → Kept (table_rows image end used t entries)
unfolding table_rows
table_unbroken image end used t entries fit room s =
    let f = frame_out image t (table_length entries) (t + 16 + 44 * entries) (codes "SNTb") (codes "snTE") (omega arith) (table_tail t entries) s in (
      both (fits end t (table_length entries)) (holds image t (codes "SNTb")) fit (holds_of image t (codes "SNTb") f.starts),
      (pointer_to_of (field image (t + 4) 12) (t + 16 + 44 * entries) f.points, (holds_of image (t + 16 + 44 * entries) (codes "snTE") f.ends, (room, tt))),
    )

-- ---- chunk tables

chunk_table_tail : (c n : ℕ) → c + 16 + 24 * n ≡ c + chunk_table_length n - 4
chunk_table_tail c n = omega arith

abbrev entry_row : List ℕ → ℕ → ℕ → Row
entry_row image c i = row 25 (c + 16 + 24 * i) (is_place (field image (c + 16 + 24 * i) 12) && is_place (field image (c + 28 + 24 * i) 12))

-- what the rules of a chunk table say: the frame, and places in each entry
pub record ChunkTableRead (image : List ℕ) (c count : ℕ) : Type 0 where
  pub spelled : SpellsChunkTable (field image c (chunk_table_length count)) c count
  pub starts : (i : ℕ) → i < count → is_place (field image (c + 16 + 24 * i) 12) ≡ true
  pub tails : (i : ℕ) → i < count → is_place (field image (c + 28 + 24 * i) 12) ≡ true

pub chunk_table_spelled : (image : List ℕ) (end used c count : ℕ) → Kept (chunk_table_rows image end used c count) → ChunkTableRead image c count
unfolding chunk_table_rows
chunk_table_spelled image end used c count h =
    let entries = left_part (map (entry_row image c) (count_up count)) _ h.1.1 in
    let rest = right_part (map (entry_row image c) (count_up count)) _ h.1.1 in
    let entry : (i : ℕ) → i < count → (is_place (field image (c + 16 + 24 * i) 12) && is_place (field image (c + 28 + 24 * i) 12)) ≡ true = λ i lt. subst (λ (j : ℕ). (entry_row image c j).kept ≡ true) (front i) (kept_index (entry_row image c) 0 count i entries lt) in
    record {
      spelled = frame_in image c (chunk_table_length count) (c + 16 + 24 * count) (codes "DCtb") (codes "dcTE") (omega arith) (chunk_table_tail c count) (record {
        starts = holds_tells image c (codes "DCtb") (and_parts (fits end c (chunk_table_length count)) (holds image c (codes "DCtb")) h.0).1;
        points = pointer_to_tells (field image (c + 4) 12) (c + 16 + 24 * count) h.1.0;
        ends = holds_tells image (c + 16 + 24 * count) (codes "dcTE") rest.0;
      });
      starts = λ i lt. (and_parts (is_place (field image (c + 16 + 24 * i) 12)) (is_place (field image (c + 28 + 24 * i) 12)) (entry i lt)).0;
      tails = λ i lt. (and_parts (is_place (field image (c + 16 + 24 * i) 12)) (is_place (field image (c + 28 + 24 * i) 12)) (entry i lt)).1;
    }
  where
    front : (i : ℕ) → 0 + i ≡ i
    front i = omega arith

pub chunk_table_unbroken : (image : List ℕ) (end used c count : ℕ) → fits end c (chunk_table_length count) ≡ true → has_room end used (chunk_table_length count) ≡ true → ChunkTableRead image c count → Kept (chunk_table_rows image end used c count)
unfolding chunk_table_rows
chunk_table_unbroken image end used c count fit room s =
    let f = frame_out image c (chunk_table_length count) (c + 16 + 24 * count) (codes "DCtb") (codes "dcTE") (omega arith) (chunk_table_tail c count) s.spelled in (
      both (fits end c (chunk_table_length count)) (holds image c (codes "DCtb")) fit (holds_of image c (codes "DCtb") f.starts),
      (
        pointer_to_of (field image (c + 4) 12) (c + 16 + 24 * count) f.points,
        kept-append (map (entry_row image c) (count_up count)) _
            (kept_counted (entry_row image c) 0 count (λ i lt. both (is_place (field image (c + 16 + 24 * (0 + i)) 12)) (is_place (field image (c + 28 + 24 * (0 + i)) 12)) (s.starts (0 + i) (omega (arith, lt))) (s.tails (0 + i) (omega (arith, lt)))))
            (holds_of image (c + 16 + 24 * count) (codes "dcTE") f.ends, (room, tt)),
      ),
    )

-- ---- data chunks

pub chunk_end : (c tail n : ℕ) → c + 21 ≤ tail + 4 → n ≡ tail + 4 - c → tail ≡ c + n - 4
chunk_end c tail n h e = omega (arith, h, e)

pub record ChunkRead (image : List ℕ) (end : ℕ) (v : ChunkVisit) : Type 0 where
  pub spelled : SpellsChunk (field image v.place (chunk_length image v.place)) v.place (chunk_length image v.place)
  pub low : 266 ≤ v.place
  pub high : v.place + chunk_length image v.place ≤ end + 1
  pub points : pointer (field image (v.place + 4) 12) ≡ Some (To (v.place + chunk_length image v.place - 4))
  pub agreed : agrees v.listed (v.place + chunk_length image v.place - 4) ≡ true

abbrev pub Chunk : List ℕ → ℕ → List ChunkVisit → Type 0
Chunk image end vs = AllByRecursion (ChunkRead image end) vs

one_chunk : (image : List ℕ) (end : ℕ) (v : ChunkVisit) (tail : ℕ) → tail ≡ place_of (field image (v.place + 4) 12) → (fits end v.place 21 && holds image v.place (codes "DaTa")) ≡ true
    → (is_place (field image (v.place + 4) 12) && nat_le (v.place + 21) (tail + 4) && nat_le (tail + 4) (end + 1) && agrees v.listed tail) ≡ true → holds image tail (codes "dEnD") ≡ true → ChunkRead image end v
one_chunk image end v tail e a b d =
    let start = and_parts (fits end v.place 21) (holds image v.place (codes "DaTa")) a in
    let agree = and_parts (is_place (field image (v.place + 4) 12) && nat_le (v.place + 21) (tail + 4) && nat_le (tail + 4) (end + 1)) (agrees v.listed tail) b in
    let most = and_parts (is_place (field image (v.place + 4) 12) && nat_le (v.place + 21) (tail + 4)) (nat_le (tail + 4) (end + 1)) agree.0 in
    let least = and_parts (is_place (field image (v.place + 4) 12)) (nat_le (v.place + 21) (tail + 4)) most.0 in
    let long = le_of (v.place + 21) (tail + 4) least.1 in
    let near = le_of (tail + 4) (end + 1) most.1 in
    let size : chunk_length image v.place ≡ tail + 4 - v.place = ap (λ n. n + 4 - v.place) (sym e) in
    let last : tail ≡ v.place + chunk_length image v.place - 4 = chunk_end v.place tail (chunk_length image v.place) long size in
    let points : pointer (field image (v.place + 4) 12) ≡ Some (To tail) = place_tells (field image (v.place + 4) 12) least.0 ∙ ap (λ n. Some (To n)) (sym e) in
    record {
      spelled = record {
        long = omega (arith, long, size);
        framed = frame_in image v.place (chunk_length image v.place) tail (codes "DaTa") (codes "dEnD") (omega (arith, long, size)) last (record {
          starts = holds_tells image v.place (codes "DaTa") start.1;
          points = points;
          ends = holds_tells image tail (codes "dEnD") d;
        });
      };
      low = (fits_tells end v.place 21 start.0).0;
      high = omega (arith, long, near, size);
      points = points ∙ ap (λ n. Some (To n)) last;
      agreed = subst (λ n. agrees v.listed n ≡ true) last agree.1;
    }

pub chunks_spelled : (image : List ℕ) (end used : ℕ) (vs : List ChunkVisit) → Kept (chunk_rows image end used vs) → Chunk image end vs
unfolding chunk_rows one_chunk_rows
chunks_spelled image end used [] h = tt
chunks_spelled image end used (v ∷ vs) h =
    (one_chunk image end v (place_of (field image (v.place + 4) 12)) refl h.0 h.1.0 h.1.1.0, chunks_spelled image end (used + chunk_length image v.place) vs h.1.1.1.1)

abbrev pub lengths : List ℕ → List ChunkVisit → ℕ
lengths image [] = 0
lengths image (v ∷ vs) = chunk_length image v.place + lengths image vs

pub chunks_unbroken : (image : List ℕ) (end used : ℕ) (vs : List ChunkVisit) → used + lengths image vs ≤ end + 1 → Chunk image end vs → Kept (chunk_rows image end used vs)
unfolding chunk_rows one_chunk_rows
chunks_unbroken image end used [] room h = tt
chunks_unbroken image end used (v ∷ vs) room h =
    let s = h.0 in
    let n = chunk_length image v.place in
    let tail = place_of (field image (v.place + 4) 12) in
    let long : 21 ≤ chunk_length image v.place = s.spelled.long in
    let low = s.low in
    let high = s.high in
    let at : place_of (field image (v.place + 4) 12) ≡ v.place + chunk_length image v.place - 4 = points_to (field image (v.place + 4) 12) (v.place + chunk_length image v.place - 4) s.points in
    let f = frame_out image v.place (chunk_length image v.place) (place_of (field image (v.place + 4) 12)) (codes "DaTa") (codes "dEnD") (omega (arith, long)) at s.spelled.framed in (
      both (fits end v.place 21) (holds image v.place (codes "DaTa")) (fits_of end v.place 21 low (omega (arith, high, long))) (holds_of image v.place (codes "DaTa") f.starts),
      (
        both (is_place (field image (v.place + 4) 12) && nat_le (v.place + 21) (tail + 4) && nat_le (tail + 4) (end + 1)) (agrees v.listed tail)
            (both (is_place (field image (v.place + 4) 12) && nat_le (v.place + 21) (tail + 4)) (nat_le (tail + 4) (end + 1))
            (both (is_place (field image (v.place + 4) 12)) (nat_le (v.place + 21) (tail + 4)) (points_place (field image (v.place + 4) 12) _ s.points) (of_le (v.place + 21) (tail + 4) (omega (arith, at, long))))
            (of_le (tail + 4) (end + 1) (omega (arith, at, long, high))))
            (subst (λ k. agrees v.listed k ≡ true) (sym at) s.agreed),
        (
          holds_of image (place_of (field image (v.place + 4) 12)) (codes "dEnD") f.ends,
          (of_le (used + chunk_length image v.place) (end + 1) (omega (arith, room)), chunks_unbroken image end (used + chunk_length image v.place) vs (omega (arith, room)) h.1),
        ),
      ),
    )
