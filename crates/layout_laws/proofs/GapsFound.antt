-- An image that breaks no rule leaves gaps, so it is sound.
use Rattle.std.proofs.Common.{◌≡◌, ◌⊎◌, inl, inr, ℕ, refl, arith, List, [], ◌∷◌, ◌++◌, length, map, ◌+◌, ◌-◌, ◌<◌, ◌≤◌, Bool, true, false, cond}
use Rattle.std.proofs.lemmas.Bool.Decides.{nat_tests, leb_tells}
use Rattle.std.specs.Prelude.{None, Ok, Err, Result, ⊤, nat_le, nat_lt, ◌==◌, codes}
use Rattle.std.specs.List.{AllByRecursion, flat_map}
use Rattle.adf_format.specs.Fields.{field, holds}
use Rattle.adf_format.specs.Pointer.{place_of}
use Rattle.adf_format.specs.declared.types.Extent.{Extent}
use Rattle.adf_format.specs.declared.types.ExtentKind.{ExtentKind}
use Rattle.adf_format.specs.Tiles.{cover, holds_byte, end_of, is_free}
use Rattle.adf_format.specs.Parts.{node_length, table_length, chunk_table_length}
use Rattle.adf_format.specs.Placement.{extent, head_extents}
use Rattle.adf_format.specs.LaysOut.{IsSound}
use Rattle.adf_format.specs.Checks.{Fault, first_broken, Walk, finished, stopped, passed}
use Rattle.adf_format.specs.FirstFault.{Visit, FreeVisit, ChunkVisit, HasNoFault, FirstFault, head_rows, row_of_length, header_rows, end_rows, free_rows, next_free, free_extent, chunk_length, found_extents, extents_found, visit_extents, table_extents_at, chunk_table_extents_at, table_rows, chunk_table_rows, fits, table_in, entries_in, chunk_count, chunk_in, chunks_in, is_wide, end_in, free_rows_at}
use Rattle.adf_format.specs.SoundPart.{tree_of}
use Rattle.adf_format.proofs.ClosureLaws.{IsIn}
use Rattle.adf_format.proofs.FaultLaws.{fault_or_none}
use Rattle.adf_format.proofs.HeapSteps.{cover-append}
use Rattle.adf_format.proofs.WalkLaws.{all_kept}
use Rattle.adf_model.proofs.Basics.{and_parts, or_none, equal}
use Rattle.adf_model.proofs.Walks.WalkNodes.{Kept}
use Rattle.adf_model.proofs.Walks.WalkRows.{walk_passes}
use Rattle.layout_laws.specs.FoundLayout.{FillGaps, placement_of}
use Rattle.layout_laws.proofs.FoundLayoutLaws.{laid_out}
use Rattle.layout_laws.proofs.FoundNodes.{RowsKept, rows_kept, unless_kept}
use Rattle.layout_laws.proofs.Frames.{Chunk, chunks_spelled}
use Rattle.layout_laws.proofs.GapsLeft.{scan, gaps_ranges, gaps_order, gaps_inside, gaps_beyond}
use Rattle.layout_laws.proofs.Rows.{le_of, differ_of, fits_tells}
use Rattle.adf_format.proofs.NumberLaws.{right_part}

-- ---- extents that end by a place

abbrev EndBy : ℕ → List Extent → Type 0
EndBy n xs = AllByRecursion (λ (e : Extent). end_of e ≤ n) xs

end-append : (n : ℕ) (xs ys : List Extent) → EndBy n xs → EndBy n ys → EndBy n (xs ++ ys)
end-append n [] ys h k = k
end-append n (x ∷ xs) ys h k = (h.0, end-append n xs ys h.1 k)

beyond_none : (n : ℕ) (xs : List Extent) (b : ℕ) → EndBy n xs → n ≤ b → cover xs b ≡ 0
beyond_none n [] b h le = refl
beyond_none n (e ∷ es) b h le = let out : holds_byte e b ≡ false = outside e b h.0 le in let rest = beyond_none n es b h.1 le in rw (out, rest) refl
  where
    outside : (e : Extent) (x : ℕ) → end_of e ≤ n → n ≤ x → holds_byte e x ≡ false
    outside e x h k = grind (arith, nat_tests)

flat_ends : (n : ℕ) (f : Visit → List Extent) (vs : List Visit) → ((v : Visit) → IsIn v vs → EndBy n (f v)) → EndBy n (flat_map f vs)
flat_ends n f [] h = tt
flat_ends n f (v ∷ vs) h = end-append n (f v) (flat_map f vs) (h v (inl refl)) (flat_ends n f vs (λ w k. h w (inr k)))

-- ---- the extents of a visit

table_ends : (image : List ℕ) (end used t n : ℕ) → Kept (table_rows image end used t n) → t + table_length n ≤ end + 1
unfolding table_rows
table_ends image end used t n h = (fits_tells end t (table_length n) (and_parts (fits end t (table_length n)) (holds image t (codes "SNTb")) h.0).0).1

chunk_table_ends : (image : List ℕ) (end used c n : ℕ) → Kept (chunk_table_rows image end used c n) → c + chunk_table_length n ≤ end + 1
unfolding chunk_table_rows
chunk_table_ends image end used c n h = (fits_tells end c (chunk_table_length n) (and_parts (fits end c (chunk_table_length n)) (holds image c (codes "DCtb")) h.0).0).1

chunk_ends : (image : List ℕ) (end : ℕ) (vs : List ChunkVisit) → Chunk image end vs → EndBy (end + 1) (map (λ (c : ChunkVisit). extent ExtentKind.DataChunk c.place (chunk_length image c.place)) vs)
chunk_ends image end [] h = tt
chunk_ends image end (v ∷ vs) h = (h.0.high, chunk_ends image end vs h.1)

visit_ends : (image : List ℕ) (wide : Bool) (end : ℕ) (v : Visit) → RowsKept image wide end v → EndBy (end + 1) (visit_extents image wide v)
unfolding visit_extents
visit_ends image wide end v r = (
  (fits_tells end v.place (node_length wide) r.inside).1,
  end-append (end + 1) (table_extents_at image v.place ++ chunk_table_extents_at image wide v.place) _
      (end-append (end + 1) (table_extents_at image v.place) (chunk_table_extents_at image wide v.place) (tables (entries_in image v.place == 0) refl) (chunk_tables (nat_lt (chunk_count image wide v.place) 2) refl))
      (chunk_ends image end (chunks_in image wide v.place) (chunks_spelled image end r.behind_chunk_table (chunks_in image wide v.place) r.chunks)),
)
  where
    tables : (b : Bool) → (entries_in image v.place == 0) ≡ b → EndBy (end + 1) (cond b [] (extent ExtentKind.SubNodes (table_in image v.place) (table_length (entries_in image v.place)) ∷ []))
    tables true e = tt
    tables false e = (table_ends image end r.used (table_in image v.place) (entries_in image v.place) (unless_kept (entries_in image v.place == 0) _ e r.table), tt)

    chunk_tables : (b : Bool) → nat_lt (chunk_count image wide v.place) 2 ≡ b → EndBy (end + 1) (cond b [] (extent ExtentKind.ChunkTable (chunk_in image wide v.place) (chunk_table_length (chunk_count image wide v.place)) ∷ []))
    chunk_tables true e = tt
    chunk_tables false e = (chunk_table_ends image end r.behind_table (chunk_in image wide v.place) (chunk_count image wide v.place) (unless_kept (nat_lt (chunk_count image wide v.place) 2) _ e r.chunk_table), tt)

-- ---- the free chunks

abbrev FreeEnds : List ℕ → ℕ → FreeVisit → Type 0
FreeEnds image end v = (32 ≤ chunk_length image v.place) × (v.place + chunk_length image v.place ≤ end + 1)

free_ends : (image : List ℕ) (end nodes : ℕ) (seen : List FreeVisit) (v : FreeVisit) → Kept (free_rows image end nodes seen v) → FreeEnds image end v
unfolding free_rows_at
free_ends image end nodes seen v h =
    let near = and_parts _ _ h.1.0 in
    let place = and_parts _ _ near.0 in
    plain v.place (place_of (field image (v.place + 4) 12)) (chunk_length image v.place) refl (le_of (v.place + 32) (place_of (field image (v.place + 4) 12) + 4) place.1) (le_of (place_of (field image (v.place + 4) 12) + 4) (end + 1) near.1)
  where
    plain : (c t n : ℕ) → n ≡ t + 4 - c → c + 32 ≤ t + 4 → t + 4 ≤ end + 1 → (32 ≤ n) × (c + n ≤ end + 1)
    plain c t n e h k = (omega (arith, e, h), omega (arith, e, h, k))

abbrev AllEnd : List ℕ → ℕ → List FreeVisit → Type 0
AllEnd image end vs = AllByRecursion (FreeEnds image end) vs

one_more : (image : List ℕ) (end : ℕ) (vs : List FreeVisit) (v : FreeVisit) → AllEnd image end vs → FreeEnds image end v → AllEnd image end (vs ++ v ∷ [])
one_more image end [] v h k = (k, tt)
one_more image end (w ∷ vs) v h k = (h.0, one_more image end vs v h.1 k)

abbrev Ends : List ℕ → ℕ → Result (List FreeVisit) Fault → Type 0
Ends image end (Ok all) = AllEnd image end all
Ends image end (Err fault) = ⊤

all_end : (image : List ℕ) (end nodes : ℕ) {todo seen : List FreeVisit} {outcome : Result (List FreeVisit) Fault} → Walk (free_rows image end nodes) (next_free image) todo seen outcome → AllEnd image end seen → Ends image end outcome
all_end image end nodes finished h = h
all_end image end nodes (stopped x) h = tt
all_end image end nodes (passed {item = item} {seen = seen} x w) h = all_end image end nodes w (one_more image end seen item h (free_ends image end nodes seen item (all_kept (free_rows image end nodes seen item) x)))

frees_end : (image : List ℕ) (end : ℕ) (vs : List FreeVisit) → AllEnd image end vs → EndBy (end + 1) (map (free_extent image) vs)
frees_end image end [] h = tt
frees_end image end (v ∷ vs) h = (h.0.1, frees_end image end vs h.1)

frees_free : (image : List ℕ) (end : ℕ) (vs : List FreeVisit) → AllEnd image end vs → AllByRecursion (λ (e : Extent). (is_free e ≡ true) × (32 ≤ e.length)) (map (free_extent image) vs)
frees_free image end [] h = tt
frees_free image end (v ∷ vs) h = ((refl, h.0.0), frees_free image end vs h.1)

frees_within : (image : List ℕ) (end : ℕ) (vs : List FreeVisit) → AllEnd image end vs → AllByRecursion (λ (e : Extent). e.place < end + 1) (map (free_extent image) vs)
frees_within image end [] h = tt
frees_within image end (v ∷ vs) h = ((let long = h.0.0 in let high = h.0.1 in omega (arith, long, high)), frees_within image end vs h.1)

-- the end lies behind the first node
pub end_behind : (image : List ℕ) → first_broken (head_rows image) ≡ None → 265 + node_length (is_wide image) ≤ end_in image
unfolding head_rows end_rows
end_behind image e =
    let rows = right_part (row_of_length image ∷ header_rows (field image 0 186)) (end_rows image) (all_kept (head_rows image) e) in
    le_of (265 + node_length (is_wide image)) (end_in image) (and_parts (nat_lt (end_in image) (length image)) (nat_le (265 + node_length (is_wide image)) (end_in image)) rows.0).1

-- ---- the gaps

module _ (image : List ℕ) (nodes : List Visit) (frees : List FreeVisit) (h : HasNoFault image nodes frees) where
  abbrev found : List Extent
  found = extents_found image nodes frees

  abbrev fs : List Extent
  fs = map (free_extent image) frees

  abbrev front : List Extent
  front = head_extents ++ found_extents image (is_wide image) nodes

  ended : AllEnd image (end_in image) frees
  ended = all_end image (end_in image) _ h.free_walk tt

  heads_end : EndBy (end_in image + 1) head_extents
  heads_end = let far = end_behind image h.head in (omega (arith, far), (omega (arith, far), tt))

  found_end : EndBy (end_in image + 1) found
  found_end =
      end-append (end_in image + 1) front fs
      (end-append (end_in image + 1) head_extents (found_extents image (is_wide image) nodes) heads_end
      (flat_ends (end_in image + 1) (visit_extents image (is_wide image)) nodes (λ v i. visit_ends image (is_wide image) (end_in image) v (rows_kept image (is_wide image) (end_in image) v (walk_passes image nodes h.node_walk v i)))))
      (frees_end image (end_in image) frees ended)

  once : (x : ℕ) → cover found x ≤ 1
  once x = by_end (leb_tells x (end_in image))
    where
      few : (n : ℕ) → nat_lt 1 n ≡ false → n ≤ 1
      few n e = grind (arith, nat_tests)

      by_end : ((nat_le x (end_in image) ≡ true) × (x ≤ end_in image)) ⊎ ((nat_le x (end_in image) ≡ false) × (end_in image < x)) → cover found x ≤ 1
      by_end (inl k) = few (cover found x) (or_none (nat_lt 1 (cover found x)) _ (h.tiled x k.1)).0
      by_end (inr k) = let gt = k.1 in let none = beyond_none (end_in image + 1) found x found_end (omega (arith, gt)) in omega (arith, none)

  split : (x : ℕ) → cover found x ≡ cover front x + cover fs x
  split x = cover-append front fs x

  part : (x : ℕ) → cover fs x ≤ cover found x
  part x = let s = split x in omega (arith, s)

  free : AllByRecursion (λ (e : Extent). (is_free e ≡ true) × (32 ≤ e.length)) fs
  free = frees_free image (end_in image) frees ended

  within : AllByRecursion (λ (e : Extent). e.place < end_in image + 1) fs
  within = frees_within image (end_in image) frees ended

  pub gaps_left : List Extent
  gaps_left = scan found fs (end_in image + 1) 0

  -- the gaps that an image leaves
  pub gaps_fill : FillGaps image nodes frees gaps_left
  unfolding gaps_left
  gaps_fill = record {
    in_order = gaps_order found fs once part free (end_in image) within;
    tiles = record { once = inside; inside = beyond };
    same_frees = gaps_ranges found fs once part free (end_in image) within;
  }
    where
      filled : (t : Bool) (n : ℕ) → (n == 0) ≡ t → n ≤ 1 → n + cond t 1 0 ≡ 1
      filled true n e le = let z = equal n 0 e in omega (arith, z)
      filled false n e le = some n (differ_of n 0 e) le
        where
          some : (n : ℕ) → (n ≡ 0 → ⊥) → n ≤ 1 → n + 0 ≡ 1
          some n differ le = elim (leb_tells 1 n) [ inl k ↦ (let g = k.1 in omega (arith, g, le)) | inr k ↦ absurd (differ (let g = k.1 in omega (arith, g))) ]

      sums : (whole front gaps free bare found : ℕ) → whole ≡ front + gaps → gaps ≡ free + bare → found ≡ front + free → found + bare ≡ 1 → whole ≡ 1
      sums whole front gaps free bare found a b c d = omega (arith, a, b, c, d)

      inside : (b : ℕ) → b ≤ end_in image → cover (front ++ scan found fs (end_in image + 1) 0) b ≡ 1
      inside b le = sums _ _ _ _ _ _ (cover-append front (scan found fs (end_in image + 1) 0) b) (gaps_inside found fs once part free (end_in image) within b le) (split b) (filled (cover found b == 0) (cover found b) refl (once b))

      none : (whole front gaps free found : ℕ) → whole ≡ front + gaps → gaps ≡ free → found ≡ front + free → found ≡ 0 → whole ≡ 0
      none whole front gaps free found a b c d = omega (arith, a, b, c, d)

      beyond : (b : ℕ) → end_in image < b → cover (front ++ scan found fs (end_in image + 1) 0) b ≡ 0
      beyond b lt = none _ _ _ _ _ (cover-append front (scan found fs (end_in image + 1) 0) b) (gaps_beyond found fs once part free (end_in image) within b lt) (split b) (beyond_none (end_in image + 1) found b found_end (omega (arith, lt)))

  pub is_sound : IsSound image
  is_sound = (tree_of image nodes, placement_of image nodes gaps_left, laid_out image nodes frees gaps_left h gaps_fill)

-- every image is sound or has a first fault
pub sound_or_faulty : (image : List ℕ) → IsSound image ⊎ ((fault : Fault) × FirstFault image fault)
sound_or_faulty image = elim (fault_or_none image) [ inl f ↦ inr f | inr n ↦ inl (is_sound image n.0 n.1 n.2) ]
