-- A node that a walk finds is held at the parts that the image names.
use Rattle.std.proofs.Common.{◌≡◌, ℕ, zero, suc, refl, sym, ◌∙◌, ap, subst, arith, List, [], ◌∷◌, ◌++◌, length, map, take, ◌+◌, ◌-◌, ◌*◌, ◌<◌, ◌≤◌, Bool, true, false, cond}
use Rattle.std.proofs.lemmas.Bool.Decides.{nat_tests}
use Rattle.std.proofs.lemmas.List.{length-map}
use Rattle.std.proofs.lemmas.Option.{slice_get_within}
use Rattle.std.proofs.lemmas.Slice.Eq.{bytes_eq-Decides}
use Rattle.std.specs.Prelude.{Option, Some, None, Ok, slice_get, slice_index_or, option_map, nat_lt, ◌==◌}
use Rattle.std.specs.List.{AllByRecursion, range_with_len, filter_map}
use Rattle.adf_format.specs.Pointer.{To, pointer, is_place, place_of}
use Rattle.adf_format.specs.Fields.{field, text_field, trimmed, text_at}
use Rattle.adf_format.specs.declared.types.Extent.{Extent}
use Rattle.adf_format.specs.Names.{data_size}
use Rattle.adf_format.specs.Tree.{Tree, Node}
use Rattle.adf_format.specs.Parts.{SpellsNode, SpellsChunk, SpellsChunkTable, SpellsChunkEntry, node_length, table_length, chunk_table_length}
use Rattle.adf_format.specs.Placement.{Placement, NodeParts, TablePart, ChunkPart, parts_of}
use Rattle.adf_format.specs.LaysOut.{HoldsNode, HasTable, HasChunkTable, HasData, NamesChildren, entry_count, chunk_pointer}
use Rattle.adf_format.specs.Checks.{Row, first_broken}
use Rattle.adf_format.specs.FirstFault.{Visit, ChunkVisit, NodeWalk, head_rows, visit_rows, node_rows, count_row, table_rows, entry_rows, chunk_table_rows, chunk_rows, rows_unless, fits, is_named, type_or_mt, children_in, entries_in, table_in, dims_in, chunk_count, chunk_in, chunks_in, chunk_visits, chunk_length, payloads_in, entry_name, entry_pointer, agrees, is_wide, end_in, node_rows_at, count_row_at}
use Rattle.adf_format.specs.SoundPart.{data_when, children_among, node_of_visit, visit_number, tree_of}
use Rattle.adf_format.proofs.FieldLaws.{inner_field, length-field}
use Rattle.adf_format.proofs.PathLaws.{IsWalked, is_walked, child_of}
use Rattle.adf_format.proofs.RowLaws.{kept_index, padded-trimmed}
use Rattle.adf_format.proofs.TreeLaws.{number_of-path, number_in, at_in, node_at-tree_of, given_at}
use Rattle.adf_format.proofs.WalkLaws.{all_kept}
use Rattle.adf_model.proofs.Basics.{and_parts, not_true, same_Some, equal}
use Rattle.adf_model.proofs.Walks.WalkNodes.{Kept, visit_kept, visit_named, end_inside}
use Rattle.adf_model.proofs.Walks.WalkRows.{Passed, walk_passes}
use Rattle.adf_model.proofs.Walks.WalkTree.{child_in}
use Rattle.layout_laws.specs.FoundLayout.{parts_at, placement_of, table_part, chunk_part, chunk_table_part}
use Rattle.layout_laws.proofs.Frames.{ChunkTableRead, ChunkRead, Chunk, table_spelled, chunk_table_spelled, chunks_spelled}
use Rattle.layout_laws.proofs.HeaderRead.{header_says, header_read}
use Rattle.layout_laws.proofs.NodeRules.{payloads_again, at_counted}
use Rattle.layout_laws.proofs.Rows.{le_of, place_tells, fits_tells}
use Rattle.layout_laws.proofs.VisitExtents.{length-chunk_visits}
use Rattle.adf_format.proofs.NumberLaws.{left_part, right_part}

-- ---- the rows of a visit that broke none

pub record RowsKept (image : List ℕ) (wide : Bool) (end : ℕ) (v : Visit) : Type 0 where
  pub inside : fits end v.place (node_length wide) ≡ true
  pub node : Kept (node_rows wide v.place (is_named image v) (field image v.place (node_length wide)))
  pub count : (count_row image v).kept ≡ true
  pub used : ℕ
  pub table : Kept (rows_unless (entries_in image v.place == 0) (table_rows image end used (table_in image v.place) (entries_in image v.place)))
  pub entries : Kept (entry_rows image (table_in image v.place) (children_in image v.place))
  pub behind_table : ℕ
  pub chunk_table : Kept (rows_unless (nat_lt (chunk_count image wide v.place) 2) (chunk_table_rows image end behind_table (chunk_in image wide v.place) (chunk_count image wide v.place)))
  pub behind_chunk_table : ℕ
  pub chunks : Kept (chunk_rows image end behind_chunk_table (chunks_in image wide v.place))

split_rows : (a table entries chunk_table chunks datas : List Row) (count : Row) → Kept (a ++ (count ∷ table) ++ entries ++ chunk_table ++ chunks ++ datas)
    → Kept a × (count.kept ≡ true) × Kept table × Kept entries × Kept chunk_table × Kept chunks
split_rows a table entries chunk_table chunks datas count h =
    let h1 = left_part (a ++ (count ∷ table) ++ entries ++ chunk_table ++ chunks) datas h in
    let h2 = left_part (a ++ (count ∷ table) ++ entries ++ chunk_table) chunks h1 in
    let h3 = left_part (a ++ (count ∷ table) ++ entries) chunk_table h2 in
    let h4 = left_part (a ++ (count ∷ table)) entries h3 in
    let h5 = right_part a (count ∷ table) h4 in
    (left_part a (count ∷ table) h4, h5.0, h5.1, right_part (a ++ (count ∷ table)) entries h3, right_part (a ++ (count ∷ table) ++ entries) chunk_table h2, right_part (a ++ (count ∷ table) ++ entries ++ chunk_table) chunks h1)

pub rows_kept : (image : List ℕ) (wide : Bool) (end : ℕ) (v : Visit) → Passed image wide end v → RowsKept image wide end v
unfolding node_rows_at
rows_kept image wide end v p =
    let all = all_kept (visit_rows image wide end p.0 v) p.1 in
    let parts = split_rows _ _ _ _ _ _ _ all.1.1.1 in
    record { inside = all.0; node = parts.0; count = parts.1; used = _; table = parts.2; entries = parts.3; behind_table = _; chunk_table = parts.4; behind_chunk_table = _; chunks = parts.5 }

-- ---- lists

pub unless_kept : (b : Bool) (rows : List Row) → b ≡ false → Kept (rows_unless b rows) → Kept rows
unless_kept true rows e h = absurd (not_true (sym e))
unless_kept false rows e h = h

length-given : (g : ℕ → Option ℕ) (a n : ℕ) → ((i : ℕ) → a ≤ i → i < a + n → (k : ℕ) × (g i ≡ Some k)) → length (filter_map g (range_with_len a n)) ≡ n
length-given g a zero all = refl
length-given g a (suc n) all =
    let k = all a (omega arith) (omega arith) in
    rw (k.1) (ap suc (length-given g (a + 1) n (λ i low high. all i (omega (arith, low)) (omega (arith, high)))))

take_again : (n : ℕ) (xs : List ℕ) → take (length (take n xs)) xs ≡ take n xs
take_again zero [] = refl
take_again zero (x ∷ xs) = refl
take_again (suc n) [] = refl
take_again (suc n) (x ∷ xs) = ap (λ ys. x ∷ ys) (take_again n xs)

no_length : {A : Type 0} (xs : List A) → length xs ≡ 0 → xs ≡ []
no_length [] e = refl
no_length (x ∷ xs) e = absurd (omega (arith, e))

each_part : (image : List ℕ) (end : ℕ) (vs : List ChunkVisit) → Chunk image end vs → AllByRecursion (λ (c : ChunkPart). SpellsChunk (field image c.place c.length) c.place c.length) (map (chunk_part image) vs)
each_part image end [] h = tt
each_part image end (v ∷ vs) h = (h.0.spelled, each_part image end vs h.1)

chunk_at : (image : List ℕ) (end : ℕ) (vs : List ChunkVisit) (i : ℕ) (v : ChunkVisit) → Chunk image end vs → slice_get vs i ≡ Some v → ChunkRead image end v
chunk_at image end [] i v h e = cc
chunk_at image end (w ∷ ws) zero v h e = subst (ChunkRead image end) (same_Some w v e) h.0
chunk_at image end (w ∷ ws) (suc i) v h e = chunk_at image end ws i v h.1 e

at_mapped : {A B : Type 0} (f : A → B) (xs : List A) (i : ℕ) (y : B) → slice_get (map f xs) i ≡ Some y → (x : A) × (slice_get xs i ≡ Some x) × (f x ≡ y)
at_mapped f [] i y e = cc
at_mapped f (x ∷ xs) zero y e = (x, refl, same_Some (f x) y e)
at_mapped f (x ∷ xs) (suc i) y e = at_mapped f xs i y e

pub index_mapped : {A B : Type 0} (f : A → B) (xs : List A) (k : ℕ) → slice_index_or (map (λ x. Some (f x)) xs) k None ≡ option_map f (slice_get xs k)
index_mapped f [] k = refl
index_mapped f (x ∷ xs) zero = refl
index_mapped f (x ∷ xs) (suc k) = index_mapped f xs k

-- ---- the chunk table

entry_field : (image : List ℕ) (c n i k m : ℕ) → i < n → k + m ≤ 40 → 16 ≤ k → field (field image c (chunk_table_length n)) (k + 24 * i) m ≡ field image (c + k + 24 * i) m
entry_field image c n i k m lt le low = inner_field image c (chunk_table_length n) (k + 24 * i) m (omega (arith, lt, le)) ∙ ap (λ o. field image o m) (there c k i)
  where
    there : (c k i : ℕ) → c + (k + 24 * i) ≡ c + k + 24 * i
    there c k i = omega arith

module _ (image : List ℕ) (end c : ℕ) where
  -- the visit that the i-th entry gives
  listed_at : (n i : ℕ) (v : ChunkVisit) → 2 ≤ n → slice_get (chunk_visits image c n) i ≡ Some v → (i < n) × (v ≡ record { place = place_of (field image (c + 16 + 24 * i) 12); listed = Some (place_of (field image (c + 28 + 24 * i) 12)) })
  listed_at zero i v le e = absurd (omega (arith, le))
  listed_at (suc zero) i v le e = absurd (omega (arith, le))
  listed_at (suc (suc n)) i v le e =
      let r = at_counted (λ i. record { place = place_of (field image (c + 16 + 24 * i) 12); listed = Some (place_of (field image (c + 28 + 24 * i) 12)) }) 0 (n + 2) i v e in
      (few i n r.0, sym r.1 ∙ ap (λ j. record { place = place_of (field image (c + 16 + 24 * j) 12); listed = Some (place_of (field image (c + 28 + 24 * j) 12)) }) (front i))
    where
      few : (i n : ℕ) → i < n + 2 → i < suc (suc n)
      few i n h = omega (arith, h)

      front : (i : ℕ) → 0 + i ≡ i
      front i = omega arith

  one_entry : (n i : ℕ) (v : ChunkVisit) → 2 ≤ n → ChunkTableRead image c n → Chunk image end (chunk_visits image c n) → slice_get (chunk_visits image c n) i ≡ Some v → SpellsChunkEntry (field image c (chunk_table_length n)) i v.place (chunk_length image v.place)
  one_entry n i v le t h e =
      let r = listed_at n i v le e in
      let s = chunk_at image end (chunk_visits image c n) i v h e in
      let agreed : agrees (Some (place_of (field image (c + 28 + 24 * i) 12))) (v.place + chunk_length image v.place - 4) ≡ true = ap (λ o. agrees o (v.place + chunk_length image v.place - 4)) (sym (ap (λ (w : ChunkVisit). w.listed) r.1)) ∙ s.agreed in
      record {
        start = ap pointer (entry_field image c n i 16 12 r.0 (omega arith) (omega arith)) ∙ place_tells (field image (c + 16 + 24 * i) 12) (t.starts i r.0) ∙ ap (λ m. Some (To m)) (sym (ap (λ (w : ChunkVisit). w.place) r.1));
        end = ap pointer (entry_field image c n i 28 12 r.0 (omega arith) (omega arith)) ∙ place_tells (field image (c + 28 + 24 * i) 12) (t.tails i r.0)
            ∙ ap (λ m. Some (To m)) (equal (place_of (field image (c + 28 + 24 * i) 12)) (v.place + chunk_length image v.place - 4) agreed);
      }

  chunk_table_found : (n : ℕ) → (nat_lt n 2 ≡ false → ChunkTableRead image c n) → Chunk image end (chunk_visits image c n) → HasChunkTable image (map (chunk_part image) (chunk_visits image c n)) (chunk_table_part c n)
  chunk_table_found n t h = by_test (nat_lt n 2) refl
    where
      many : length (map (chunk_part image) (chunk_visits image c n)) ≡ n
      many = length-map (chunk_visits image c n) (chunk_part image) ∙ length-chunk_visits image c n

      short : (n : ℕ) → nat_lt n 2 ≡ true → n < 2
      short n e = grind (arith, nat_tests)

      long : (n : ℕ) → nat_lt n 2 ≡ false → 2 ≤ n
      long n e = grind (arith, nat_tests)

      by_test : (b : Bool) → nat_lt n 2 ≡ b → HasChunkTable image (map (chunk_part image) (chunk_visits image c n)) (cond b None (Some c))
      by_test true e = let m = many in let s = short n e in omega (arith, m, s)
      by_test false e = (
        subst (λ k. 2 ≤ k) (sym many) (long n e),
        subst (λ k. SpellsChunkTable (field image c (chunk_table_length k)) c k) (sym many) (t e).spelled,
        λ i part f. (let r = at_mapped (chunk_part image) (chunk_visits image c n) i part f in
            subst (λ (q : ChunkPart). SpellsChunkEntry (field image c (chunk_table_length (length (map (chunk_part image) (chunk_visits image c n))))) i q.place q.length) r.2
            (subst (λ k. SpellsChunkEntry (field image c (chunk_table_length k)) i r.0.place (chunk_length image r.0.place)) (sym many) (one_entry n i r.0 (long n e) (t e) h r.1))),
      )

-- ---- data

data_found : (image : List ℕ) (vs : List ChunkVisit) (size : ℕ) → HasData image (map (chunk_part image) vs) (data_when (length vs) (take size (payloads_in image vs)))
data_found image [] size = refl
data_found image (v ∷ vs) size = subst (λ b. HasData image (map (chunk_part image) (v ∷ vs)) (cond b None (Some (take size (payloads_in image (v ∷ vs)))))) (sym (some (length vs))) (
  (λ e. no_list e),
  ap (take (length (take size (payloads_in image (v ∷ vs))))) (payloads_again image (v ∷ vs)) ∙ take_again size (payloads_in image (v ∷ vs)),
)
  where
    some : (n : ℕ) → (suc n == 0) ≡ false
    some n = grind (arith, nat_tests)

    no_list : {x : ChunkPart} {xs : List ChunkPart} → ◌≡◌ {A = List ChunkPart} (x ∷ xs) [] → ⊥
    no_list e = cc

-- ---- the node

module _ (image : List ℕ) (nodes : List Visit) (gaps : List Extent) (head : first_broken (head_rows image) ≡ None) (w : NodeWalk image (Ok nodes)) where
  abbrev wide : Bool
  wide = is_wide image

  abbrev end : ℕ
  end = end_in image

  abbrev tree : Tree
  tree = tree_of image nodes

  abbrev placement : Placement
  placement = placement_of image nodes gaps

  ends : end_in image < length image
  ends = end_inside image head

  walked : IsWalked image nodes
  walked = is_walked image nodes w

  kept_at : (k : ℕ) (v : Visit) → slice_get nodes k ≡ Some v → RowsKept image (is_wide image) (end_in image) v
  kept_at k v e = rows_kept image (is_wide image) (end_in image) v (walk_passes image nodes w v (at_in nodes k v e))

  named_at : (k : ℕ) (v : Visit) → slice_get nodes k ≡ Some v → is_named image v ≡ true
  named_at k v e = visit_named image (is_wide image) (end_in image) nodes v (visit_kept image (is_wide image) (end_in image) v (walk_passes image nodes w v (at_in nodes k v e))) ends

  pub parts_found : (k : ℕ) → parts_of (placement_of image nodes gaps) k ≡ option_map (λ (v : Visit). parts_at image (is_wide image) v.place) (slice_get nodes k)
  parts_found k = index_mapped (λ (v : Visit). parts_at image (is_wide image) v.place) nodes k

  module _ (serial : ℕ) (v : Visit) (here : slice_get nodes serial ≡ Some v) where
    abbrev p : ℕ
    p = v.place

    rows : RowsKept image (is_wide image) (end_in image) v
    rows = kept_at serial v here

    fit : (266 ≤ p) × (p + node_length wide ≤ end + 1)
    fit = fits_tells (end_in image) p (node_length (is_wide image)) rows.inside

    -- each child is a visit
    kid : (i : ℕ) → i < children_in image p → (k : ℕ) × (slice_get nodes k ≡ Some (child_of image v i))
    kid i lt = number_in nodes (child_of image v i) (walked.closed v (at_in nodes serial v here) (child_of image v i) (child_in image v 0 (children_in image v.place) i (omega arith) (omega (arith, lt))))

    kid_number : (i : ℕ) → i < children_in image p → (k : ℕ) × (visit_number nodes (v.path ++ i ∷ []) ≡ Some k)
    kid_number i lt = let k = kid i lt in (k.0, number_of-path nodes k.0 (child_of image v i) walked.ordered k.1)

    within : (i n : ℕ) → i < 0 + n → i < n
    within i n h = omega (arith, h)

    pub children_counted : length (children_among image nodes v) ≡ children_in image p
    children_counted = length-given (λ i. visit_number nodes (v.path ++ i ∷ [])) 0 (children_in image p) (λ i low high. kid_number i (within i (children_in image p) high))

    pub child_found : (i c : ℕ) → slice_get (children_among image nodes v) i ≡ Some c → (i < children_in image p) × (slice_get nodes c ≡ Some (child_of image v i))
    child_found i c e =
        let inside = slice_get_within (children_among image nodes v) i c e in
        let count = children_counted in
        let lt : i < children_in image p = omega (arith, inside, count) in
        let k = kid i lt in
        let number = number_of-path nodes k.0 (child_of image v i) walked.ordered k.1 in
        let at = given_at (λ i. visit_number nodes (v.path ++ i ∷ [])) 0 (children_in image p) i (λ i low high. kid_number i (within i (children_in image p) high)) lt in
        let same : c ≡ k.0 = same_Some c k.0 (sym e ∙ at ∙ ap (λ j. visit_number nodes (v.path ++ j ∷ [])) (front i) ∙ number) in
        (lt, ap (slice_get nodes) same ∙ k.1)
      where
        front : (i : ℕ) → 0 + i ≡ i
        front i = omega arith

    pub child_listed : (i k : ℕ) → i < children_in image p → slice_get nodes k ≡ Some (child_of image v i) → slice_get (children_among image nodes v) i ≡ Some k
    child_listed i k lt e =
        given_at (λ i. visit_number nodes (v.path ++ i ∷ [])) 0 (children_in image p) i (λ i low high. kid_number i (within i (children_in image p) high)) lt
        ∙ ap (λ j. visit_number nodes (v.path ++ j ∷ [])) (front i) ∙ number_of-path nodes k (child_of image v i) walked.ordered e
      where
        front : (i : ℕ) → 0 + i ≡ i
        front i = omega arith

    -- ---- the table

    fewer : children_in image p ≤ entries_in image p
    unfolding count_row_at
    fewer = le_of (children_in image p) (entries_in image p) (and_parts _ _ (and_parts _ _ (and_parts _ _ rows.count).0).0).0

    entry_place : (i : ℕ) → i < children_in image p → is_place (entry_pointer image (table_in image p) i) ≡ true
    unfolding entry_rows
    entry_place i lt = subst (λ j. is_place (entry_pointer image (table_in image p) j) ≡ true) (front i) (and_parts _ _ (kept_index _ 0 (children_in image p) i rows.entries lt)).1
      where
        front : (i : ℕ) → 0 + i ≡ i
        front i = omega arith

    in_table : (t n i k m : ℕ) → i < n → k + m ≤ 60 → 16 ≤ k → field (field image t (table_length n)) (k + 44 * i) m ≡ field image (t + k + 44 * i) m
    in_table t n i k m lt le low = inner_field image t (table_length n) (k + 44 * i) m (omega (arith, lt, le)) ∙ ap (λ o. field image o m) (there t k i)
      where
        there : (t k i : ℕ) → t + (k + 44 * i) ≡ t + k + 44 * i
        there t k i = omega arith

    -- the name field of a header is whole
    whole_name : (k : ℕ) (u : Visit) → slice_get nodes k ≡ Some u → field image (u.place + 4) 32 ≡ text_field 32 (text_at image (u.place + 4) 32)
    whole_name k u e =
        let f = fits_tells (end_in image) u.place (node_length (is_wide image)) (kept_at k u e).inside in
        let high = f.1 in
        let long = length-field image (u.place + 4) 32 in
        let least = least_length (is_wide image) in
        let inside = ends in
        sym (padded-trimmed (field image (u.place + 4) 32) 32 (omega (arith, long, least, high, inside)))
      where
        least_length : (w : Bool) → 246 ≤ node_length w
        least_length false = omega arith
        least_length true = omega arith

    names : NamesChildren (field image (table_in image p) (table_length (entries_in image p))) tree placement (children_among image nodes v)
    names i child inner parts e f g =
        let c = child_found i child e in
        let lt = c.0 in
        let less = fewer in
        let inside : i < entries_in image p = omega (arith, lt, less) in
        let same : node_of_visit image (is_wide image) nodes (child_of image v i) ≡ inner = same_Some (node_of_visit image (is_wide image) nodes (child_of image v i)) inner (sym (node_at-tree_of image nodes child ∙ ap (option_map (node_of_visit image (is_wide image) nodes)) c.1) ∙ f) in
        let at : parts_at image (is_wide image) (child_of image v i).place ≡ parts = same_Some (parts_at image (is_wide image) (child_of image v i).place) parts (sym (parts_found child ∙ ap (option_map (λ (v : Visit). parts_at image (is_wide image) v.place)) c.1) ∙ g) in
        record {
          named = in_table (table_in image p) (entries_in image p) i 16 32 inside (omega arith) (omega arith)
              ∙ (bytes_eq-Decides (entry_name image (table_in image p) i) (field image ((child_of image v i).place + 4) 32)).0 (named_at child (child_of image v i) c.1)
              ∙ whole_name child (child_of image v i) c.1 ∙ ap (λ (n : Node). text_field 32 n.name) same;
          points = ap pointer (in_table (table_in image p) (entries_in image p) i 48 12 inside (omega arith) (omega arith)) ∙ place_tells (entry_pointer image (table_in image p) i) (entry_place i lt) ∙ ap (λ (q : NodeParts). Some (To q.header)) at;
        }

    table_found : HasTable image tree placement (node_of_visit image (is_wide image) nodes v) (table_part (table_in image p) (entries_in image p))
    table_found = by_test (entries_in image p == 0) refl
      where
        some : (n : ℕ) → (n == 0) ≡ false → 0 < n
        some n e = grind (arith, nat_tests)

        none : entries_in image p ≡ 0 → children_among image nodes v ≡ []
        none e = no_length (children_among image nodes v) (let c = children_counted in let f = fewer in omega (arith, e, c, f))

        by_test : (b : Bool) → (entries_in image p == 0) ≡ b → HasTable image tree placement (node_of_visit image (is_wide image) nodes v) (cond b None (Some (record { place = table_in image p; entries = entries_in image p })))
        by_test true e = none (equal (entries_in image p) 0 e)
        by_test false e = (
          some (entries_in image p) e,
          (let c = children_counted in let f = fewer in omega (arith, c, f)),
          table_spelled image (end_in image) rows.used (table_in image p) (entries_in image p) (unless_kept (entries_in image p == 0) (table_rows image (end_in image) rows.used (table_in image p) (entries_in image p)) e rows.table),
          names,
        )

    all_chunks : Chunk image (end_in image) (chunks_in image (is_wide image) p)
    all_chunks = chunks_spelled image (end_in image) rows.behind_chunk_table (chunks_in image (is_wide image) p) rows.chunks

    -- the node is held
    pub node_held : HoldsNode image tree placement (node_of_visit image (is_wide image) nodes v) (parts_at image (is_wide image) p)
    node_held = record {
      header = subst (λ n. SpellsNode (is_wide image) (field image p (node_length (is_wide image))) (record {
        name = trimmed (field image (p + 4) 32);
        label = trimmed (field image (p + 36) 32);
        children = n;
        entries = entry_count (table_part (table_in image p) (entries_in image p));
        table = option_map (λ (t : TablePart). t.place) (table_part (table_in image p) (entries_in image p));
        kind = type_or_mt (field image (p + 96) 32);
        dims = dims_in image (is_wide image) p;
        chunks = length (map (chunk_part image) (chunks_in image (is_wide image) p));
        chunk = chunk_pointer (map (chunk_part image) (chunks_in image (is_wide image) p)) (chunk_table_part (chunk_in image (is_wide image) p) (chunk_count image (is_wide image) p));
      })) (sym children_counted) (header_read image (is_wide image) p (end_in image) (header_says (is_wide image) p (is_named image v) (field image p (node_length (is_wide image))) rows.node) ends fit.1);
      table = table_found;
      chunk_table = chunk_table_found image (end_in image) (chunk_in image (is_wide image) p) (chunk_count image (is_wide image) p)
          (λ e. chunk_table_spelled image (end_in image) rows.behind_table (chunk_in image (is_wide image) p) (chunk_count image (is_wide image) p)
          (unless_kept (nat_lt (chunk_count image (is_wide image) p) 2) (chunk_table_rows image (end_in image) rows.behind_table (chunk_in image (is_wide image) p) (chunk_count image (is_wide image) p)) e rows.chunk_table)) all_chunks;
      chunks = each_part image (end_in image) (chunks_in image (is_wide image) p) all_chunks;
      bytes = data_found image (chunks_in image (is_wide image) p) (data_size (type_or_mt (field image (p + 96) 32)) (dims_in image (is_wide image) p));
    }
