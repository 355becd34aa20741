-- A node that is held breaks none of its rules.
use Rattle.std.proofs.Common.{◌≡◌, ◌≢◌, ◌⊎◌, inl, inr, ℕ, zero, suc, refl, sym, ◌∙◌, ap, subst, arith, List, [], ◌∷◌, ◌++◌, length, map, take, min, get_or, ◌+◌, ◌-◌, ◌*◌, ◌^◌, ◌<◌, ◌≤◌, Bool, true, false, not}
use Rattle.std.proofs.lemmas.Bool.Decides.{nat_tests}
use Rattle.std.proofs.lemmas.List.{length-map, length-take}
use Rattle.std.proofs.lemmas.Option.{slice_get-get_or}
use Rattle.std.proofs.lemmas.Slice.Eq.{bytes_eq-Decides}
use Rattle.std.specs.Prelude.{Option, Some, None, slice_get, nat_le, nat_lt, ◌&&◌, ◌||◌, ◌==◌, IfSome, option_map}
use Rattle.std.specs.List.{AllByRecursion, range_with_len}
use Rattle.adf_format.specs.Pointer.{place_of}
use Rattle.adf_format.specs.Fields.{field, text_field}
use Rattle.adf_format.specs.declared.types.DataType.{DataType}
use Rattle.adf_format.specs.declared.types.DataType.TheVariants.{Mt, I4, I8, U4, U8, R4, R8, X4, X8, B1, C1, Lk}
use Rattle.adf_format.specs.declared.types.Extent.{Extent}
use Rattle.adf_format.specs.declared.types.ExtentKind.{ExtentKind}
use Rattle.adf_format.specs.Names.{is_mt, is_lk, data_size}
use Rattle.adf_format.specs.Links.{is_link_text}
use Rattle.adf_format.specs.Tiles.{end_of, total_length}
use Rattle.adf_format.specs.Tree.{Tree, Node, IsNode}
use Rattle.adf_format.specs.Parts.{SpellsChunk, node_length, table_length, chunk_table_length, payload}
use Rattle.adf_format.specs.Placement.{Placement, NodeParts, TablePart, ChunkPart, extent, table_extents, chunk_table_extents, chunk_extents, node_extents}
use Rattle.adf_format.specs.LaysOut.{HoldsNode, HasTable, HasChunkTable, HasData, fields_of, entry_count, chunk_pointer, payloads}
use Rattle.adf_format.specs.Checks.{Row}
use Rattle.adf_format.specs.FirstFault.{ChunkVisit, fits, node_rows, count_row, table_rows, chunk_table_rows, chunk_rows, data_rows, rows_unless, is_same_name, children_in, entries_in, table_in, chunk_count, chunk_in, chunks_in, chunk_visits, chunk_length, dims_in, type_or_mt, payloads_in, payload_total, agrees, count_row_at}
use Rattle.adf_format.proofs.ClosureLaws.{IsIn, in_left, in_right}
use Rattle.adf_model.proofs.Basics.{and_parts, not_true, same_Some, not_there}
use Rattle.adf_model.proofs.Walks.WalkNodes.{Kept, payloads_long}
use Rattle.layout_laws.specs.FoundLayout.{chunk_part}
use Rattle.layout_laws.proofs.Rows.{both, le_of, of_le, of_lt, of_equal, points_place, points_to, fits_of, room_of}
use Rattle.layout_laws.proofs.Frames.{ChunkRead, Chunk, table_unbroken, chunk_table_unbroken, chunks_unbroken, lengths}
use Rattle.layout_laws.proofs.NodeRead.{header_unbroken, is_nothing}
use Rattle.layout_laws.proofs.HeldParts.{children_held, entries_held, count_held, name_held, kind_held, dims_held, table_place, chunk_place, chunk_again, spelled_at, entry_places, parts_held}

mt_of : (kind : DataType) → is_mt kind ≡ true → kind ≡ Mt
mt_of Mt e = refl
mt_of I4 e = cc
mt_of I8 e = cc
mt_of U4 e = cc
mt_of U8 e = cc
mt_of R4 e = cc
mt_of R8 e = cc
mt_of X4 e = cc
mt_of X8 e = cc
mt_of B1 e = cc
mt_of C1 e = cc
mt_of Lk e = cc

lk_of : (kind : DataType) → is_lk kind ≡ true → kind ≡ Lk
lk_of Mt e = cc
lk_of I4 e = cc
lk_of I8 e = cc
lk_of U4 e = cc
lk_of U8 e = cc
lk_of R4 e = cc
lk_of R8 e = cc
lk_of X4 e = cc
lk_of X8 e = cc
lk_of B1 e = cc
lk_of C1 e = cc
lk_of Lk e = refl

or_if : (a b : Bool) → (a ≡ true → b ≡ true) → (not a || b) ≡ true
or_if true b h = h refl
or_if false b h = refl

or_second : (a b : Bool) → (a ≡ false → b ≡ true) → (a || b) ≡ true
or_second true b h = refl
or_second false b h = h refl

some_of : (n : ℕ) → (n == 0) ≡ false → 0 < n
some_of n e = grind (arith, nat_tests)

taken_short : (xs bs : List ℕ) → take (length bs) xs ≡ bs → length bs ≤ length xs
taken_short xs bs e = let l : length (take (length bs) xs) ≡ min (length bs) (length xs) = length-take (length bs) xs in let s : length (take (length bs) xs) ≡ length bs = ap length e in omega (arith, l, s)

pub payloads_again : (image : List ℕ) (vs : List ChunkVisit) → payloads image (map (chunk_part image) vs) ≡ payloads_in image vs
payloads_again image [] = refl
payloads_again image (v ∷ vs) = ap (λ xs. payload image v.place (chunk_length image v.place) ++ xs) (payloads_again image vs)

pub chunks_total : (image : List ℕ) (vs : List ChunkVisit) → total_length (chunk_extents (map (chunk_part image) vs)) ≡ lengths image vs
chunks_total image [] = refl
chunks_total image (v ∷ vs) = ap (λ n. chunk_length image v.place + n) (chunks_total image vs)

each_chunk : (P : ChunkVisit → Type 0) (vs : List ChunkVisit) → ((i : ℕ) (v : ChunkVisit) → slice_get vs i ≡ Some v → P v) → AllByRecursion P vs
each_chunk P [] h = tt
each_chunk P (v ∷ vs) h = (h 0 v refl, each_chunk P vs (λ i w e. h (suc i) w e))

at_mapped : {A B : Type 0} (f : A → B) (xs : List A) (i : ℕ) (x : A) → slice_get xs i ≡ Some x → slice_get (map f xs) i ≡ Some (f x)
at_mapped f [] i x e = cc
at_mapped {A = A} f (y ∷ ys) zero x e = ap (λ z. Some (f z)) (same_Some y x e)
at_mapped f (y ∷ ys) (suc i) x e = at_mapped f ys i x e

pub at_counted : {A : Type 0} (f : ℕ → A) (a n i : ℕ) (x : A) → slice_get (map f (range_with_len a n)) i ≡ Some x → (i < n) × (f (a + i) ≡ x)
at_counted f a zero i x e = cc
at_counted f a (suc n) zero x e = (omega arith, ap f (plain a) ∙ same_Some (f a) x e)
  where
    plain : (a : ℕ) → a + 0 ≡ a
    plain a = omega arith
at_counted f a (suc n) (suc i) x e = let r = at_counted f (a + 1) n i x e in (above i n r.0, ap f (shift a i) ∙ r.1)
  where
    above : (i n : ℕ) → i < n → suc i < suc n
    above i n h = omega (arith, h)

    shift : (a i : ℕ) → a + suc i ≡ a + 1 + i
    shift a i = omega arith

-- the end tag that a visit gives, if it gives one
visit_lists : (image : List ℕ) (c n i : ℕ) (v : ChunkVisit) → slice_get (chunk_visits image c n) i ≡ Some v → (v.listed ≡ None) ⊎ ((2 ≤ n) × (i < n) × (v.listed ≡ Some (place_of (field image (c + 28 + 24 * i) 12))))
visit_lists image c zero i v e = absurd (not_there v e)
visit_lists image c (suc zero) zero v e = inl (ap (λ (w : ChunkVisit). w.listed) (sym (same_Some (record { place = c; listed = None }) v e)))
visit_lists image c (suc zero) (suc i) v e = absurd (not_there v e)
visit_lists image c (suc (suc n)) i v e =
    let r = at_counted (λ i. record { place = place_of (field image (c + 16 + 24 * i) 12); listed = Some (place_of (field image (c + 28 + 24 * i) 12)) }) 0 (n + 2) i v e in
    inr (omega arith, few i n r.0, ap (λ (w : ChunkVisit). w.listed) (sym r.1) ∙ ap (λ j. Some (place_of (field image (c + 28 + 24 * j) 12))) (front i))
  where
    few : (i n : ℕ) → i < n + 2 → i < suc (suc n)
    few i n h = omega (arith, h)

    front : (i : ℕ) → 0 + i ≡ i
    front i = omega arith

module _ (image : List ℕ) (tree : Tree) (p : Placement) (node : Node) (parts : NodeParts) (h : HoldsNode image tree p node parts) (is : IsNode tree.wide node) (end : ℕ)
    (fit : (e : Extent) → IsIn e (node_extents tree.wide parts) → 0 < e.length → (266 ≤ e.place) × (end_of e ≤ end + 1)) where
  abbrev place : ℕ
  place = parts.header

  abbrev wide : Bool
  wide = tree.wide

  length_some : (w : Bool) → 0 < node_length w
  length_some false = omega arith
  length_some true = omega arith

  pub header_fits : fits end place (node_length wide) ≡ true
  header_fits = let f = fit (extent ExtentKind.Node place (node_length wide)) (inl refl) (length_some wide) in fits_of end place (node_length wide) f.0 f.1

  -- ---- the header

  abbrev option_place : Option TablePart → Option ℕ
  option_place o = option_map (λ (t : TablePart). t.place) o

  table_none : (t : Option TablePart) → HasTable image tree p node t → is_nothing (option_place t) ≡ (entry_count t == 0)
  table_none None k = refl
  table_none (Some t) k = some t.entries k.0
    where
      some : (n : ℕ) → 0 < n → false ≡ (n == 0)
      some n h = grind (arith, nat_tests)

  chunk_none : (cs : List ChunkPart) (o : Option ℕ) → HasChunkTable image cs o → is_nothing (chunk_pointer cs o) ≡ (length cs == 0)
  chunk_none [] None k = refl
  chunk_none (c ∷ cs) None k = more (length cs)
    where
      more : (n : ℕ) → false ≡ (suc n == 0)
      more n = grind (arith, nat_tests)
  chunk_none cs (Some t) k = some (length cs) k.0
    where
      some : (n : ℕ) → 2 ≤ n → false ≡ (n == 0)
      some n h = grind (arith, nat_tests)

  few_dims : length node.dims ≤ 12
  few_dims = le_of (length node.dims) 12 (and_parts _ _ (and_parts _ _ is.shaped).0).1

  pub header_kept : (named : Bool) → named ≡ true → Kept (node_rows wide place named (field image place (node_length wide)))
  header_kept named e =
      header_unbroken wide place named (field image place (node_length wide)) (fields_of node parts) h.header e is.named is.labelled is.shaped (table_none parts.table h.table) (chunk_none parts.chunks parts.chunk_table h.chunk_table)

  pub name_kept : (entry : Option (List ℕ)) → (entry ≡ None) ⊎ (entry ≡ Some (text_field 32 node.name)) → is_same_name entry (field image (place + 4) 32) ≡ true
  name_kept entry (inl e) = ap (λ o. is_same_name o (field image (place + 4) 32)) e
  name_kept entry (inr e) = ap (λ o. is_same_name o (field image (place + 4) 32)) e ∙ (bytes_eq-Decides (text_field 32 node.name) (field image (place + 4) 32)).1 (sym (name_held image tree p node parts h))

  -- ---- the count of children

  children_within : (t : Option TablePart) → HasTable image tree p node t → length node.children ≤ entry_count t
  children_within None k = rw k (omega arith)
  children_within (Some t) k = k.1

  pub count_kept : (entry : Option (List ℕ)) (path : List ℕ) → length node.children ≤ 2 ^ 20 → (0 < length node.children → length path < 255) → (count_row image (record { place = place; entry = entry; path = path })).kept ≡ true
  unfolding count_row_at
  count_kept entry path few deep =
      let n = children_held image tree p node parts h in
      let m = entries_held image tree p node parts h in
      let le = children_within parts.table h.table in
      both (nat_le (children_in image place) (entries_in image place) && nat_le (children_in image place) (2 ^ 20) && (nat_lt (length path) 255 || (children_in image place == 0))) (not (is_lk (type_or_mt (field image (place + 96) 32))) || (children_in image place == 0))
      (both (nat_le (children_in image place) (entries_in image place) && nat_le (children_in image place) (2 ^ 20)) (nat_lt (length path) 255 || (children_in image place == 0))
      (both (nat_le (children_in image place) (entries_in image place)) (nat_le (children_in image place) (2 ^ 20)) (of_le (children_in image place) (entries_in image place) (omega (arith, n, m, le))) (of_le (children_in image place) (2 ^ 20) (omega (arith, n, few))))
      (by_children (children_in image place == 0) refl))
      (or_if (is_lk (type_or_mt (field image (place + 96) 32))) (children_in image place == 0) childless)
    where
      by_children : (t : Bool) → (children_in image place == 0) ≡ t → (nat_lt (length path) 255 || t) ≡ true
      by_children true e = or_second (nat_lt (length path) 255) true (λ k. refl)
      by_children false e = ap (λ b. b || false) (of_lt (length path) 255 (deep (let n = children_held image tree p node parts h in let s = some_of (children_in image place) e in omega (arith, n, s))))

      childless : is_lk (type_or_mt (field image (place + 96) 32)) ≡ true → (children_in image place == 0) ≡ true
      childless e =
          let link = is.link (sym (kind_held image tree p node parts h) ∙ lk_of (type_or_mt (field image (place + 96) 32)) e) in
          of_equal (children_in image place) 0 (children_held image tree p node parts h ∙ ap length link.childless)

  -- ---- the table

  pub table_kept : (used : ℕ) (t : Option TablePart) → parts.table ≡ t → used + total_length (table_extents parts.table) ≤ end + 1 → Kept (rows_unless (entries_in image place == 0) (table_rows image end used (table_in image place) (entries_in image place)))
  table_kept used None e room = ap_none (entries_in image place == 0) (of_equal (entries_in image place) 0 (entries_held image tree p node parts h ∙ ap entry_count e))
    where
      ap_none : (b : Bool) → b ≡ true → Kept (rows_unless b (table_rows image end used (table_in image place) (entries_in image place)))
      ap_none true e = tt
      ap_none false e = absurd (not_true e)
  table_kept used (Some t) e room =
      let held = subst (λ o. HasTable image tree p node o) e h.table in
      let entries : entries_in image place ≡ t.entries = entries_held image tree p node parts h ∙ ap entry_count e in
      let at : table_in image place ≡ t.place = table_place image tree p node parts h t e in
      let inside : IsIn (extent ExtentKind.SubNodes t.place (table_length t.entries)) (node_extents wide parts) = inr (in_left _ (table_extents parts.table ++ chunk_table_extents parts.chunk_table (length parts.chunks)) (chunk_extents parts.chunks)
      (in_left _ (table_extents parts.table) (chunk_table_extents parts.chunk_table (length parts.chunks)) (subst (λ o. IsIn (extent ExtentKind.SubNodes t.place (table_length t.entries)) (table_extents o)) (sym e) (inl refl)))) in
      let f = fit (extent ExtentKind.SubNodes t.place (table_length t.entries)) inside (omega arith) in
      let space : used + (table_length t.entries + 0) ≤ end + 1 = subst (λ o. used + total_length (table_extents o) ≤ end + 1) e room in
      unless (entries_in image place == 0) (table_rows image end used (table_in image place) (entries_in image place))
      (subst (λ n. Kept (table_rows image end used n (entries_in image place))) (sym at) (subst (λ n. Kept (table_rows image end used t.place n)) (sym entries)
      (table_unbroken image end used t.place t.entries (fits_of end t.place (table_length t.entries) f.0 f.1) (room_of end used (table_length t.entries) (omega (arith, space))) held.2)))
    where
      unless : (b : Bool) (rows : List Row) → Kept rows → Kept (rows_unless b rows)
      unless true rows k = tt
      unless false rows k = k

  -- ---- the chunks

  abbrev visits : List ChunkVisit
  visits = chunks_in image wide place

  parts_chunks : parts.chunks ≡ map (chunk_part image) visits
  parts_chunks = ap (λ (q : NodeParts). q.chunks) (parts_held image tree p node parts h)

  in_chunks : (cs : List ChunkPart) (i : ℕ) (c : ChunkPart) → slice_get cs i ≡ Some c → IsIn (extent ExtentKind.DataChunk c.place c.length) (chunk_extents cs)
  in_chunks [] i c e = absurd (not_there c e)
  in_chunks (d ∷ ds) zero c e = inl (ap (λ (x : ChunkPart). extent ExtentKind.DataChunk x.place x.length) (sym (same_Some d c e)))
  in_chunks (d ∷ ds) (suc i) c e = inr (in_chunks ds i c e)

  one_chunk : (i : ℕ) (v : ChunkVisit) → slice_get visits i ≡ Some v → ChunkRead image end v
  one_chunk i v e =
      let c = chunk_part image v in
      let at : slice_get parts.chunks i ≡ Some (chunk_part image v) = ap (λ cs. slice_get cs i) parts_chunks ∙ at_mapped (chunk_part image) visits i v e in
      let s : SpellsChunk (field image v.place (chunk_length image v.place)) v.place (chunk_length image v.place) = spelled_at image tree p node parts h parts.chunks i (chunk_part image v) h.chunks at in
      let again = chunk_again image tree p node parts h (chunk_part image v) s in
      let long = s.long in
      let f = fit (extent ExtentKind.DataChunk v.place (chunk_length image v.place)) (inr (in_right _ (table_extents parts.table ++ chunk_table_extents parts.chunk_table (length parts.chunks)) (chunk_extents parts.chunks) (in_chunks parts.chunks i (chunk_part image v) at))) (omega (arith, long)) in
      record {
        spelled = s;
        low = f.0;
        high = f.1;
        points = again.1;
        agreed = agreed (visit_lists image (chunk_in image wide place) (chunk_count image wide place) i v e);
      }
    where
      by_table : (o : Option ℕ) → parts.chunk_table ≡ o → 2 ≤ length parts.chunks → slice_get parts.chunks i ≡ Some (chunk_part image v) → place_of (field image (chunk_in image wide place + 28 + 24 * i) 12) ≡ (v.place + chunk_length image v.place - 4)
      by_table None e long at = absurd (let short : length parts.chunks < 2 = subst (λ o. HasChunkTable image parts.chunks o) e h.chunk_table in omega (arith, short, long))
      by_table (Some t) e long at =
          let here : chunk_in image wide place ≡ t = chunk_place image tree p node parts h t (ap (chunk_pointer parts.chunks) e) in
          ap (λ n. place_of (field image (n + 28 + 24 * i) 12)) here ∙ points_to (field image (t + 28 + 24 * i) 12) (v.place + chunk_length image v.place - 4) (entry_places image tree p node parts h t i (chunk_part image v) e at).1

      agreed : (v.listed ≡ None) ⊎ ((2 ≤ chunk_count image wide place) × (i < chunk_count image wide place) × (v.listed ≡ Some (place_of (field image (chunk_in image wide place + 28 + 24 * i) 12)))) → agrees v.listed (v.place + chunk_length image v.place - 4) ≡ true
      agreed (inl n) = ap (λ o. agrees o (v.place + chunk_length image v.place - 4)) n
      agreed (inr r) =
          let many = count_held image tree p node parts h in
          let enough = r.0 in
          let at : slice_get parts.chunks i ≡ Some (chunk_part image v) = ap (λ cs. slice_get cs i) parts_chunks ∙ at_mapped (chunk_part image) visits i v e in
          ap (λ o. agrees o (v.place + chunk_length image v.place - 4)) r.2 ∙ of_equal (place_of (field image (chunk_in image wide place + 28 + 24 * i) 12)) (v.place + chunk_length image v.place - 4) (by_table parts.chunk_table refl (omega (arith, many, enough)) at)

  all_chunks : Chunk image end visits
  all_chunks = each_chunk (ChunkRead image end) visits one_chunk

  pub chunks_kept : (used : ℕ) → used + total_length (chunk_extents parts.chunks) ≤ end + 1 → Kept (chunk_rows image end used visits)
  chunks_kept used room = chunks_unbroken image end used visits (subst (λ n. used + n ≤ end + 1) (ap (λ cs. total_length (chunk_extents cs)) parts_chunks ∙ chunks_total image visits) room) all_chunks

  -- ---- the chunk table

  abbrev no_chunk : ChunkPart
  no_chunk = record { place = 0; length = 0 }

  pub chunk_table_kept : (used : ℕ) (o : Option ℕ) → parts.chunk_table ≡ o → used + total_length (chunk_table_extents parts.chunk_table (length parts.chunks)) ≤ end + 1
      → Kept (rows_unless (nat_lt (chunk_count image wide place) 2) (chunk_table_rows image end used (chunk_in image wide place) (chunk_count image wide place)))
  chunk_table_kept used None e room = none (nat_lt (chunk_count image wide place) 2) (of_lt (chunk_count image wide place) 2 (let short : length parts.chunks < 2 = subst (λ o. HasChunkTable image parts.chunks o) e h.chunk_table in let n = count_held image tree p node parts h in omega (arith, short, n)))
    where
      none : (b : Bool) → b ≡ true → Kept (rows_unless b (chunk_table_rows image end used (chunk_in image wide place) (chunk_count image wide place)))
      none true e = tt
      none false e = absurd (not_true e)
  chunk_table_kept used (Some t) e room =
      let held = subst (λ o. HasChunkTable image parts.chunks o) e h.chunk_table in
      let at : chunk_in image wide place ≡ t = chunk_place image tree p node parts h t (ap (chunk_pointer parts.chunks) e) in
      let inside : IsIn (extent ExtentKind.ChunkTable t (chunk_table_length (length parts.chunks))) (node_extents wide parts) = inr (in_left _ (table_extents parts.table ++ chunk_table_extents parts.chunk_table (length parts.chunks)) (chunk_extents parts.chunks)
      (in_right _ (table_extents parts.table) (chunk_table_extents parts.chunk_table (length parts.chunks)) (subst (λ o. IsIn (extent ExtentKind.ChunkTable t (chunk_table_length (length parts.chunks))) (chunk_table_extents o (length parts.chunks))) (sym e) (inl refl)))) in
      let f = fit (extent ExtentKind.ChunkTable t (chunk_table_length (length parts.chunks))) inside (omega arith) in
      let space : used + (chunk_table_length (length parts.chunks) + 0) ≤ end + 1 = subst (λ o. used + total_length (chunk_table_extents o (length parts.chunks)) ≤ end + 1) e room in
      unless (nat_lt (chunk_count image wide place) 2) (chunk_table_rows image end used (chunk_in image wide place) (chunk_count image wide place))
      (subst (λ n. Kept (chunk_table_rows image end used n (chunk_count image wide place))) (sym at) (subst (λ n. Kept (chunk_table_rows image end used t n)) (sym (count_held image tree p node parts h))
      (chunk_table_unbroken image end used t (length parts.chunks) (fits_of end t (chunk_table_length (length parts.chunks)) f.0 f.1) (room_of end used (chunk_table_length (length parts.chunks)) (omega (arith, space))) (record {
        spelled = held.1;
        starts = λ i lt. (let at = slice_get-get_or parts.chunks i no_chunk lt in points_place (field image (t + 16 + 24 * i) 12) _ (entry_places image tree p node parts h t i (get_or parts.chunks i no_chunk) e at).0);
        tails = λ i lt. (let at = slice_get-get_or parts.chunks i no_chunk lt in points_place (field image (t + 28 + 24 * i) 12) _ (entry_places image tree p node parts h t i (get_or parts.chunks i no_chunk) e at).1);
      }))))
    where
      unless : (b : Bool) (rows : List Row) → Kept rows → Kept (rows_unless b rows)
      unless true rows k = tt
      unless false rows k = k

  -- ---- the data

  many_visits : length visits ≡ length parts.chunks
  many_visits = sym (ap length parts_chunks ∙ length-map visits (chunk_part image))

  abbrev kind : DataType
  kind = type_or_mt (field image (place + 96) 32)

  abbrev size : ℕ
  size = data_size (type_or_mt (field image (place + 96) 32)) (dims_in image wide place)

  same_size : size ≡ data_size node.kind node.dims
  same_size = ap (λ k. data_size k (dims_in image wide place)) (kind_held image tree p node parts h) ∙ ap (data_size node.kind) (dims_held image tree p node parts h few_dims)

  same_payloads : payloads image parts.chunks ≡ payloads_in image visits
  same_payloads = ap (payloads image) parts_chunks ∙ payloads_again image visits

  no_chunks : (o : Option (List ℕ)) → node.bytes ≡ o → o ≡ None → (length visits == 0) ≡ true
  no_chunks o e f = of_equal (length visits) 0 (many_visits ∙ ap length (subst (λ o. HasData image parts.chunks o) (e ∙ f) h.bytes))

  some_chunks : (bs : List ℕ) → node.bytes ≡ Some bs → 0 < length visits
  some_chunks bs e = let m = many_visits in let some = some_in parts.chunks (subst (λ o. HasData image parts.chunks o) e h.bytes).0 in omega (arith, m, some)
    where
      some_in : (cs : List ChunkPart) → cs ≢ [] → 0 < length cs
      some_in [] differ = absurd (differ refl)
      some_in (c ∷ cs) differ = omega arith

  data_taken : (bs : List ℕ) → node.bytes ≡ Some bs → (length bs ≡ size) × (take size (payloads_in image visits) ≡ bs)
  data_taken bs e =
      let sized : length bs ≡ data_size node.kind node.dims = subst (λ (o : Option (List ℕ)). IfSome o (λ (bytes : List ℕ). length bytes ≡ data_size node.kind node.dims)) e is.sized in
      let long : length bs ≡ size = sized ∙ sym same_size in
      let held = (subst (λ o. HasData image parts.chunks o) e h.bytes).1 in
      (long, ap (λ n. take n (payloads_in image visits)) (sym long) ∙ ap (take (length bs)) (sym same_payloads) ∙ held)

  pub datas_kept : end < length image → (used : ℕ) → Kept (chunk_rows image end used visits) → Kept (data_rows image wide place)
  unfolding data_rows
  datas_kept ends used chunks = (
    both ((not (is_mt kind) || (length visits == 0)) && (not (is_lk kind) || nat_lt 0 (length visits))) ((length visits == 0) || nat_le size (payload_total image visits))
        (both (not (is_mt kind) || (length visits == 0)) (not (is_lk kind) || nat_lt 0 (length visits))
        (or_if (is_mt kind) (length visits == 0) (λ e. no_chunks node.bytes refl (is.empty (sym (kind_held image tree p node parts h) ∙ mt_of kind e))))
        (or_if (is_lk kind) (nat_lt 0 (length visits)) (λ e. let link = is.link (sym (kind_held image tree p node parts h) ∙ lk_of kind e) in of_lt 0 (length visits) (some_chunks link.text link.held))))
        (or_second (length visits == 0) (nat_le size (payload_total image visits)) (λ e. of_le size (payload_total image visits) (enough node.bytes refl e))),
    (or_if (is_lk kind) _ linked, tt),
  )
    where
      enough : (o : Option (List ℕ)) → node.bytes ≡ o → (length visits == 0) ≡ false → size ≤ payload_total image visits
      enough None e some = absurd (not_true (sym some ∙ no_chunks None e refl))
      enough (Some bs) e some =
          let t = data_taken bs e in
          let long = payloads_long image end used visits ends chunks in
          let n = t.0 in
          let short : length bs ≤ length (payloads_in image visits) = taken_short (payloads_in image visits) bs (ap (λ m. take m (payloads_in image visits)) n ∙ t.1) in
          omega (arith, n, short, long)

      linked : is_lk kind ≡ true → ((length (dims_in image wide place) == 1) && nat_le size 4096 && is_link_text (take size (payloads_in image visits))) ≡ true
      linked e =
          let lk = sym (kind_held image tree p node parts h) ∙ lk_of kind e in
          let link = is.link lk in
          let t = data_taken link.text link.held in
          let dims = dims_held image tree p node parts h few_dims ∙ link.sized in
          let n = t.0 in
          let short = link.short in
          both ((length (dims_in image wide place) == 1) && nat_le size 4096) (is_link_text (take size (payloads_in image visits)))
          (both (length (dims_in image wide place) == 1) (nat_le size 4096) (of_equal (length (dims_in image wide place)) 1 (ap length dims)) (of_le size 4096 (omega (arith, n, short))))
          (ap is_link_text t.1 ∙ link.spelled)
