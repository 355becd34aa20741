-- The nodes of a file that lays out a tree make that tree.
use Rattle.std.proofs.Common.{◌≡◌, ◌≢◌, inl, inr, ℕ, zero, suc, ◌+◌, ◌-◌, ◌*◌, ◌^◌, ◌<◌, ◌≤◌, List, [], ◌∷◌, ◌++◌, length, map, take, get_or, length-take, refl, sym, ◌∙◌, ap, subst, arith, Bool, true, false}
use Rattle.std.specs.Prelude.{Option, Some, None, slice_get, option_map, unwrap_or, cond, nat_le, codes}
use Rattle.std.specs.List.{Contains, range_with_len, flat_map}
use Rattle.std.specs.Str.{bytes_eq}
use Rattle.std.proofs.lemmas.Bool.{ne_eqb}
use Rattle.std.proofs.lemmas.List.{get_or-take, length-map}
use Rattle.std.proofs.lemmas.Grind.{same_number_lists}
use Rattle.std.proofs.lemmas.Option.{slice_get-get_or, slice_get_within, slice_get-map}
use Rattle.adf_format.specs.declared.fields.TheConstants.{CHUNK_START, HEAD_POINTER, NODE_TABLE}
use Rattle.adf_format.specs.declared.types.DataType.{DataType}
use Rattle.adf_format.specs.declared.types.DataType.TheVariants.{Mt}
use Rattle.adf_format.specs.declared.types.Format.{Format}
use Rattle.adf_format.specs.declared.types.Extent.{Extent}
use Rattle.adf_format.specs.declared.types.ExtentKind.{ExtentKind}
use Rattle.adf_format.specs.Checks.{first_broken}
use Rattle.adf_format.specs.Fields.{field, holds, number, text_field}
use Rattle.adf_format.specs.FirstFault.{node_rows, header_rows as file_rows}
use Rattle.adf_format.specs.LaysOut.{LaysOut, HoldsNode, HasTable, HasChunkTable, HasData, chunk_pointer, payloads}
use Rattle.adf_format.specs.Parts.{node_length, dimension_digits, format_letter, chunk_table_length, payload, HoldsPointer, SpellsChunk}
use Rattle.adf_format.specs.Placement.{Placement, NodeParts, TablePart, ChunkPart, extent, node_extents, table_extents, chunk_table_extents, chunk_extents}
use Rattle.adf_format.specs.Pointer.{Pointer, Blank, To, pointer, place_value, is_place, place_of, PointsTo}
use Rattle.adf_format.specs.RecordFields.{field_in, node_chunk, node_chunks}
use Rattle.adf_format.specs.Records.{NodeRecord, node_record}
use Rattle.adf_format.specs.SoundPart.{format_in}
use Rattle.adf_format.specs.Tiles.{end_of}
use Rattle.adf_format.specs.Tree.{Tree, Node, IsNode, IsNumbered, IsAmong, name_at, name_of, children_at, children_of as kids_of}
use Rattle.adf_format.specs.Verdict.{ListsNodes}
use Rattle.adf_format.proofs.ClosureLaws.{IsIn, in_left, in_right}
use Rattle.adf_format.proofs.FieldLaws.{inner_field}
use Rattle.adf_format.proofs.FrameLaws.{field_of_first}
use Rattle.adf_format.proofs.SameLayout.{end_recorded, wide_recorded, format_recorded}
use Rattle.adf_model.proofs.Basics.{same_Some, not_there}
use Rattle.adf_model.proofs.Trees.Renumbered.{live_within}
use Rattle.adf_model.proofs.Walks.WalkCounts.{place_small}
use Rattle.cg_io.specs.Device.{bytes_at}
use Rattle.cg_io.proofs.Places.{length-bytes_at}
use Rattle.field_access.proofs.FieldLaws.{field_given}
use Rattle.layout_laws.proofs.Frames.{at_front}
use Rattle.layout_laws.proofs.HeadRules.{header_unbroken}
use Rattle.layout_laws.proofs.HeldParts.{chunk_again, spelled_at, entry_places}
use Rattle.layout_laws.proofs.NodeRead.{type_read, number_read}
use Rattle.layout_laws.proofs.NodesStand.{live_fits, among_at}
use Rattle.layout_laws.proofs.OneLayout.{few_dims_of}
use Rattle.layout_laws.proofs.Rows.{kept_none, both, of_le, of_equal, points_place, points_to, holds_of}
use Rattle.node_reads.specs.Entries.{chunk_head_rows}
use Rattle.node_reads.specs.Headers.{header_rows}
use Rattle.node_reads.specs.LaidOut.{IsNodeOf}
use Rattle.node_reads.proofs.LaidOut.{header_within, header_kept_none, table_ends, entries_are_children}
use Rattle.layout_lint.specs.declared.verdict.NodePlace.{NodePlace}
use Rattle.layout_lint.specs.Walks.{node_place}
use Rattle.layout_lint.proofs.OwnerParts.{HasParts, has_parts}
use Rattle.adf_repack.specs.Copies.{IsHeaderOf, position_in}
use Rattle.adf_repack.specs.Families.{children_of}
use Rattle.adf_repack.specs.Given.{HasName, HasChunk, HoldsData, IsGivenNode, IsGiven}
use Rattle.adf_repack.specs.Payloads.{chunk_of, entry_at, chunk_at, payload_length, payload_at, payloads_of}
use Rattle.adf_repack.specs.Plans.{table_in, place_in, old_place, record_at}
use Rattle.adf_repack.proofs.ChildLaws.{kids_are}
use Rattle.adf_repack.proofs.RoomLaws.{short}

-- bytes within the image
pub at_field : (image : List ℕ) (place n : ℕ) → place + n ≤ length image → bytes_at image place n ≡ field image place n
at_field image place n within =
    field_given (Some image) place n (bytes_at image place n) (length-bytes_at image place n) (ap (bytes_at image place) (sym (length-bytes_at image place n))) within

pointed : (bytes : List ℕ) (place : ℕ) → PointsTo bytes place → place_value (Some (unwrap_or (pointer bytes) Blank)) ≡ place
pointed bytes place h = ap (λ (o : Option Pointer). place_value (Some (unwrap_or o Blank))) h

-- ---- dimensions

map_at : (g : ℕ → ℕ) (a n i : ℕ) → i < n → get_or (map g (range_with_len a n)) i 0 ≡ g (a + i)
map_at g a zero i lt = absurd (omega (arith, lt))
map_at g a (suc n) zero lt = ap g (plain a)
  where
    plain : (a : ℕ) → a ≡ a + 0
    plain a = omega arith
map_at g a (suc n) (suc i) lt = map_at g (a + 1) n i (omega (arith, lt)) ∙ ap g (shift a i)
  where
    shift : (a i : ℕ) → a + 1 + i ≡ a + suc i
    shift a i = omega arith

pub dims_first : (g : ℕ → ℕ) (r : ℕ) (dims : List ℕ) → r ≡ length dims → length dims ≤ 12 → ((i d : ℕ) → slice_get dims i ≡ Some d → g i ≡ d) → take r (map g (range_with_len 0 12)) ≡ dims
dims_first g r dims rank few each =
    same_number_lists (take r (map g (range_with_len 0 12))) dims long
    (λ k lt. (let inside : k < length dims = omega (arith, lt, long) in
    get_or-take r (map g (range_with_len 0 12)) k 0 (omega (arith, inside, rank)) ∙ map_at g 0 12 k (omega (arith, inside, few)) ∙ ap g (front k) ∙ each k (get_or dims k 0) (slice_get-get_or dims k 0 inside)))
  where
    front : (k : ℕ) → 0 + k ≡ k
    front k = omega arith

    twelve : length (map g (range_with_len 0 12)) ≡ 12
    twelve = refl

    long : length (take r (map g (range_with_len 0 12))) ≡ length dims
    long = let l = length-take r (map g (range_with_len 0 12)) in let t = twelve in omega (arith, l, t, rank, few)

-- ---- one node

module _ (image : List ℕ) (tree : Tree) (p : Placement) (k : ℕ) (node : Node) (parts : NodeParts) (n : IsNodeOf image tree p k node parts) where
  held : HoldsNode image tree p node parts
  held = n.laid_out.nodes k node parts n.live n.stands

  is_node : IsNode tree.wide node
  is_node = n.laid_out.is_tree.each k node n.live

  abbrev header : List ℕ
  header = field image parts.header (node_length tree.wide)

  abbrev says : NodeRecord
  says = record_at image tree.wide parts.header

  read : bytes_at image parts.header (node_length tree.wide) ≡ field image parts.header (node_length tree.wide)
  read = at_field image parts.header (node_length tree.wide) (header_within image tree p k node parts n)

  record_is : record_at image tree.wide parts.header ≡ node_record tree.wide (field image parts.header (node_length tree.wide))
  record_is = ap (node_record tree.wide) read

  kept : first_broken (header_rows tree.wide parts.header None (bytes_at image parts.header (node_length tree.wide))) ≡ None
  kept = subst (λ (b : List ℕ). first_broken (node_rows tree.wide parts.header true b) ≡ None) (sym read) (header_kept_none image tree p k node parts n)

  header_so : IsHeaderOf (node_record tree.wide (field image parts.header (node_length tree.wide))) node
  unfolding node_record
  header_so = record {
    name = held.header.name;
    label = held.header.label;
    kind = ap (λ (o : Option DataType). unwrap_or o Mt) (type_read (field header 96 32) node.kind held.header.kind);
    rank = number_read header 128 2 (length node.dims) held.header.rank;
    dims = dims_first (λ i. number header (130 + dimension_digits tree.wide * i) (dimension_digits tree.wide)) (number header 128 2) node.dims (number_read header 128 2 (length node.dims) held.header.rank)
        (few_dims_of tree.wide node is_node) (λ i d e. number_read header (130 + dimension_digits tree.wide * i) (dimension_digits tree.wide) d (held.header.dims i d e));
  }

  says_so : IsHeaderOf (record_at image tree.wide parts.header) node
  says_so = subst (λ (r : NodeRecord). IsHeaderOf r node) (sym record_is) header_so

  chunks_so : (node_record tree.wide (field image parts.header (node_length tree.wide))).chunks ≡ length parts.chunks
  unfolding node_record
  chunks_so = number_read header (node_chunks tree.wide).offset (node_chunks tree.wide).length (length parts.chunks) held.header.chunks

  count : (record_at image tree.wide parts.header).chunks ≡ length parts.chunks
  count = ap (λ (r : NodeRecord). r.chunks) record_is ∙ chunks_so

  table_so : (t : TablePart) → parts.table ≡ Some t → table_in (node_record tree.wide (field image parts.header (node_length tree.wide))) ≡ t.place
  unfolding node_record
  table_so t e = pointed (field header 84 12) t.place (subst (λ (o : Option TablePart). HoldsPointer header NODE_TABLE (option_map (λ (x : TablePart). x.place) o)) e held.header.table)

  chunk_so : (c : ℕ) → chunk_pointer parts.chunks parts.chunk_table ≡ Some c → chunk_of (node_record tree.wide (field image parts.header (node_length tree.wide))) ≡ c
  unfolding node_record
  chunk_so c e = pointed (field header (node_chunk tree.wide).offset 12) c (subst (λ (o : Option ℕ). HoldsPointer header (node_chunk tree.wide) o) e held.header.chunk)

  fits : (e : Extent) → IsIn e (node_extents tree.wide parts) → 0 < e.length → (266 ≤ e.place) × (end_of e ≤ p.heap.end + 1)
  fits = live_fits image tree p n.laid_out k parts n.stands

  end_low : p.heap.end < 2 ^ 44
  end_low = subst (λ (e : ℕ). e < 2 ^ 44) (end_recorded image tree p n.laid_out) (place_small (field image 146 12))

  end_inside : p.heap.end + 1 ≤ length image
  end_inside = let e = n.laid_out.end in omega (arith, e)

  -- ---- its chunks

  in_chunks : (cs : List ChunkPart) (i : ℕ) (c : ChunkPart) → slice_get cs i ≡ Some c → IsIn (extent ExtentKind.DataChunk c.place c.length) (chunk_extents cs)
  in_chunks [] i c e = absurd (not_there c e)
  in_chunks (d ∷ ds) zero c e = inl (ap (λ (x : ChunkPart). extent ExtentKind.DataChunk x.place x.length) (sym (same_Some d c e)))
  in_chunks (d ∷ ds) (suc i) c e = inr (in_chunks ds i c e)

  spelled : (i : ℕ) (c : ChunkPart) → slice_get parts.chunks i ≡ Some c → SpellsChunk (field image c.place c.length) c.place c.length
  spelled i c e = spelled_at image tree p node parts held parts.chunks i c held.chunks e

  chunk_fits : (i : ℕ) (c : ChunkPart) → slice_get parts.chunks i ≡ Some c → c.place + c.length ≤ p.heap.end + 1
  chunk_fits i c e =
      let long = (spelled i c e).long in
      (fits (extent ExtentKind.DataChunk c.place c.length)
      (inr (in_right _ (table_extents parts.table ++ chunk_table_extents parts.chunk_table (length parts.chunks)) (chunk_extents parts.chunks) (in_chunks parts.chunks i c e))) (omega (arith, long))).1

  table_fits : (t : ℕ) → parts.chunk_table ≡ Some t → t + chunk_table_length (length parts.chunks) ≤ p.heap.end + 1
  table_fits t e =
      (fits (extent ExtentKind.ChunkTable t (chunk_table_length (length parts.chunks)))
      (inr (in_left _ (table_extents parts.table ++ chunk_table_extents parts.chunk_table (length parts.chunks)) (chunk_extents parts.chunks)
      (in_right _ (table_extents parts.table) (chunk_table_extents parts.chunk_table (length parts.chunks))
      (subst (λ (o : Option ℕ). IsIn (extent ExtentKind.ChunkTable t (chunk_table_length (length parts.chunks))) (chunk_table_extents o (length parts.chunks))) (sym e) (inl refl))))) (omega arith)).1

  -- where the i-th one stands, and what is read of it
  pub record ChunkSays (i : ℕ) (c : ChunkPart) : Type 0 where
    pub stands : chunk_at image (record_at image tree.wide parts.header) i ≡ c.place
    pub entry_near : (record_at image tree.wide parts.header).chunks ≢ 1 → entry_at (record_at image tree.wide parts.header) i + 24 ≤ 2 ^ 44
    pub entry : (record_at image tree.wide parts.header).chunks ≢ 1 → is_place (field_in (bytes_at image (entry_at (record_at image tree.wide parts.header) i) 24) CHUNK_START) ≡ true

  only_one : (i : ℕ) (c : ChunkPart) → slice_get parts.chunks i ≡ Some c → parts.chunk_table ≡ None → length parts.chunks < 2 → ChunkSays i c
  only_one i c e none short =
      let within = slice_get_within parts.chunks i c e in
      let one : (record_at image tree.wide parts.header).chunks ≡ 1 = (let m = count in omega (arith, m, within, short)) in
      let first : i ≡ 0 = omega (arith, within, short) in
      let at : chunk_pointer parts.chunks parts.chunk_table ≡ Some c.place = ap (chunk_pointer parts.chunks) none ∙ head_place parts.chunks (ap (slice_get parts.chunks) (sym first) ∙ e) in
      record {
        stands = ap (λ (b : Bool). cond b (chunk_of (record_at image tree.wide parts.header)) (place_of (field_in (bytes_at image (entry_at (record_at image tree.wide parts.header) i) 24) CHUNK_START))) (of_equal _ 1 one)
            ∙ ap chunk_of record_is ∙ chunk_so c.place at;
        entry_near = λ several. absurd (several one);
        entry = λ several. absurd (several one);
      }
    where
      head_place : (cs : List ChunkPart) → slice_get cs 0 ≡ Some c → chunk_pointer cs None ≡ Some c.place
      head_place [] f = absurd (not_there c f)
      head_place (d ∷ ds) f = ap (λ (x : ChunkPart). Some x.place) (same_Some d c f)

  one_of_many : (i : ℕ) (c : ChunkPart) (t : ℕ) → slice_get parts.chunks i ≡ Some c → parts.chunk_table ≡ Some t → 2 ≤ length parts.chunks → ChunkSays i c
  one_of_many i c t e some long =
      let within = slice_get_within parts.chunks i c e in
      let several : (record_at image tree.wide parts.header).chunks ≢ 1 = (λ is. (let m = count in omega (arith, m, is, long))) in
      let at : chunk_of (record_at image tree.wide parts.header) ≡ t = ap chunk_of record_is ∙ chunk_so t (ap (chunk_pointer parts.chunks) some) in
      let ends = table_fits t some in
      let low = end_low in
      let inside = end_inside in
      let here : entry_at (record_at image tree.wide parts.header) i ≡ t + 16 + 24 * i = ap (λ (m : ℕ). m + 16 + 24 * i) at in
      let entry_is : field_in (bytes_at image (entry_at (record_at image tree.wide parts.header) i) 24) CHUNK_START ≡ field image (t + 16 + 24 * i) 12 =
      ap (λ (m : ℕ). field (bytes_at image m 24) 0 12) here ∙ ap (λ (b : List ℕ). field b 0 12) (at_field image (t + 16 + 24 * i) 24 (omega (arith, ends, inside, within))) ∙ at_front image (t + 16 + 24 * i) 24 12 (omega arith) in
      let names = (entry_places image tree p node parts held t i c some e).0 in
      record {
        stands = ap (λ (b : Bool). cond b (chunk_of (record_at image tree.wide parts.header)) (place_of (field_in (bytes_at image (entry_at (record_at image tree.wide parts.header) i) 24) CHUNK_START))) (ne_eqb _ 1 several)
            ∙ ap place_of entry_is ∙ points_to (field image (t + 16 + 24 * i) 12) c.place names;
        entry_near = λ h. omega (arith, here, ends, low, within);
        entry = λ h. ap is_place entry_is ∙ points_place (field image (t + 16 + 24 * i) 12) c.place names;
      }

  chunk_says : (i : ℕ) (c : ChunkPart) → slice_get parts.chunks i ≡ Some c → ChunkSays i c
  chunk_says i c e = by_table parts.chunk_table refl
    where
      by_table : (o : Option ℕ) → parts.chunk_table ≡ o → ChunkSays i c
      by_table None none = only_one i c e none (subst (λ (o : Option ℕ). HasChunkTable image parts.chunks o) none held.chunk_table)
      by_table (Some t) some = one_of_many i c t e some (subst (λ (o : Option ℕ). HasChunkTable image parts.chunks o) some held.chunk_table).0

  -- the head of a chunk
  head_field : (i : ℕ) (c : ChunkPart) → slice_get parts.chunks i ≡ Some c → bytes_at image c.place 16 ≡ field image c.place 16
  head_field i c e = let high = chunk_fits i c e in let long = (spelled i c e).long in let inside = end_inside in at_field image c.place 16 (omega (arith, high, long, inside))

  head_points : (i : ℕ) (c : ChunkPart) → slice_get parts.chunks i ≡ Some c → pointer (field_in (bytes_at image c.place 16) HEAD_POINTER) ≡ Some (To (c.place + c.length - 4))
  head_points i c e =
      ap (λ (b : List ℕ). pointer (field b 4 12)) (head_field i c e) ∙ ap pointer (inner_field image c.place 16 4 12 (omega arith))
      ∙ (chunk_again image tree p node parts held c (spelled i c e)).1

  head_starts : (i : ℕ) (c : ChunkPart) → slice_get parts.chunks i ≡ Some c → holds (bytes_at image c.place 16) 0 (codes "DaTa") ≡ true
  head_starts i c e =
      let s = spelled i c e in
      let long = s.long in
      holds_of (bytes_at image c.place 16) 0 (codes "DaTa") (ap (λ (b : List ℕ). field b 0 4) (head_field i c e) ∙ at_front image c.place 16 4 (omega arith)
      ∙ sym (at_front image c.place c.length 4 (omega (arith, long))) ∙ s.framed.start_tag)

  head_kept : (i : ℕ) (c : ChunkPart) → slice_get parts.chunks i ≡ Some c → first_broken (chunk_head_rows c.place (bytes_at image c.place 16)) ≡ None
  head_kept i c e =
      let long = (spelled i c e).long in
      let points = head_points i c e in
      let tail = points_to (field_in (bytes_at image c.place 16) HEAD_POINTER) (c.place + c.length - 4) points in
      kept_none (chunk_head_rows c.place (bytes_at image c.place 16)) (
        head_starts i c e,
        (
          both (is_place (field_in (bytes_at image c.place 16) HEAD_POINTER)) (nat_le (c.place + 21) (place_of (field_in (bytes_at image c.place 16) HEAD_POINTER) + 4))
              (points_place (field_in (bytes_at image c.place 16) HEAD_POINTER) (c.place + c.length - 4) points) (of_le (c.place + 21) (place_of (field_in (bytes_at image c.place 16) HEAD_POINTER) + 4) (omega (arith, tail, long))),
          tt,
        ),
      )

  chunk_so_read : (i : ℕ) (c : ChunkPart) → slice_get parts.chunks i ≡ Some c → HasChunk image (record_at image tree.wide parts.header) i
  chunk_so_read i c e =
      let h = chunk_says i c e in
      let at = h.stands in
      let high = chunk_fits i c e in
      let long = (spelled i c e).long in
      let low = end_low in
      record {
        entry_near = h.entry_near;
        entry = h.entry;
        near = omega (arith, at, high, long, low);
        head = subst (λ (m : ℕ). first_broken (chunk_head_rows m (bytes_at image m 16)) ≡ None) (sym at) (head_kept i c e);
      }

  no_chunk : ChunkPart
  no_chunk = record { place = 0; length = 0 }

  all_chunks : (i : ℕ) → i < (record_at image tree.wide parts.header).chunks → HasChunk image (record_at image tree.wide parts.header) i
  all_chunks i lt = chunk_so_read i (get_or parts.chunks i no_chunk) (slice_get-get_or parts.chunks i no_chunk (let m = count in omega (arith, lt, m)))

  -- what it holds
  payload_so : (i : ℕ) (c : ChunkPart) → slice_get parts.chunks i ≡ Some c → payload_at image (chunk_at image (record_at image tree.wide parts.header) i) ≡ payload image c.place c.length
  payload_so i c e =
      let long = (spelled i c e).long in
      let high = chunk_fits i c e in
      let inside = end_inside in
      let tail = points_to (field_in (bytes_at image c.place 16) HEAD_POINTER) (c.place + c.length - 4) (head_points i c e) in
      let size : payload_length image c.place ≡ c.length - 20 = omega (arith, tail, long) in
      ap (payload_at image) (chunk_says i c e).stands
      ∙ ap (bytes_at image (c.place + 16)) size
      ∙ at_field image (c.place + 16) (c.length - 20) (omega (arith, high, long, inside))

  payloads_from : (cs : List ChunkPart) (a : ℕ) → ((i : ℕ) (c : ChunkPart) → slice_get cs i ≡ Some c → payload_at image (chunk_at image (record_at image tree.wide parts.header) (a + i)) ≡ payload image c.place c.length)
      → flat_map (λ i. payload_at image (chunk_at image (record_at image tree.wide parts.header) i)) (range_with_len a (length cs)) ≡ payloads image cs
  payloads_from [] a each = refl
  payloads_from (c ∷ cs) a each =
      ap (λ (l : List ℕ). l ++ flat_map (λ i. payload_at image (chunk_at image (record_at image tree.wide parts.header) i)) (range_with_len (a + 1) (length cs)))
      (ap (λ (i : ℕ). payload_at image (chunk_at image (record_at image tree.wide parts.header) i)) (plain a) ∙ each 0 c refl)
      ∙ ap (λ (l : List ℕ). payload image c.place c.length ++ l) (payloads_from cs (a + 1) (λ i d e. ap (λ (j : ℕ). payload_at image (chunk_at image (record_at image tree.wide parts.header) j)) (shift a i) ∙ each (suc i) d e))
    where
      plain : (a : ℕ) → a ≡ a + 0
      plain a = omega arith

      shift : (a i : ℕ) → a + 1 + i ≡ a + suc i
      shift a i = omega arith

  payloads_so : payloads_of image (record_at image tree.wide parts.header) ≡ payloads image parts.chunks
  payloads_so =
      ap (λ (m : ℕ). flat_map (λ i. payload_at image (chunk_at image (record_at image tree.wide parts.header) i)) (range_with_len 0 m)) count
      ∙ payloads_from parts.chunks 0 (λ i c e. ap (λ (j : ℕ). payload_at image (chunk_at image (record_at image tree.wide parts.header) j)) (front i) ∙ payload_so i c e)
    where
      front : (i : ℕ) → 0 + i ≡ i
      front i = omega arith

  data_so : HoldsData image (record_at image tree.wide parts.header) node.bytes
  data_so = by_bytes node.bytes held.bytes
    where
      some_chunks : (cs : List ChunkPart) → cs ≢ [] → length cs ≡ 0 → ⊥
      some_chunks [] differs none = differs refl
      some_chunks (c ∷ cs) differs none = omega (arith, none)

      by_bytes : (o : Option (List ℕ)) → HasData image parts.chunks o → HoldsData image (record_at image tree.wide parts.header) o
      by_bytes None h = count ∙ ap length h
      by_bytes (Some bytes) h = (λ none. some_chunks parts.chunks h.0 (sym count ∙ none), ap (take (length bytes)) payloads_so ∙ h.1)

  -- ---- its table

  name_here : (c i : ℕ) → slice_get node.children i ≡ Some c → (its : Node) (at : NodeParts) → IsNodeOf image tree p c its at → HasName image (table_in (record_at image tree.wide parts.header) + 16 + 44 * i) (name_at tree c)
  name_here c i e its at child = by_table parts.table refl
    where
      by_table : (o : Option TablePart) → parts.table ≡ o → HasName image (table_in (record_at image tree.wide parts.header) + 16 + 44 * i) (name_at tree c)
      by_table None none =
          let childless : node.children ≡ [] = subst (λ (o : Option TablePart). HasTable image tree p node o) none held.table in
          absurd (not_there c (ap (λ (l : List ℕ). slice_get l i) (sym childless) ∙ e))
      by_table (Some t) some =
          let r = entries_are_children image tree p k node parts t i c its at n some e child in
          let place : table_in (record_at image tree.wide parts.header) ≡ t.place = ap table_in record_is ∙ table_so t some in
          let ends = table_ends image tree p k node parts n t some in
          let within = slice_get_within node.children i c e in
          let few = r.3 in
          let inside = r.2 in
          let low = end_low in
          record {
            near = omega (arith, place, ends, within, few, low);
            says = ap (λ (m : ℕ). bytes_at image (m + 16 + 44 * i) 32) place ∙ at_field image (t.place + 16 + 44 * i) 32 (omega (arith, inside, within, few)) ∙ r.0 ∙ ap (text_field 32) (ap name_of (sym child.live));
          }

-- ---- all nodes

no_node : NodePlace
no_node = record { place = 0; parent = 0; position = 0; depth = 0 }

module _ (image : List ℕ) (tree : Tree) (p : Placement) (l : LaysOut image tree p) (in_order : IsNumbered tree) (nodes : List NodePlace) (listed : ListsNodes tree p (map node_place nodes)) where
  at_number : (k : ℕ) → k < length nodes → slice_get nodes k ≡ Some (get_or nodes k no_node)
  at_number k lt = slice_get-get_or nodes k no_node lt

  placed : (k : ℕ) → k < length nodes → slice_get (map node_place nodes) k ≡ Some (node_place (get_or nodes k no_node))
  placed k lt = slice_get-map node_place nodes k ∙ ap (option_map node_place) (at_number k lt)

  found : (k : ℕ) (lt : k < length nodes) → HasParts image tree p l in_order (map node_place nodes) listed k (node_place (get_or nodes k no_node))
  found k lt = has_parts image tree p l in_order (map node_place nodes) listed k (node_place (get_or nodes k no_node)) (placed k lt)

  node_of : (k : ℕ) (lt : k < length nodes) → IsNodeOf image tree p k (found k lt).node (found k lt).parts
  node_of k lt = record { laid_out = l; live = (found k lt).at; stands = (found k lt).has }

  header_at : (k : ℕ) (lt : k < length nodes) → old_place nodes k ≡ (found k lt).parts.header
  header_at k lt = ap place_in (at_number k lt) ∙ (found k lt).place

  children_so : (k : ℕ) (lt : k < length nodes) → (found k lt).node.children ≡ children_of nodes k
  children_so k lt = ap kids_of (sym (found k lt).at) ∙ sym (kids_are image tree p l in_order nodes listed k (omega (arith, lt)))

  name_so : (k : ℕ) (lt : k < length nodes) (child : ℕ) → Contains (children_of nodes k) child
      → HasName image (table_in (record_at image tree.wide (found k lt).parts.header) + 16 + 44 * position_in (slice_get nodes child)) (name_at tree child)
  name_so k lt child has =
      let kids : List ℕ = (found k lt).node.children in
      let in_kids : Contains kids child = subst (λ (xs : List ℕ). Contains xs child) (sym (children_so k lt)) has in
      let i : ℕ = in_kids.0 in
      let at : slice_get kids i ≡ Some child = slice_get-get_or kids i child in_kids.1 ∙ ap Some in_kids.2 in
      let there : slice_get (children_at tree k) i ≡ Some child = ap (λ (o : Option Node). slice_get (kids_of o) i) (found k lt).at ∙ at in
      let among : IsAmong (children_at tree k) child = among_at (children_at tree k) i child there in
      let live = l.is_tree.live k child among in
      let inside : child < length nodes = (let within = live_within tree.nodes child live.0 in let all = listed.count in let long = length-map nodes node_place in omega (arith, within, all, long)) in
      let position : position_in (slice_get nodes child) ≡ i = ap position_in (at_number child inside) ∙ (listed.others k i child (node_place (get_or nodes child no_node)) there (placed child inside)).1 in
      subst (λ (j : ℕ). HasName image (table_in (record_at image tree.wide (found k lt).parts.header) + 16 + 44 * j) (name_at tree child)) (sym position)
      (name_here image tree p k (found k lt).node (found k lt).parts (node_of k lt) child i at (found child inside).node (found child inside).parts (node_of child inside))

  given_node : (k : ℕ) (lt : k < length nodes) → IsGivenNode image nodes tree k (old_place nodes k) (found k lt).node
  given_node k lt =
      subst (λ (q : ℕ). IsGivenNode image nodes tree k q (found k lt).node) (sym (header_at k lt)) (record {
        live = (found k lt).at;
        kept = kept image tree p k (found k lt).node (found k lt).parts (node_of k lt);
        says = says_so image tree p k (found k lt).node (found k lt).parts (node_of k lt);
        children = children_so k lt;
        names = name_so k lt;
        chunks = all_chunks image tree p k (found k lt).node (found k lt).parts (node_of k lt);
        holds = data_so image tree p k (found k lt).node (found k lt).parts (node_of k lt);
      })

  -- ---- the file header

  some_nodes : 0 < length nodes
  some_nodes = let within = live_within tree.nodes 0 l.is_tree.root in let all = listed.count in let long = length-map nodes node_place in omega (arith, within, all, long)

  long_image : 186 ≤ length image
  long_image =
      let h = header_within image tree p 0 (found 0 some_nodes).node (found 0 some_nodes).parts (node_of 0 some_nodes) in
      let f = live_fits image tree p l 0 (found 0 some_nodes).parts (found 0 some_nodes).has (extent ExtentKind.Node (found 0 some_nodes).parts.header (node_length tree.wide)) (inl refl) (some_length tree.wide) in
      let low = f.0 in
      omega (arith, h, low)
    where
      some_length : (w : Bool) → 0 < node_length w
      some_length false = omega arith
      some_length true = omega arith

  head_read : bytes_at image 0 186 ≡ field image 0 186
  head_read = at_field image 0 186 long_image

  file_head_kept : first_broken (file_rows (bytes_at image 0 186)) ≡ None
  file_head_kept =
      subst (λ (b : List ℕ). first_broken (file_rows b) ≡ None) (sym head_read)
      (kept_none (file_rows (field image 0 186)) (header_unbroken (field image 0 186) tree.wide tree.format l.header.0.header p.heap.end l.header.2))

  format_so : tree.format ≡ format_in (bytes_at image 0 186)
  format_so =
      sym (format_recorded image tree p l)
      ∙ ap (λ (b : List ℕ). cond (bytes_eq b (format_letter Format.Big)) Format.Big Format.Little) (sym (field_of_first 1 100 186 image (omega arith)))
      ∙ ap format_in (sym head_read)

  end_below : p.heap.end < 2 ^ 44
  end_below = subst (λ (e : ℕ). e < 2 ^ 44) (end_recorded image tree p l) (place_small (field image 146 12))

  -- the tree of a file is that of its nodes
  pub whole_given : IsGiven image nodes tree
  whole_given = record {
    is_tree = l.is_tree;
    head = file_head_kept;
    width = sym (wide_recorded image tree p l);
    format = format_so;
    count = sym listed.count ∙ length-map nodes node_place;
    each = λ k lt. ((found k lt).node, given_node k lt);
    short = short image tree p l end_below;
  }
