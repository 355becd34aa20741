-- The image names the parts of each node that it holds.
use Rattle.std.proofs.Common.{◌≡◌, ℕ, zero, suc, refl, sym, ◌∙◌, ap, subst, arith, List, [], ◌∷◌, length, map, ◌+◌, ◌-◌, ◌*◌, ◌<◌, ◌≤◌, Bool, true, false, cond}
use Rattle.std.proofs.lemmas.Bool.Decides.{nat_tests}
use Rattle.std.proofs.lemmas.Option.{slice_get_within}
use Rattle.std.specs.Prelude.{Option, Some, None, slice_get, unwrap_or, nat_lt, ◌==◌, option_map, codes}
use Rattle.std.specs.List.{AllByRecursion, range_with_len}
use Rattle.adf_format.specs.Hex.{hex_value}
use Rattle.adf_format.specs.Pointer.{To, pointer, place_of}
use Rattle.adf_format.specs.Fields.{field, number, text_field}
use Rattle.adf_format.specs.declared.types.DataType.{DataType}
use Rattle.adf_format.specs.declared.types.DataType.TheVariants.{Mt}
use Rattle.adf_format.specs.Tree.{Tree, Node}
use Rattle.adf_format.specs.Parts.{HasPointer, SpellsChunk, dimension_digits, chunk_count_at, node_length, chunk_table_length}
use Rattle.adf_format.specs.Placement.{Placement, NodeParts, TablePart, ChunkPart}
use Rattle.adf_format.specs.LaysOut.{HoldsNode, HasTable, HasChunkTable, entry_count, chunk_pointer}
use Rattle.adf_format.specs.FirstFault.{ChunkVisit, children_in, entries_in, table_in, chunk_count, chunk_in, chunks_in, chunk_visits, listed_chunks, chunk_length, dims_in, type_or_mt, count_up}
use Rattle.adf_format.proofs.FieldLaws.{inner_field}
use Rattle.layout_laws.specs.FoundLayout.{parts_at, table_part, chunk_part, chunk_table_part}
use Rattle.layout_laws.proofs.Rows.{counted_is, points_to}
use Rattle.layout_laws.proofs.Frames.{frame_out}
use Rattle.layout_laws.proofs.NodeRead.{number_read, type_read}

-- ---- fields of a header, in the image

pub in_header : (image : List ℕ) (wide : Bool) (p k n : ℕ) → k + n ≤ 246 → field (field image p (node_length wide)) k n ≡ field image (p + k) n
in_header image wide p k n h = inner_field image p (node_length wide) k n (let least = least_length wide in omega (arith, h, least))
  where
    least_length : (w : Bool) → 246 ≤ node_length w
    least_length false = omega arith
    least_length true = omega arith

pub count_in_header : (image : List ℕ) (wide : Bool) (p : ℕ) → field (field image p (node_length wide)) (chunk_count_at wide) 4 ≡ field image (p + chunk_count_at wide) 4
count_in_header image wide p = inner_field image p (node_length wide) (chunk_count_at wide) 4 (omega arith)

pub chunk_in_header : (image : List ℕ) (wide : Bool) (p : ℕ) → field (field image p (node_length wide)) (chunk_count_at wide + 4) 12 ≡ field image (p + chunk_count_at wide + 4) 12
chunk_in_header image wide p = inner_field image p (node_length wide) (chunk_count_at wide + 4) 12 (omega arith) ∙ ap (λ k. field image k 12) (there p (chunk_count_at wide))
  where
    there : (p c : ℕ) → p + (c + 4) ≡ p + c + 4
    there p c = omega arith

pub dimension_in_header : (w : Bool) (image : List ℕ) (p i : ℕ) → i < 12 → field (field image p (node_length w)) (130 + dimension_digits w * i) (dimension_digits w) ≡ field image (p + 130 + dimension_digits w * i) (dimension_digits w)
dimension_in_header false image p i h = inner_field image p 246 (130 + 8 * i) 8 (omega (arith, h)) ∙ ap (λ o. field image o 8) (there p i)
  where
    there : (p i : ℕ) → p + (130 + 8 * i) ≡ p + 130 + 8 * i
    there p i = omega arith
dimension_in_header true image p i h = inner_field image p 342 (130 + 16 * i) 16 (omega (arith, h)) ∙ ap (λ o. field image o 16) (there p i)
  where
    there : (p i : ℕ) → p + (130 + 16 * i) ≡ p + 130 + 16 * i
    there p i = omega arith

-- ---- a node that is held

module _ (image : List ℕ) (tree : Tree) (p : Placement) (node : Node) (parts : NodeParts) (h : HoldsNode image tree p node parts) where
  abbrev wide : Bool
  wide = tree.wide

  abbrev place : ℕ
  place = parts.header

  abbrev header : List ℕ
  header = field image parts.header (node_length tree.wide)

  value : List ℕ → ℕ
  value bytes = unwrap_or (hex_value bytes) 0

  pub children_held : children_in image place ≡ length node.children
  children_held = ap (λ (bs : List ℕ). unwrap_or (hex_value bs) 0) (sym (in_header image wide place 68 8 (omega arith))) ∙ number_read header 68 8 (length node.children) h.header.children

  pub entries_held : entries_in image place ≡ entry_count parts.table
  entries_held = ap (λ (bs : List ℕ). unwrap_or (hex_value bs) 0) (sym (in_header image wide place 76 8 (omega arith))) ∙ number_read header 76 8 (entry_count parts.table) h.header.entries

  pub count_held : chunk_count image wide place ≡ length parts.chunks
  count_held = ap (λ (bs : List ℕ). unwrap_or (hex_value bs) 0) (sym (count_in_header image wide place)) ∙ number_read header (chunk_count_at wide) 4 (length parts.chunks) h.header.chunks

  pub rank_held : number image (place + 128) 2 ≡ length node.dims
  rank_held = ap (λ (bs : List ℕ). unwrap_or (hex_value bs) 0) (sym (in_header image wide place 128 2 (omega arith))) ∙ number_read header 128 2 (length node.dims) h.header.rank

  pub name_held : field image (place + 4) 32 ≡ text_field 32 node.name
  name_held = sym (in_header image wide place 4 32 (omega arith)) ∙ h.header.name

  pub label_held : field image (place + 36) 32 ≡ text_field 32 node.label
  label_held = sym (in_header image wide place 36 32 (omega arith)) ∙ h.header.label

  pub kind_held : type_or_mt (field image (place + 96) 32) ≡ node.kind
  kind_held = ap type_or_mt (sym (in_header image wide place 96 32 (omega arith))) ∙ ap (λ (o : Option DataType). unwrap_or o Mt) (type_read (field header 96 32) node.kind h.header.kind)

  pub dims_held : length node.dims ≤ 12 → dims_in image wide place ≡ node.dims
  dims_held few =
      ap (λ n. map (λ i. number image (place + 130 + dimension_digits wide * i) (dimension_digits wide)) (count_up n)) rank_held
      ∙ counted_is (λ i. number image (place + 130 + dimension_digits wide * i) (dimension_digits wide)) 0 node.dims one
    where
      front : (i : ℕ) → 0 + i ≡ i
      front i = omega arith

      one : (i d : ℕ) → slice_get node.dims i ≡ Some d → number image (place + 130 + dimension_digits wide * (0 + i)) (dimension_digits wide) ≡ d
      one i d e =
          ap (λ j. number image (place + 130 + dimension_digits wide * j) (dimension_digits wide)) (front i)
          ∙ ap (λ (bs : List ℕ). unwrap_or (hex_value bs) 0) (sym (dimension_in_header wide image place i (below i d e)))
          ∙ number_read header (130 + dimension_digits wide * i) (dimension_digits wide) d (h.header.dims i d e)
        where
          below : (i d : ℕ) → slice_get node.dims i ≡ Some d → i < 12
          below i d e = let inside : i < length node.dims = slice_get_within node.dims i d e in omega (arith, inside, few)

  -- ---- its table

  pub table_place : (t : TablePart) → parts.table ≡ Some t → table_in image place ≡ t.place
  table_place t e =
      let points : HasPointer header 84 (Some t.place) = subst (λ (o : Option TablePart). HasPointer header 84 (option_map (λ (t : TablePart). t.place) o)) e h.header.table in
      ap place_of (sym (in_header image wide place 84 12 (omega arith))) ∙ points_to (field header 84 12) t.place points

  table_held : (t : Option TablePart) → parts.table ≡ t → t ≡ table_part (table_in image place) (entries_in image place)
  table_held None e = sym (ap (λ n. table_part (table_in image place) n) (entries_held ∙ ap entry_count e))
  table_held (Some t) e =
      let some : 0 < t.entries = (subst (λ o. HasTable image tree p node o) e h.table).0 in
      let at : table_in image place ≡ t.place = table_place t e in
      sym (ap (λ n. table_part (table_in image place) n) (entries_held ∙ ap entry_count e)
      ∙ ap (λ b. cond b None (Some (record { place = table_in image place; entries = t.entries }))) (not_none t.entries some)
      ∙ ap (λ n. Some (record { place = n; entries = t.entries })) at)
    where
      not_none : (n : ℕ) → 0 < n → (n == 0) ≡ false
      not_none n h = grind (arith, nat_tests)

  -- ---- its chunks

  chunk_points : (o : Option ℕ) → chunk_pointer parts.chunks parts.chunk_table ≡ o → HasPointer image (place + chunk_count_at wide + 4) o
  chunk_points None e = ap pointer (sym (chunk_in_header image wide place)) ∙ subst (λ (o : Option ℕ). HasPointer header (chunk_count_at wide + 4) o) e h.header.chunk
  chunk_points (Some n) e = ap pointer (sym (chunk_in_header image wide place)) ∙ subst (λ (o : Option ℕ). HasPointer header (chunk_count_at wide + 4) o) e h.header.chunk

  pub chunk_place : (n : ℕ) → chunk_pointer parts.chunks parts.chunk_table ≡ Some n → chunk_in image wide place ≡ n
  chunk_place n e = points_to (field image (place + chunk_count_at wide + 4) 12) n (chunk_points (Some n) e)

  pub chunk_again : (c : ChunkPart) → SpellsChunk (field image c.place c.length) c.place c.length → (chunk_length image c.place ≡ c.length) × (pointer (field image (c.place + 4) 12) ≡ Some (To (c.place + c.length - 4)))
  chunk_again c s =
      let long = s.long in
      let f = frame_out image c.place c.length (c.place + c.length - 4) (codes "DaTa") (codes "dEnD") (omega (arith, long)) refl s.framed in
      (ap (λ n. n + 4 - c.place) (points_to (field image (c.place + 4) 12) (c.place + c.length - 4) f.points) ∙ whole c.place c.length long, f.points)
    where
      whole : (a n : ℕ) → 21 ≤ n → a + n - 4 + 4 - a ≡ n
      whole a n h = omega (arith, h)

  same_chunk : (c : ChunkPart) (v : ChunkVisit) → v.place ≡ c.place → SpellsChunk (field image c.place c.length) c.place c.length → chunk_part image v ≡ c
  same_chunk c v e s = ap (λ n. record { place = n; length = chunk_length image n }) e ∙ ap (λ n. record { place = c.place; length = n }) (chunk_again c s).0

  pub spelled_at : (cs : List ChunkPart) (i : ℕ) (c : ChunkPart) → AllByRecursion (λ (c : ChunkPart). SpellsChunk (field image c.place c.length) c.place c.length) cs → slice_get cs i ≡ Some c → SpellsChunk (field image c.place c.length) c.place c.length
  spelled_at [] i c all e = cc
  spelled_at (d ∷ ds) zero c all e = subst (λ (x : ChunkPart). SpellsChunk (field image x.place x.length) x.place x.length) (same d c e) all.0
    where
      same : (p q : ChunkPart) → ◌≡◌ {A = Option ChunkPart} (Some p) (Some q) → p ≡ q
      same p q e = cc
  spelled_at (d ∷ ds) (suc i) c all e = spelled_at ds i c all.1 e

  entry_field : (t n i k m : ℕ) → 16 + 24 * i + k + m ≤ chunk_table_length n → field (field image t (chunk_table_length n)) (16 + 24 * i + k) m ≡ field image (t + 16 + 24 * i + k) m
  entry_field t n i k m le = inner_field image t (chunk_table_length n) (16 + 24 * i + k) m le ∙ ap (λ o. field image o m) (there t i k)
    where
      there : (t i k : ℕ) → t + (16 + 24 * i + k) ≡ t + 16 + 24 * i + k
      there t i k = omega arith

  -- the places that the i-th entry of the chunk table names
  pub entry_places : (t i : ℕ) (c : ChunkPart) → parts.chunk_table ≡ Some t → slice_get parts.chunks i ≡ Some c
      → (pointer (field image (t + 16 + 24 * i) 12) ≡ Some (To c.place)) × (pointer (field image (t + 28 + 24 * i) 12) ≡ Some (To (c.place + c.length - 4)))
  entry_places t i c e f =
      let table = subst (λ o. HasChunkTable image parts.chunks o) e h.chunk_table in
      let inside : i < length parts.chunks = slice_get_within parts.chunks i c f in
      let s = table.2 i c f in (
        ap pointer (ap (λ k. field image k 12) (first t i) ∙ sym (entry_field t (length parts.chunks) i 0 12 (omega (arith, inside))) ∙ ap (λ k. field (field image t (chunk_table_length (length parts.chunks))) k 12) (plain (16 + 24 * i))) ∙ s.start,
        ap pointer (ap (λ k. field image k 12) (second t i) ∙ sym (entry_field t (length parts.chunks) i 12 12 (omega (arith, inside))) ∙ ap (λ k. field (field image t (chunk_table_length (length parts.chunks))) k 12) (later i)) ∙ s.end,
      )
    where
      plain : (n : ℕ) → n + 0 ≡ n
      plain n = omega arith

      first : (t i : ℕ) → t + 16 + 24 * i ≡ t + 16 + 24 * i + 0
      first t i = omega arith

      second : (t i : ℕ) → t + 28 + 24 * i ≡ t + 16 + 24 * i + 12
      second t i = omega arith

      later : (i : ℕ) → 16 + 24 * i + 12 ≡ 28 + 24 * i
      later i = omega arith

  abbrev listed_visit : ℕ → ℕ → ChunkVisit
  listed_visit t i = record { place = place_of (field image (t + 16 + 24 * i) 12); listed = Some (place_of (field image (t + 28 + 24 * i) 12)) }

  one_listed : (t i : ℕ) (c : ChunkPart) → parts.chunk_table ≡ Some t → slice_get parts.chunks i ≡ Some c → chunk_part image (listed_visit t (0 + i)) ≡ c
  one_listed t i c e f =
      ap (λ j. chunk_part image (listed_visit t j)) (front i)
      ∙ same_chunk c (listed_visit t i) (points_to (field image (t + 16 + 24 * i) 12) c.place (entry_places t i c e f).0) (spelled_at parts.chunks i c h.chunks f)
    where
      front : (i : ℕ) → 0 + i ≡ i
      front i = omega arith

  many_visits : (t n : ℕ) → 2 ≤ n → chunk_visits image t n ≡ listed_chunks image t n
  many_visits t zero le = absurd (omega (arith, le))
  many_visits t (suc zero) le = absurd (omega (arith, le))
  many_visits t (suc (suc n)) le = ap (listed_chunks image t) (two n)
    where
      two : (n : ℕ) → n + 2 ≡ suc (suc n)
      two n = omega arith

  map_twice : {A B : Type 0} (g : A → B) (f : ℕ → A) (a n : ℕ) → map g (map f (range_with_len a n)) ≡ map (λ i. g (f i)) (range_with_len a n)
  map_twice g f a zero = refl
  map_twice g f a (suc n) = ap (λ xs. g (f a) ∷ xs) (map_twice g f (a + 1) n)

  few_chunks : (cs : List ChunkPart) → parts.chunks ≡ cs → parts.chunk_table ≡ None → length cs < 2 → cs ≡ map (chunk_part image) (chunks_in image wide place)
  few_chunks [] e f short = ap (λ n. map (chunk_part image) (chunk_visits image (chunk_in image wide place) n)) (sym (count_held ∙ ap length e))
  few_chunks (c ∷ []) e f short =
      let at : chunk_in image wide place ≡ c.place = chunk_place c.place (ap (λ cs. chunk_pointer cs parts.chunk_table) e ∙ ap (λ o. chunk_pointer (c ∷ []) o) f) in
      let s : SpellsChunk (field image c.place c.length) c.place c.length = (subst (λ cs. AllByRecursion (λ (c : ChunkPart). SpellsChunk (field image c.place c.length) c.place c.length) cs) e h.chunks).0 in
      sym (ap (λ n. map (chunk_part image) (chunk_visits image (chunk_in image wide place) n)) (count_held ∙ ap length e) ∙ ap (λ d. d ∷ []) (same_chunk c (record { place = chunk_in image wide place; listed = None }) at s))
  few_chunks (c ∷ d ∷ cs) e f short = absurd (omega (arith, short))

  many_chunks : (t : ℕ) → parts.chunk_table ≡ Some t → 2 ≤ length parts.chunks → map (chunk_part image) (chunks_in image wide place) ≡ parts.chunks
  many_chunks t e long =
      let at : chunk_in image wide place ≡ t = chunk_place t (ap (chunk_pointer parts.chunks) e) in
      ap (λ n. map (chunk_part image) (chunk_visits image (chunk_in image wide place) n)) count_held
      ∙ ap (λ a. map (chunk_part image) (chunk_visits image a (length parts.chunks))) at
      ∙ ap (map (chunk_part image)) (many_visits t (length parts.chunks) long)
      ∙ map_twice (chunk_part image) (listed_visit t) 0 (length parts.chunks)
      ∙ counted_is (λ i. chunk_part image (listed_visit t i)) 0 parts.chunks (λ i c f. one_listed t i c e f)

  chunk_table_held : (o : Option ℕ) → parts.chunk_table ≡ o → (parts.chunks ≡ map (chunk_part image) (chunks_in image wide place)) × (o ≡ chunk_table_part (chunk_in image wide place) (chunk_count image wide place))
  chunk_table_held None e =
      let short : length parts.chunks < 2 = subst (λ o. HasChunkTable image parts.chunks o) e h.chunk_table in (
        few_chunks parts.chunks refl e short,
        sym (ap (λ n. chunk_table_part (chunk_in image wide place) n) count_held ∙ ap (λ b. cond b None (Some (chunk_in image wide place))) (is_short (length parts.chunks) short)),
      )
    where
      is_short : (n : ℕ) → n < 2 → nat_lt n 2 ≡ true
      is_short n h = grind (arith, nat_tests)
  chunk_table_held (Some t) e =
      let long : 2 ≤ length parts.chunks = (subst (λ o. HasChunkTable image parts.chunks o) e h.chunk_table).0 in (
        sym (many_chunks t e long),
        sym (ap (λ n. chunk_table_part (chunk_in image wide place) n) count_held ∙ ap (λ b. cond b None (Some (chunk_in image wide place))) (is_long (length parts.chunks) long)
            ∙ ap Some (chunk_place t (ap (chunk_pointer parts.chunks) e))),
      )
    where
      is_long : (n : ℕ) → 2 ≤ n → nat_lt n 2 ≡ false
      is_long n h = grind (arith, nat_tests)

  -- the parts are those that the image names
  pub parts_held : parts ≡ parts_at image tree.wide parts.header
  parts_held =
      let chunks = chunk_table_held parts.chunk_table refl in
      ap (λ t. record parts { table = t }) (table_held parts.table refl)
      ∙ ap (λ cs. record { header = place; table = table_part (table_in image place) (entries_in image place); chunks = cs; chunk_table = parts.chunk_table }) chunks.0
      ∙ ap (λ o. record { header = place; table = table_part (table_in image place) (entries_in image place); chunks = map (chunk_part image) (chunks_in image wide place); chunk_table = o }) chunks.1
