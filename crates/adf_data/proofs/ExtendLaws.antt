-- One more chunk, and the table of all placed anew: the old table is given, and what stands behind the data becomes zero.
use Rattle.std.proofs.Common.{◌≡◌, ◌⊎◌, inl, inr, ℕ, ◌+◌, ◌-◌, ◌<◌, ◌≤◌, ◌^◌, arith, List, [], ◌∷◌, ◌++◌, length, take, replicate, refl, sym, ◌∙◌, ap, subst, append_assoc}
use Rattle.std.proofs.lemmas.Bool.{cases_lt}
use Rattle.std.proofs.lemmas.Bool.Decides.{nat_tests}
use Rattle.std.proofs.lemmas.List.{append-nil, map-append, length-append, replicate-append-replicate}
use Rattle.std.proofs.lemmas.Grind.{flat_map-append}
use Rattle.std.specs.Prelude.{Option, Some, None, IfSome, Ok, slice_get, codes}
use Rattle.std.specs.List.{AllByRecursion}
use Rattle.cg_io.specs.Blocks.{Both}
use Rattle.cg_io.specs.Answers.{Then}
use Rattle.cg_io.proofs.BothLaws.{both_then, both_map}
use Rattle.adf_format.specs.declared.types.Extent.{Extent}
use Rattle.adf_format.specs.declared.types.ExtentKind.{ExtentKind}
use Rattle.adf_format.specs.Fields.{field}
use Rattle.adf_format.specs.Pointer.{To}
use Rattle.adf_format.specs.Parts.{IsFramed, SpellsChunk, SpellsChunkEntry, payload, chunk_table_length}
use Rattle.adf_format.specs.Tiles.{cover, end_of}
use Rattle.adf_format.specs.Placement.{Heap, NodeParts, ChunkPart, extent, chunk_extents, chunk_table_extents}
use Rattle.adf_format.specs.LaysOut.{HasChunkTable, payloads}
use Rattle.adf_format.specs.Changes.{heap_fields}
use Rattle.adf_format.specs.HeapRule.{heap_take, give_all, chunk, chunk_length_for, payload_length, data_extents}
use Rattle.adf_format.proofs.HeapLaws.{in_range, join_range}
use Rattle.adf_format.proofs.HeapSteps.{cover-append, take_end}
use Rattle.adf_model.specs.Selection.{written_over}
use Rattle.adf_model.specs.NodeData.{grown_range}
use Rattle.adf_model.proofs.Writes.DataRoom.{cover-give_all}
use Rattle.disk_ptr.specs.View.{view}
use Rattle.file_heap.specs.Links.{range}
use Rattle.field_access.specs.Fields.{IsWithin}
use Rattle.file_heap.specs.Heap.{FreeSpace, IsThreaded, IsHeap, ChangesOnly, MovesEnd, KeepsFillers, IsTakenWithin, TakesCover}
use Rattle.file_heap.proofs.ChangeLaws.{widened, changes_then}
use Rattle.adf_data.specs.declared.place.DataPlace.{DataPlace}
use Rattle.adf_data.specs.Ranges.{AreIn, byte_place}
use Rattle.adf_data.specs.Fills.{ZeroesBytes}
use Rattle.adf_data.specs.Runs.{AreApart}
use Rattle.adf_data.specs.Sizes.{extents_in, MayGiveAll}
use Rattle.adf_data.specs.Growing.{room_of, changed_ranges, PutsChunk, PutsTable, AreReady, KeepsHeap, Extends, ExtendsData, AllSpelled}
use Rattle.adf_data.proofs.Listing.{framed_within}
use Rattle.adf_data.proofs.KeptLaws.{covered, once_of}
use Rattle.adf_data.proofs.StayLaws.{byte_kept, chunks_kept, frame_covered, frame_within, chunks_once, spelled_after, table_after}
use Rattle.adf_data.proofs.DataLaws.{spelled_in}
use Rattle.adf_data.proofs.PayloadLaws.{length-payloads, still_in}
use Rattle.adf_data.proofs.RoomLaws.{field_bytes, ends_before, at_most_one, beside_gaps, in_room}
use Rattle.adf_data.proofs.GrowLaws.{payloads_clear}
use Rattle.adf_data.proofs.GatherLaws.{own_low, own_gaps, own_fields, own_clear, still_may, taken_not_own, field_beside, chunk_within, payload_kept}
use Rattle.adf_data.proofs.ZeroLaws.{zeroes_front, zeroes_payloads, payloads_zeroed, payload_length-append, changes_chunks, heap_stays, over_front}
use Rattle.adf_data.proofs.HeapWords.{PairOf, both_and, both_told}

all_then : (P : ChunkPart → Type 0) (xs : List ChunkPart) (y : ChunkPart) → AllByRecursion P xs → P y → AllByRecursion P (xs ++ y ∷ [])
all_then P [] y all one = (one, tt)
all_then P (x ∷ xs) y all one = (all.0, all_then P xs y all.1 one)

all_behind : (P : Extent → Type 0) (xs ys : List Extent) → AllByRecursion P (xs ++ ys) → AllByRecursion P ys
all_behind P [] ys all = all
all_behind P (x ∷ xs) ys all = all_behind P xs ys all.1

near_each : (end : ℕ) (cs : List ChunkPart) (bytes : List ℕ) → end < 2 ^ 44 → AllByRecursion (λ (e : Extent). (266 ≤ e.place) × (end_of e ≤ end + 1)) (chunk_extents cs) → AllSpelled bytes cs
    → AllByRecursion (λ (c : ChunkPart). (4 ≤ c.length) × (c.place + c.length ≤ 2 ^ 44)) cs
near_each end [] bytes high all spelled = tt
near_each end (c ∷ cs) bytes high all spelled = (((let l = spelled.0.long in omega (arith, l)), (let w = all.0.1 in omega (arith, w, high))), near_each end cs bytes high all.1 spelled.1)

module _ (table : Option ℕ) (parts : List ChunkPart) (n m place list : ℕ) (h0 h1 h2 : Heap) (is0 : IsHeap h0) (is1 : IsHeap h1) (is2 : IsHeap h2)
    (covers1 : TakesCover n h0 h1 place) (within1 : IsTakenWithin n h1 place) (grows1 : h0.end ≤ h1.end)
    (covers2 : TakesCover m h1 h2 list) (within2 : IsTakenWithin m h2 list) (grows2 : h1.end ≤ h2.end) (long : m ≡ chunk_table_length (length parts + 1))
    (may0 : MayGiveAll (extents_in table parts) h0) where
  abbrev es : List Extent
  es = extents_in table parts

  abbrev tables : List Extent
  tables = chunk_table_extents table (length parts)

  abbrev own : List Extent
  own = chunk_extents parts

  abbrev new : ChunkPart
  new = chunk place n

  abbrev all : List ChunkPart
  all = parts ++ new ∷ []

  -- the old table is given: what changes then
  abbrev given : List Extent
  given = heap_fields ++ tables ++ h2.gaps

  may1 : MayGiveAll es h1
  may1 = still_may es h0 may0 n place h1 is1 covers1 grows1

  may2 : MayGiveAll es h2
  may2 = still_may es h1 may1 m list h2 is2 covers2 grows2

  both : (b : ℕ) → cover es b ≡ cover tables b + cover own b
  both b = cover-append tables own b

  given_by : (b : ℕ) → cover given b ≡ cover heap_fields b + cover tables b + cover h2.gaps b
  given_by b = let s = cover-append (heap_fields ++ tables) h2.gaps b in let t = cover-append heap_fields tables b in omega (arith, s, t)

  room_by : (b : ℕ) → cover (room_of h1 h2) b ≡ cover heap_fields b + (in_range (h1.end + 1) (h2.end - h1.end) b + cover h1.gaps b)
  room_by b = cover-append heap_fields (grown_range h1 h2 ∷ h1.gaps) b

  -- ---- bytes of the old chunks

  own_es : (b : ℕ) → 0 < cover own b → 0 < cover es b
  own_es b some = let s = both b in omega (arith, s, some)

  own_room1 : (b : ℕ) → 0 < cover own b → cover (room_of h0 h1) b ≡ 0
  own_room1 b some = own_clear es h0 may0 h1 b (own_es b some)

  own_room2 : (b : ℕ) → 0 < cover own b → cover (room_of h1 h2) b ≡ 0
  own_room2 b some = own_clear es h1 may1 h2 b (own_es b some)

  own_given : (b : ℕ) → 0 < cover own b → cover given b ≡ 0
  own_given b some =
      let g = given_by b in let s = both b in let f = own_fields es h2 may2 b (own_es b some) in let o = own_gaps es h2 may2 b in omega (arith, g, s, f, o, some)

  pub own_once : (b : ℕ) → cover own b ≤ 1
  own_once b = let s = both b in let o = own_gaps es h0 may0 b in omega (arith, s, o)

  byte_own : (j : ℕ) → j < payload_length parts → 0 < cover own (byte_place parts j)
  byte_own j lt = let c = covered parts j lt in omega (arith, c)

  -- ---- bytes of the new chunk and of the new table

  new_room2 : (b : ℕ) → place ≤ b → b < place + n → cover (room_of h1 h2) b ≡ 0
  new_room2 b low high =
      let r = room_by b in let f = field_bytes b (let w = within1.0 in omega (arith, w, low)) in let g = beside_gaps n place h0 h1 is0 covers1 within1 b low high in
      let e = ends_before h1.end (h2.end - h1.end) b (let w = within1.1 in omega (arith, w, high)) in omega (arith, r, f, g, e)

  new_second : (b : ℕ) → place ≤ b → b < place + n → in_range list m b + cover h2.gaps b ≡ 0
  new_second b low high =
      let t : in_range list m b + cover h2.gaps b ≡ in_range (h1.end + 1) (h2.end - h1.end) b + cover h1.gaps b = covers2 b in
      let r = room_by b in let z = new_room2 b low high in omega (arith, t, r, z)

  new_given : (b : ℕ) → place ≤ b → b < place + n → cover given b ≡ 0
  new_given b low high =
      let g = given_by b in let s = both b in let f = field_bytes b (let w = within1.0 in omega (arith, w, low)) in
      let o = taken_not_own es n place h0 h1 may0 is0 covers1 within1 b low high in let z = new_second b low high in omega (arith, g, s, f, o, z)

  list_given : (b : ℕ) → list ≤ b → b < list + m → cover given b ≡ 0
  list_given b low high =
      let g = given_by b in let s = both b in let f = field_bytes b (let w = within2.0 in omega (arith, w, low)) in
      let o = taken_not_own es m list h1 h2 may1 is1 covers2 within2 b low high in let z = beside_gaps m list h1 h2 is1 covers2 within2 b low high in omega (arith, g, s, f, o, z)

  -- ---- all are apart

  abbrev after : NodeParts
  after = record { header = 0; table = None; chunks = all; chunk_table = Some list }

  count : length all ≡ length parts + 1
  count = length-append parts (new ∷ [])

  size : chunk_table_length (length all) ≡ m
  size = ap chunk_table_length count ∙ sym long

  after_by : (b : ℕ) → cover (data_extents after) b ≡ in_range list m b + (cover own b + in_range place n b)
  after_by b =
      let s = cover-append (chunk_table_extents (Some list) (length all)) (chunk_extents all) b in
      let t : cover (chunk_table_extents (Some list) (length all)) b ≡ in_range list (chunk_table_length (length all)) b + 0 = refl in
      let u : in_range list (chunk_table_length (length all)) b ≡ in_range list m b = ap (λ k. in_range list k b) size in
      let v : cover (chunk_extents all) b ≡ cover (own ++ chunk_extents (new ∷ [])) b = ap (λ xs. cover xs b) (map-append (λ (c : ChunkPart). extent ExtentKind.DataChunk c.place c.length) parts (new ∷ [])) in
      let w = cover-append own (chunk_extents (new ∷ [])) b in
      let x : cover (chunk_extents (new ∷ [])) b ≡ in_range place n b + 0 = refl in omega (arith, s, t, u, v, w, x)

  after_apart : AreApart after
  after_apart b = elim (cases_lt 0 (cover own b)) [
    | inl some ↦ old_byte some
    | inr none ↦ other (omega (arith, none)) (cases_lt 0 (in_range place n b))
  ]
    where
      outside : (p k : ℕ) (before later : Heap) → IsHeap before → TakesCover k before later p → IsTakenWithin k later p → cover (room_of before later) b ≡ 0 → in_range p k b ≡ 0
      outside p k before later is covers within none = let z = in_room k p before later is covers within b none in let a : cover (range p k ∷ []) b ≡ in_range p k b + 0 = refl in omega (arith, z, a)

      old_byte : 0 < cover own b → cover (data_extents after) b ≤ 1
      old_byte some =
          let a = after_by b in let o = own_once b in
          let x = outside place n h0 h1 is0 covers1 within1 (own_room1 b some) in let y = outside list m h1 h2 is1 covers2 within2 (own_room2 b some) in omega (arith, a, o, x, y)

      inside : 0 < in_range place n b → (place ≤ b) × (b < place + n)
      inside some = elim (cases_lt b place) [
        | inl lt ↦ absurd (none (inl lt))
        | inr le ↦ elim (cases_lt b (place + n)) [
          | inl lt ↦ (le, lt)
          | inr past ↦ absurd (none (inr past))
        ]
      ]
        where
          none : (b < place) ⊎ (place + n ≤ b) → ⊥
          none out = let z = zero_range out in omega (arith, z, some)
            where
              zero_range : (b < place) ⊎ (place + n ≤ b) → in_range place n b ≡ 0
              zero_range (inl lt) = grind (arith, nat_tests)
              zero_range (inr past) = grind (arith, nat_tests)

      other : cover own b ≡ 0 → (0 < in_range place n b) ⊎ (in_range place n b ≤ 0) → cover (data_extents after) b ≤ 1
      other none (inl some) = let i = inside some in let z = new_second b i.0 i.1 in let a = after_by b in let o = at_most_one place n b in omega (arith, none, z, a, o)
      other none (inr out) = let a = after_by b in let o = at_most_one list m b in omega (arith, none, out, a, o)

  -- ---- the bytes, call by call

  module _ (was : ℕ) (enough : was ≤ payload_length parts) (a b c d e : List ℕ)
      (put : PutsChunk [] 0 n place h0 h1 a b) (cb : ChangesOnly (room_of h0 h1) a b) (tab : PutsTable all list c) (cc : ChangesOnly (room_of h1 h2) b c) (cd : ChangesOnly given c d)
      (z : ZeroesBytes parts was (payload_length parts - was) d e) (spelled : AllSpelled a parts) where
    in_a : AreIn parts a
    in_a = spelled_in a parts spelled

    in_b : AreIn parts b
    in_b = still_in parts a b cb.longer in_a

    in_c : AreIn parts c
    in_c = still_in parts b c cc.longer in_b

    old_byte : (x : ℕ) → x < length a → 0 < cover own x → slice_get d x ≡ slice_get a x
    old_byte x lt some =
        byte_kept a d x (let p = cb.longer in let q = cc.longer in let r = cd.longer in omega (arith, p, q, r)) lt
        (cd.others x (own_given x some) ∙ cc.others x (own_room2 x some) ∙ cb.others x (own_room1 x some))

    old_spelled : AllSpelled d parts
    old_spelled = chunks_kept a d parts in_a (λ x f. old_byte x (frame_within parts x a in_a f) (let g = frame_covered parts x a in_a f in omega (arith, g))) spelled

    old_payloads : payloads d parts ≡ payloads a parts
    old_payloads =
        payloads_clear parts given c d cd (λ j lt. own_given (byte_place parts j) (byte_own j lt)) in_c
        ∙ payloads_clear parts (room_of h1 h2) b c cc (λ j lt. own_room2 (byte_place parts j) (byte_own j lt)) in_b
        ∙ payloads_clear parts (room_of h0 h1) a b cb (λ j lt. own_room1 (byte_place parts j) (byte_own j lt)) in_a

    new_in_b : place + n ≤ length b
    new_in_b = chunk_within b place n put.spells

    new_field : field d place n ≡ field b place n
    new_field =
        field_beside given place n c d cd (let q = cc.longer in omega (arith, q, new_in_b)) new_given
        ∙ field_beside (room_of h1 h2) place n b c cc new_in_b new_room2

    new_spelled : SpellsChunk (field d place n) place n
    new_spelled = subst (λ (t : List ℕ). SpellsChunk t place n) (sym new_field) put.spells

    new_payload : payload d place n ≡ replicate (n - 20) 0
    new_payload =
        payload_kept place n b d (let l = put.spells.long in omega (arith, l)) new_field ∙ put.body (λ j lt. absurd (omega (arith, lt))) tt
        ∙ ap (λ k. replicate k 0) (omega arith)

    all_spelled : AllSpelled d all
    all_spelled = all_then (λ (c : ChunkPart). SpellsChunk (field d c.place c.length) c.place c.length) parts new old_spelled new_spelled

    -- the table
    all_near : AllByRecursion (λ (c : ChunkPart). (4 ≤ c.length) × (c.place + c.length ≤ 2 ^ 44)) all
    all_near = all_then (λ (c : ChunkPart). (4 ≤ c.length) × (c.place + c.length ≤ 2 ^ 44)) parts new
        (near_each h0.end parts a is0.high (all_behind (λ (e : Extent). (266 ≤ e.place) × (end_of e ≤ h0.end + 1)) tables own may0.within) spelled)
        ((let l = put.spells.long in omega (arith, l)), (let w = within1.1 in let h = is1.high in omega (arith, w, h)))

    table_c : HasChunkTable c all (Some list)
    table_c = tab all_near

    abbrev wide : ℕ
    wide = chunk_table_length (length all)

    list_in_c : list + wide ≤ length c
    list_in_c = framed_within c (codes "DCtb") (codes "dcTE") list wide (omega arith) refl table_c.1

    list_field : field d list wide ≡ field c list wide
    list_field = field_beside given list wide c d cd list_in_c (λ x low high. list_given x low (omega (arith, high, size)))

    table_d : HasChunkTable d all (Some list)
    table_d =
        subst (λ (bytes : List ℕ). (2 ≤ length all) × IsFramed bytes list wide (codes "DCtb") (codes "dcTE") × ((i : ℕ) (c : ChunkPart) → slice_get all i ≡ Some c → SpellsChunkEntry bytes i c.place c.length)) (sym list_field) table_c

    -- zeros
    abbrev k : ℕ
    k = payload_length parts - was

    in_front : was + k ≤ payload_length parts
    in_front = omega (arith, enough)

    in_all : was + k ≤ payload_length all
    in_all = let l = payload_length-append parts (new ∷ []) in omega (arith, enough, l)

    z_all : ZeroesBytes all was k d e
    z_all = zeroes_front parts (new ∷ []) was k d e in_front z

    all_in_d : AreIn all d
    all_in_d = spelled_in d all all_spelled

    pub spelled_e : AllSpelled e all
    spelled_e = spelled_after after d e after_apart all_in_d (zeroes_payloads all was k d e in_all z_all) all_spelled

    pub table_e : HasChunkTable e all (Some list)
    table_e = table_after after d e after_apart all_in_d (zeroes_payloads all was k d e in_all z_all) table_d

    payloads_d : payloads d all ≡ payloads a parts ++ replicate (n - 20) 0
    payloads_d =
        flat_map-append (λ (c : ChunkPart). payload d c.place c.length) parts (new ∷ []) ∙ ap (λ xs. xs ++ (payload d place n ++ [])) old_payloads
        ∙ ap (λ t. payloads a parts ++ t) (append-nil (payload d place n) ∙ new_payload)

    pub payloads_e : payloads e all ≡ take was (payloads a parts) ++ replicate (k + (n - 20)) 0
    payloads_e =
        payloads_zeroed all was k d e (once_of all (chunks_once after d e after_apart all_in_d (zeroes_payloads all was k d e in_all z_all))) all_in_d in_all z_all
        ∙ ap (λ xs. written_over xs was (replicate k 0)) payloads_d
        ∙ over_front (payloads a parts) (replicate (n - 20) 0) was k (let l = length-payloads parts a in_a in omega (arith, l, enough))
        ∙ append_assoc (take was (payloads a parts)) (replicate k 0) (replicate (n - 20) 0) ∙ ap (λ t. take was (payloads a parts) ++ t) (replicate-append-replicate k (n - 20) 0)

    pub heap_e : (h3 : FreeSpace) → h3.heap ≡ give_all tables h2 → IsThreaded h3 d → KeepsHeap h3.heap h3 d e
    heap_e h3 gives threads = heap_stays own h3 (λ x some. own_low es h0 may0 x (own_es x some)) none d e (changes_chunks parts was k d e in_front z.changes) threads
      where
        none : (x : ℕ) → 0 < cover own x → cover h3.heap.gaps x ≡ 0
        none x some =
            let g = ap (λ (h : Heap). cover h.gaps x) gives in let c = cover-give_all tables h2 x in
            let r = given_by x in let o = own_given x some in omega (arith, g, c, r, o)

-- ---- all calls

module _ (limit : ℕ) (table : Option ℕ) (parts : List ChunkPart) (was added place list : ℕ) (now : DataPlace) (h0 h1 h2 : Heap) (h3 : FreeSpace) (is0 : IsHeap h0) (is1 : IsHeap h1) (is2 : IsHeap h2)
    (takes1 : heap_take limit (chunk_length_for added) h0 ≡ Ok (place, h1)) (covers1 : TakesCover (chunk_length_for added) h0 h1 place) (within1 : IsTakenWithin (chunk_length_for added) h1 place)
    (takes2 : heap_take limit (chunk_table_length (length parts + 1)) h1 ≡ Ok (list, h2)) (covers2 : TakesCover (chunk_table_length (length parts + 1)) h1 h2 list) (within2 : IsTakenWithin (chunk_table_length (length parts + 1)) h2 list)
    (gives : h3.heap ≡ give_all (chunk_table_extents table (length parts)) h2) (many : now.count ≡ length parts + 1) (points : view now.pointer ≡ To list) where
  grows1 : h0.end ≤ h1.end
  grows1 = take_end limit (chunk_length_for added) h0 place h1 takes1

  grows2 : h1.end ≤ h2.end
  grows2 = take_end limit (chunk_table_length (length parts + 1)) h1 list h2 takes2

  extended : (a b c d e : List ℕ) → PutsChunk [] 0 (chunk_length_for added) place h0 h1 a b → ChangesOnly (room_of h0 h1) a b → PutsTable (parts ++ chunk place (chunk_length_for added) ∷ []) list c → ChangesOnly (room_of h1 h2) b c
      → ChangesOnly (heap_fields ++ chunk_table_extents table (length parts) ++ h2.gaps) c d → ZeroesBytes parts was (payload_length parts - was) d e → IsThreaded h3 d → MovesEnd h0.end h3.heap.end a d → KeepsFillers h0.gaps h3.heap.gaps a d
      → AreReady table parts was h0 a → Extends limit table parts was added now h0 h3 a e
  extended a b c d e put cb tab cc cd z threads end fillers ready =
      let s : KeepsHeap h3.heap h3 d e = heap_e table parts (chunk_length_for added) (chunk_table_length (length parts + 1)) place list h0 h1 h2 is0 is1 is2 covers1 within1 grows1 covers2 within2 grows2 refl ready.apart was ready.enough a b c d e put cb tab cc cd z ready.spelled h3 gives threads in
      record {
        place = place;
        list = list;
        middle = h1;
        between = h2;
        chunk_taken = takes1;
        table_taken = takes2;
        gives = gives;
        count = many;
        pointer = points;
        table_stands = table_e table parts (chunk_length_for added) (chunk_table_length (length parts + 1)) place list h0 h1 h2 is0 is1 is2 covers1 within1 grows1 covers2 within2 grows2 refl ready.apart was ready.enough a b c d e put cb tab cc cd z ready.spelled;
        spelled = spelled_e table parts (chunk_length_for added) (chunk_table_length (length parts + 1)) place list h0 h1 h2 is0 is1 is2 covers1 within1 grows1 covers2 within2 grows2 refl ready.apart was ready.enough a b c d e put cb tab cc cd z ready.spelled;
        body = payloads_e table parts (chunk_length_for added) (chunk_table_length (length parts + 1)) place list h0 h1 h2 is0 is1 is2 covers1 within1 grows1 covers2 within2 grows2 refl ready.apart was ready.enough a b c d e put cb tab cc cd z ready.spelled;
        heap = record { threads = s.threads; end = λ p. s.end (end p); fillers = λ f. s.fillers (fillers f) };
      }

  abbrev FirstCall : List ℕ → List ℕ → Type 0
  FirstCall old new = PairOf (PutsChunk [] 0 (chunk_length_for added) place h0 h1 old new) (ChangesOnly (room_of h0 h1) old new)

  abbrev SecondCall : List ℕ → List ℕ → Type 0
  SecondCall old new = PairOf (ChangesOnly (room_of h1 h2) old new) (PutsTable (parts ++ chunk place (chunk_length_for added) ∷ []) list new)

  abbrev ThirdCall : List ℕ → List ℕ → Type 0
  ThirdCall old new = PairOf (ChangesOnly (heap_fields ++ chunk_table_extents table (length parts) ++ h2.gaps) old new) (IsThreaded h3 new)

  abbrev Kept : List ℕ → List ℕ → Type 0
  Kept old new = PairOf (MovesEnd h0.end h3.heap.end old new) (KeepsFillers h0.gaps h3.heap.gaps old new)

  abbrev ThreeCalls : List ℕ → List ℕ → Type 0
  ThreeCalls old new = PairOf (Then (Then FirstCall SecondCall) ThirdCall old new) (Kept old new)

  pub all_extended : (a b c d e : Option (List ℕ)) → Both (PutsChunk [] 0 (chunk_length_for added) place h0 h1) a b → Both (ChangesOnly (room_of h0 h1)) a b → IfSome c (PutsTable (parts ++ chunk place (chunk_length_for added) ∷ []) list) → Both (ChangesOnly (room_of h1 h2)) b c
      → Both (ChangesOnly (heap_fields ++ chunk_table_extents table (length parts) ++ h2.gaps)) c d → IfSome d (IsThreaded h3) → Both (MovesEnd h0.end h3.heap.end) a d → Both (KeepsFillers h0.gaps h3.heap.gaps) a d
      → Both (ZeroesBytes parts was (payload_length parts - was)) d e → Both (ExtendsData limit table parts was added now h0 h3) a e
  all_extended a b c d e put cb tab cc cd threads end fillers z =
      both_map (Then ThreeCalls (ZeroesBytes parts was (payload_length parts - was))) (ExtendsData limit table parts was added now h0 h3) a e
      (λ old new t ready. extended old t.1.one.1.0 t.1.one.0 t.0 new t.1.one.1.1.one t.1.one.1.1.two t.1.one.1.2.two t.1.one.1.2.one t.1.one.2.one t.2 t.1.one.2.two t.1.two.one t.1.two.two ready)
      (both_then ThreeCalls (ZeroesBytes parts was (payload_length parts - was)) a d e
      (both_and (Then (Then FirstCall SecondCall) ThirdCall) Kept a d
      (both_then (Then FirstCall SecondCall) ThirdCall a c d
      (both_then FirstCall SecondCall a b c
      (both_and (PutsChunk [] 0 (chunk_length_for added) place h0 h1) (ChangesOnly (room_of h0 h1)) a b put cb)
      (both_told (ChangesOnly (room_of h1 h2)) (PutsTable (parts ++ chunk place (chunk_length_for added) ∷ []) list) b c cc tab))
      (both_told (ChangesOnly (heap_fields ++ chunk_table_extents table (length parts) ++ h2.gaps)) (IsThreaded h3) c d cd threads))
      (both_and (MovesEnd h0.end h3.heap.end) (KeepsFillers h0.gaps h3.heap.gaps) a d end fillers))
      z)

-- the same, where the lengths were computed
pub long_extended : (limit : ℕ) (table : Option ℕ) (parts : List ChunkPart) (was added place list : ℕ) (now : DataPlace) (h0 h1 h2 : Heap) (h3 : FreeSpace) → IsHeap h0 → IsHeap h1 → IsHeap h2
    → h3.heap ≡ give_all (chunk_table_extents table (length parts)) h2 → now.count ≡ length parts + 1 → view now.pointer ≡ To list → (n m : ℕ) → n ≡ chunk_length_for added → m ≡ chunk_table_length (length parts + 1)
    → heap_take limit n h0 ≡ Ok (place, h1) → TakesCover n h0 h1 place → IsTakenWithin n h1 place → heap_take limit m h1 ≡ Ok (list, h2) → TakesCover m h1 h2 list → IsTakenWithin m h2 list
    → (a b c d e : Option (List ℕ)) → Both (PutsChunk [] 0 n place h0 h1) a b → Both (ChangesOnly (room_of h0 h1)) a b → IfSome c (PutsTable (parts ++ chunk place n ∷ []) list) → Both (ChangesOnly (room_of h1 h2)) b c
    → Both (ChangesOnly (heap_fields ++ chunk_table_extents table (length parts) ++ h2.gaps)) c d → IfSome d (IsThreaded h3) → Both (MovesEnd h0.end h3.heap.end) a d → Both (KeepsFillers h0.gaps h3.heap.gaps) a d
    → Both (ZeroesBytes parts was (payload_length parts - was)) d e → Both (ExtendsData limit table parts was added now h0 h3) a e
long_extended limit table parts was added place list now h0 h1 h2 h3 is0 is1 is2 gives many points n m en em takes1 covers1 within1 takes2 covers2 within2 a b c d e put cb tab cc cd threads end fillers z =
    all_extended limit table parts was added place list now h0 h1 h2 h3 is0 is1 is2
    (subst (λ k. heap_take limit k h0 ≡ Ok (place, h1)) en takes1) (subst (λ k. TakesCover k h0 h1 place) en covers1) (subst (λ k. IsTakenWithin k h1 place) en within1)
    (subst (λ k. heap_take limit k h1 ≡ Ok (list, h2)) em takes2) (subst (λ k. TakesCover k h1 h2 list) em covers2) (subst (λ k. IsTakenWithin k h2 list) em within2) gives many points
    a b c d e (subst (λ k. Both (PutsChunk [] 0 k place h0 h1) a b) en put) cb (subst (λ k. IfSome c (PutsTable (parts ++ chunk place k ∷ []) list)) en tab) cc cd threads end fillers z

-- ---- what changes, and why it is refused

module _ (es : List Extent) (h0 h1 h2 h3 : Heap) (n place : ℕ) (covers1 : TakesCover n h0 h1 place) (grows1 : h0.end ≤ h1.end) (grows2 : h1.end ≤ h2.end) (same : h3.end ≡ h2.end) where
  parted : (b : ℕ) → in_range (h0.end + 1) (h3.end - h0.end) b ≡ in_range (h0.end + 1) (h1.end - h0.end) b + in_range (h1.end + 1) (h2.end - h1.end) b
  parted b =
      let e : h3.end - h0.end ≡ (h1.end - h0.end) + (h2.end - h1.end) = omega (arith, grows1, grows2, same) in
      let f : h0.end + 1 + (h1.end - h0.end) ≡ h1.end + 1 = omega (arith, grows1) in
      ap (λ k. in_range (h0.end + 1) k b) e ∙ join_range (h0.end + 1) (h1.end - h0.end) (h2.end - h1.end) b ∙ ap (λ k. in_range (h0.end + 1) (h1.end - h0.end) b + in_range k (h2.end - h1.end) b) f

  all_by : (b : ℕ) → cover (changed_ranges es h0 h3) b ≡ cover heap_fields b + cover es b + (in_range (h0.end + 1) (h3.end - h0.end) b + cover h0.gaps b)
  all_by b =
      let s = cover-append (heap_fields ++ es) (grown_range h0 h3 ∷ h0.gaps) b in let t = cover-append heap_fields es b in
      let r : cover (grown_range h0 h3 ∷ h0.gaps) b ≡ in_range (h0.end + 1) (h3.end - h0.end) b + cover h0.gaps b = refl in omega (arith, s, t, r)

  pub first_call : IsWithin (room_of h0 h1) (changed_ranges es h0 h3)
  first_call b none =
      let a = all_by b in let p = parted b in
      let s = cover-append heap_fields (grown_range h0 h1 ∷ h0.gaps) b in let r : cover (grown_range h0 h1 ∷ h0.gaps) b ≡ in_range (h0.end + 1) (h1.end - h0.end) b + cover h0.gaps b = refl in omega (arith, none, a, p, s, r)

  pub second_call : IsWithin (room_of h1 h2) (changed_ranges es h0 h3)
  second_call b none =
      let a = all_by b in let p = parted b in
      let s = cover-append heap_fields (grown_range h1 h2 ∷ h1.gaps) b in let r : cover (grown_range h1 h2 ∷ h1.gaps) b ≡ in_range (h1.end + 1) (h2.end - h1.end) b + cover h1.gaps b = refl in
      let t : in_range place n b + cover h1.gaps b ≡ in_range (h0.end + 1) (h1.end - h0.end) b + cover h0.gaps b = covers1 b in omega (arith, none, a, p, s, r, t)

  pub two_calls : (a b c : Option (List ℕ)) → Both (ChangesOnly (room_of h0 h1)) a b → Both (ChangesOnly (room_of h1 h2)) b c → Both (ChangesOnly (changed_ranges es h0 h3)) a c
  two_calls a b c v w =
      changes_then (changed_ranges es h0 h3) a b c (widened (room_of h0 h1) (changed_ranges es h0 h3) a b first_call v) (widened (room_of h1 h2) (changed_ranges es h0 h3) b c second_call w)

  module _ (some rest : List Extent) (are : es ≡ some ++ rest) where
    pub third_call : (m list : ℕ) → TakesCover m h1 h2 list → IsWithin (heap_fields ++ some ++ h2.gaps) (changed_ranges es h0 h3)
    third_call m list covers2 b none =
        let a = all_by b in let p = parted b in let u = ap (λ xs. cover xs b) are in let v = cover-append some rest b in
        let s = cover-append (heap_fields ++ some) h2.gaps b in let w = cover-append heap_fields some b in
        let t : in_range place n b + cover h1.gaps b ≡ in_range (h0.end + 1) (h1.end - h0.end) b + cover h0.gaps b = covers1 b in
        let x : in_range list m b + cover h2.gaps b ≡ in_range (h1.end + 1) (h2.end - h1.end) b + cover h1.gaps b = covers2 b in omega (arith, none, a, p, u, v, s, w, t, x)

    pub last_call : IsWithin rest (changed_ranges es h0 h3)
    last_call b none = let a = all_by b in let u = ap (λ xs. cover xs b) are in let v = cover-append some rest b in omega (arith, none, a, u, v)

    pub three_calls : (m list : ℕ) → TakesCover m h1 h2 list → (a b c d : Option (List ℕ)) → Both (ChangesOnly (room_of h0 h1)) a b → Both (ChangesOnly (room_of h1 h2)) b c → Both (ChangesOnly (heap_fields ++ some ++ h2.gaps)) c d
        → Both (ChangesOnly (changed_ranges es h0 h3)) a d
    three_calls m list covers2 a b c d u v w =
        changes_then (changed_ranges es h0 h3) a c d (two_calls a b c u v) (widened (heap_fields ++ some ++ h2.gaps) (changed_ranges es h0 h3) c d (third_call m list covers2) w)

    pub four_calls : (m list : ℕ) → TakesCover m h1 h2 list → (a b c d e : Option (List ℕ)) → Both (ChangesOnly (room_of h0 h1)) a b → Both (ChangesOnly (room_of h1 h2)) b c → Both (ChangesOnly (heap_fields ++ some ++ h2.gaps)) c d → Both (ChangesOnly rest) d e
        → Both (ChangesOnly (changed_ranges es h0 h3)) a e
    four_calls m list covers2 a b c d e u v w x = changes_then (changed_ranges es h0 h3) a d e (three_calls m list covers2 a b c d u v w) (widened rest (changed_ranges es h0 h3) d e last_call x)
