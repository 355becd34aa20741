-- The data in one new chunk: the old chunks and their table are given.
use Rattle.std.proofs.Common.{◌≡◌, inl, inr, ℕ, ◌+◌, ◌-◌, ◌<◌, ◌≤◌, arith, List, [], ◌∷◌, ◌++◌, length, refl, sym, ◌∙◌, ap, subst}
use Rattle.std.proofs.lemmas.Bool.{cases_lt}
use Rattle.std.specs.Prelude.{Option, Some, None, IfSome, Ok, codes}
use Rattle.std.specs.List.{AllByRecursion}
use Rattle.cg_io.specs.Blocks.{Both}
use Rattle.adf_format.specs.declared.types.Extent.{Extent}
use Rattle.adf_format.specs.Fields.{field}
use Rattle.adf_format.specs.Pointer.{To}
use Rattle.adf_format.specs.Parts.{SpellsChunk, payload}
use Rattle.adf_format.specs.Tiles.{cover, end_of}
use Rattle.adf_format.specs.Placement.{Heap, ChunkPart, chunk_extents, chunk_table_extents}
use Rattle.adf_format.specs.Changes.{heap_fields}
use Rattle.adf_format.specs.HeapRule.{heap_take, give_all, chunk_length_for}
use Rattle.adf_format.proofs.FieldLaws.{inner_field}
use Rattle.adf_format.proofs.FrameLaws.{field_kept}
use Rattle.adf_format.proofs.HeapLaws.{in_range}
use Rattle.adf_format.proofs.HeapSteps.{cover-append}
use Rattle.adf_model.specs.NodeData.{grown_range}
use Rattle.disk_ptr.specs.View.{view}
use Rattle.field_access.specs.Fields.{IsWithin}
use Rattle.file_heap.specs.Links.{range}
use Rattle.file_heap.specs.Heap.{FreeSpace, IsThreaded, IsHeap, ChangesOnly, MovesEnd, KeepsFillers, IsTakenWithin, TakesCover}
use Rattle.file_heap.proofs.HeapFacts.{once}
use Rattle.file_heap.proofs.ChangeLaws.{widened, changes_then}
use Rattle.adf_data.specs.declared.place.DataPlace.{DataPlace}
use Rattle.adf_data.specs.Ranges.{byte_place}
use Rattle.adf_data.specs.Sizes.{extents_in, MayGiveAll, Ungivable}
use Rattle.adf_data.specs.Growing.{room_of, changed_ranges, AreClear, PutsChunk, AreReady, KeepsHeap, Gathers, GathersData}
use Rattle.adf_data.proofs.Listing.{framed_within}
use Rattle.adf_data.proofs.KeptLaws.{covered}
use Rattle.adf_data.proofs.StayLaws.{byte_kept}
use Rattle.adf_data.proofs.DataLaws.{spelled_in}
use Rattle.adf_data.proofs.GiveLaws.{untold_before}
use Rattle.adf_data.proofs.RoomLaws.{beyond, before_all, field_bytes, ends_before, within_range, beside_gaps, in_room}

-- ---- what is the data's own lies beside the room of the heap

module _ (es : List Extent) (before : Heap) (may : MayGiveAll es before) where
  pub own_low : (b : ℕ) → 0 < cover es b → 266 ≤ b
  own_low b some = elim (cases_lt b 266) [
    | inl lt ↦ absurd (let z = before_all es before.end b may.within lt in omega (arith, z, some))
    | inr le ↦ le
  ]

  pub own_high : (b : ℕ) → 0 < cover es b → b ≤ before.end
  own_high b some = elim (cases_lt before.end b) [
    | inl lt ↦ absurd (let z = beyond es before.end b may.within lt in omega (arith, z, some))
    | inr le ↦ le
  ]

  pub own_gaps : (b : ℕ) → cover es b + cover before.gaps b ≤ 1
  own_gaps b = let o = may.once b in let a = cover-append es before.gaps b in omega (arith, o, a)

  pub own_fields : (b : ℕ) → 0 < cover es b → cover heap_fields b ≡ 0
  own_fields b some = field_bytes b (own_low b some)

  pub own_clear : (after : Heap) (b : ℕ) → 0 < cover es b → cover (room_of before after) b ≡ 0
  own_clear after b some =
      let f = own_fields b some in
      let z = ends_before before.end (after.end - before.end) b (own_high b some) in
      let g = own_gaps b in
      let s = cover-append heap_fields (grown_range before after ∷ before.gaps) b in
      let r : cover (grown_range before after ∷ before.gaps) b ≡ in_range (before.end + 1) (after.end - before.end) b + cover before.gaps b = refl in
      omega (arith, f, z, g, s, r, some)

  -- what may be given may be given after a take
  pub still_may : (n place : ℕ) (after : Heap) → IsHeap after → TakesCover n before after place → before.end ≤ after.end → MayGiveAll es after
  still_may n place after is covers grows = record {
    within = later es may.within;
    once = λ b.
        let g = own_gaps b in let c = cover-append es after.gaps b in let o = once after.gaps b is.order in
        let t : in_range place n b + cover after.gaps b ≡ in_range (before.end + 1) (after.end - before.end) b + cover before.gaps b = covers b in
        elim (cases_lt before.end b) [
          | inl lt ↦ (let z = beyond es before.end b may.within lt in omega (arith, z, c, o))
          | inr le ↦ (let z = ends_before before.end (after.end - before.end) b le in omega (arith, g, c, t, z))
        ];
  }
    where
      later : (xs : List Extent) → AllByRecursion (λ (e : Extent). (266 ≤ e.place) × (end_of e ≤ before.end + 1)) xs → AllByRecursion (λ (e : Extent). (266 ≤ e.place) × (end_of e ≤ after.end + 1)) xs
      later [] all = tt
      later (x ∷ xs) all = ((all.0.0, (let h = all.0.1 in omega (arith, h, grows))), later xs all.1)

-- no byte of a range that was taken is the data's own
pub taken_not_own : (es : List Extent) (n place : ℕ) (h0 h1 : Heap) → MayGiveAll es h0 → IsHeap h0 → TakesCover n h0 h1 place → IsTakenWithin n h1 place → (b : ℕ) → place ≤ b → b < place + n → cover es b ≡ 0
taken_not_own es n place h0 h1 may is covers within b low high = elim (cases_lt 0 (cover es b)) [
  | inl some ↦
      absurd (let z = in_room n place h0 h1 is covers within b (own_clear es h0 may h1 b some) in let a : cover (range place n ∷ []) b ≡ in_range place n b + 0 = refl in let h = within_range place n b low high in omega (arith, z, a, h))
  | inr none ↦ omega (arith, none)
]

-- bytes of a part that was spelled stay where none of the ranges has one of them
pub field_beside : (ranges : List Extent) (at n : ℕ) (old new : List ℕ) → ChangesOnly ranges old new → at + n ≤ length old → ((b : ℕ) → at ≤ b → b < at + n → cover ranges b ≡ 0) → field new at n ≡ field old at n
field_beside ranges at n old new c le none = field_kept n at old new (λ b low high. byte_kept old new b c.longer (omega (arith, le, high)) (c.others b (none b low high)))

pub chunk_within : (bytes : List ℕ) (place n : ℕ) → SpellsChunk (field bytes place n) place n → place + n ≤ length bytes
chunk_within bytes place n s = let l = s.long in framed_within bytes (codes "DaTa") (codes "dEnD") place n (omega (arith, l)) refl s.framed

payload_of_field : (bytes : List ℕ) (place n : ℕ) → 20 ≤ n → payload bytes place n ≡ field (field bytes place n) 16 (n - 20)
payload_of_field bytes place n le = sym (inner_field bytes place n 16 (n - 20) (omega (arith, le)))

pub payload_kept : (place n : ℕ) (old new : List ℕ) → 20 ≤ n → field new place n ≡ field old place n → payload new place n ≡ payload old place n
payload_kept place n old new le e = payload_of_field new place n le ∙ ap (λ t. field t 16 (n - 20)) e ∙ sym (payload_of_field old place n le)

-- ---- gathered

module _ (limit : ℕ) (table : Option ℕ) (parts : List ChunkPart) (was size place : ℕ) (now : DataPlace) (h0 h1 : Heap) (h2 : FreeSpace) (is : IsHeap h0)
    (covers : TakesCover (chunk_length_for size) h0 h1 place) (within : IsTakenWithin (chunk_length_for size) h1 place) (takes : heap_take limit (chunk_length_for size) h0 ≡ Ok (place, h1)) (gives : h2.heap ≡ give_all (extents_in table parts) h1) (one : now.count ≡ 1) (points : view now.pointer ≡ To place) where
  abbrev n : ℕ
  n = chunk_length_for size

  abbrev es : List Extent
  es = extents_in table parts

  chunk_bytes : (b : ℕ) → 0 < cover (chunk_extents parts) b → 0 < cover es b
  chunk_bytes b some = let s = cover-append (chunk_table_extents table (length parts)) (chunk_extents parts) b in omega (arith, s, some)

  clear : MayGiveAll es h0 → AreClear parts (room_of h0 h1)
  clear may j lt = let c = covered parts j lt in own_clear es h0 may h1 (byte_place parts j) (chunk_bytes (byte_place parts j) (omega (arith, c)))

  beside_given : MayGiveAll es h0 → (b : ℕ) → place ≤ b → b < place + n → cover (heap_fields ++ es ++ h1.gaps) b ≡ 0
  beside_given may b low high =
      let f = field_bytes b (let w = within.0 in omega (arith, w, low)) in
      let g = beside_gaps n place h0 h1 is covers within b low high in
      let s = cover-append (heap_fields ++ es) h1.gaps b in let t = cover-append heap_fields es b in
      let own = taken_not_own es n place h0 h1 may is covers within b low high in
      omega (arith, f, g, s, t, own)

  gathered : (a c d : List ℕ) → PutsChunk parts was n place h0 h1 a c → ChangesOnly (heap_fields ++ es ++ h1.gaps) c d → KeepsHeap h0 h2 a d → AreReady table parts was h0 a → Gathers limit table parts was size now h0 h2 a d
  gathered a c d put changes heap ready = record {
    place = place;
    between = h1;
    taken = takes;
    gives = gives;
    count = one;
    pointer = points;
    spells = subst (λ (t : List ℕ). SpellsChunk t place n) (sym same) put.spells;
    body = payload_kept place n c d (let l = put.spells.long in omega (arith, l)) same ∙ put.body (clear ready.apart) (spelled_in a parts ready.spelled);
    heap = heap;
  }
    where
      same : field d place n ≡ field c place n
      same = field_beside (heap_fields ++ es ++ h1.gaps) place n c d changes (chunk_within c place n put.spells) (beside_given ready.apart)

  pub all_gathered : (a c d : Option (List ℕ)) → Both (PutsChunk parts was n place h0 h1) a c → Both (ChangesOnly (heap_fields ++ es ++ h1.gaps)) c d
      → IfSome d (IsThreaded h2) → Both (MovesEnd h0.end h2.heap.end) a d → Both (KeepsFillers h0.gaps h2.heap.gaps) a d
      → Both (GathersData limit table parts was size now h0 h2) a d
  all_gathered None c None put changes threads end fillers = tt
  all_gathered None c (Some d) put changes threads end fillers = end
  all_gathered (Some a) c None put changes threads end fillers = end
  all_gathered (Some a) None (Some d) put changes threads end fillers = absurd put
  all_gathered (Some a) (Some c) (Some d) put changes threads end fillers = gathered a c d put changes (record { threads = threads; end = end; fillers = fillers })

-- ---- what changes, and why it is refused

module _ (es : List Extent) (n place : ℕ) (h0 h1 h2 : Heap) (is : IsHeap h0) (covers : TakesCover n h0 h1 place) (same : h2.end ≡ h1.end) where
  pub given_inside : IsWithin (heap_fields ++ es ++ h1.gaps) (changed_ranges es h0 h2)
  given_inside b none =
      let s = cover-append (heap_fields ++ es) (grown_range h0 h2 ∷ h0.gaps) b in let t = cover-append heap_fields es b in
      let r : cover (grown_range h0 h2 ∷ h0.gaps) b ≡ in_range (h0.end + 1) (h2.end - h0.end) b + cover h0.gaps b = refl in
      let g = grown in
      let c : in_range place n b + cover h1.gaps b ≡ in_range (h0.end + 1) (h1.end - h0.end) b + cover h0.gaps b = covers b in
      let u = cover-append (heap_fields ++ es) h1.gaps b in omega (arith, none, s, t, r, g, c, u)
    where
      grown : in_range (h0.end + 1) (h2.end - h0.end) b ≡ in_range (h0.end + 1) (h1.end - h0.end) b
      grown = ap (λ k. in_range (h0.end + 1) (k - h0.end) b) same

  pub given_in_ranges : (old new : Option (List ℕ)) → Both (ChangesOnly (heap_fields ++ es ++ h1.gaps)) old new → Both (ChangesOnly (changed_ranges es h0 h2)) old new
  given_in_ranges old new c = widened (heap_fields ++ es ++ h1.gaps) (changed_ranges es h0 h2) old new given_inside c

pub room_inside : (es : List Extent) (h0 h2 : Heap) → IsWithin (room_of h0 h2) (changed_ranges es h0 h2)
room_inside es h0 h2 b none =
    let s = cover-append (heap_fields ++ es) (grown_range h0 h2 ∷ h0.gaps) b in let t = cover-append heap_fields es b in
    let u = cover-append heap_fields (grown_range h0 h2 ∷ h0.gaps) b in omega (arith, none, s, t, u)

pub room_in_ranges : (es : List Extent) (h0 h2 : Heap) (old new : Option (List ℕ)) → Both (ChangesOnly (room_of h0 h2)) old new → Both (ChangesOnly (changed_ranges es h0 h2)) old new
room_in_ranges es h0 h2 old new c = widened (room_of h0 h2) (changed_ranges es h0 h2) old new (room_inside es h0 h2) c

pub gathered_bytes : (es : List Extent) (n place : ℕ) (h0 h1 h2 : Heap) (a c d : Option (List ℕ)) → IsHeap h0 → TakesCover n h0 h1 place → h2.end ≡ h1.end → Both (ChangesOnly (room_of h0 h1)) a c → Both (ChangesOnly (heap_fields ++ es ++ h1.gaps)) c d
    → Both (ChangesOnly (changed_ranges es h0 h2)) a d
gathered_bytes es n place h0 h1 h2 a c d is covers same first then =
    changes_then (changed_ranges es h0 h2) a c d
    (room_in_ranges es h0 h2 a c (subst (λ k. Both (ChangesOnly (heap_fields ++ grown_range h0 (record h1 { end = k }) ∷ h0.gaps)) a c) (sym same) first))
    (given_in_ranges es n place h0 h1 h2 is covers same c d then)

pub later_refused : (es : List Extent) (n place : ℕ) (h0 h1 : Heap) (ranges : List Extent) (a c : Option (List ℕ)) → IsHeap h1 → TakesCover n h0 h1 place → h0.end ≤ h1.end → Both (ChangesOnly ranges) a c → Ungivable c es h1 → Ungivable a es h0
later_refused es n place h0 h1 ranges a c is covers grows changes (inl u) = inl (untold_before ranges a c changes u)
later_refused es n place h0 h1 ranges a c is covers grows changes (inr none) = inr (λ may. none (still_may es h0 may n place h1 is covers grows))

-- the same, where the length was computed
pub long_gathered : (limit : ℕ) (table : Option ℕ) (parts : List ChunkPart) (was size place : ℕ) (now : DataPlace) (h0 h1 : Heap) (h2 : FreeSpace) → IsHeap h0 → h2.heap ≡ give_all (extents_in table parts) h1 → now.count ≡ 1 → view now.pointer ≡ To place
    → (a c d : Option (List ℕ)) (n : ℕ) → n ≡ chunk_length_for size → TakesCover n h0 h1 place → IsTakenWithin n h1 place → heap_take limit n h0 ≡ Ok (place, h1) → Both (PutsChunk parts was n place h0 h1) a c
    → Both (ChangesOnly (heap_fields ++ extents_in table parts ++ h1.gaps)) c d → IfSome d (IsThreaded h2) → Both (MovesEnd h0.end h2.heap.end) a d → Both (KeepsFillers h0.gaps h2.heap.gaps) a d → Both (GathersData limit table parts was size now h0 h2) a d
long_gathered limit table parts was size place now h0 h1 h2 is gives one points a c d n e covers within takes put changes threads end fillers =
    all_gathered limit table parts was size place now h0 h1 h2 is (subst (λ m. TakesCover m h0 h1 place) e covers) (subst (λ m. IsTakenWithin m h1 place) e within) (subst (λ m. heap_take limit m h0 ≡ Ok (place, h1)) e takes) gives one points
    a c d (subst (λ m. Both (PutsChunk parts was m place h0 h1) a c) e put) changes threads end fillers
