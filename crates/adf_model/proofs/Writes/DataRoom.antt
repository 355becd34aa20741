-- The chunks and the gaps after a change of data are the bytes of those before, and those by which the end grew.
use Rattle.std.proofs.Common.{◌≡◌, inl, inr, ℕ, refl, ◌∙◌, ap, subst, arith, List, [], ◌∷◌, ◌++◌, length, length-append, ◌+◌, ◌-◌, ◌<◌, ◌≤◌, Bool, true, false}
use Rattle.std.proofs.lemmas.Bool.Decides.{leb_tells, nat_tests}
use Rattle.std.specs.Prelude.{Some, None, Result, Ok, Err, nat_le, nat_lt, if◌then◌else◌}
use Rattle.adf_format.specs.declared.types.Extent.{Extent}
use Rattle.adf_format.specs.Tiles.{cover}
use Rattle.adf_format.specs.Parts.{chunk_table_length}
use Rattle.adf_format.specs.Placement.{Placement, NodeParts, ChunkPart, Heap, chunk_table_extents, chunk_extents}
use Rattle.adf_format.specs.HeapRule.{LimitReached, Taken, heap_take, heap_give, give_all, chunk_length_for, with_parts, after_gives, data_extents, chunk, in_one_chunk, in_one_more, payload_length, hold, ◌>>=◌}
use Rattle.adf_format.proofs.HeapLaws.{in_range, join_range, cover-give_joined}
use Rattle.adf_format.proofs.HeapSteps.{cover-append, cover-take, take_end}
use Rattle.adf_model.specs.NodeData.{DataSpot, alone, spot_of, resized_spot, released_spot, grown_range, SharesRoom}

-- ---- gifts

pub cover-give_all : (es : List Extent) (heap : Heap) (b : ℕ) → cover (give_all es heap).gaps b ≡ cover es b + cover heap.gaps b
cover-give_all [] heap b = omega arith
cover-give_all (e ∷ es) heap b =
    let rest = cover-give_all es (heap_give e.place e.length heap) b in
    let one = cover-give_joined e.place e.length heap.gaps b in
    omega (arith, rest, one)

pub end-give_all : (es : List Extent) (heap : Heap) → (give_all es heap).end ≡ heap.end
end-give_all [] heap = refl
end-give_all (e ∷ es) heap = end-give_all es (heap_give e.place e.length heap)

-- ---- where a size is given

abbrev Room : DataSpot → DataSpot → Type 0
Room spot after = (spot.1.end ≤ after.1.end) × SharesRoom spot after

same_Ok : {A : Type 0} (a b : A) → ◌≡◌ {A = Result A LimitReached} (Ok a) (Ok b) → a ≡ b
same_Ok a b e = cc

no_Err : {A : Type 0} {P : Type 0} (e : LimitReached) (a : A) → ◌≡◌ {A = Result A LimitReached} (Err e) (Ok a) → P
no_Err e a h = cc

module _ (limit : ℕ) (spot : DataSpot) where
  -- the parts with all data in one new chunk, and with one more
  abbrev in_one : ℕ → ℕ → NodeParts
  in_one size place = record spot.0 { chunks = chunk place (chunk_length_for size) ∷ []; chunk_table = None }

  abbrev with_more : ℕ → ℕ → ℕ → NodeParts
  with_more added place table = record spot.0 { chunks = spot.0.chunks ++ chunk place (chunk_length_for added) ∷ []; chunk_table = Some table }

  abbrev old_table : List Extent
  old_table = chunk_table_extents spot.0.chunk_table (length spot.0.chunks)

  grown_by : (es : List Extent) (heap : Heap) (b : ℕ) → cover (grown_range spot.1 (give_all es heap) ∷ []) b ≡ in_range (spot.1.end + 1) (heap.end - spot.1.end) b + 0
  grown_by es heap b = ap (λ n. in_range (spot.1.end + 1) (n - spot.1.end) b + 0) (end-give_all es heap)

  one_room : (size place : ℕ) (heap : Heap) → heap_take limit (chunk_length_for size) spot.1 ≡ Ok (place, heap) → Room spot (in_one size place, give_all (data_extents spot.0) heap)
  one_room size place heap e = (
    (let up = take_end limit (chunk_length_for size) spot.1 place heap e in let same = end-give_all (data_extents spot.0) heap in omega (arith, up, same)),
    λ b.
        let now = cover-append (data_extents (in_one size place)) (give_all (data_extents spot.0) heap).gaps b in
        let before = cover-append (data_extents spot.0) spot.1.gaps b in
        let given = cover-give_all (data_extents spot.0) heap b in
        let taken = cover-take limit (chunk_length_for size) spot.1 place heap e b in
        let grown = grown_by (data_extents spot.0) heap b in
        omega (arith, now, before, given, taken, grown),
  )

  chunks_and : (xs : List ChunkPart) (c : ChunkPart) (b : ℕ) → cover (chunk_extents (xs ++ c ∷ [])) b ≡ cover (chunk_extents xs) b + in_range c.place c.length b
  chunks_and [] c b = omega arith
  chunks_and (x ∷ xs) c b = let rest = chunks_and xs c b in omega (arith, rest)

  more_room : (added place table : ℕ) (between heap : Heap) → heap_take limit (chunk_length_for added) spot.1 ≡ Ok (place, between) → heap_take limit (chunk_table_length (length spot.0.chunks + 1)) between ≡ Ok (table, heap)
      → Room spot (with_more added place table, give_all old_table heap)
  more_room added place table between heap e f =
      let up = take_end limit (chunk_length_for added) spot.1 place between e in
      let again = take_end limit (chunk_table_length (length spot.0.chunks + 1)) between table heap f in (
        (let same = end-give_all old_table heap in omega (arith, up, again, same)),
        λ b.
            let now = cover-append (data_extents (with_more added place table)) (give_all old_table heap).gaps b in
            let parts = cover-append (chunk_table_extents (Some table) (length (spot.0.chunks ++ chunk place (chunk_length_for added) ∷ []))) (chunk_extents (spot.0.chunks ++ chunk place (chunk_length_for added) ∷ [])) b in
            let long : in_range table (chunk_table_length (length (spot.0.chunks ++ chunk place (chunk_length_for added) ∷ []))) b ≡ in_range table (chunk_table_length (length spot.0.chunks + 1)) b =
            ap (λ n. in_range table (chunk_table_length n) b) (length-append spot.0.chunks (chunk place (chunk_length_for added) ∷ [])) in
            let each = chunks_and spot.0.chunks (chunk place (chunk_length_for added)) b in
            let before = cover-append (data_extents spot.0) spot.1.gaps b in
            let split = cover-append old_table (chunk_extents spot.0.chunks) b in
            let given = cover-give_all old_table heap b in
            let first = cover-take limit (chunk_length_for added) spot.1 place between e b in
            let second = cover-take limit (chunk_table_length (length spot.0.chunks + 1)) between table heap f b in
            let grown = grown_by old_table heap b in
            let row : in_range (spot.1.end + 1) (heap.end - spot.1.end) b ≡ in_range (spot.1.end + 1) (between.end - spot.1.end) b + in_range (between.end + 1) (heap.end - between.end) b =
            ap (λ n. in_range (spot.1.end + 1) n b) (omega (arith, up, again))
            ∙ join_range (spot.1.end + 1) (between.end - spot.1.end) (heap.end - between.end) b
            ∙ ap (λ n. in_range (spot.1.end + 1) (between.end - spot.1.end) b + in_range n (heap.end - between.end) b) (omega (arith, up)) in
            omega (arith, now, parts, long, each, before, split, given, first, second, grown, row),
      )

  kept_room : Room spot spot
  kept_room = (omega arith, λ b. let none : in_range (spot.1.end + 1) (spot.1.end - spot.1.end) b ≡ 0 = nothing (spot.1.end + 1) (spot.1.end - spot.1.end) b (omega arith) in omega (arith, none))
    where
      nothing : (p n b : ℕ) → n ≡ 0 → in_range p n b ≡ 0
      nothing p n b e = grind (arith, nat_tests)

  -- ---- by the cases of the rule

  abbrev spot_after : Result Placement LimitReached → Result DataSpot LimitReached
  spot_after r = r >>= λ (q : Placement). Ok (spot_of q)

  by_one : (size : ℕ) (after : DataSpot) → spot_after (in_one_chunk limit (alone spot) 0 size) ≡ Ok after → Room spot after
  by_one size after = go (heap_take limit (chunk_length_for size) spot.1) refl
    where
      go : (r : Result (ℕ × Heap) LimitReached) → heap_take limit (chunk_length_for size) spot.1 ≡ r
          → spot_after ((r >>= λ (t : ℕ × Heap). Ok (t.0, record (alone spot) { heap = t.1 })) >>= λ (t : Taken). Ok (after_gives (with_parts t.1 0 (in_one size t.0)) (data_extents spot.0))) ≡ Ok after → Room spot after
      go (Err full) e h = no_Err full after h
      go (Ok t) e h = subst (Room spot) (same_Ok (in_one size t.0, give_all (data_extents spot.0) t.1) after h) (one_room size t.0 t.1 e)

  by_more : (added : ℕ) (after : DataSpot) → spot_after (in_one_more limit (alone spot) 0 added) ≡ Ok after → Room spot after
  by_more added after = go (heap_take limit (chunk_length_for added) spot.1) refl
    where
      then_table : (c : ℕ × Heap) → heap_take limit (chunk_length_for added) spot.1 ≡ Ok c → (r : Result (ℕ × Heap) LimitReached) → heap_take limit (chunk_table_length (length spot.0.chunks + 1)) c.1 ≡ r
          → spot_after ((r >>= λ (t : ℕ × Heap). Ok (t.0, record (alone spot) { heap = t.1 })) >>= λ (t : Taken). Ok (after_gives (with_parts t.1 0 (with_more added c.0 t.0)) old_table)) ≡ Ok after → Room spot after
      then_table c e (Err full) f h = no_Err full after h
      then_table c e (Ok t) f h = subst (Room spot) (same_Ok (with_more added c.0 t.0, give_all old_table t.1) after h) (more_room added c.0 t.0 c.1 t.1 e f)

      go : (r : Result (ℕ × Heap) LimitReached) → heap_take limit (chunk_length_for added) spot.1 ≡ r
          → spot_after ((r >>= λ (t : ℕ × Heap). Ok (t.0, record (alone spot) { heap = t.1 })) >>= λ (c : Taken).
          ((heap_take limit (chunk_table_length (length spot.0.chunks + 1)) c.1.heap >>= λ (t : ℕ × Heap). Ok (t.0, record c.1 { heap = t.1 })) >>= λ (t : Taken). Ok (after_gives (with_parts t.1 0 (with_more added c.0 t.0)) old_table)))
          ≡ Ok after → Room spot after
      go (Err full) e h = no_Err full after h
      go (Ok c) e h = then_table c e (heap_take limit (chunk_table_length (length spot.0.chunks + 1)) c.1) refl h

  by_chunks : (size : ℕ) (chunks : List ChunkPart) (after : DataSpot) → spot_after (hold limit (alone spot) 0 size chunks) ≡ Ok after → Room spot after
  by_chunks size [] after h = by_one size after h
  by_chunks size (c ∷ cs) after h = go (nat_le size (payload_length (c ∷ cs))) (nat_lt (length (c ∷ cs)) 64) h
    where
      go : (fits few : Bool) → spot_after (if fits then Ok (alone spot) else if few then in_one_more limit (alone spot) 0 (size - payload_length (c ∷ cs)) else in_one_chunk limit (alone spot) 0 size) ≡ Ok after → Room spot after
      go true few k = subst (Room spot) (same_Ok spot after k) kept_room
      go false true k = by_more (size - payload_length (c ∷ cs)) after k
      go false false k = by_one size after k

pub resized_room : (limit size : ℕ) (spot after : DataSpot) → resized_spot limit size spot ≡ Ok after → Room spot after
resized_room limit size spot after h = by_chunks limit spot size spot.0.chunks after h

-- ---- and where they become none

pub released_room : (spot : DataSpot) → ((released_spot spot).1.end ≡ spot.1.end) × SharesRoom spot (released_spot spot)
released_room spot = (
  end-give_all (data_extents spot.0) spot.1,
  λ b.
      let before = cover-append (data_extents spot.0) spot.1.gaps b in
      let given = cover-give_all (data_extents spot.0) spot.1 b in
      let grown = grown_by 0 spot (data_extents spot.0) spot.1 b in
      let none = (kept_room 0 spot).1 b in
      omega (arith, before, given, grown, none),
)

-- none is in two of them
pub room_apart : (spot after : DataSpot) → SharesRoom spot after → ((b : ℕ) → cover (data_extents spot.0 ++ spot.1.gaps) b ≤ 1)
    → ((b : ℕ) → spot.1.end < b → cover (data_extents spot.0 ++ spot.1.gaps) b ≡ 0) → (b : ℕ) → cover (data_extents after.0 ++ after.1.gaps) b ≤ 1
room_apart spot after shares once inside b = elim (leb_tells b spot.1.end) [
  | inl up ↦ (let s = shares b in let o = once b in let z = below (spot.1.end + 1) (after.1.end - spot.1.end) b (omega (arith, up)) in omega (arith, s, o, z))
  | inr behind ↦ (let s = shares b in let z = inside b (omega (arith, behind)) in let m = most (spot.1.end + 1) (after.1.end - spot.1.end) b in omega (arith, s, z, m))
]
  where
    below : (p n b : ℕ) → b < p → in_range p n b ≡ 0
    below p n b h = grind (arith, nat_tests)

    most : (p n b : ℕ) → in_range p n b ≤ 1
    most p n b = grind (arith, nat_tests)
