-- Where the rule places data of a size, and what the data are then.
use Rattle.std.proofs.Common.{◌≡◌, ◌≢◌, ◌⊎◌, inl, inr, ℕ, ◌+◌, ◌-◌, ◌<◌, ◌≤◌, arith, List, [], ◌∷◌, ◌++◌, length, take, drop, replicate, refl, sym, ◌∙◌, ap, subst, Bool, true, false}
use Rattle.std.proofs.lemmas.Bool.{cases_lt}
use Rattle.std.proofs.lemmas.Bool.Decides.{nat_tests}
use Rattle.std.proofs.lemmas.List.{append-nil, length-append, length-take, length-replicate, take-append-le, take-replicate, take_all}
use Rattle.std.proofs.Math.Seq.{take-append-add}
use Rattle.std.specs.Prelude.{Option, Some, None, IfSome, Result, Ok, Err, nat_le, nat_lt, if◌then◌else◌}
use Rattle.cg_io.specs.Blocks.{Both}
use Rattle.cg_io.proofs.BothLaws.{both_map}
use Rattle.adf_format.specs.Tiles.{cover}
use Rattle.adf_format.specs.Spelled.{pointer_to}
use Rattle.adf_format.specs.Parts.{payload, chunk_table_length}
use Rattle.adf_format.specs.Placement.{Placement, NodeParts, ChunkPart, Heap, chunk_extents, chunk_table_extents}
use Rattle.adf_format.specs.LaysOut.{chunk_pointer, payloads}
use Rattle.adf_format.specs.Changes.{heap_fields}
use Rattle.adf_format.proofs.HeapSteps.{cover-append}
use Rattle.adf_format.specs.HeapRule.{LimitReached, Taken, heap_take, give_all, chunk_length_for, with_parts, after_gives, data_extents, chunk, in_one_chunk, in_one_more, payload_length, hold, ◌>>=◌}
use Rattle.adf_model.specs.declared.error.AdfError.{AdfError}
use Rattle.adf_model.specs.Edits.{resized}
use Rattle.adf_model.specs.Selection.{written_over}
use Rattle.adf_model.specs.NodeData.{DataSpot, HoldsData, alone, spot_of, resized_spot, resized_from, grown_range}
use Rattle.disk_ptr.specs.View.{view}
use Rattle.adf_data.specs.declared.place.DataPlace.{DataPlace}
use Rattle.adf_data.specs.declared.chunks.Chunk.{Chunk}
use Rattle.adf_data.specs.Chunks.{parts_of, AreNamed, Named}
use Rattle.field_access.specs.Fields.{IsWithin}
use Rattle.file_heap.specs.Heap.{FreeSpace, IsThreaded, ChangesOnly}
use Rattle.file_heap.proofs.ChangeLaws.{widened}
use Rattle.adf_data.specs.Ranges.{AreIn, ChangesBytes}
use Rattle.adf_data.specs.Fills.{ZeroesBytes}
use Rattle.adf_data.specs.Runs.{AreApart}
use Rattle.adf_data.specs.Sizes.{extents_in, MayGiveAll, Ungivable}
use Rattle.adf_data.specs.Growing.{changed_ranges, sized_ranges, AreReady, Gathers, GathersData, Extends, ExtendsData, Grows, GrowsData, IsFullFor, AreOwn, Owns, IsSizeOf, ResizesData}
use Rattle.adf_data.proofs.KeptLaws.{once_of}
use Rattle.adf_data.proofs.DataLaws.{spelled_in}
use Rattle.adf_data.proofs.StayLaws.{chunks_once, spelled_after, table_after}
use Rattle.adf_data.proofs.PayloadLaws.{length-payloads}
use Rattle.adf_data.proofs.ReleaseLaws.{named_extents, release_refused}
use Rattle.adf_data.proofs.GatherLaws.{own_low, own_gaps}
use Rattle.adf_data.proofs.ZeroLaws.{zeroes_payloads, payloads_zeroed, changes_chunks, all_changes_chunks, heap_stays}

-- ---- the rule, by its cases

module _ (limit : ℕ) (spot : DataSpot) where
  abbrev one_chunk : ℕ → Result (ℕ × Heap) LimitReached → Result DataSpot LimitReached
  one_chunk size r =
      ((r >>= λ (t : ℕ × Heap). Ok (t.0, record (alone spot) { heap = t.1 })) >>= λ (t : Taken).
      Ok (after_gives (with_parts t.1 0 (record spot.0 { chunks = chunk t.0 (chunk_length_for size) ∷ []; chunk_table = None })) (data_extents spot.0)))
      >>= λ (q : Placement). Ok (spot_of q)

  abbrev last_table : ℕ → ℕ × Heap → Result (ℕ × Heap) LimitReached → Result DataSpot LimitReached
  last_table added c r =
      ((r >>= λ (t : ℕ × Heap). Ok (t.0, record (alone (spot.0, c.1)) { heap = t.1 })) >>= λ (t : Taken).
      Ok (after_gives (with_parts t.1 0 (record spot.0 { chunks = spot.0.chunks ++ chunk c.0 (chunk_length_for added) ∷ []; chunk_table = Some t.0 })) (chunk_table_extents spot.0.chunk_table (length spot.0.chunks))))
      >>= λ (q : Placement). Ok (spot_of q)

  pub one_placed : (size place : ℕ) (after : Heap) → heap_take limit (chunk_length_for size) spot.1 ≡ Ok (place, after)
      → (in_one_chunk limit (alone spot) 0 size >>= λ (q : Placement). Ok (spot_of q)) ≡ Ok (record spot.0 { chunks = chunk place (chunk_length_for size) ∷ []; chunk_table = None }, give_all (data_extents spot.0) after)
  one_placed size place after e = ap (one_chunk size) e

  pub one_refused : (size : ℕ) (full : LimitReached) → heap_take limit (chunk_length_for size) spot.1 ≡ Err full → (in_one_chunk limit (alone spot) 0 size >>= λ (q : Placement). Ok (spot_of q)) ≡ Err full
  one_refused size full e = ap (one_chunk size) e

  abbrev first_chunk : ℕ → Result (ℕ × Heap) LimitReached → Result DataSpot LimitReached
  first_chunk added r =
      ((r >>= λ (t : ℕ × Heap). Ok (t.0, record (alone spot) { heap = t.1 })) >>= λ (c : Taken).
      ((heap_take limit (chunk_table_length (length spot.0.chunks + 1)) c.1.heap >>= λ (t : ℕ × Heap). Ok (t.0, record c.1 { heap = t.1 })) >>= λ (t : Taken).
      Ok (after_gives (with_parts t.1 0 (record spot.0 { chunks = spot.0.chunks ++ chunk c.0 (chunk_length_for added) ∷ []; chunk_table = Some t.0 })) (chunk_table_extents spot.0.chunk_table (length spot.0.chunks)))))
      >>= λ (q : Placement). Ok (spot_of q)

  pub more_placed : (added place list : ℕ) (middle after : Heap) → heap_take limit (chunk_length_for added) spot.1 ≡ Ok (place, middle) → heap_take limit (chunk_table_length (length spot.0.chunks + 1)) middle ≡ Ok (list, after)
      → (in_one_more limit (alone spot) 0 added >>= λ (q : Placement). Ok (spot_of q))
      ≡ Ok (record spot.0 { chunks = spot.0.chunks ++ chunk place (chunk_length_for added) ∷ []; chunk_table = Some list }, give_all (chunk_table_extents spot.0.chunk_table (length spot.0.chunks)) after)
  more_placed added place list middle after e f = ap (first_chunk added) e ∙ ap (last_table added (place, middle)) f

  abbrev placed_by : List ChunkPart → ℕ → Bool → Bool → Result DataSpot LimitReached
  placed_by cs size fits few =
      (if fits then Ok (alone spot) else if few then in_one_more limit (alone spot) 0 (size - payload_length cs) else in_one_chunk limit (alone spot) 0 size) >>= λ (q : Placement). Ok (spot_of q)

  le_test : (a b : ℕ) → a ≤ b → nat_le a b ≡ true
  le_test a b le = grind (arith, nat_tests)

  le_fails : (a b : ℕ) → b < a → nat_le a b ≡ false
  le_fails a b lt = grind (arith, nat_tests)

  lt_test : (a b : ℕ) → a < b → nat_lt a b ≡ true
  lt_test a b lt = grind (arith, nat_tests)

  lt_fails : (a b : ℕ) → b ≤ a → nat_lt a b ≡ false
  lt_fails a b le = grind (arith, nat_tests)

  -- the chunks have room
  pub placed_there : (size : ℕ) (cs : List ChunkPart) → 1 ≤ size → size ≤ payload_length cs → (hold limit (alone spot) 0 size cs >>= λ (q : Placement). Ok (spot_of q)) ≡ Ok spot
  placed_there size [] some le = absurd (omega (arith, some, le))
  placed_there size (c ∷ cs) some le = ap (λ fits. placed_by (c ∷ cs) size fits (nat_lt (length (c ∷ cs)) 64)) (le_test size (payload_length (c ∷ cs)) le)

  -- they have not, and are few or many
  pub placed_once : (size : ℕ) (cs : List ChunkPart) → payload_length cs < size → (length cs ≡ 0) ⊎ (64 ≤ length cs)
      → (hold limit (alone spot) 0 size cs >>= λ (q : Placement). Ok (spot_of q)) ≡ (in_one_chunk limit (alone spot) 0 size >>= λ (q : Placement). Ok (spot_of q))
  placed_once size [] more many = refl
  placed_once size (c ∷ cs) more (inl e) = absurd (omega (arith, e))
  placed_once size (c ∷ cs) more (inr many) =
      ap (λ fits. placed_by (c ∷ cs) size fits (nat_lt (length (c ∷ cs)) 64)) (le_fails size (payload_length (c ∷ cs)) more) ∙ ap (λ few. placed_by (c ∷ cs) size false few) (lt_fails (length (c ∷ cs)) 64 many)

  pub placed_more : (size : ℕ) (cs : List ChunkPart) → payload_length cs < size → 1 ≤ length cs → length cs < 64
      → (hold limit (alone spot) 0 size cs >>= λ (q : Placement). Ok (spot_of q)) ≡ (in_one_more limit (alone spot) 0 (size - payload_length cs) >>= λ (q : Placement). Ok (spot_of q))
  placed_more size [] more some few = absurd (omega (arith, some))
  placed_more size (c ∷ cs) more some few =
      ap (λ fits. placed_by (c ∷ cs) size fits (nat_lt (length (c ∷ cs)) 64)) (le_fails size (payload_length (c ∷ cs)) more) ∙ ap (λ few. placed_by (c ∷ cs) size false few) (lt_test (length (c ∷ cs)) 64 few)

-- ---- the first bytes

pub length-resized : (xs : List ℕ) (size : ℕ) → length (resized xs size) ≡ size
length-resized xs size =
    let a = length-append (take size xs) (replicate (size - length xs) 0) in let t = length-take size xs in let r = length-replicate {A = ℕ} (size - length xs) 0 in omega (arith, a, t, r)

-- bytes and enough zeros begin with the bytes and zeros
pub zeros_behind : (xs : List ℕ) (size m : ℕ) → length xs ≤ size → size - length xs ≤ m → take size (xs ++ replicate m 0) ≡ resized xs size
zeros_behind xs size m long enough =
    let e : length xs + (size - length xs) ≡ size = omega (arith, long) in
    sym (ap (λ k. take k (xs ++ replicate m 0)) e) ∙ take-append-add xs (replicate m 0) (size - length xs)
    ∙ ap (λ t. xs ++ t) (take-replicate (size - length xs) m 0 enough) ∙ ap (λ t. t ++ replicate (size - length xs) 0) (sym (take_all size xs long))

chunk_room : (size : ℕ) → size ≤ chunk_length_for size - 20
chunk_room size = omega arith

-- ---- the two ways to grow are the rule's

module _ (limit : ℕ) (table : Option ℕ) (parts : List ChunkPart) (was size : ℕ) (now : DataPlace) (before : Heap) (later : FreeSpace) (old new : List ℕ) where
  front_long : was ≤ length (payloads old parts) → length (take was (payloads old parts)) ≡ was
  front_long le = let t = length-take was (payloads old parts) in omega (arith, t, le)

  pub gathers_grow : was ≤ size → payload_length parts < size → (length parts ≡ 0) ⊎ (64 ≤ length parts) → was ≤ length (payloads old parts) → Gathers limit table parts was size now before later old new → Grows limit table parts was size now before later old new
  gathers_grow fits more many enough g = record {
    chunks = chunk g.place (chunk_length_for size) ∷ [];
    list = None;
    placed = λ at cs t.
        ap (λ (xs : List ChunkPart). hold limit (alone (at, before)) 0 size xs >>= λ (q : Placement). Ok (spot_of q)) cs
        ∙ placed_once limit (at, before) size parts more many ∙ one_placed limit (at, before) size g.place g.between g.taken
        ∙ ap (λ (h : Heap). Ok (record at { chunks = chunk g.place (chunk_length_for size) ∷ []; chunk_table = None }, h)) (extents at cs t ∙ sym g.gives);
    some = λ e. cc;
    count = g.count;
    pointer = g.pointer;
    table_stands = omega arith;
    spelled = (g.spells, tt);
    begins =
        ap (take size) (append-nil (payload new g.place (chunk_length_for size)) ∙ g.body)
        ∙ zeros_behind (take was (payloads old parts)) size (chunk_length_for size - 20 - was) (let l = front_long enough in omega (arith, l, fits)) (let l = front_long enough in let r = chunk_room size in omega (arith, l, r));
    heap = g.heap;
  }
    where
      extents : (at : NodeParts) → at.chunks ≡ parts → at.chunk_table ≡ table → give_all (data_extents at) g.between ≡ give_all (extents_in table parts) g.between
      extents at cs t = ap (λ (xs : List ChunkPart). give_all (extents_in at.chunk_table xs) g.between) cs ∙ ap (λ (o : Option ℕ). give_all (extents_in o parts) g.between) t

  pub extends_grow : was ≤ payload_length parts → payload_length parts < size → 1 ≤ length parts → length parts < 64 → was ≤ length (payloads old parts) → Extends limit table parts was (size - payload_length parts) now before later old new → Grows limit table parts was size now before later old new
  extends_grow fits more some few enough g = record {
    chunks = parts ++ chunk g.place (chunk_length_for (size - payload_length parts)) ∷ [];
    list = Some g.list;
    placed = λ at cs t.
        ap (λ (xs : List ChunkPart). hold limit (alone (at, before)) 0 size xs >>= λ (q : Placement). Ok (spot_of q)) cs
        ∙ placed_more limit (at, before) size parts more some few
        ∙ more_placed limit (at, before) (size - payload_length parts) g.place g.list g.middle g.between g.chunk_taken (ap (λ (xs : List ChunkPart). heap_take limit (chunk_table_length (length xs + 1)) g.middle) cs ∙ g.table_taken)
        ∙ ap (λ (xs : List ChunkPart). Ok (record at { chunks = xs ++ chunk g.place (chunk_length_for (size - payload_length parts)) ∷ []; chunk_table = Some g.list }, give_all (chunk_table_extents at.chunk_table (length xs)) g.between)) cs
        ∙ ap (λ (h : Heap). Ok (record at { chunks = parts ++ chunk g.place (chunk_length_for (size - payload_length parts)) ∷ []; chunk_table = Some g.list }, h)) (ap (λ (o : Option ℕ). give_all (chunk_table_extents o (length parts)) g.between) t ∙ sym g.gives);
    some = not_nil parts (chunk g.place (chunk_length_for (size - payload_length parts)));
    count = g.count ∙ sym (length-append parts (chunk g.place (chunk_length_for (size - payload_length parts)) ∷ []));
    pointer = g.pointer;
    table_stands = g.table_stands;
    spelled = g.spelled;
    begins =
        ap (take size) g.body
        ∙ zeros_behind (take was (payloads old parts)) size (payload_length parts - was + (chunk_length_for (size - payload_length parts) - 20)) (let l = front_long enough in omega (arith, l, fits, more))
        (let l = front_long enough in let r = chunk_room (size - payload_length parts) in omega (arith, l, r, fits, more));
    heap = g.heap;
  }
    where
      not_nil : (xs : List ChunkPart) (x : ChunkPart) → xs ++ x ∷ [] ≢ []
      not_nil [] x e = cc
      not_nil (y ∷ ys) x e = cc

-- ---- zeros where the chunks have room

begins_over : (xs : List ℕ) (was size : ℕ) → was ≤ length xs → size ≤ length xs → take size (written_over xs was (replicate (size - was) 0)) ≡ resized (take was xs) size
begins_over xs was size le fits =
    take-append-le size (take was xs ++ replicate (size - was) 0) (drop (was + length (replicate {A = ℕ} (size - was) 0)) xs) (let a = length-append (take was xs) (replicate (size - was) 0) in omega (arith, a, front, zeros))
    ∙ elim (cases_lt size was) [
      | inl less ↦
          take-append-le size (take was xs) (replicate (size - was) 0) (omega (arith, front, less))
          ∙ sym (ap (λ k. take size (take was xs) ++ replicate k 0) (let z : size - length (take was xs) ≡ 0 = omega (arith, front, less) in z) ∙ append-nil (take size (take was xs)))
      | inr more ↦ zeros_behind (take was xs) size (size - was) (omega (arith, front, more)) (omega (arith, front))
    ]
  where
    front : length (take was xs) ≡ was
    front = let t = length-take was xs in omega (arith, t, le)

    zeros : length (replicate {A = ℕ} (size - was) 0) ≡ size - was
    zeros = length-replicate {A = ℕ} (size - was) 0

module _ (limit : ℕ) (table : Option ℕ) (parts : List ChunkPart) (was size : ℕ) (at : DataPlace) (space : FreeSpace) (old new : List ℕ) where
  abbrev there : NodeParts
  there = record { header = 0; table = None; chunks = parts; chunk_table = table }

  cleared : 1 ≤ size → size ≤ payload_length parts → at.count ≡ length parts → view at.pointer ≡ pointer_to (chunk_pointer parts table) → IsThreaded space old → ZeroesBytes parts was (size - was) old new → AreReady table parts was space.heap old
      → Grows limit table parts was size at space.heap space old new
  cleared some fits count pointer threads z ready = record {
    chunks = parts;
    list = table;
    placed = λ node cs t.
        ap (λ (xs : List ChunkPart). hold limit (alone (node, space.heap)) 0 size xs >>= λ (q : Placement). Ok (spot_of q)) cs ∙ placed_there limit (node, space.heap) size parts some fits
        ∙ ap (λ (xs : List ChunkPart). Ok (record node { chunks = xs }, space.heap)) cs ∙ ap (λ (o : Option ℕ). Ok (record node { chunks = parts; chunk_table = o }, space.heap)) t;
    some = λ e. let p = ap payload_length e in omega (arith, p, some, fits);
    count = count;
    pointer = pointer;
    table_stands = table_after there old new apart all (zeroes_payloads parts was (size - was) old new within z) ready.table_stands;
    spelled = spelled_after there old new apart all (zeroes_payloads parts was (size - was) old new within z) ready.spelled;
    begins =
        ap (take size) (payloads_zeroed parts was (size - was) old new (once_of parts (chunks_once there old new apart all (zeroes_payloads parts was (size - was) old new within z))) all within z)
        ∙ begins_over (payloads old parts) was size (let l = long in let e = ready.enough in omega (arith, l, e)) (let l = long in omega (arith, l, fits));
    heap = heap_stays (chunk_extents parts) space (λ b some. own_low (extents_in table parts) space.heap ready.apart b (own b some)) (λ b some. let g = own_gaps (extents_in table parts) space.heap ready.apart b in let o = own b some in omega (arith, g, o))
        old new (changes_chunks parts was (size - was) old new within z.changes) threads;
  }
    where
      all : AreIn parts old
      all = spelled_in old parts ready.spelled

      long : length (payloads old parts) ≡ payload_length parts
      long = length-payloads parts old all

      within : was + (size - was) ≤ payload_length parts
      within = let e = ready.enough in omega (arith, e, fits)

      own : (b : ℕ) → 0 < cover (chunk_extents parts) b → 0 < cover (extents_in table parts) b
      own b some = let s = cover-append (chunk_table_extents table (length parts)) (chunk_extents parts) b in omega (arith, s, some)

      apart : AreApart there
      apart b = let g = own_gaps (extents_in table parts) space.heap ready.apart b in omega (arith, g)

-- ---- what a place names

own_data : (parts : NodeParts) (was size : ℕ) (bytes : Option (List ℕ)) (image : List ℕ) → HoldsData image parts bytes → IsSizeOf was bytes → (was ≤ length (payloads image parts.chunks)) × (resized (take was (payloads image parts.chunks)) size ≡ resized_from bytes size)
own_data parts was size None image h long = (omega (arith, long), ap (λ k. resized (take k (payloads image parts.chunks)) size) long)
own_data parts was size (Some d) image h long =
    let t : length (take (length d) (payloads image parts.chunks)) ≡ length d = ap length h.begins.1 in
    ((let l = length-take (length d) (payloads image parts.chunks) in omega (arith, t, l, long)), ap (λ k. resized (take k (payloads image parts.chunks)) size) long ∙ ap (λ xs. resized xs size) h.begins.1)

module _ (at : DataPlace) (was : ℕ) (parts : NodeParts) (bytes : Option (List ℕ)) (heap : Heap) (image : List ℕ) (own : AreOwn at was parts bytes heap image) where
  pub own_named : AreNamed at parts image
  own_named = record { count = own.named.count; pointer = own.named.pointer; chunk_table = own.holds.chunk_table; chunks = own.holds.chunks }

  pub own_ready : AreReady parts.chunk_table parts.chunks was heap image
  own_ready = record {
    table_stands = own.holds.chunk_table;
    spelled = own.holds.chunks;
    enough = (let d = (own_data parts was 0 bytes image own.holds own.long).0 in let l = length-payloads parts.chunks image (spelled_in image parts.chunks own.holds.chunks) in omega (arith, d, l));
    apart = own.apart;
  }

pub owns_named : (at : DataPlace) (was : ℕ) (parts : NodeParts) (bytes : Option (List ℕ)) (heap : Heap) (image : Option (List ℕ)) → Owns at was parts bytes heap image → Named at parts image
owns_named at was parts bytes heap None own = own
owns_named at was parts bytes heap (Some image) own = own_named at was parts bytes heap image own

pub owns_apart : (at : DataPlace) (was : ℕ) (parts : NodeParts) (bytes : Option (List ℕ)) (heap : Heap) (image : Option (List ℕ)) → Owns at was parts bytes heap image → MayGiveAll (data_extents parts) heap
owns_apart at was parts bytes heap None own = absurd own
owns_apart at was parts bytes heap (Some image) own = own.apart

pub owns_enough : (at : DataPlace) (was : ℕ) (parts : NodeParts) (bytes : Option (List ℕ)) (heap : Heap) (image : Option (List ℕ)) → Owns at was parts bytes heap image → was ≤ payload_length parts.chunks
owns_enough at was parts bytes heap None own = absurd own
owns_enough at was parts bytes heap (Some image) own = (own_ready at was parts bytes heap image own).enough

-- ---- the chunks that were read

-- the chunks lie in what may change beside them
pub chunks_inside : (table : Option ℕ) (parts : List ChunkPart) (before after : Heap) → IsWithin (chunk_extents parts) (changed_ranges (extents_in table parts) before after)
chunks_inside table parts before after b none =
    let s = cover-append (heap_fields ++ extents_in table parts) (grown_range before after ∷ before.gaps) b in let t = cover-append heap_fields (extents_in table parts) b in
    let u = cover-append (chunk_table_extents table (length parts)) (chunk_extents parts) b in omega (arith, none, s, t, u)

module _ (at : DataPlace) (chunks : List Chunk) (table : Option ℕ) (first read : Option (List ℕ)) (same : read ≡ first)
    (says : (parts : NodeParts) → Named at parts first → parts_of chunks ≡ parts.chunks) (tells : (parts : NodeParts) → Named at parts first → table ≡ parts.chunk_table) (was : ℕ) (heap : Heap) where
  -- fewer bytes than the data have
  pub too_short : (have : ℕ) → have ≡ payload_length (parts_of chunks) → have < was → (parts : NodeParts) (bytes : Option (List ℕ)) → Owns at was parts bytes heap first → ⊥
  too_short have is less parts bytes own =
      let e = owns_enough at was parts bytes heap first own in let s = ap payload_length (says parts (owns_named at was parts bytes heap first own)) in omega (arith, is, less, e, s)

  pub unowned : Ungivable read (extents_in table (parts_of chunks)) heap → (parts : NodeParts) (bytes : Option (List ℕ)) → Owns at was parts bytes heap first → ⊥
  unowned u parts bytes own =
      release_refused at first (extents_in table (parts_of chunks)) heap (named_extents at chunks table first says tells) (subst (λ (i : Option (List ℕ)). Ungivable i (extents_in table (parts_of chunks)) heap) same u)
      parts (owns_named at was parts bytes heap first own) (owns_apart at was parts bytes heap first own)

  pub full_for : (limit size : ℕ) (full : LimitReached) → IsFullFor limit table (parts_of chunks) size heap full → (parts : NodeParts) (bytes : Option (List ℕ)) → Owns at was parts bytes heap first → resized_spot limit size (parts, heap) ≡ Err full
  full_for limit size full f parts bytes own = let n = owns_named at was parts bytes heap first own in f parts (sym (says parts n)) (sym (tells parts n))

  pub sized_bytes : (later : Heap) (new : Option (List ℕ)) → Both (ChangesOnly (changed_ranges (extents_in table (parts_of chunks)) heap later)) read new → (parts : NodeParts) → Named at parts first → Both (ChangesOnly (sized_ranges parts heap later)) first new
  sized_bytes later new c parts n =
      subst (λ es. Both (ChangesOnly (changed_ranges es heap later)) first new) (named_extents at chunks table first says tells parts n)
      (subst (λ (i : Option (List ℕ)). Both (ChangesOnly (changed_ranges (extents_in table (parts_of chunks)) heap later)) i new) same c)

  pub cleared_bytes : (size : ℕ) (new : Option (List ℕ)) → was + (size - was) ≤ payload_length (parts_of chunks) → Both (ChangesBytes (parts_of chunks) was (size - was)) read new → Both (ChangesOnly (changed_ranges (extents_in table (parts_of chunks)) heap heap)) read new
  cleared_bytes size new within c =
      widened (chunk_extents (parts_of chunks)) (changed_ranges (extents_in table (parts_of chunks)) heap heap) read new (chunks_inside table (parts_of chunks) heap heap) (all_changes_chunks (parts_of chunks) was (size - was) read new within c)

  resizes : (limit size : ℕ) (now : DataPlace) (later : FreeSpace) (old new : List ℕ) → first ≡ Some old → GrowsData limit table (parts_of chunks) was size now heap later old new → ResizesData limit was size at now heap later old new
  resizes limit size now later old new is grows parts bytes own = (
    record parts { chunks = g.chunks; chunk_table = g.list },
    record {
      placed = g.placed parts (sym cs) (sym t);
      named = record { count = g.count; pointer = g.pointer };
      holds = record {
        chunk_table = g.table_stands;
        chunks = g.spelled;
        begins = (g.some, ap (λ k. take k (payloads new g.chunks)) long ∙ g.begins ∙ ap (λ (xs : List ChunkPart). resized (take was (payloads old xs)) size) cs ∙ d);
      };
      threads = g.heap.threads;
      end = g.heap.end;
      fillers = g.heap.fillers;
    },
  )
    where
      named : Named at parts first
      named = subst (Named at parts) (sym is) (own_named at was parts bytes heap old own)

      cs : parts_of chunks ≡ parts.chunks
      cs = says parts named

      t : table ≡ parts.chunk_table
      t = tells parts named

      g : Grows limit table (parts_of chunks) was size now heap later old new
      g = grows (subst (λ (xs : List ChunkPart). AreReady table xs was heap old) (sym cs) (subst (λ (o : Option ℕ). AreReady o parts.chunks was heap old) (sym t) (own_ready at was parts bytes heap old own)))

      d : resized (take was (payloads old parts.chunks)) size ≡ resized_from bytes size
      d = (own_data parts was size bytes old own.holds own.long).1

      long : length (resized_from bytes size) ≡ size
      long = sym (ap length d) ∙ length-resized (take was (payloads old parts.chunks)) size

  pub all_resize : (limit size : ℕ) (now : DataPlace) (later : FreeSpace) (new : Option (List ℕ)) → Both (GrowsData limit table (parts_of chunks) was size now heap later) read new → Both (ResizesData limit was size at now heap later) first new
  all_resize limit size now later new grows = by_image first refl (subst (λ (i : Option (List ℕ)). Both (GrowsData limit table (parts_of chunks) was size now heap later) i new) same grows)
    where
      by_both : (old last : Option (List ℕ)) → first ≡ old → Both (GrowsData limit table (parts_of chunks) was size now heap later) old last → Both (ResizesData limit was size at now heap later) old last
      by_both None None is both = tt
      by_both None (Some x) is both = both
      by_both (Some o) None is both = both
      by_both (Some o) (Some x) is both = resizes limit size now later o x is both

      by_image : (old : Option (List ℕ)) → first ≡ old → Both (GrowsData limit table (parts_of chunks) was size now heap later) first new → Both (ResizesData limit was size at now heap later) first new
      by_image old is both = by_both first new refl both

-- the chunks have room
module _ (at : DataPlace) (chunks : List Chunk) (table : Option ℕ) (first read : Option (List ℕ)) (same : read ≡ first)
    (says : (parts : NodeParts) → Named at parts first → parts_of chunks ≡ parts.chunks) (tells : (parts : NodeParts) → Named at parts first → table ≡ parts.chunk_table) (was : ℕ) (space : FreeSpace) where
  pub all_cleared : (limit size : ℕ) (new : Option (List ℕ)) → 1 ≤ size → size ≤ payload_length (parts_of chunks) → IfSome first (IsThreaded space) → Both (ZeroesBytes (parts_of chunks) was (size - was)) read new
      → Both (ResizesData limit was size at at space.heap space) first new
  all_cleared limit size new some fits threads z = by_image first new refl threads (subst (λ (i : Option (List ℕ)). Both (ZeroesBytes (parts_of chunks) was (size - was)) i new) same z)
    where
      plain : (old new : List ℕ) → first ≡ Some old → IsThreaded space old → ZeroesBytes (parts_of chunks) was (size - was) old new → ResizesData limit was size at at space.heap space old new
      plain old new is threads z parts bytes own =
          resizes at chunks table first read same says tells was space.heap limit size at space old new is
          (λ ready. cleared limit table (parts_of chunks) was size at space old new some fits
          (own.named.count ∙ ap length (sym (says parts named))) (own.named.pointer ∙ ap (λ (xs : List ChunkPart). pointer_to (chunk_pointer xs parts.chunk_table)) (sym (says parts named)) ∙ ap (λ (o : Option ℕ). pointer_to (chunk_pointer (parts_of chunks) o)) (sym (tells parts named)))
          threads z ready)
          parts bytes own
        where
          named : Named at parts first
          named = subst (Named at parts) (sym is) (own_named at was parts bytes space.heap old own)

      by_image : (old new : Option (List ℕ)) → first ≡ old → IfSome old (IsThreaded space) → Both (ZeroesBytes (parts_of chunks) was (size - was)) old new → Both (ResizesData limit was size at at space.heap space) old new
      by_image None None is threads z = tt
      by_image None (Some x) is threads z = z
      by_image (Some o) None is threads z = z
      by_image (Some o) (Some x) is threads z = plain o x is threads z

same_error : {X : Type 0} (a b : AdfError) → ◌≡◌ {A = Result X AdfError} (Err a) (Err b) → a ≡ b
same_error a b e = cc

pub same_refusal : {X Y : Type 0} (a b : AdfError) → ◌≡◌ {A = Result X AdfError} (Err a) (Err b) → ◌≡◌ {A = Result Y AdfError} (Err a) (Err b)
same_refusal a b e = ap (λ (x : AdfError). Err x) (same_error a b e)

-- ---- growing, where bytes are told

pub all_gathers_grow : (limit : ℕ) (table : Option ℕ) (parts : List ChunkPart) (was size : ℕ) (now : DataPlace) (before : Heap) (later : FreeSpace) (old new : Option (List ℕ)) → was ≤ payload_length parts → payload_length parts < size → (length parts ≡ 0) ⊎ (64 ≤ length parts)
    → Both (GathersData limit table parts was size now before later) old new → Both (GrowsData limit table parts was size now before later) old new
all_gathers_grow limit table parts was size now before later old new le more many both =
    both_map (GathersData limit table parts was size now before later) (GrowsData limit table parts was size now before later) old new
    (λ o n g ready. gathers_grow limit table parts was size now before later o n (omega (arith, le, more)) more many (let l = length-payloads parts o (spelled_in o parts ready.spelled) in omega (arith, l, le)) (g ready)) both

pub all_extends_grow : (limit : ℕ) (table : Option ℕ) (parts : List ChunkPart) (was added size : ℕ) (now : DataPlace) (before : Heap) (later : FreeSpace) (old new : Option (List ℕ)) → was ≤ payload_length parts → payload_length parts < size → 1 ≤ length parts → length parts < 64
    → added ≡ size - payload_length parts → Both (ExtendsData limit table parts was added now before later) old new → Both (GrowsData limit table parts was size now before later) old new
all_extends_grow limit table parts was added size now before later old new le more some few is both =
    both_map (ExtendsData limit table parts was added now before later) (GrowsData limit table parts was size now before later) old new
    (λ o n g ready. extends_grow limit table parts was size now before later o n le more some few (let l = length-payloads parts o (spelled_in o parts ready.spelled) in omega (arith, l, le))
    (subst (λ a. Extends limit table parts was a now before later o n) is (g ready))) both
