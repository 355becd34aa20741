-- Data that are put in a new chunk, or over those that are there: what becomes of the data of a node, and why they are refused.
use Rattle.std.proofs.Common.{◌≡◌, ◌≢◌, ℕ, refl, sym, ◌∙◌, ap, subst, arith, List, [], ◌∷◌, ◌++◌, length, ◌+◌, ◌-◌, ◌*◌, ◌/◌, ◌^◌, ◌<◌, ◌≤◌, Option, None, Some}
use Rattle.std.proofs.lemmas.List.Elements.{All-weaker}
use Rattle.std.specs.Prelude.{Result, Ok, Err, IfErr, IfSome}
use Rattle.std.specs.List.{All, AllByRecursion}
use Rattle.adf_format.specs.declared.types.Extent.{Extent}
use Rattle.adf_format.specs.Changes.{heap_fields}
use Rattle.adf_format.specs.Fields.{field}
use Rattle.adf_format.specs.HeapBytes.{ChangesOnly}
use Rattle.adf_format.specs.HeapRule.{LimitReached, heap_take, chunk_length_for, data_extents}
use Rattle.adf_format.specs.LaysOut.{HasChunkTable, HasData}
use Rattle.adf_format.specs.Names.{data_size}
use Rattle.adf_format.specs.Parts.{SpellsChunk}
use Rattle.adf_format.specs.Placement.{Heap, NodeParts, ChunkPart, chunk_extents, chunk_table_extents}
use Rattle.adf_format.specs.Tiles.{cover}
use Rattle.adf_format.proofs.HeapSteps.{cover-append}
use Rattle.adf_format.proofs.ReachedLaws.{more_changes}
use Rattle.adf_model.specs.declared.error.AdfError.{AdfError}
use Rattle.adf_model.specs.declared.error.AdfError.TheVariants as error
use Rattle.adf_model.specs.declared.lists.Run.{Run}
use Rattle.adf_model.specs.NodeData.{DataSpot, resized_spot, grown_range}
use Rattle.adf_model.specs.Selection.{with_elements}
use Rattle.adf_model.proofs.Creation.PartsApart.{range_within}
use Rattle.adf_records.specs.declared.NodeHeader.{NodeHeader}
use Rattle.adf_data.specs.declared.place.DataPlace.{DataPlace}
use Rattle.adf_data.specs.Chunks.{AreNamed}
use Rattle.adf_data.specs.Growing.{AreOwn, IsFullFor, PutsData, room_of, sized_ranges}
use Rattle.adf_data.specs.Runs.{EndsIn, WritesElements, ChangesDataAlone, NoRuns, payload_extents}
use Rattle.adf_data.proofs.RoomLaws.{before_all}
use Rattle.adf_data.proofs.SizeLaws.{own_ready, placed_there, one_placed, one_refused}
use Rattle.cg_io.specs.Answers.{IsUntold}
use Rattle.cg_io.specs.Blocks.{Both}
use Rattle.file_heap.specs.Beside.{AreBeside}
use Rattle.file_heap.specs.Heap.{FreeSpace, IsHeap, IsThreaded, IsTakeRefusal}
use Rattle.file_heap.proofs.Beside.{all_lists_stay, ends_stay, all_fillers_stay}
use Rattle.file_heap.proofs.Ranges.{cover_kinds}
use Rattle.strided.specs.RunLists.{spread}
use Rattle.tree_asks.specs.Headers.{dims_of}
use Rattle.tree_edits.specs.Taken.{IsRoomless}
use Rattle.data_edits.specs.Becomes.{OwnsData, Owned, NoneOwned, Becomes, BecomeBy, place_in, spot_after}
use Rattle.data_edits.specs.Puts.{KeepsLength, LacksData, put_cost, put_on}
use Rattle.data_edits.proofs.Reshaping.{own_named, roomless}

-- ---- no data

module _ (h : NodeHeader) (none : h.chunks ≡ 0) (parts : NodeParts) (bytes : Option (List ℕ)) (heap : Heap) (image : List ℕ) (own : OwnsData h parts bytes heap image) where
  no_chunks : parts.chunks ≡ []
  no_chunks = by_chunks parts.chunks (sym own.named.count ∙ none)
    where
      by_chunks : (cs : List ChunkPart) → length cs ≡ 0 → cs ≡ []
      by_chunks [] e = refl
      by_chunks (c ∷ cs) e = absurd (omega (arith, e))

  no_table : parts.chunk_table ≡ None
  no_table = by_table parts.chunk_table own.holds.chunk_table
    where
      by_table : (o : Option ℕ) → HasChunkTable image parts.chunks o → o ≡ None
      by_table None t = refl
      by_table (Some place) t = absurd (let e = ap length no_chunks in let two = t.0 in omega (arith, e, two))

  no_bytes : bytes ≡ None
  no_bytes = by_bytes bytes own.holds.begins
    where
      by_bytes : (o : Option (List ℕ)) → HasData image parts.chunks o → o ≡ None
      by_bytes None d = refl
      by_bytes (Some b) d = absurd (d.0 no_chunks)

-- ---- data that are put in a new chunk

module _ (limit : ℕ) (text : List ℕ) (h : NodeHeader) (none : h.chunks ≡ 0) (change : Option (List ℕ) → Option (List ℕ)) (makes : change None ≡ Some text) where
  wanted : (parts : NodeParts) (bytes : Option (List ℕ)) (heap : Heap) (image : List ℕ) → OwnsData h parts bytes heap image → change bytes ≡ Some text
  wanted parts bytes heap image own = ap change (no_bytes h none parts bytes heap image own) ∙ makes

  module _ (now : DataPlace) (before : Heap) (later : FreeSpace) (is : IsHeap later.heap) where
    new_at : (old new : List ℕ) → PutsData limit text now before later old new → ChangesOnly (room_of before later.heap) old new → BecomeBy limit change h now before later old new
    new_at old new puts changes parts bytes own =
        let d = puts parts (no_chunks h none parts bytes before old own) (no_table h none parts bytes before old own) in
        subst (λ o. Becomes limit o parts now before later old new) (sym (wanted parts bytes before old own)) (record {
          after = d.0;
          placed = d.1.placed;
          named = d.1.named;
          holds = d.1.holds;
          changes = more_changes (room_of before later.heap) (sized_ranges parts before later.heap) old new (λ b free.
              let x = cover-append heap_fields (data_extents parts ++ grown_range before later.heap ∷ before.gaps) b in
              let y = cover-append (data_extents parts) (grown_range before later.heap ∷ before.gaps) b in
              let z = cover-append heap_fields (grown_range before later.heap ∷ before.gaps) b in
              omega (arith, x, y, z, free)) changes;
          order = is.order;
          threads = d.1.heap.threads;
          end = d.1.heap.end;
          fillers = d.1.heap.fillers;
        })

    pub new_become : (old new : Option (List ℕ)) → Both (PutsData limit text now before later) old new → Both (ChangesOnly (room_of before later.heap)) old new → Both (BecomeBy limit change h now before later) old new
    new_become None None puts changes = tt
    new_become None (Some new) puts changes = absurd puts
    new_become (Some old) None puts changes = absurd puts
    new_become (Some old) (Some new) puts changes = new_at old new puts changes

  pub new_full : (held : Option (List ℕ)) (heap : Heap) (size : ℕ) (full : LimitReached) → size ≡ length text → IsFullFor limit None [] size heap full → (parts : NodeParts) (bytes : Option (List ℕ)) → Owned h parts bytes heap held
      → spot_after limit (change bytes) (parts, heap) ≡ Err full
  new_full None heap size full long is parts bytes own = absurd own
  new_full (Some image) heap size full long is parts bytes own =
      ap (λ o. spot_after limit o (parts, heap)) (wanted parts bytes heap image own)
      ∙ ap (λ n. resized_spot limit n (parts, heap)) (sym long)
      ∙ is parts (no_chunks h none parts bytes heap image own) (no_table h none parts bytes heap image own)

-- parts without chunks
abbrev nowhere : NodeParts
nowhere = record { header = 0; table = None; chunks = []; chunk_table = None }

-- the rule refuses a size where there are no chunks, as the heap refuses one of them
pub chunk_refused : (limit size : ℕ) (heap : Heap) (full : LimitReached) → IsFullFor limit None [] size heap full → heap_take limit (chunk_length_for size) heap ≡ Err full
chunk_refused limit size heap full is = by_take (heap_take limit (chunk_length_for size) heap) refl
  where
    said : resized_spot limit size (nowhere, heap) ≡ Err full
    said = is nowhere refl refl

    same_full : (a b : LimitReached) → ◌≡◌ {A = Result DataSpot LimitReached} (Err a) (Err b) → ◌≡◌ {A = Result (ℕ × Heap) LimitReached} (Err a) (Err b)
    same_full a b e = cc

    never : (spot : DataSpot) → ◌≡◌ {A = Result DataSpot LimitReached} (Ok spot) (Err full) → ⊥
    never spot e = cc

    by_take : (r : Result (ℕ × Heap) LimitReached) → heap_take limit (chunk_length_for size) heap ≡ r → r ≡ Err full
    by_take (Ok t) e = absurd (never _ (sym (one_placed limit (nowhere, heap) size t.0 t.1 e) ∙ said))
    by_take (Err other) e = same_full other full (sym (one_refused limit (nowhere, heap) size other e) ∙ said)

pub lacks_chunk : (limit size : ℕ) (h : NodeHeader) (heap : Heap) (asked end : ℕ) → h.chunks ≡ 0 → size ≡ data_size h.kind (dims_of h) → IsFullFor limit None [] size heap (record { asked = asked; end = end }) → LacksData limit h heap asked end
lacks_chunk limit size h heap asked end none size_is is = (none, subst (λ n. heap_take limit (chunk_length_for n) heap ≡ Err (record { asked = asked; end = end })) size_is (chunk_refused limit size heap (record { asked = asked; end = end }) is))

-- bytes that are not told name no data
pub untold_none : (h : NodeHeader) (heap : Heap) (held : Option (List ℕ)) → IsUntold held → NoneOwned h heap held
untold_none h heap None u parts bytes own = absurd own
untold_none h heap (Some image) u parts bytes own = absurd u

-- ---- data that are written over those that are there

-- the payloads lie in their chunks
pub payload_in : (image : List ℕ) (chunks : List ChunkPart) → AllByRecursion (λ (c : ChunkPart). SpellsChunk (field image c.place c.length) c.place c.length) chunks → (k : ℕ) → cover (payload_extents chunks) k ≤ cover (chunk_extents chunks) k
payload_in image [] all k = omega arith
payload_in image (c ∷ cs) all k =
    let one = range_within c.place c.length (c.place + 16) (c.length - 20) k (omega arith) (let l = all.0.long in omega (arith, l)) in
    let more = payload_in image cs all.1 k in omega (arith, one, more)

some_data : (h : NodeHeader) (parts : NodeParts) (bytes : Option (List ℕ)) (heap : Heap) (image : List ℕ) → h.chunks ≢ 0 → OwnsData h parts bytes heap image → (b : List ℕ) × (bytes ≡ Some b)
some_data h parts None heap image there own = absurd (there (own.named.count ∙ ap length own.holds.begins))
some_data h parts (Some b) heap image there own = (b, refl)

module _ (limit size element : ℕ) (runs : List Run) (given : List ℕ) (h : NodeHeader) (there : h.chunks ≢ 0) (size_is : size ≡ data_size h.kind (dims_of h)) (some : 1 ≤ size) (ends : All (EndsIn element size) runs) where
  module _ (keeps : KeepsLength size element (spread runs) given) (space : FreeSpace) (is : IsHeap space.heap) (old : List ℕ) (threads : IsThreaded space old) (parts : NodeParts) (b : List ℕ) (own : OwnsData h parts (Some b) space.heap old) where
    long : length b ≡ size
    long = own.long ∙ sym size_is

    named : AreNamed (place_in h) parts old
    named = own_named h parts (Some b) space.heap old own

    abbrev ranges : List Extent
    ranges = payload_extents parts.chunks

    -- no byte is in two of the chunks, the table and the gaps, and all stand behind the free table
    one_each : (k : ℕ) → cover (data_extents parts) k + cover space.heap.gaps k ≤ 1
    one_each k = let one = own.apart.once k in let s = cover-append (data_extents parts) space.heap.gaps k in omega (arith, one, s)

    in_data : (k : ℕ) → cover ranges k ≤ cover (data_extents parts) k
    in_data k =
        let p = payload_in old parts.chunks own.holds.chunks k in
        let s = cover-append (chunk_table_extents parts.chunk_table (length parts.chunks)) (chunk_extents parts.chunks) k in omega (arith, p, s)

    none_before : (k : ℕ) → k < 266 → cover ranges k ≡ 0
    none_before k lt = let a = in_data k in let z = before_all (data_extents parts) space.heap.end k own.apart.within lt in omega (arith, a, z)

    none_in_gaps : (k : ℕ) → 0 < cover space.heap.gaps k → cover ranges k ≡ 0
    none_in_gaps k some_gap = let a = in_data k in let one = one_each k in omega (arith, a, one, some_gap)

    beside : AreBeside ranges space.heap.gaps
    beside = record {
      table = λ k low high. none_before k (omega (arith, high));
      chunks = λ k some_gap. none_in_gaps k (let kinds = cover_kinds k space.heap.gaps in omega (arith, kinds, some_gap));
    }

    room : AreOwn (place_in h) size parts (Some b) space.heap old
    room = record { named = own.named; holds = own.holds; long = sym long; apart = own.apart }

    over_here : (new : List ℕ) → WritesElements (place_in h) element runs given old new → ChangesDataAlone (place_in h) old new → Becomes limit (Some (with_elements element (spread runs) given b)) parts (place_in h) space.heap space old new
    over_here new w alone =
        let c = alone parts named in record {
          after = parts;
          placed = ap (λ n. resized_spot limit n (parts, space.heap)) (keeps b long)
              ∙ placed_there limit (parts, space.heap) size parts.chunks some (own_ready (place_in h) size parts (Some b) space.heap old room).enough;
          named = own.named;
          holds = w parts b own.named own.holds (λ k. let one = one_each k in omega (arith, one)) (subst (λ n. All (EndsIn element n) runs) (sym long) ends);
          changes = more_changes ranges (sized_ranges parts space.heap space.heap) old new (λ k none.
              let x = cover-append heap_fields (data_extents parts ++ grown_range space.heap space.heap ∷ space.heap.gaps) k in
              let y = cover-append (data_extents parts) (grown_range space.heap space.heap ∷ space.heap.gaps) k in
              let p = in_data k in
              omega (arith, x, y, p, none)) c;
          order = is.order;
          threads = all_lists_stay ranges space (Some old) (Some new) c beside threads;
          end = λ points. ends_stay ranges space space.heap.end (Some old) (Some new) c (λ k low high. none_before k (omega (arith, high))) threads points;
          fillers = λ held. all_fillers_stay ranges space.heap.gaps (Some old) (Some new) c (λ k some_gap. none_in_gaps k (let kinds = cover_kinds k space.heap.gaps in omega (arith, kinds, some_gap))) held;
        }

  module _ (keeps : KeepsLength size element (spread runs) given) (space : FreeSpace) (is : IsHeap space.heap) where
    pub over_become : (old new : Option (List ℕ)) → IfSome old (IsThreaded space) → Both (WritesElements (place_in h) element runs given) old new → Both (ChangesDataAlone (place_in h)) old new → Both (BecomeBy limit (put_on size element (spread runs) given) h (place_in h) space.heap space) old new
    over_become None None threads w alone = tt
    over_become None (Some new) threads w alone = absurd w
    over_become (Some old) None threads w alone = absurd w
    over_become (Some old) (Some new) threads w alone = λ parts bytes own. by_bytes parts bytes own (some_data h parts bytes space.heap old there own)
      where
        by_bytes : (parts : NodeParts) (bytes : Option (List ℕ)) → OwnsData h parts bytes space.heap old → (b : List ℕ) × (bytes ≡ Some b) → Becomes limit (put_on size element (spread runs) given bytes) parts (place_in h) space.heap space old new
        by_bytes parts None own some_b = cc
        by_bytes parts (Some b) own some_b = over_here keeps space is old threads parts b own new w alone

  -- what is refused there is refused of the data
  pub over_none : (heap : Heap) (held : Option (List ℕ)) → NoRuns (place_in h) element runs held → NoneOwned h heap held
  over_none heap None none parts bytes own = absurd own
  over_none heap (Some image) none parts bytes own = by_bytes bytes own (some_data h parts bytes heap image there own)
    where
      by_bytes : (bytes : Option (List ℕ)) → OwnsData h parts bytes heap image → (b : List ℕ) × (bytes ≡ Some b) → ⊥
      by_bytes None own some_b = cc
      by_bytes (Some b) own some_b = none parts b (own.named, own.holds) (subst (λ n. All (EndsIn element n) runs) (size_is ∙ sym own.long) ends)

-- runs that end within a size of at most 2^30
pub small_ends : (element size : ℕ) (runs : List Run) → size ≤ 2 ^ 30 → All (EndsIn element size) runs → All (EndsIn element (2 ^ 30)) runs
small_ends element size runs small all = All-weaker (EndsIn element size) (EndsIn element (2 ^ 30)) (λ run ends. omega (arith, ends, small)) runs all

-- a refusal of a call that takes
pub takes_room : {T : Type 0} (Lacks : ℕ → ℕ → Type 0) (P Q : Type 0) (r : Result T AdfError) (before now : ℕ) → (P → Q) → ((asked end : ℕ) → r ≡ Err (error.Full asked end) → Lacks asked end) → IfErr r (IsTakeRefusal P before now) → IfErr r (IsRoomless Lacks Q before now)
takes_room Lacks P Q (Ok x) before now to full c = tt
takes_room Lacks P Q (Err e) before now to full c = roomless Lacks P Q (Err e) before now e refl to full c

-- ---- how many blocks wait

pub new_pays : (h : NodeHeader) (size before now : ℕ) → size ≡ data_size h.kind (dims_of h) → now ≤ before + (size / 4096 + 12) → now + 2 ≤ before + put_cost h
new_pays h size before now e le = omega (arith, e, le)

pub over_pays : (h : NodeHeader) (size before now : ℕ) → size ≡ data_size h.kind (dims_of h) → now ≤ before + (size / 4096 + 2 * h.chunks) → now + 2 ≤ before + put_cost h
over_pays h size before now e le = omega (arith, e, le)

-- ---- all data

-- data that become these whatever they were become what these make of them
pub become_same : (limit size : ℕ) (one other : Option (List ℕ) → Option (List ℕ)) (h : NodeHeader) (at : DataPlace) (before : Heap) (later : FreeSpace) (old new : Option (List ℕ))
    → size ≡ data_size h.kind (dims_of h) → ((bytes : Option (List ℕ)) → IfSome bytes (λ (b : List ℕ). length b ≡ size) → one bytes ≡ other bytes)
    → Both (BecomeBy limit one h at before later) old new → Both (BecomeBy limit other h at before later) old new
become_same limit size one other h at before later None None size_is same b = tt
become_same limit size one other h at before later None (Some new) size_is same b = absurd b
become_same limit size one other h at before later (Some old) None size_is same b = absurd b
become_same limit size one other h at before later (Some old) (Some new) size_is same b = λ parts bytes own.
    subst (λ o. Becomes limit o parts at before later old new) (same bytes (subst (λ n. IfSome bytes (λ (x : List ℕ). length x ≡ n)) (sym size_is) own.long)) (b parts bytes own)
