-- An edit takes ranges of the heap, and then gives others.
use Rattle.std.proofs.Common.{◌≡◌, ℕ, zero, suc, refl, sym, ◌∙◌, ap, subst, arith, Bool, true, false, List, [], ◌∷◌, ◌++◌, length, get_or, ◌+◌, ◌-◌, ◌<◌}
use Rattle.std.proofs.lemmas.List.{length-append}
use Rattle.std.specs.Prelude.{Option, Some, None, is_some, slice_set, Result, Ok, Err, if◌then◌else◌, ◌==◌, nat_lt, nat_le}
use Rattle.std.specs.List.{flat_map}
use Rattle.adf_format.specs.declared.types.Extent.{Extent}
use Rattle.adf_format.specs.declared.types.ExtentKind.{ExtentKind}
use Rattle.adf_format.specs.Tree.{Tree, children_at, erased_from}
use Rattle.adf_format.specs.Tiles.{cover}
use Rattle.adf_format.specs.Parts.{node_length, table_length, chunk_table_length}
use Rattle.adf_format.specs.Placement.{Placement, NodeParts, TablePart, ChunkPart, Heap, extent, parts_of, extents_of, node_extents, live_extents, table_extents, chunk_table_extents, chunk_extents}
use Rattle.adf_format.specs.LaysOut.{entry_count}
use Rattle.adf_format.specs.HeapRule.{LimitReached, Taken, GrownTable, heap_take, heap_give, give_all, after_gives, take_bytes, parts_or_none, parts_at, with_parts, with_table, grow_table, grown_entries, chunk, chunk_length_for, payload_length, data_extents, in_one_chunk, in_one_more, hold, place_data, ◌>>=◌}
use Rattle.adf_format.proofs.BehindEnd.{AllLong, long_append, long_chunk_table}
use Rattle.adf_format.proofs.HeapLaws.{in_range}
use Rattle.adf_format.proofs.HeapSteps.{cover-append}
use Rattle.adf_model.proofs.Basics.{not_true, not_Err, same_Ok}
use Rattle.adf_model.proofs.Creation.PartsApart.{cover_set}
use Rattle.tree_laws.specs.Placed.{TakesAll, TakesThenGives}

-- ---- ranges with bytes

long_left : (xs ys : List Extent) → AllLong (xs ++ ys) → AllLong xs
long_left [] ys h = tt
long_left (x ∷ xs) ys h = (h.0, long_left xs ys h.1)

long_right : (xs ys : List Extent) → AllLong (xs ++ ys) → AllLong ys
long_right [] ys h = h
long_right (x ∷ xs) ys h = long_right xs ys h.1

module _ (f : Option NodeParts → List Extent) where
  long_at : (xs : List (Option NodeParts)) (k : ℕ) → k < length xs → AllLong (flat_map f xs) → AllLong (f (get_or xs k None))
  long_at [] k lt h = absurd (omega (arith, lt))
  long_at (x ∷ xs) zero lt h = long_left (f x) (flat_map f xs) h
  long_at (x ∷ xs) (suc k) lt h = long_at xs k (omega (arith, lt)) (long_right (f x) (flat_map f xs) h)

  long_set : (xs : List (Option NodeParts)) (k : ℕ) (y : Option NodeParts) → AllLong (flat_map f xs) → AllLong (f y) → AllLong (flat_map f (slice_set xs k y))
  long_set [] k y h own = tt
  long_set (x ∷ xs) zero y h own = long_append (f y) (flat_map f xs) own (long_right (f x) (flat_map f xs) h)
  long_set (x ∷ xs) (suc k) y h own = long_append (f x) (flat_map f (slice_set xs k y)) (long_left (f x) (flat_map f xs) h) (long_set xs k y (long_right (f x) (flat_map f xs) h) own)

  pub long_last : (xs : List (Option NodeParts)) (y : Option NodeParts) → AllLong (flat_map f xs) → AllLong (f y) → AllLong (flat_map f (xs ++ y ∷ []))
  long_last [] y h own = long_append (f y) [] own tt
  long_last (x ∷ xs) y h own = long_append (f x) (flat_map f (xs ++ y ∷ [])) (long_left (f x) (flat_map f xs) h) (long_last xs y (long_right (f x) (flat_map f xs) h) own)

  pub long_erased : f None ≡ [] → (k : ℕ) (gone : ℕ → Bool) (xs : List (Option NodeParts)) → AllLong (flat_map f xs) → AllLong (flat_map f (erased_from k gone xs))
  long_erased none k gone [] h = tt
  long_erased none k gone (x ∷ xs) h = by_test (gone k) (long_erased none (suc k) gone xs (long_right (f x) (flat_map f xs) h))
    where
      by_test : (b : Bool) → AllLong (flat_map f (erased_from (suc k) gone xs)) → AllLong (flat_map f ((if b then None else x) ∷ erased_from (suc k) gone xs))
      by_test true rest = long_append (f None) (flat_map f (erased_from (suc k) gone xs)) (subst AllLong (sym none) tt) rest
      by_test false rest = long_append (f x) (flat_map f (erased_from (suc k) gone xs)) (long_left (f x) (flat_map f xs) h) rest

  pub long_each : (xs : List (Option NodeParts)) → ((k : ℕ) → k < length xs → AllLong (f (get_or xs k None))) → AllLong (flat_map f xs)
  long_each [] h = tt
  long_each (x ∷ xs) h = long_append (f x) (flat_map f xs) (h 0 (omega arith)) (long_each xs (λ k lt. h (suc k) (omega (arith, lt))))

pub some_node : (wide : Bool) → 0 < node_length wide
some_node false = omega arith
some_node true = omega arith

-- a node's extents are its header, its table and its data
cover_node : (wide : Bool) (parts : NodeParts) (b : ℕ) → cover (node_extents wide parts) b ≡ in_range parts.header (node_length wide) b + cover (table_extents parts.table) b + cover (data_extents parts) b
cover_node wide parts b =
    let first = cover-append (extent ExtentKind.Node parts.header (node_length wide) ∷ table_extents parts.table ++ chunk_table_extents parts.chunk_table (length parts.chunks)) (chunk_extents parts.chunks) b in
    let next = cover-append (extent ExtentKind.Node parts.header (node_length wide) ∷ table_extents parts.table) (chunk_table_extents parts.chunk_table (length parts.chunks)) b in
    let rest = cover-append (chunk_table_extents parts.chunk_table (length parts.chunks)) (chunk_extents parts.chunks) b in
    omega (arith, first, next, rest)

some_table : (table : Option TablePart) → AllLong (table_extents table)
some_table None = tt
some_table (Some t) = (omega arith, tt)

-- its chunks have bytes where all that it has does
some_chunks : (wide : Bool) (parts : NodeParts) → AllLong (node_extents wide parts) → AllLong (chunk_extents parts.chunks)
some_chunks wide parts h = long_right (extent ExtentKind.Node parts.header (node_length wide) ∷ table_extents parts.table ++ chunk_table_extents parts.chunk_table (length parts.chunks)) (chunk_extents parts.chunks) h

some_data : (wide : Bool) (parts : NodeParts) → AllLong (node_extents wide parts) → AllLong (data_extents parts)
some_data wide parts h = long_append (chunk_table_extents parts.chunk_table (length parts.chunks)) (chunk_extents parts.chunks) (long_chunk_table parts.chunk_table (length parts.chunks)) (some_chunks wide parts h)

some_parts : (wide : Bool) (parts : NodeParts) → AllLong (chunk_extents parts.chunks) → AllLong (node_extents wide parts)
some_parts wide parts h =
    long_append (extent ExtentKind.Node parts.header (node_length wide) ∷ table_extents parts.table ++ chunk_table_extents parts.chunk_table (length parts.chunks)) (chunk_extents parts.chunks)
    (some_node wide, long_append (table_extents parts.table) (chunk_table_extents parts.chunk_table (length parts.chunks)) (some_table parts.table) (long_chunk_table parts.chunk_table (length parts.chunks))) h

-- ---- on its way

takes_more : (limit : ℕ) (taken : List Extent) (e : Extent) (before middle after : Heap) → TakesAll limit taken before middle → heap_take limit e.length middle ≡ Ok (e.place, after) → TakesAll limit (taken ++ e ∷ []) before after
takes_more limit [] e before middle after t last = (after, subst (λ (h : Heap). heap_take limit e.length h ≡ Ok (e.place, after)) t last, refl)
takes_more limit (x ∷ taken) e before middle after t last = (t.0, t.1, takes_more limit taken e t.0 middle after t.2 last)

-- some ranges were taken so far: `held` are no node's yet, and `left` are to be given
pub record Came (limit : ℕ) (wide : Bool) (p q : Placement) (held left : List Extent) : Type 0 where
  pub taken : List Extent
  pub takes : TakesAll limit taken p.heap q.heap
  pub some : AllLong taken
  pub alive : AllLong (live_extents wide q)
  pub gone : AllLong left
  pub parts : (b : ℕ) → cover (live_extents wide q) b + cover held b + cover left b ≡ cover (live_extents wide p) b + cover taken b

module _ (limit : ℕ) (wide : Bool) (p : Placement) where
  pub begins : AllLong (live_extents wide p) → Came limit wide p p [] []
  begins alive = record { taken = []; takes = refl; some = tt; alive = alive; gone = tt; parts = λ b. omega arith }

  abbrev pub new_range : ℕ → ℕ → Extent
  new_range place n = extent ExtentKind.Filler place n

  took : (q : Placement) (held left : List Extent) (n place : ℕ) (heap : Heap) → 0 < n → Came limit wide p q held left → heap_take limit n q.heap ≡ Ok (place, heap)
      → Came limit wide p (record q { heap = heap }) (new_range place n ∷ held) left
  took q held left n place heap some c e = record {
    taken = c.taken ++ new_range place n ∷ [];
    takes = takes_more limit c.taken (new_range place n) p.heap q.heap heap c.takes e;
    some = long_append c.taken (new_range place n ∷ []) c.some (some, tt);
    alive = c.alive;
    gone = c.gone;
    parts = λ b. let was = c.parts b in let now = cover-append c.taken (new_range place n ∷ []) b in omega (arith, was, now);
  }

  -- nodes have other ranges: what is held becomes theirs, and what they leave is to be given
  pub became : (q r : Placement) (held left still more : List Extent) → Came limit wide p q held left → r.heap ≡ q.heap → AllLong (live_extents wide r) → AllLong more
      → ((b : ℕ) → cover (live_extents wide r) b + cover still b + cover more b ≡ cover (live_extents wide q) b + cover held b + cover left b) → Came limit wide p r still more
  became q r held left still more c same alive gone parts = record {
    taken = c.taken;
    takes = subst (λ (h : Heap). TakesAll limit c.taken p.heap h) (sym same) c.takes;
    some = c.some;
    alive = alive;
    gone = gone;
    parts = λ b. let now = parts b in let was = c.parts b in omega (arith, now, was);
  }

  pub ends : (q : Placement) (left : List Extent) → Came limit wide p q [] left → TakesThenGives limit wide p (after_gives q left)
  ends q left c = record {
    taken = c.taken;
    given = left;
    between = q.heap;
    takes = c.takes;
    gives = refl;
    some = (c.some, c.gone);
    parts = λ b. let now = c.parts b in omega (arith, now);
  }

-- ---- parts that are there

abbrev pub Has : Placement → ℕ → Type 0
Has q k = is_some (parts_of q k) ≡ true

have : (o : Option NodeParts) → is_some o ≡ true → o ≡ Some (parts_or_none o)
have None e = absurd (not_true e)
have (Some parts) e = refl

inside : (xs : List (Option NodeParts)) (k : ℕ) → is_some (get_or xs k None) ≡ true → k < length xs
inside [] k e = absurd (not_true e)
inside (x ∷ xs) zero e = omega arith
inside (x ∷ xs) (suc k) e = let rest = inside xs k e in omega (arith, rest)

has_set : (xs : List (Option NodeParts)) (s k : ℕ) (y : NodeParts) → is_some (get_or xs k None) ≡ true → is_some (get_or (slice_set xs s (Some y)) k None) ≡ true
has_set [] s k y e = e
has_set (x ∷ xs) zero zero y e = refl
has_set (x ∷ xs) zero (suc k) y e = e
has_set (x ∷ xs) (suc s) zero y e = e
has_set (x ∷ xs) (suc s) (suc k) y e = has_set xs s k y e

pub has_last : (xs : List (Option NodeParts)) (k : ℕ) (y : Option NodeParts) → is_some (get_or xs k None) ≡ true → is_some (get_or (xs ++ y ∷ []) k None) ≡ true
has_last [] k y e = absurd (not_true e)
has_last (x ∷ xs) zero y e = e
has_last (x ∷ xs) (suc k) y e = has_last xs k y e

pub is_last : (xs : List (Option NodeParts)) (k : ℕ) (y : NodeParts) → k ≡ length xs → is_some (get_or (xs ++ Some y ∷ []) k None) ≡ true
is_last [] zero y e = refl
is_last [] (suc k) y e = absurd (omega (arith, e))
is_last (x ∷ xs) zero y e = absurd (omega (arith, e))
is_last (x ∷ xs) (suc k) y e = is_last xs k y (omega (arith, e))

chunks_last : (xs : List ChunkPart) (c : ChunkPart) (b : ℕ) → cover (chunk_extents (xs ++ c ∷ [])) b ≡ cover (chunk_extents xs) b + in_range c.place c.length b
chunks_last [] c b = omega arith
chunks_last (x ∷ xs) c b = let rest = chunks_last xs c b in omega (arith, rest)

some_chunks_last : (xs : List ChunkPart) (c : ChunkPart) → AllLong (chunk_extents xs) → 0 < c.length → AllLong (chunk_extents (xs ++ c ∷ []))
some_chunks_last [] c h some = (some, tt)
some_chunks_last (x ∷ xs) c h some = (h.0, some_chunks_last xs c h.1 some)

gives_joined : (xs ys : List Extent) (heap : Heap) → give_all ys (give_all xs heap) ≡ give_all (xs ++ ys) heap
gives_joined [] ys heap = refl
gives_joined (x ∷ xs) ys heap = gives_joined xs ys (heap_give x.place x.length heap)

-- ---- the parts of one node

module _ (limit : ℕ) (wide : Bool) (p : Placement) where
  -- the node of a serial has other parts with the same header
  renewed : (q : Placement) (s : ℕ) (to : NodeParts) (held left still more : List Extent) → Came limit wide p q held left → Has q s → to.header ≡ (parts_at q s).header
      → AllLong (chunk_extents to.chunks) → AllLong more
      → ((b : ℕ) → cover (table_extents to.table) b + cover (data_extents to) b + cover still b + cover more b ≡ cover (table_extents (parts_at q s).table) b + cover (data_extents (parts_at q s)) b + cover held b + cover left b)
      → Came limit wide p (with_parts q s to) still more
  renewed q s to held left still more c has header chunks gone ranges =
      became limit wide p q (with_parts q s to) held left still more c refl (long_set (extents_of wide) q.parts s (Some to) c.alive (some_parts wide to chunks)) gone (λ b.
      let set = cover_set (extents_of wide) q.parts s b (Some to) (inside q.parts s has) in
      let was : cover (extents_of wide (parts_of q s)) b ≡ cover (node_extents wide (parts_at q s)) b = ap (λ o. cover (extents_of wide o) b) (have (parts_of q s) has) in
      let old = cover_node wide (parts_at q s) b in
      let new = cover_node wide to b in
      let same : in_range to.header (node_length wide) b ≡ in_range (parts_at q s).header (node_length wide) b = ap (λ h. in_range h (node_length wide) b) header in
      let all = ranges b in
      omega (arith, set, was, old, new, same, all))

  own_long : (q : Placement) (s : ℕ) → AllLong (live_extents wide q) → Has q s → AllLong (node_extents wide (parts_at q s))
  own_long q s alive has = subst (λ o. AllLong (extents_of wide o)) (have (parts_of q s) has) (long_at (extents_of wide) q.parts s (inside q.parts s has) alive)

  -- bytes that are taken, and the parts that stay
  pub takes_bytes : {P : Type 0} (q : Placement) (held left : List Extent) (n : ℕ) (f : Taken → Result P LimitReached) (r : P) → 0 < n → Came limit wide p q held left → (take_bytes limit n q >>= f) ≡ Ok r
      → (place : ℕ) × (heap : Heap) × Came limit wide p (record q { heap = heap }) (new_range limit wide p place n ∷ held) left × (f (place, record q { heap = heap }) ≡ Ok r)
  takes_bytes {P = P} q held left n f r some c = go (heap_take limit n q.heap) refl
    where
      go : (o : Result (ℕ × Heap) LimitReached) → heap_take limit n q.heap ≡ o → ((o >>= λ (t : ℕ × Heap). Ok (t.0, record q { heap = t.1 })) >>= f) ≡ Ok r
          → (place : ℕ) × (heap : Heap) × Came limit wide p (record q { heap = heap }) (new_range limit wide p place n ∷ held) left × (f (place, record q { heap = heap }) ≡ Ok r)
      go (Ok t) e made = (t.0, t.1, took limit wide p q held left n t.0 t.1 some c e, made)
      go (Err full) e made = absurd (not_Err made)

  -- ---- a longer table

  pub table_came : (tree : Tree) (s : ℕ) (q : Placement) (g : GrownTable) → Came limit wide p q [] [] → Has q s → grow_table limit tree s q ≡ Ok g
      → Came limit wide p g.placed [] g.given × ((k : ℕ) → Has q k → Has g.placed k)
  table_came tree s q g c has = by_room (entry_count (parts_at q s).table == length (children_at tree s)) (grown_entries (length (children_at tree s)))
    where
      by_room : (full : Bool) (entries : ℕ) → (if full then (take_bytes limit (table_length entries) q >>= λ (t : Taken). Ok (with_table t.1 s entries t.0)) else Ok (record { placed = q; given = [] })) ≡ Ok g
          → Came limit wide p g.placed [] g.given × ((k : ℕ) → Has q k → Has g.placed k)
      by_room true entries made =
          let t = takes_bytes q [] [] (table_length entries) (λ (t : Taken). Ok (with_table t.1 s entries t.0)) g (omega arith) c made in
          let there = own_long q s c.alive has in
          subst (λ (h : GrownTable). Came limit wide p h.placed [] h.given × ((k : ℕ) → Has q k → Has h.placed k)) (same_Ok t.3) (
            renewed (record q { heap = t.1 }) s (record (parts_at q s) { table = Some (record { place = t.0; entries = entries }) }) (new_range limit wide p t.0 (table_length entries) ∷ []) [] [] (table_extents (parts_at q s).table) t.2 has refl
                (some_chunks wide (parts_at q s) there) (some_table (parts_at q s).table) (λ b. omega arith),
            λ k h. has_set q.parts s k _ h,
          )
      by_room false entries made = subst (λ (h : GrownTable). Came limit wide p h.placed [] h.given × ((k : ℕ) → Has q k → Has h.placed k)) (same_Ok made) (c, λ k h. h)

  -- ---- data

  -- a placement before its last gifts
  pub record Before (r : Placement) (left : List Extent) : Type 0 where
    pub middle : Placement
    pub more : List Extent
    pub came : Came limit wide p middle [] (more ++ left)
    pub gifts : after_gives middle more ≡ r

  in_one : (q : Placement) (s size : ℕ) (left : List Extent) (r : Placement) → Came limit wide p q [] left → Has q s → in_one_chunk limit q s size ≡ Ok r → Before r left
  in_one q s size left r c has made =
      let n = chunk_length_for size in
      let t = takes_bytes q [] left n (λ (t : Taken). Ok (after_gives (with_parts t.1 s (record (parts_at q s) { chunks = chunk t.0 n ∷ []; chunk_table = None })) (data_extents (parts_at q s)))) r (omega arith) c made in
      record {
        middle = with_parts (record q { heap = t.1 }) s (record (parts_at q s) { chunks = chunk t.0 (chunk_length_for size) ∷ []; chunk_table = None });
        more = data_extents (parts_at q s);
        came = renewed (record q { heap = t.1 }) s (record (parts_at q s) { chunks = chunk t.0 (chunk_length_for size) ∷ []; chunk_table = None }) (new_range limit wide p t.0 (chunk_length_for size) ∷ []) left []
            (data_extents (parts_at q s) ++ left) t.2 has refl (omega arith, tt) (long_append (data_extents (parts_at q s)) left (some_data wide (parts_at q s) (own_long q s c.alive has)) c.gone)
            (λ b. let both = cover-append (data_extents (parts_at q s)) left b in omega (arith, both));
        gifts = same_Ok t.3;
      }

  in_more : (q : Placement) (s added : ℕ) (left : List Extent) (r : Placement) → Came limit wide p q [] left → Has q s → in_one_more limit q s added ≡ Ok r → Before r left
  in_more q s added left r c has made =
      let one = takes_bytes q [] left (chunk_length_for added) _ r (omega arith) c made in
      let two = takes_bytes (record q { heap = one.1 }) (new_range limit wide p one.0 (chunk_length_for added) ∷ []) left (chunk_table_length (length (parts_at q s).chunks + 1)) _ r (omega arith) one.2 one.3 in
      record {
        middle = with_parts (record q { heap = two.1 }) s (record (parts_at q s) { chunks = (parts_at q s).chunks ++ chunk one.0 (chunk_length_for added) ∷ []; chunk_table = Some two.0 });
        more = chunk_table_extents (parts_at q s).chunk_table (length (parts_at q s).chunks);
        came = renewed (record q { heap = two.1 }) s (record (parts_at q s) { chunks = (parts_at q s).chunks ++ chunk one.0 (chunk_length_for added) ∷ []; chunk_table = Some two.0 })
            (new_range limit wide p two.0 (chunk_table_length (length (parts_at q s).chunks + 1)) ∷ new_range limit wide p one.0 (chunk_length_for added) ∷ []) left []
            (chunk_table_extents (parts_at q s).chunk_table (length (parts_at q s).chunks) ++ left) two.2 has refl
            (some_chunks_last (parts_at q s).chunks (chunk one.0 (chunk_length_for added)) (some_chunks wide (parts_at q s) (own_long q s c.alive has)) (omega arith))
            (long_append (chunk_table_extents (parts_at q s).chunk_table (length (parts_at q s).chunks)) left (long_chunk_table (parts_at q s).chunk_table (length (parts_at q s).chunks)) c.gone)
            (λ b.
            let both = cover-append (chunk_table_extents (parts_at q s).chunk_table (length (parts_at q s).chunks)) left b in
            let old = cover-append (chunk_table_extents (parts_at q s).chunk_table (length (parts_at q s).chunks)) (chunk_extents (parts_at q s).chunks) b in
            let new = cover-append (chunk_table_extents (Some two.0) (length ((parts_at q s).chunks ++ chunk one.0 (chunk_length_for added) ∷ []))) (chunk_extents ((parts_at q s).chunks ++ chunk one.0 (chunk_length_for added) ∷ [])) b in
            let each = chunks_last (parts_at q s).chunks (chunk one.0 (chunk_length_for added)) b in
            let long : in_range two.0 (chunk_table_length (length ((parts_at q s).chunks ++ chunk one.0 (chunk_length_for added) ∷ []))) b ≡ in_range two.0 (chunk_table_length (length (parts_at q s).chunks + 1)) b =
            ap (λ n. in_range two.0 (chunk_table_length n) b) (length-append (parts_at q s).chunks (chunk one.0 (chunk_length_for added) ∷ [])) in
            omega (arith, both, old, new, each, long));
        gifts = same_Ok two.3;
      }

  as_it_is : (q : Placement) (left : List Extent) (r : Placement) → Came limit wide p q [] left → q ≡ r → Before r left
  as_it_is q left r c e = record { middle = q; more = []; came = c; gifts = e }

  held_data : (q : Placement) (s size : ℕ) (cs : List ChunkPart) (left : List Extent) (r : Placement) → Came limit wide p q [] left → Has q s → hold limit q s size cs ≡ Ok r → Before r left
  held_data q s size [] left r c has made = in_one q s size left r c has made
  held_data q s size (x ∷ cs) left r c has made = by_tests (nat_le size (payload_length (x ∷ cs))) (nat_lt (length (x ∷ cs)) 64) made
    where
      by_tests : (enough few : Bool) → (if enough then Ok q else if few then in_one_more limit q s (size - payload_length (x ∷ cs)) else in_one_chunk limit q s size) ≡ Ok r → Before r left
      by_tests true few made = as_it_is q left r c (same_Ok made)
      by_tests false true made = in_more q s (size - payload_length (x ∷ cs)) left r c has made
      by_tests false false made = in_one q s size left r c has made

  pub data_came : (q : Placement) (s : ℕ) (o : Option (List ℕ)) (left : List Extent) (r : Placement) → Came limit wide p q [] left → Has q s → place_data limit q s o ≡ Ok r → Before r left
  data_came q s None left r c has made = record {
    middle = with_parts q s (record (parts_at q s) { chunks = []; chunk_table = None });
    more = data_extents (parts_at q s);
    came = renewed q s (record (parts_at q s) { chunks = []; chunk_table = None }) [] left [] (data_extents (parts_at q s) ++ left) c has refl tt
        (long_append (data_extents (parts_at q s)) left (some_data wide (parts_at q s) (own_long q s c.alive has)) c.gone)
        (λ b. let both = cover-append (data_extents (parts_at q s)) left b in omega (arith, both));
    gifts = same_Ok made;
  }
  data_came q s (Some bytes) left r c has made = held_data q s (length bytes) (parts_at q s).chunks left r c has made

  -- what is given last
  pub last_gifts : (r : Placement) (left : List Extent) → Before r left → TakesThenGives limit wide p (after_gives r left)
  last_gifts r left b =
      subst (TakesThenGives limit wide p)
      (sym (ap (λ (h : Heap). record b.middle { heap = h }) (gives_joined b.more left b.middle.heap)) ∙ ap (λ (x : Placement). after_gives x left) b.gifts)
      (ends limit wide p b.middle (b.more ++ left) b.came)
