-- The bytes behind the recorded end mean nothing: an image that keeps the others lays out the same tree.
use Rattle.std.proofs.Common.{add_assoc, ◌≡◌, inl, inr, ℕ, zero, suc, refl, sym, ◌∙◌, ap, subst, arith, List, [], ◌∷◌, ◌++◌, length, length-append, filter, ◌+◌, ◌<◌, ◌≤◌, Bool, true, false, cond}
use Rattle.std.proofs.lemmas.Bool.Decides.{leb_tells, nat_tests}
use Rattle.std.specs.Prelude.{Option, Some, None, slice_get, ◌==◌, ◌&&◌}
use Rattle.std.specs.List.{AllByRecursion}
use Rattle.adf_format.specs.declared.types.Extent.{Extent}
use Rattle.adf_format.specs.Fields.{field}
use Rattle.adf_format.specs.Tree.{Tree, Node, node_at}
use Rattle.adf_format.specs.Tiles.{cover, end_of, is_free}
use Rattle.adf_format.specs.Parts.{node_length, IsFiller, SpellsHeader, SpellsFreeTable, SpellsFree, SpellsChunk}
use Rattle.adf_format.specs.Placement.{Placement, NodeParts, TablePart, ChunkPart, parts_of, head_extents, live_extents, all_extents, node_extents, table_extents, chunk_table_extents, chunk_extents}
use Rattle.adf_format.specs.LaysOut.{LaysOut, HoldsNode, ThreadsFreeChunks, IsThreaded, AreGapsInOrder, count_of, first_place, last_place}
use Rattle.adf_format.specs.Changes.{KeepsBut, AllApart}
use Rattle.adf_format.proofs.HeapSteps.{cover-append}
use Rattle.adf_format.proofs.CountLaws.{none_holds, ends_by}
use Rattle.adf_format.proofs.LayoutLaws.{one_of}
use Rattle.adf_format.proofs.FrameLaws.{field_kept, holds_kept}

-- ---- extents that end by the recorded end

abbrev pub AllLong : List Extent → Type 0
AllLong xs = AllByRecursion (λ (e : Extent). 0 < e.length) xs

-- extents with bytes, none of them behind the end
all_within : (end : ℕ) (xs : List Extent) → AllLong xs → ((b : ℕ) → end < b → cover xs b ≡ 0) → AllApart [] end xs
all_within end [] long none = tt
all_within end (x ∷ xs) long none = ((λ b low high. refl, last), all_within end xs long.1 (λ b gt. (none_holds x xs b (none b gt)).1))
  where
    last : end_of x ≤ end + 1
    last = elim (ends_by x (end + 1) (λ b low. (none_holds x xs b (none b (omega (arith, low)))).0)) [
      | inl h ↦ h
      | inr h ↦ absurd (let some : 0 < x.length = long.0 in omega (arith, some, h))
    ]

pub long_append : (xs ys : List Extent) → AllLong xs → AllLong ys → AllLong (xs ++ ys)
long_append [] ys h k = k
long_append (x ∷ xs) ys h k = (h.0, long_append xs ys h.1 k)

long_table : (table : Option TablePart) → AllLong (table_extents table)
long_table None = tt
long_table (Some t) = (omega arith, tt)

pub long_chunk_table : (table : Option ℕ) (count : ℕ) → AllLong (chunk_table_extents table count)
long_chunk_table None count = tt
long_chunk_table (Some place) count = (omega arith, tt)

pub long_chunks : (image : List ℕ) (chunks : List ChunkPart) → AllByRecursion (λ (c : ChunkPart). SpellsChunk (field image c.place c.length) c.place c.length) chunks → AllLong (chunk_extents chunks)
long_chunks image [] h = tt
long_chunks image (c ∷ cs) h = (let long : 21 ≤ c.length = h.0.long in omega (arith, long), long_chunks image cs h.1)

long_header : (wide : Bool) → 0 < node_length wide
long_header false = omega arith
long_header true = omega arith

pub long_node : (image : List ℕ) (tree : Tree) (p : Placement) (node : Node) (parts : NodeParts) → HoldsNode image tree p node parts → AllLong (node_extents tree.wide parts)
long_node image tree p node parts h = (
  long_header tree.wide,
  long_append (table_extents parts.table ++ chunk_table_extents parts.chunk_table (length parts.chunks)) (chunk_extents parts.chunks)
      (long_append (table_extents parts.table) (chunk_table_extents parts.chunk_table (length parts.chunks)) (long_table parts.table) (long_chunk_table parts.chunk_table (length parts.chunks)))
      (long_chunks image parts.chunks h.chunks),
)

long_gaps : (gaps : List Extent) → AreGapsInOrder gaps → AllLong gaps
long_gaps [] o = tt
long_gaps (g ∷ gs) o = (o.0.0, long_gaps gs o.2)

gap_within : (end : ℕ) (gaps : List Extent) (k : ℕ) (g : Extent) → AllApart [] end gaps → slice_get gaps k ≡ Some g → end_of g ≤ end + 1
gap_within end [] k g all e = cc
gap_within end (h ∷ hs) zero g all e = subst (λ (x : Extent). end_of x ≤ end + 1) (same h g e) all.0.1
  where
    same : (x y : Extent) → Some x ≡ Some y → x ≡ y
    same x y e = cc
gap_within end (h ∷ hs) (suc k) g all e = gap_within end hs k g all.1 e

-- ---- ranges that are counted

pub count_append : (place n : ℕ) (xs ys : List Extent) → count_of place n (xs ++ ys) ≡ count_of place n xs + count_of place n ys
count_append place n [] ys = omega arith
count_append place n (x ∷ xs) ys =
    let here = cond ((x.place == place) && (x.length == n)) 1 0 in
    ap (λ k. here + k) (count_append place n xs ys) ∙ sym (add_assoc here (count_of place n xs) (count_of place n ys))

pub counts_itself : (e : Extent) (es : List Extent) → 0 < count_of e.place e.length (e ∷ es)
counts_itself e es = one_more (e.place == e.place) (e.length == e.length) (grind (arith, nat_tests)) (grind (arith, nat_tests))
  where
    one_more : (a b : Bool) → a ≡ true → b ≡ true → 0 < cond (a && b) 1 0 + count_of e.place e.length es
    one_more true true p q = omega arith
    one_more true false p q = cc
    one_more false b p q = cc

pub counts_more : (e : Extent) (es : List Extent) (place n : ℕ) → 0 < count_of place n es → 0 < count_of place n (e ∷ es)
counts_more e es place n some = plain (cond ((e.place == place) && (e.length == n)) 1 0) (count_of place n es) some
  where
    plain : (a b : ℕ) → 0 < b → 0 < a + b
    plain a b h = omega (arith, h)

-- a range that is counted among the free chunks ends by the end
counted_within : (end : ℕ) (gaps : List Extent) → AllApart [] end gaps → (place n : ℕ) → 0 < count_of place n (filter is_free gaps) → place + n ≤ end + 1
counted_within end [] all place n some = absurd (omega (arith, some))
counted_within end (g ∷ gs) all place n some = by_kind (counted_within end gs all.1 place n) (is_free g) some
  where
    by_range : (0 < count_of place n (filter is_free gs) → place + n ≤ end + 1) → (t : Bool) → (g.place == place) ≡ t → (u : Bool) → (g.length == n) ≡ u
        → 0 < cond (t && u) 1 0 + count_of place n (filter is_free gs) → place + n ≤ end + 1
    by_range rest true same true long some = let within : g.place + g.length ≤ end + 1 = all.0.1 in grind (arith, nat_tests)
    by_range rest true same false long some = rest (omega (arith, some))
    by_range rest false same u long some = rest (omega (arith, some))

    by_kind : (0 < count_of place n (filter is_free gs) → place + n ≤ end + 1) → (t : Bool) → 0 < count_of place n (cond t (g ∷ filter is_free gs) (filter is_free gs)) → place + n ≤ end + 1
    by_kind rest true some = by_range rest (g.place == place) refl (g.length == n) refl some
    by_kind rest false some = rest some

-- ---- what stays

module _ (end : ℕ) (old new : List ℕ) (keeps : KeepsBut [] end old new) where
  field_within : (place n : ℕ) → place + n ≤ end + 1 → field new place n ≡ field old place n
  field_within place n le = field_kept n place old new (λ b low high. keeps b (omega (arith, le, high)) refl)

  threaded_within : (fs : List Extent) → ((place n : ℕ) → 0 < count_of place n fs → place + n ≤ end + 1) → IsThreaded old fs → IsThreaded new fs
  threaded_within [] within h = tt
  threaded_within (f ∷ fs) within h = (
    subst (λ (bytes : List ℕ). SpellsFree bytes f.place f.length (first_place fs)) (sym (field_within f.place f.length (within f.place f.length (counts_itself f fs)))) h.0,
    threaded_within fs (λ place n some. within place n (counts_more f fs place n some)) h.1,
  )

  threads_within : (gaps : List Extent) → 265 ≤ end → AllApart [] end gaps → ThreadsFreeChunks old gaps → ThreadsFreeChunks new gaps
  threads_within gaps le all t = record {
    small = t.small;
    medium = t.medium;
    large = t.large;
    table = subst (λ (bytes : List ℕ). SpellsFreeTable bytes ((first_place t.small, last_place t.small) ∷ (first_place t.medium, last_place t.medium) ∷ (first_place t.large, last_place t.large) ∷ []))
        (sym (field_within 186 80 (omega (arith, le)))) t.table;
    each = (
      threaded_within t.small (λ place n some. counted place n (let s = split place n in omega (arith, s, some))) t.each.0,
      threaded_within t.medium (λ place n some. counted place n (let s = split place n in omega (arith, s, some))) t.each.1,
      threaded_within t.large (λ place n some. counted place n (let s = split place n in omega (arith, s, some))) t.each.2,
    );
    all = t.all;
  }
    where
      split : (place n : ℕ) → count_of place n (t.small ++ t.medium ++ t.large) ≡ count_of place n t.small + count_of place n t.medium + count_of place n t.large
      split place n = count_append place n (t.small ++ t.medium) t.large ∙ ap (λ k. k + count_of place n t.large) (count_append place n t.small t.medium)

      counted : (place n : ℕ) → 0 < count_of place n (t.small ++ t.medium ++ t.large) → place + n ≤ end + 1
      counted place n some = counted_within end gaps all place n (subst (λ k. 0 < k) (t.all place n) some)

-- ---- the whole

module _ (image new : List ℕ) (tree : Tree) (p : Placement) (l : LaysOut image tree p) (keeps : KeepsBut [] p.heap.end image new) where
  none_behind : (b : ℕ) → p.heap.end < b → (cover (live_extents tree.wide p) b ≡ 0) × (cover p.heap.gaps b ≡ 0)
  none_behind b gt =
      let none : cover (all_extents tree.wide p) b ≡ 0 = l.tiles.inside b gt in
      let outer : cover (all_extents tree.wide p) b ≡ cover (head_extents ++ live_extents tree.wide p) b + cover p.heap.gaps b = cover-append (head_extents ++ live_extents tree.wide p) p.heap.gaps b in
      let inner : cover (head_extents ++ live_extents tree.wide p) b ≡ cover head_extents b + cover (live_extents tree.wide p) b = cover-append head_extents (live_extents tree.wide p) b in
      plain (cover (all_extents tree.wide p) b) (cover (head_extents ++ live_extents tree.wide p) b) (cover p.heap.gaps b) (cover head_extents b) (cover (live_extents tree.wide p) b) none outer inner
    where
      plain : (all front gaps head live : ℕ) → all ≡ 0 → all ≡ front + gaps → front ≡ head + live → (live ≡ 0) × (gaps ≡ 0)
      plain all front gaps head live none outer inner = (omega (arith, none, outer, inner), omega (arith, none, outer, inner))

  -- the header and the free table end by the end
  head_within : 265 ≤ p.heap.end
  head_within = elim (leb_tells 265 p.heap.end) [
    | inl h ↦ h.1
    | inr h ↦ absurd (one (cover (live_extents tree.wide p ++ p.heap.gaps) 265) (l.tiles.inside 265 h.1))
  ]
    where
      one : (n : ℕ) → 0 + (1 + n) ≡ 0 → ⊥
      one n e = omega (arith, e)

  gaps_within : AllApart [] p.heap.end p.heap.gaps
  gaps_within = all_within p.heap.end p.heap.gaps (long_gaps p.heap.gaps l.gaps) (λ b gt. (none_behind b gt).1)

  node_within : (serial : ℕ) (node : Node) (parts : NodeParts) → node_at tree serial ≡ Some node → parts_of p serial ≡ Some parts → AllApart [] p.heap.end (node_extents tree.wide parts)
  node_within serial node parts e f = all_within p.heap.end (node_extents tree.wide parts) (long_node image tree p node parts (l.nodes serial node parts e f))
      (λ b gt. let le = one_of tree.wide p.parts serial b parts f in let none = (none_behind b gt).0 in omega (arith, le, none))

  kept_behind : p.heap.end < length new → LaysOut new tree p
  kept_behind long = record {
    is_tree = l.is_tree;
    end = long;
    header = (l.header.0, l.header.1, subst (λ (bytes : List ℕ). SpellsHeader bytes tree.wide tree.format l.header.0.header p.heap.end) (sym (field_within p.heap.end image new keeps 0 186 (let le = head_within in omega (arith, le)))) l.header.2);
    same_nodes = l.same_nodes;
    nodes = λ serial node parts e f. holds_kept [] p.heap.end image new keeps tree tree p p node parts refl (node_within serial node parts e f) (λ i child now at g h k. (now, at, h, k, refl, refl)) (l.nodes serial node parts e f);
    tiles = l.tiles;
    gaps = l.gaps;
    fillers = λ k g e f. subst (λ (bytes : List ℕ). IsFiller bytes) (sym (field_within p.heap.end image new keeps g.place g.length (gap_within p.heap.end p.heap.gaps k g gaps_within e))) (l.fillers k g e f);
    threads = threads_within p.heap.end image new keeps p.heap.gaps head_within gaps_within l.threads;
  }

-- bytes behind the recorded end may be any
pub any_behind : (image new : List ℕ) (tree : Tree) (p : Placement) → LaysOut image tree p → KeepsBut [] p.heap.end image new → p.heap.end < length new → LaysOut new tree p
any_behind image new tree p l keeps long = kept_behind image new tree p l keeps long

get_front : (xs ys : List ℕ) (b : ℕ) → b < length xs → slice_get (xs ++ ys) b ≡ slice_get xs b
get_front [] ys b lt = absurd (omega (arith, lt))
get_front (x ∷ xs) ys zero lt = refl
get_front (x ∷ xs) ys (suc b) lt = get_front xs ys b (omega (arith, lt))

-- and there may be more of them
pub more_behind : (image more : List ℕ) (tree : Tree) (p : Placement) → LaysOut image tree p → LaysOut (image ++ more) tree p
more_behind image more tree p l =
    let end : p.heap.end < length image = l.end in
    any_behind image (image ++ more) tree p l (λ b le none. get_front image more b (omega (arith, end, le))) (let long = length-append image more in omega (arith, end, long))
