-- Chunks that are given one after another.
use Rattle.std.proofs.Common.{◌≡◌, ◌⊎◌, inl, inr, ℕ, zero, suc, ◌+◌, ◌<◌, ◌≤◌, arith, List, [], ◌∷◌, ◌++◌, length, take, drop, get_or, refl, sym, ◌∙◌, ap, subst}
use Rattle.std.proofs.lemmas.Bool.Decides.{nat_tests}
use Rattle.std.proofs.lemmas.List.{drop_more, take_more, length-map}
use Rattle.std.specs.Prelude.{Option, Some, None}
use Rattle.std.specs.List.{AllByRecursion}
use Rattle.cg_io.specs.Blocks.{Both}
use Rattle.adf_format.specs.declared.types.Extent.{Extent}
use Rattle.adf_format.specs.declared.types.ExtentKind.{ExtentKind}
use Rattle.adf_format.specs.Tiles.{cover, end_of}
use Rattle.adf_format.specs.Placement.{Heap, ChunkPart, extent, chunk_extents}
use Rattle.adf_format.specs.Changes.{heap_fields}
use Rattle.adf_format.specs.HeapRule.{heap_give, give_all}
use Rattle.adf_format.proofs.HeapLaws.{in_range, cover-give_joined}
use Rattle.adf_format.proofs.HeapSteps.{cover-append}
use Rattle.adf_data.specs.declared.chunks.Chunk.{Chunk}
use Rattle.field_access.specs.Fields.{IsWithin}
use Rattle.file_heap.specs.Links.{range}
use Rattle.file_heap.specs.Heap.{MayGive, ChangesOnly}
use Rattle.cg_io.specs.Answers.{IsUntold}
use Rattle.file_heap.proofs.ChangeLaws.{widened, changes_then}
use Rattle.adf_data.specs.Chunks.{part_of, parts_of, part_at}
use Rattle.adf_data.specs.Sizes.{MayGiveAll, Ungivable}

pub given_covers : (place n b : ℕ) (heap : Heap) → cover (heap_give place n heap).gaps b ≡ in_range place n b + cover heap.gaps b
given_covers place n b heap = cover-give_joined place n heap.gaps b

-- ---- one of the chunks

abbrev none : Extent
none = extent ExtentKind.DataChunk 0 0

extent_at : (parts : List ChunkPart) (i : ℕ) → i < length parts → get_or (chunk_extents parts) i none ≡ extent ExtentKind.DataChunk (part_at parts i).place (part_at parts i).length
extent_at [] i lt = absurd (omega (arith, lt))
extent_at (c ∷ cs) zero lt = refl
extent_at (c ∷ cs) (suc i) lt = extent_at cs i (omega (arith, lt))

long : (parts : List ChunkPart) → length (chunk_extents parts) ≡ length parts
long [] = refl
long (c ∷ cs) = ap suc (long cs)

this : (parts : List ChunkPart) (i : ℕ) (c : Chunk) → i < length parts → part_of c ≡ part_at parts i → get_or (chunk_extents parts) i none ≡ extent ExtentKind.DataChunk c.place c.length
this parts i c lt is = extent_at parts i lt ∙ ap (λ (p : ChunkPart). extent ExtentKind.DataChunk p.place p.length) (sym is)

count_of_parts : (chunks : List Chunk) (i : ℕ) → i < length chunks → i < length (parts_of chunks)
count_of_parts chunks i lt = let l = length-map chunks part_of in omega (arith, l, lt)

pub gives_more : (chunks : List Chunk) (i : ℕ) (c : Chunk) (all heap new : Heap) → i < length chunks → part_of c ≡ part_at (parts_of chunks) i → give_all (drop i (chunk_extents (parts_of chunks))) heap ≡ all → new ≡ heap_give c.place c.length heap
    → give_all (drop (i + 1) (chunk_extents (parts_of chunks))) new ≡ all
gives_more chunks i c all heap new lt is so_far step =
    let es : List Extent = chunk_extents (parts_of chunks) in
    let k : i < length (parts_of chunks) = count_of_parts chunks i lt in
    let l = long (parts_of chunks) in
    let d : drop i es ≡ get_or es i none ∷ drop (i + 1) es = drop_more es i none (omega (arith, k, l)) in
    ap (give_all (drop (i + 1) es)) (step ∙ sym (ap (λ (e : Extent). heap_give e.place e.length heap) (this (parts_of chunks) i c k is))) ∙ sym (ap (λ xs. give_all xs heap) d) ∙ so_far

pub covers_more : (chunks : List Chunk) (i : ℕ) (c : Chunk) (first heap new : Heap) → i < length chunks → part_of c ≡ part_at (parts_of chunks) i → ((b : ℕ) → cover heap.gaps b ≡ cover (take i (chunk_extents (parts_of chunks))) b + cover first.gaps b) → new ≡ heap_give c.place c.length heap
    → (b : ℕ) → cover new.gaps b ≡ cover (take (i + 1) (chunk_extents (parts_of chunks))) b + cover first.gaps b
covers_more chunks i c first heap new lt is so_far step b =
    let es : List Extent = chunk_extents (parts_of chunks) in
    let k : i < length (parts_of chunks) = count_of_parts chunks i lt in
    let l = long (parts_of chunks) in
    let t : take (i + 1) es ≡ take i es ++ get_or es i none ∷ [] = take_more es i none (omega (arith, k, l)) in
    let u : cover (take (i + 1) es) b ≡ cover (take i es) b + cover (extent ExtentKind.DataChunk c.place c.length ∷ []) b
    = ap (λ xs. cover xs b) t ∙ cover-append (take i es) (get_or es i none ∷ []) b ∙ ap (λ (e : Extent). cover (take i es) b + cover (e ∷ []) b) (this (parts_of chunks) i c k is) in
    let g = given_covers c.place c.length b heap in
    let e : cover new.gaps b ≡ cover (heap_give c.place c.length heap).gaps b = ap (λ (h : Heap). cover h.gaps b) step in
    let s = so_far b in
    let r : cover (extent ExtentKind.DataChunk c.place c.length ∷ []) b ≡ in_range c.place c.length b + 0 = refl in
    omega (arith, u, g, e, s, r)

cover_front : (es : List Extent) (i b : ℕ) → cover (take i es) b ≤ cover es b
cover_front [] zero b = omega arith
cover_front [] (suc i) b = omega arith
cover_front (e ∷ es) zero b = omega arith
cover_front (e ∷ es) (suc i) b = let h = cover_front es i b in omega (arith, h)

cover_next : (chunks : List Chunk) (i b : ℕ) (c : Chunk) → i < length chunks → part_of c ≡ part_at (parts_of chunks) i → cover (take i (chunk_extents (parts_of chunks))) b + in_range c.place c.length b ≤ cover (chunk_extents (parts_of chunks)) b
cover_next chunks i b c lt is =
    let es : List Extent = chunk_extents (parts_of chunks) in
    let k : i < length (parts_of chunks) = count_of_parts chunks i lt in
    let l = long (parts_of chunks) in
    let t : take (i + 1) es ≡ take i es ++ get_or es i none ∷ [] = take_more es i none (omega (arith, k, l)) in
    let u : cover (take (i + 1) es) b ≡ cover (take i es) b + cover (extent ExtentKind.DataChunk c.place c.length ∷ []) b
    = ap (λ xs. cover xs b) t ∙ cover-append (take i es) (get_or es i none ∷ []) b ∙ ap (λ (e : Extent). cover (take i es) b + cover (e ∷ []) b) (this (parts_of chunks) i c k is) in
    let r : cover (extent ExtentKind.DataChunk c.place c.length ∷ []) b ≡ in_range c.place c.length b + 0 = refl in
    let f = cover_front es (i + 1) b in omega (arith, u, r, f)

-- ---- what changes, and why a gift is refused

pub next_inside : (chunks : List Chunk) (i : ℕ) (c : Chunk) (first heap : Heap) → i < length chunks → part_of c ≡ part_at (parts_of chunks) i → ((b : ℕ) → cover heap.gaps b ≡ cover (take i (chunk_extents (parts_of chunks))) b + cover first.gaps b)
    → IsWithin (heap_fields ++ range c.place c.length ∷ heap.gaps) (heap_fields ++ chunk_extents (parts_of chunks) ++ first.gaps)
next_inside chunks i c first heap lt is covers b none =
    let x = cover-append heap_fields (chunk_extents (parts_of chunks)) b in
    let y = cover-append (heap_fields ++ chunk_extents (parts_of chunks)) first.gaps b in
    let z = cover-append heap_fields (range c.place c.length ∷ heap.gaps) b in
    let n = cover_next chunks i b c lt is in
    let f = covers b in
    let r : cover (range c.place c.length ∷ heap.gaps) b ≡ in_range c.place c.length b + cover heap.gaps b = refl in
    omega (arith, none, x, y, z, n, f, r)

pub bytes_more : (chunks : List Chunk) (i : ℕ) (c : Chunk) (first heap : Heap) (old middle new : Option (List ℕ)) → i < length chunks → part_of c ≡ part_at (parts_of chunks) i → ((b : ℕ) → cover heap.gaps b ≡ cover (take i (chunk_extents (parts_of chunks))) b + cover first.gaps b)
    → Both (ChangesOnly (heap_fields ++ chunk_extents (parts_of chunks) ++ first.gaps)) old middle → Both (ChangesOnly (heap_fields ++ range c.place c.length ∷ heap.gaps)) middle new → Both (ChangesOnly (heap_fields ++ chunk_extents (parts_of chunks) ++ first.gaps)) old new
bytes_more chunks i c first heap old middle new lt is covers v w =
    changes_then (heap_fields ++ chunk_extents (parts_of chunks) ++ first.gaps) old middle new v
    (widened (heap_fields ++ range c.place c.length ∷ heap.gaps) (heap_fields ++ chunk_extents (parts_of chunks) ++ first.gaps) middle new (next_inside chunks i c first heap lt is covers) w)

pub untold_before : (ranges : List Extent) (old new : Option (List ℕ)) → Both (ChangesOnly ranges) old new → IsUntold new → IsUntold old
untold_before ranges None new c u = tt
untold_before ranges (Some old) None c u = absurd c
untold_before ranges (Some old) (Some new) c u = u

within_at : (es : List Extent) (end i : ℕ) → i < length es → AllByRecursion (λ (e : Extent). (266 ≤ e.place) × (end_of e ≤ end + 1)) es → (266 ≤ (get_or es i none).place) × (end_of (get_or es i none) ≤ end + 1)
within_at [] end i lt all = absurd (omega (arith, lt))
within_at (e ∷ es) end zero lt all = all.0
within_at (e ∷ es) end (suc i) lt all = within_at es end i (omega (arith, lt)) all.1

inside : (p n b : ℕ) → p ≤ b → b < p + n → in_range p n b ≡ 1
inside p n b low high = grind (arith, nat_tests)

pub may_next : (chunks : List Chunk) (i : ℕ) (c : Chunk) (first heap : Heap) → i < length chunks → part_of c ≡ part_at (parts_of chunks) i → heap.end ≡ first.end → ((b : ℕ) → cover heap.gaps b ≡ cover (take i (chunk_extents (parts_of chunks))) b + cover first.gaps b)
    → MayGiveAll (chunk_extents (parts_of chunks)) first → MayGive c.place c.length heap
may_next chunks i c first heap lt is end covers may =
    let k : i < length (parts_of chunks) = count_of_parts chunks i lt in
    let l = long (parts_of chunks) in
    let w : (266 ≤ c.place) × (c.place + c.length ≤ first.end + 1) = subst (λ (e : Extent). (266 ≤ e.place) × (end_of e ≤ first.end + 1)) (this (parts_of chunks) i c k is) (within_at (chunk_extents (parts_of chunks)) first.end i (omega (arith, k, l)) may.within) in
    record {
      low = w.0;
      high = (let h = w.1 in omega (arith, h, end));
      apart = λ b low high.
          let o = may.once b in let a = cover-append (chunk_extents (parts_of chunks)) first.gaps b in let n = cover_next chunks i b c lt is in let s = inside c.place c.length b low high in let f = covers b in
          omega (arith, o, a, n, s, f);
    }

pub refusal_more : (chunks : List Chunk) (i : ℕ) (c : Chunk) (first heap : Heap) (old middle : Option (List ℕ)) (ranges : List Extent) → i < length chunks → part_of c ≡ part_at (parts_of chunks) i → heap.end ≡ first.end → ((b : ℕ) → cover heap.gaps b ≡ cover (take i (chunk_extents (parts_of chunks))) b + cover first.gaps b)
    → Both (ChangesOnly ranges) old middle → IsUntold middle ⊎ (MayGive c.place c.length heap → ⊥) → Ungivable old (chunk_extents (parts_of chunks)) first
refusal_more chunks i c first heap old middle ranges lt is end covers changes (inl u) = inl (untold_before ranges old middle changes u)
refusal_more chunks i c first heap old middle ranges lt is end covers changes (inr none) = inr (λ may. none (may_next chunks i c first heap lt is end covers may))
