-- The table and the chunks of some data, given one after another.
use Rattle.std.proofs.Common.{◌≡◌, ◌⊎◌, inl, inr, ℕ, ◌+◌, ◌*◌, ◌<◌, ◌≤◌, arith, List, [], ◌∷◌, ◌++◌, length, refl, sym, ◌∙◌, ap, subst}
use Rattle.std.proofs.lemmas.Bool.Decides.{nat_tests}
use Rattle.std.proofs.lemmas.List.{length-map}
use Rattle.std.specs.Prelude.{Option, Some, None, Result, IfErr}
use Rattle.std.specs.List.{AllByRecursion}
use Rattle.cg_io.specs.Blocks.{Both}
use Rattle.adf_format.specs.declared.types.Extent.{Extent}
use Rattle.adf_format.specs.Tiles.{cover, end_of}
use Rattle.adf_format.specs.Placement.{Heap, NodeParts, ChunkPart, chunk_extents, chunk_table_extents}
use Rattle.adf_format.specs.Changes.{heap_fields}
use Rattle.adf_format.specs.HeapRule.{heap_give, give_all, data_extents}
use Rattle.adf_format.proofs.HeapLaws.{in_range}
use Rattle.adf_format.proofs.HeapSteps.{cover-append}
use Rattle.field_access.specs.Fields.{IsWithin}
use Rattle.file_heap.specs.Links.{range}
use Rattle.file_heap.specs.Heap.{MayGive, ChangesOnly}
use Rattle.cg_io.specs.Answers.{IsRefusal, IsUntold}
use Rattle.cg_io.proofs.ReadLaws.{all_refused_for}
use Rattle.adf_model.specs.declared.error.AdfError.{AdfError}
use Rattle.file_heap.proofs.ChangeLaws.{widened, changes_then}
use Rattle.adf_data.specs.declared.place.DataPlace.{DataPlace}
use Rattle.adf_data.specs.declared.chunks.Chunk.{Chunk}
use Rattle.adf_data.specs.Chunks.{part_of, parts_of, Named}
use Rattle.adf_data.specs.Sizes.{extents_in, MayGiveAll, Ungivable}
use Rattle.adf_model.proofs.Writes.DataRoom.{cover-give_all, end-give_all}
use Rattle.adf_data.proofs.GiveLaws.{untold_before}

-- ---- the table

pub table_bytes : (place count : ℕ) (gaps : List Extent) (old new : Option (List ℕ)) → Both (ChangesOnly (heap_fields ++ range place (20 + 24 * count) ∷ gaps)) old new → Both (ChangesOnly (heap_fields ++ chunk_table_extents (Some place) count ++ gaps)) old new
table_bytes place count gaps old new c = widened (heap_fields ++ range place (20 + 24 * count) ∷ gaps) (heap_fields ++ chunk_table_extents (Some place) count ++ gaps) old new (λ b none. none) c

outside : (p n b c : ℕ) → p ≤ b → b < p + n → in_range p n b + c ≤ 1 → c ≡ 0
outside p n b c low high h = let s : in_range p n b ≡ 1 = grind (arith, nat_tests) in omega (arith, s, h)

pub table_refused : (image : Option (List ℕ)) (place count : ℕ) (heap : Heap) → IsUntold image ⊎ (MayGive place (20 + 24 * count) heap → ⊥) → Ungivable image (chunk_table_extents (Some place) count) heap
table_refused image place count heap (inl u) = inl u
table_refused image place count heap (inr none) = inr (λ may. none (record { low = may.within.0.0; high = may.within.0.1; apart = λ b low high. outside place (20 + 24 * count) b (cover heap.gaps b) low high (may.once b) }))

pub table_cause : {T : Type 0} (r : Result T AdfError) (a b : ℕ) (image : Option (List ℕ)) (place count : ℕ) (heap : Heap) → IfErr r (IsRefusal (IsUntold image ⊎ (MayGive place (20 + 24 * count) heap → ⊥)) a b) → IfErr r (IsRefusal (Ungivable image (chunk_table_extents (Some place) count) heap) a b)
table_cause r a b image place count heap h =
    all_refused_for (IsUntold image ⊎ (MayGive place (20 + 24 * count) heap → ⊥)) (Ungivable image (chunk_table_extents (Some place) count) heap) a b r (table_refused image place count heap) h

-- ---- one list after another

pub given_both : (xs ys : List Extent) (heap : Heap) → give_all (xs ++ ys) heap ≡ give_all ys (give_all xs heap)
given_both [] ys heap = refl
given_both (x ∷ xs) ys heap = given_both xs ys (heap_give x.place x.length heap)

pub may_first : (xs ys : List Extent) (heap : Heap) → MayGiveAll (xs ++ ys) heap → MayGiveAll xs heap
may_first xs ys heap may = record {
  within = front xs ys may.within;
  once = λ b. let o = may.once b in let p = cover-append (xs ++ ys) heap.gaps b in let q = cover-append xs ys b in let r = cover-append xs heap.gaps b in omega (arith, o, p, q, r);
}
  where
    front : (xs ys : List Extent) → AllByRecursion (λ (e : Extent). (266 ≤ e.place) × (end_of e ≤ heap.end + 1)) (xs ++ ys) → AllByRecursion (λ (e : Extent). (266 ≤ e.place) × (end_of e ≤ heap.end + 1)) xs
    front [] ys all = tt
    front (x ∷ xs) ys all = (all.0, front xs ys all.1)

pub may_second : (xs ys : List Extent) (heap : Heap) → MayGiveAll (xs ++ ys) heap → MayGiveAll ys (give_all xs heap)
may_second xs ys heap may = record {
  within = subst (λ k. AllByRecursion (λ (e : Extent). (266 ≤ e.place) × (end_of e ≤ k + 1)) ys) (sym (end-give_all xs heap)) (back xs ys may.within);
  once = λ b. let o = may.once b in let p = cover-append (xs ++ ys) heap.gaps b in let q = cover-append xs ys b in let r = cover-append ys (give_all xs heap).gaps b in let s = cover-give_all xs heap b in omega (arith, o, p, q, r, s);
}
  where
    back : (xs ys : List Extent) → AllByRecursion (λ (e : Extent). (266 ≤ e.place) × (end_of e ≤ heap.end + 1)) (xs ++ ys) → AllByRecursion (λ (e : Extent). (266 ≤ e.place) × (end_of e ≤ heap.end + 1)) ys
    back [] ys all = all
    back (x ∷ xs) ys all = back xs ys all.1

pub first_inside : (xs ys gaps : List Extent) → IsWithin (heap_fields ++ xs ++ gaps) (heap_fields ++ (xs ++ ys) ++ gaps)
first_inside xs ys gaps b none =
    let p = cover-append (heap_fields ++ (xs ++ ys)) gaps b in let q = cover-append heap_fields (xs ++ ys) b in let r = cover-append xs ys b in
    let s = cover-append (heap_fields ++ xs) gaps b in let t = cover-append heap_fields xs b in omega (arith, none, p, q, r, s, t)

pub second_inside : (xs ys : List Extent) (heap : Heap) → IsWithin (heap_fields ++ ys ++ (give_all xs heap).gaps) (heap_fields ++ (xs ++ ys) ++ heap.gaps)
second_inside xs ys heap b none =
    let p = cover-append (heap_fields ++ (xs ++ ys)) heap.gaps b in let q = cover-append heap_fields (xs ++ ys) b in let r = cover-append xs ys b in
    let s = cover-append (heap_fields ++ ys) (give_all xs heap).gaps b in let t = cover-append heap_fields ys b in let u = cover-give_all xs heap b in omega (arith, none, p, q, r, s, t, u)

pub first_bytes : (xs ys gaps : List Extent) (old new : Option (List ℕ)) → Both (ChangesOnly (heap_fields ++ xs ++ gaps)) old new → Both (ChangesOnly (heap_fields ++ (xs ++ ys) ++ gaps)) old new
first_bytes xs ys gaps old new c = widened (heap_fields ++ xs ++ gaps) (heap_fields ++ (xs ++ ys) ++ gaps) old new (first_inside xs ys gaps) c

pub both_bytes : (xs ys : List Extent) (heap : Heap) (old middle new : Option (List ℕ)) → Both (ChangesOnly (heap_fields ++ xs ++ heap.gaps)) old middle → Both (ChangesOnly (heap_fields ++ ys ++ (give_all xs heap).gaps)) middle new → Both (ChangesOnly (heap_fields ++ (xs ++ ys) ++ heap.gaps)) old new
both_bytes xs ys heap old middle new v w =
    changes_then (heap_fields ++ (xs ++ ys) ++ heap.gaps) old middle new (first_bytes xs ys heap.gaps old middle v)
    (widened (heap_fields ++ ys ++ (give_all xs heap).gaps) (heap_fields ++ (xs ++ ys) ++ heap.gaps) middle new (second_inside xs ys heap) w)

-- ---- the table and the chunks

module _ (xs ys : List Extent) (heap later : Heap) (old middle : Option (List ℕ)) where
  pub first_not_given : Ungivable old xs heap → Ungivable old (xs ++ ys) heap
  first_not_given (inl u) = inl u
  first_not_given (inr none) = inr (λ may. none (may_first xs ys heap may))

  pub second_not_given : (ranges : List Extent) → Both (ChangesOnly ranges) old middle → later ≡ give_all xs heap → Ungivable middle ys later → Ungivable old (xs ++ ys) heap
  second_not_given ranges c gives (inl u) = inl (untold_before ranges old middle c u)
  second_not_given ranges c gives (inr none) = inr (λ may. none (subst (MayGiveAll ys) (sym gives) (may_second xs ys heap may)))

-- what a place names is what is given
pub named_extents : (at : DataPlace) (chunks : List Chunk) (table : Option ℕ) (image : Option (List ℕ)) → ((parts : NodeParts) → Named at parts image → parts_of chunks ≡ parts.chunks) → ((parts : NodeParts) → Named at parts image → table ≡ parts.chunk_table) → (parts : NodeParts) → Named at parts image
    → extents_in table (parts_of chunks) ≡ data_extents parts
named_extents at chunks table image says tells parts n = ap (λ (cs : List ChunkPart). extents_in table cs) (says parts n) ∙ ap (λ (o : Option ℕ). extents_in o parts.chunks) (tells parts n)

pub release_refused : (at : DataPlace) (image : Option (List ℕ)) (es : List Extent) (heap : Heap) → ((parts : NodeParts) → Named at parts image → es ≡ data_extents parts) → Ungivable image es heap → (parts : NodeParts) → Named at parts image → MayGiveAll (data_extents parts) heap → ⊥
release_refused at None es heap are u parts n may = n
release_refused at (Some bytes) es heap are (inl u) parts n may = u
release_refused at (Some bytes) es heap are (inr none) parts n may = none (subst (λ xs. MayGiveAll xs heap) (sym (are parts n)) may)

-- ---- the table of some chunks, and the chunks

module _ (table : Option ℕ) (chunks : List Chunk) where
  abbrev pub tables_of : List Extent
  tables_of = chunk_table_extents table (length chunks)

  abbrev pub extents_of : List Extent
  extents_of = chunk_extents (parts_of chunks)

  pub split : extents_in table (parts_of chunks) ≡ tables_of ++ extents_of
  split = ap (λ n. chunk_table_extents table n ++ extents_of) (length-map chunks part_of)

  pub table_alone : (gaps : List Extent) (old new : Option (List ℕ)) → Both (ChangesOnly (heap_fields ++ tables_of ++ gaps)) old new → Both (ChangesOnly (heap_fields ++ extents_in table (parts_of chunks) ++ gaps)) old new
  table_alone gaps old new c = subst (λ es. Both (ChangesOnly (heap_fields ++ es ++ gaps)) old new) (sym split) (first_bytes tables_of extents_of gaps old new c)

  pub both_given : (heap later : Heap) (old middle new : Option (List ℕ)) → later ≡ give_all tables_of heap → Both (ChangesOnly (heap_fields ++ tables_of ++ heap.gaps)) old middle → Both (ChangesOnly (heap_fields ++ extents_of ++ later.gaps)) middle new
      → Both (ChangesOnly (heap_fields ++ extents_in table (parts_of chunks) ++ heap.gaps)) old new
  both_given heap later old middle new gives first then =
      subst (λ es. Both (ChangesOnly (heap_fields ++ es ++ heap.gaps)) old new) (sym split)
      (both_bytes tables_of extents_of heap old middle new first (subst (λ (h : Heap). Both (ChangesOnly (heap_fields ++ extents_of ++ h.gaps)) middle new) gives then))

  pub table_not_given : (heap : Heap) (old : Option (List ℕ)) → Ungivable old tables_of heap → Ungivable old (extents_in table (parts_of chunks)) heap
  table_not_given heap old u = subst (λ es. Ungivable old es heap) (sym split) (first_not_given tables_of extents_of heap heap old old u)

  pub chunks_not_given : (heap later : Heap) (old middle : Option (List ℕ)) → later ≡ give_all tables_of heap → Both (ChangesOnly (heap_fields ++ tables_of ++ heap.gaps)) old middle → Ungivable middle extents_of later → Ungivable old (extents_in table (parts_of chunks)) heap
  chunks_not_given heap later old middle gives first u = subst (λ es. Ungivable old es heap) (sym split) (second_not_given tables_of extents_of heap later old middle (heap_fields ++ tables_of ++ heap.gaps) first gives u)
