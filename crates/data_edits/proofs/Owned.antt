-- The data of a node of a tree that is meant: its header names its chunks, which may be given.
use Rattle.std.proofs.Common.{◌≡◌, ◌⊎◌, inl, inr, ℕ, suc, refl, sym, ◌∙◌, ap, subst, arith, List, [], ◌∷◌, ◌++◌, length, ◌+◌, ◌-◌, ◌<◌, ◌≤◌, true, not, ◌==◌, Option, None, Some}
use Rattle.std.proofs.lemmas.Bool.Decides.{nat_tests}
use Rattle.std.specs.Prelude.{is_some, IfSome, Ok, ◌&&◌}
use Rattle.std.specs.List.{AllByRecursion}
use Rattle.adf_format.specs.declared.types.Extent.{Extent}
use Rattle.adf_format.specs.Fields.{field}
use Rattle.adf_format.specs.HeapRule.{data_extents}
use Rattle.adf_format.specs.LaysOut.{HoldsNode, HasData}
use Rattle.adf_format.specs.Names.{data_size, is_same_type}
use Rattle.adf_format.specs.Parts.{SpellsChunk, chunk_table_length}
use Rattle.adf_format.specs.Placement.{Placement, NodeParts, ChunkPart, chunk_table_extents, chunk_extents, live_extents}
use Rattle.adf_format.specs.Spelled.{pointer_to}
use Rattle.adf_format.specs.Tiles.{cover, end_of}
use Rattle.adf_format.specs.Tree.{Tree}
use Rattle.adf_format.proofs.HeapLaws.{in_range}
use Rattle.adf_format.proofs.HeapSteps.{cover-append}
use Rattle.adf_model.specs.declared.tree.NodeId.{NodeId}
use Rattle.adf_model.specs.declared.tree.Shape.{Shape}
use Rattle.adf_model.specs.Edits.{keeps_data}
use Rattle.adf_model.proofs.Creation.PartsApart.{range_in, cover_all}
use Rattle.adf_model.proofs.Writes.Reaches.{less_or}
use Rattle.adf_records.specs.declared.NodeHeader.{NodeHeader}
use Rattle.adf_data.specs.Sizes.{MayGiveAll}
use Rattle.disk_ptr.specs.View.{view, place_of}
use Rattle.disk_ptr.specs.declared.DiskPtr.{DiskPtr}
use Rattle.disk_ptr.specs.declared.DiskPtr.TheVariants.{Blank as blank, At}
use Rattle.tree_laws.proofs.Data.ShapeSet.{own_live}
use Rattle.tree_laws.proofs.Holding.Steps.{from_layout, once, up_to_end}
use Rattle.tree_edits.specs.declared.memory.Core.{Core}
use Rattle.tree_edits.specs.declared.rows.Row.{Row}
use Rattle.tree_edits.specs.Rows.{Means}
use Rattle.tree_edits.specs.Edits.{memory_of}
use Rattle.tree_asks.specs.Headers.{IsItsHeader, dims_of}
use Rattle.tree_asks.proofs.Nodes.{its}
use Rattle.data_edits.specs.Found.{MayEdit}
use Rattle.data_edits.specs.Becomes.{OwnsData}
use Rattle.data_edits.specs.Shaped.{keeps}

-- ---- ranges that may be given

module _ (image : List ℕ) (tree : Tree) (p : Placement) (core : Core) (m : Means image tree p (memory_of core)) where
  one_each : (b : ℕ) → cover (live_extents tree.wide p) b + cover p.heap.gaps b ≤ 1
  one_each b = let one = once image tree p [] (from_layout image tree p m.laid_out) b in omega (arith, one)

  -- bytes of live parts stand behind the free table and up to the end
  range_may : (place n : ℕ) → 0 < n → ((b : ℕ) → in_range place n b ≤ cover (live_extents tree.wide p) b) → (266 ≤ place) × (place + n ≤ p.heap.end + 1)
  range_may place n some live = (low (less_or place 266), high)
    where
      live_at : (b : ℕ) → place ≤ b → b < place + n → 0 < cover (live_extents tree.wide p) b
      live_at b here there = let held = range_in place n b here there in let l = live b in omega (arith, held, l)

      high : place + n ≤ p.heap.end + 1
      high =
          let l = live_at (place + n - 1) (omega (arith, some)) (omega (arith, some)) in
          let last = up_to_end image tree p [] (from_layout image tree p m.laid_out) (place + n - 1) (let all = cover_all tree.wide p (place + n - 1) in omega (arith, l, all)) in
          omega (arith, last, some)

      low : (place < 266) ⊎ (266 ≤ place) → 266 ≤ place
      low (inr le) = le
      low (inl lt) = absurd (elim (less_or place 186) [
        | inl head ↦ (let l = live_at place (omega arith) (omega (arith, some)) in let one = once image tree p [] (from_layout image tree p m.laid_out) place in let held = range_in 0 186 place (omega arith) (omega (arith, head)) in omega (arith, l, one, held))
        | inr table ↦ (let l = live_at place (omega arith) (omega (arith, some)) in let one = once image tree p [] (from_layout image tree p m.laid_out) place in let held = range_in 186 80 place table (omega (arith, lt)) in omega (arith, l, one, held))
      ])

  abbrev IsWithin : Extent → Type 0
  IsWithin e = (266 ≤ e.place) × (end_of e ≤ p.heap.end + 1)

  chunks_may : (chunks : List ChunkPart) → AllByRecursion (λ (c : ChunkPart). SpellsChunk (field image c.place c.length) c.place c.length) chunks → ((b : ℕ) → cover (chunk_extents chunks) b ≤ cover (live_extents tree.wide p) b) → AllByRecursion IsWithin (chunk_extents chunks)
  chunks_may [] all live = tt
  chunks_may (c ∷ cs) all live = (
    range_may c.place c.length (let l = all.0.long in omega (arith, l)) (λ b. let l = live b in omega (arith, l)),
    chunks_may cs all.1 (λ b. let l = live b in omega (arith, l)),
  )

  both_may : (xs ys : List Extent) → AllByRecursion IsWithin xs → AllByRecursion IsWithin ys → AllByRecursion IsWithin (xs ++ ys)
  both_may [] ys a b = b
  both_may (x ∷ xs) ys a b = (a.0, both_may xs ys a.1 b)

  table_may : (o : Option ℕ) (count : ℕ) → ((b : ℕ) → cover (chunk_table_extents o count) b ≤ cover (live_extents tree.wide p) b) → AllByRecursion IsWithin (chunk_table_extents o count)
  table_may None count live = tt
  table_may (Some place) count live = (range_may place (chunk_table_length count) (omega arith) (λ b. let l = live b in omega (arith, l)), tt)

  data_may : (parts : NodeParts) → AllByRecursion (λ (c : ChunkPart). SpellsChunk (field image c.place c.length) c.place c.length) parts.chunks → ((b : ℕ) → cover (data_extents parts) b ≤ cover (live_extents tree.wide p) b) → MayGiveAll (data_extents parts) core.heap.work.heap
  data_may parts all live = subst (MayGiveAll (data_extents parts)) m.heap (record {
    within = both_may (chunk_table_extents parts.chunk_table (length parts.chunks)) (chunk_extents parts.chunks)
        (table_may parts.chunk_table (length parts.chunks) (λ b. let l = live b in let s = split b in omega (arith, l, s)))
        (chunks_may parts.chunks all (λ b. let l = live b in let s = split b in omega (arith, l, s)));
    once = λ b. let l = live b in let one = one_each b in let s = cover-append (data_extents parts) p.heap.gaps b in omega (arith, l, one, s);
  })
    where
      split : (b : ℕ) → cover (data_extents parts) b ≡ cover (chunk_table_extents parts.chunk_table (length parts.chunks)) b + cover (chunk_extents parts.chunks) b
      split b = cover-append (chunk_table_extents parts.chunk_table (length parts.chunks)) (chunk_extents parts.chunks) b

-- ---- what a header says of the data

named_is : (d : DiskPtr) (o : Option ℕ) → place_of d ≡ o → view d ≡ pointer_to o
named_is blank o e = ap pointer_to e
named_is (At block offset) o e = ap pointer_to e

-- data are there where there are chunks
some_data : (image : List ℕ) (chunks : List ChunkPart) (o : Option (List ℕ)) → HasData image chunks o → is_some o ≡ not (length chunks == 0)
some_data image chunks None h = ap (λ (cs : List ChunkPart). not (length cs == 0)) (sym h)
some_data image [] (Some bytes) h = absurd (h.0 refl)
some_data image (c ∷ cs) (Some bytes) h = at_least (length cs)
  where
    at_least : (n : ℕ) → true ≡ not (suc n == 0)
    at_least n = grind (arith, nat_tests)

module _ (image : List ℕ) (core : Core) (node : NodeId) (row : Row) (h : NodeHeader) (may : MayEdit core node (Some image) row h) (tree : Tree) (p : Placement) (m : Means image tree p (memory_of core)) where
  pub i : IsItsHeader image tree p node.serial row.place h
  i = its core node.serial row may.reads.found (Some image) (Ok h) may.reads.read tree p m

  held : HoldsNode image tree p i.node i.parts
  held = m.laid_out.nodes node.serial i.node i.parts i.is.live i.is.stands

  pub owned : OwnsData h i.parts i.node.bytes core.heap.work.heap image
  owned = record {
    named = record { count = i.fields.chunks; pointer = named_is h.chunk _ i.fields.chunk };
    holds = record { chunk_table = held.chunk_table; chunks = held.chunks; begins = held.bytes };
    long = subst (λ n. IfSome i.node.bytes (λ (b : List ℕ). length b ≡ n)) (sym size_is) (m.laid_out.is_tree.each node.serial i.node i.is.live).sized;
    empty = λ mt. (m.laid_out.is_tree.each node.serial i.node i.is.live).empty (sym i.fields.kind ∙ mt);
    apart = data_may image tree p core m i.parts held.chunks (λ b. let l = own_live image tree p [] node.serial i.parts (from_layout image tree p m.laid_out) i.is.stands b in omega (arith, l));
  }
    where
      size_is : data_size h.kind (dims_of h) ≡ data_size i.node.kind i.node.dims
      size_is = ap (λ k. data_size k (dims_of h)) i.fields.kind ∙ ap (data_size i.node.kind) i.dims

  -- whether its data stay with a shape
  pub keeps_is : (shape : Shape) → keeps_data i.node shape ≡ keeps h shape
  keeps_is shape =
      ap (λ k. is_same_type k shape.kind && (length i.node.dims == shape.rank) && is_some i.node.bytes) (sym i.fields.kind)
      ∙ ap (λ n. is_same_type h.kind shape.kind && (n == shape.rank) && is_some i.node.bytes) (sym i.fields.rank)
      ∙ ap (λ b. is_same_type h.kind shape.kind && (h.rank == shape.rank) && b) (some_data image i.parts.chunks i.node.bytes held.bytes ∙ ap (λ n. not (n == 0)) (sym i.fields.chunks))
