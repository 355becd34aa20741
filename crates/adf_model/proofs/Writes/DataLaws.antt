-- A change of size of one node's data, and their release, are the same in a file as by themselves.
use Rattle.std.proofs.Common.{◌≡◌, ℕ, ◌+◌, ◌-◌, Bool, true, false, List, [], ◌∷◌, ◌++◌, length, refl, sym, ◌∙◌, ap}
use Rattle.std.specs.Prelude.{Option, Some, None, Result, Ok, Err, nat_le, nat_lt, if◌then◌else◌, slice_set}
use Rattle.std.proofs.lemmas.List.{set-get_or}
use Rattle.adf_format.specs.Placement.{Placement, NodeParts, ChunkPart, Heap, parts_of, chunk_table_extents}
use Rattle.adf_format.specs.HeapRule.{LimitReached, Taken, heap_take, chunk_length_for, parts_or_none, parts_at, with_parts, after_gives, data_extents, chunk, in_one_chunk, in_one_more, payload_length, hold, release, ◌>>=◌}
use Rattle.adf_format.specs.Parts.{chunk_table_length}
use Rattle.adf_model.specs.NodeData.{DataSpot, alone, spot_of, resized_spot, released_spot, with_spot, with_spot_or}

module _ (limit serial : ℕ) (p : Placement) where
  abbrev node : NodeParts
  node = parts_at p serial

  abbrev spot : DataSpot
  spot = (node, p.heap)

  abbrev in_file : Result Placement LimitReached → Result Placement LimitReached
  in_file r = with_spot_or p serial (r >>= λ (q : Placement). Ok (spot_of q))

  one_chunk : (size : ℕ) → in_one_chunk limit p serial size ≡ in_file (in_one_chunk limit (alone spot) 0 size)
  one_chunk size = by_take (heap_take limit (chunk_length_for size) p.heap)
    where
      by_take : (r : Result (ℕ × Heap) LimitReached) →
          ((r >>= λ (t : ℕ × Heap). Ok (t.0, record p { heap = t.1 })) >>= λ (t : Taken).
          Ok (after_gives (with_parts t.1 serial (record node { chunks = chunk t.0 (chunk_length_for size) ∷ []; chunk_table = None })) (data_extents node)))
          ≡ in_file ((r >>= λ (t : ℕ × Heap). Ok (t.0, record (alone spot) { heap = t.1 })) >>= λ (t : Taken).
          Ok (after_gives (with_parts t.1 0 (record node { chunks = chunk t.0 (chunk_length_for size) ∷ []; chunk_table = None })) (data_extents node)))
      by_take (Ok t) = refl
      by_take (Err full) = refl

  one_more : (added : ℕ) → in_one_more limit p serial added ≡ in_file (in_one_more limit (alone spot) 0 added)
  one_more added = by_take (heap_take limit (chunk_length_for added) p.heap)
    where
      in_both : (c : ℕ × Heap) (r : Result (ℕ × Heap) LimitReached) →
          ((r >>= λ (t : ℕ × Heap). Ok (t.0, record p { heap = t.1 })) >>= λ (t : Taken).
          Ok (after_gives (with_parts t.1 serial (record node { chunks = node.chunks ++ chunk c.0 (chunk_length_for added) ∷ []; chunk_table = Some t.0 })) (chunk_table_extents node.chunk_table (length node.chunks))))
          ≡ in_file ((r >>= λ (t : ℕ × Heap). Ok (t.0, record (alone spot) { heap = t.1 })) >>= λ (t : Taken).
          Ok (after_gives (with_parts t.1 0 (record node { chunks = node.chunks ++ chunk c.0 (chunk_length_for added) ∷ []; chunk_table = Some t.0 })) (chunk_table_extents node.chunk_table (length node.chunks))))
      in_both c (Ok t) = refl
      in_both c (Err full) = refl

      by_take : (r : Result (ℕ × Heap) LimitReached) →
          ((r >>= λ (t : ℕ × Heap). Ok (t.0, record p { heap = t.1 })) >>= λ (c : Taken).
          ((heap_take limit (chunk_table_length (length node.chunks + 1)) c.1.heap >>= λ (t : ℕ × Heap). Ok (t.0, record c.1 { heap = t.1 })) >>= λ (t : Taken).
          Ok (after_gives (with_parts t.1 serial (record node { chunks = node.chunks ++ chunk c.0 (chunk_length_for added) ∷ []; chunk_table = Some t.0 })) (chunk_table_extents node.chunk_table (length node.chunks)))))
          ≡ in_file ((r >>= λ (t : ℕ × Heap). Ok (t.0, record (alone spot) { heap = t.1 })) >>= λ (c : Taken).
          ((heap_take limit (chunk_table_length (length node.chunks + 1)) c.1.heap >>= λ (t : ℕ × Heap). Ok (t.0, record c.1 { heap = t.1 })) >>= λ (t : Taken).
          Ok (after_gives (with_parts t.1 0 (record node { chunks = node.chunks ++ chunk c.0 (chunk_length_for added) ∷ []; chunk_table = Some t.0 })) (chunk_table_extents node.chunk_table (length node.chunks)))))
      by_take (Ok c) = in_both c (heap_take limit (chunk_table_length (length node.chunks + 1)) c.1)
      by_take (Err full) = refl

  -- the parts that a node has, put back, change nothing
  same_parts : (parts : NodeParts) → parts_of p serial ≡ Some parts → Ok p ≡ in_file (Ok (alone spot))
  same_parts parts here = ap (λ (ps : List (Option NodeParts)). Ok (record p { parts = ps })) (sym (set-get_or p.parts serial None) ∙ ap (slice_set p.parts serial) (here ∙ ap (λ o. Some (parts_or_none o)) (sym here)))

  by_chunks : (parts : NodeParts) → parts_of p serial ≡ Some parts → (size : ℕ) (chunks : List ChunkPart) → hold limit p serial size chunks ≡ in_file (hold limit (alone spot) 0 size chunks)
  by_chunks parts here size [] = one_chunk size
  by_chunks parts here size (c ∷ cs) = by_fit (nat_le size (payload_length (c ∷ cs))) (nat_lt (length (c ∷ cs)) 64)
    where
      by_fit : (fits few : Bool) →
          (if fits then Ok p else if few then in_one_more limit p serial (size - payload_length (c ∷ cs)) else in_one_chunk limit p serial size)
          ≡ in_file (if fits then Ok (alone spot) else if few then in_one_more limit (alone spot) 0 (size - payload_length (c ∷ cs)) else in_one_chunk limit (alone spot) 0 size)
      by_fit true few = same_parts parts here
      by_fit false true = one_more (size - payload_length (c ∷ cs))
      by_fit false false = one_chunk size

  -- a change of size in a file
  pub hold-alone : (parts : NodeParts) → parts_of p serial ≡ Some parts → (size : ℕ) → hold limit p serial size (parts_at p serial).chunks ≡ with_spot_or p serial (resized_spot limit size (parts_at p serial, p.heap))
  hold-alone parts here size = by_chunks parts here size node.chunks

-- a release in a file
pub release-alone : (serial : ℕ) (p : Placement) → release p serial ≡ with_spot p serial (released_spot (parts_at p serial, p.heap))
release-alone serial p = refl
