-- Data that are put whole stand where the rule places them.
use Rattle.std.proofs.Common.{◌≡◌, inl, ℕ, ◌+◌, ◌-◌, ◌≤◌, arith, List, [], ◌∷◌, ◌++◌, length, take, replicate, refl, sym, ◌∙◌, ap, subst}
use Rattle.std.proofs.lemmas.List.{append-nil}
use Rattle.std.proofs.Math.Seq.{take-append-add}
use Rattle.std.specs.Prelude.{Option, Some, None, IfSome, Ok, Err}
use Rattle.cg_io.specs.Blocks.{Both}
use Rattle.adf_format.specs.Pointer.{To}
use Rattle.adf_format.specs.Parts.{payload}
use Rattle.adf_format.specs.Placement.{Placement, ChunkPart, Heap}
use Rattle.adf_format.specs.HeapRule.{LimitReached, heap_take, give_all, chunk, chunk_length_for, data_extents, hold, ◌>>=◌}
use Rattle.adf_model.specs.NodeData.{alone, spot_of}
use Rattle.disk_ptr.specs.View.{view}
use Rattle.file_heap.specs.Heap.{FreeSpace, IsThreaded, MovesEnd, KeepsFillers}
use Rattle.adf_data.specs.declared.place.DataPlace.{DataPlace}
use Rattle.adf_data.specs.Fills.{MakesText}
use Rattle.adf_data.specs.Sizes.{extents_in}
use Rattle.adf_data.specs.Growing.{KeepsHeap, PutsData, IsFullFor}
use Rattle.adf_data.proofs.SizeLaws.{placed_once, one_placed, one_refused}

-- a text and what stands behind it begin with the text
front : (text more : List ℕ) → take (length text) (text ++ more) ≡ text
front text more = let e : length text + 0 ≡ length text = omega arith in sym (ap (λ k. take k (text ++ more)) e) ∙ take-append-add text more 0 ∙ append-nil text

module _ (limit : ℕ) (text : List ℕ) (n place : ℕ) (now : DataPlace) (h0 : Heap) (h1 : FreeSpace) (some : 1 ≤ length text) (n_is : n ≡ chunk_length_for (length text))
    (takes : heap_take limit n h0 ≡ Ok (place, h1.heap)) (one : now.count ≡ 1) (points : view now.pointer ≡ To place) where
  abbrev size : ℕ
  size = chunk_length_for (length text)

  put : (b c : List ℕ) → MakesText text n place b c → (a : List ℕ) → KeepsHeap h0 h1 a c → PutsData limit text now h0 h1 a c
  put b c made a heap parts none untabled = (
    record parts { chunks = chunk place size ∷ []; chunk_table = None },
    record {
      placed =
          ap (λ (xs : List ChunkPart). hold limit (alone (parts, h0)) 0 (length text) xs >>= λ (q : Placement). Ok (spot_of q)) none
          ∙ placed_once limit (parts, h0) (length text) [] (omega (arith, some)) (inl refl) ∙ one_placed limit (parts, h0) (length text) place h1.heap (subst (λ m. heap_take limit m h0 ≡ Ok (place, h1.heap)) n_is takes)
          ∙ ap (λ (h : Heap). Ok (record parts { chunks = chunk place size ∷ []; chunk_table = None }, h)) given;
      named = record { count = one; pointer = points };
      holds = record {
        chunk_table = omega arith;
        chunks = (whole.spells, tt);
        begins = ((λ e. cc), ap (take (length text)) (append-nil (payload c place size) ∙ whole.body) ∙ front text (replicate (size - 20 - length text) 0));
      };
      heap = heap;
    },
  )
    where
      whole : MakesText text size place b c
      whole = subst (λ m. MakesText text m place b c) n_is made

      given : give_all (data_extents parts) h1.heap ≡ h1.heap
      given = ap (λ (xs : List ChunkPart). give_all (extents_in parts.chunk_table xs) h1.heap) none ∙ ap (λ (o : Option ℕ). give_all (extents_in o []) h1.heap) untabled

  pub all_put : (a b c : Option (List ℕ)) → Both (MakesText text n place) b c → IfSome c (IsThreaded h1) → Both (MovesEnd h0.end h1.heap.end) a c → Both (KeepsFillers h0.gaps h1.heap.gaps) a c → Both (PutsData limit text now h0 h1) a c
  all_put None b None made threads end fillers = tt
  all_put None b (Some c) made threads end fillers = end
  all_put (Some a) b None made threads end fillers = end
  all_put (Some a) None (Some c) made threads end fillers = absurd made
  all_put (Some a) (Some b) (Some c) made threads end fillers = put b c made a (record { threads = threads; end = end; fillers = fillers })

-- the rule refuses the size where the take of the chunk is refused
pub whole_full : (limit size n : ℕ) (heap : Heap) (full : LimitReached) → 1 ≤ size → n ≡ chunk_length_for size → heap_take limit n heap ≡ Err full → IsFullFor limit None [] size heap full
whole_full limit size n heap full some n_is refused at none untabled =
    ap (λ (xs : List ChunkPart). hold limit (alone (at, heap)) 0 size xs >>= λ (q : Placement). Ok (spot_of q)) none
    ∙ placed_once limit (at, heap) size [] (omega (arith, some)) (inl refl) ∙ one_refused limit (at, heap) size full (subst (λ m. heap_take limit m heap ≡ Err full) n_is refused)
