-- Bytes of the data that became zero: what that leaves of the chunks, the data and the heap.
use Rattle.std.proofs.Common.{◌≡◌, inl, inr, ℕ, ◌+◌, ◌-◌, ◌<◌, ◌≤◌, arith, List, [], ◌∷◌, ◌++◌, length, take, drop, replicate, get_or, refl, sym, ◌∙◌, ap, subst}
use Rattle.std.proofs.lemmas.Bool.{cases_lt}
use Rattle.std.proofs.lemmas.List.{get_or-replicate, length-replicate, take-append-le, drop_at}
use Rattle.std.specs.Prelude.{Option, Some, None}
use Rattle.cg_io.specs.Blocks.{Both}
use Rattle.adf_format.specs.declared.types.Extent.{Extent}
use Rattle.adf_format.specs.Tiles.{cover}
use Rattle.adf_format.specs.Placement.{ChunkPart, chunk_extents}
use Rattle.adf_format.specs.LaysOut.{payloads}
use Rattle.adf_format.specs.HeapRule.{payload_length}
use Rattle.adf_model.specs.Selection.{written_over}
use Rattle.file_heap.specs.Heap.{FreeSpace, IsThreaded, ChangesOnly}
use Rattle.file_heap.proofs.Ranges.{cover_kinds}
use Rattle.file_heap.proofs.Beside.{all_lists_stay, ends_stay, all_fillers_stay}
use Rattle.adf_data.specs.Ranges.{AreIn, AreOnce, byte_place, ChangesBytes, WritesBytes}
use Rattle.adf_data.specs.Fills.{ZeroesBytes}
use Rattle.adf_data.specs.Runs.{ChangesPayloads}
use Rattle.adf_data.specs.Growing.{KeepsHeap}
use Rattle.adf_data.proofs.KeptLaws.{covered, is_in, is_behind}
use Rattle.adf_data.proofs.PayloadLaws.{payloads_written}
use Rattle.adf_data.proofs.SpanLaws.{reached_more}

-- ---- the first of some chunks

pub place_in_front : (parts more : List ChunkPart) (k : ℕ) → k < payload_length parts → byte_place (parts ++ more) k ≡ byte_place parts k
place_in_front [] more k lt = absurd (omega (arith, lt))
place_in_front (c ∷ cs) more k lt = elim (cases_lt k (c.length - 20)) [
  | inl low ↦ (let t = is_in c k low in rw t refl)
  | inr high ↦ (let t = is_behind c k high in rw t (place_in_front cs more (k - (c.length - 20)) (omega (arith, lt, high))))
]

pub payload_length-append : (parts more : List ChunkPart) → payload_length (parts ++ more) ≡ payload_length parts + payload_length more
payload_length-append [] more = omega arith
payload_length-append (c ∷ cs) more = let ih = payload_length-append cs more in omega (arith, ih)

once_in_front : (parts more : List ChunkPart) → AreOnce (parts ++ more) → AreOnce parts
once_in_front parts more once i j li lj e =
    let l = payload_length-append parts more in
    once i j (omega (arith, l, li)) (omega (arith, l, lj)) (place_in_front parts more i li ∙ e ∙ sym (place_in_front parts more j lj))

pub zeroes_front : (parts more : List ChunkPart) (first n : ℕ) (old new : List ℕ) → first + n ≤ payload_length parts → ZeroesBytes parts first n old new → ZeroesBytes (parts ++ more) first n old new
zeroes_front parts more first n old new le z = record {
  changes = record {
    longer = z.changes.longer;
    outside = λ b none. z.changes.outside b (λ j lt e. none j lt (place_in_front parts more (first + j) (omega (arith, le, lt)) ∙ e));
    grows = λ b past here.
        let g = z.changes.grows b past here in let l = g.low in let h = g.high in let k = g.block in let same = place_in_front parts more g.byte (omega (arith, h, le)) in
        record { byte = g.byte; low = l; high = h; block = omega (arith, k, same) };
  };
  zeros = λ once j lt. ap (λ b. get_or new b 0) (place_in_front parts more (first + j) (omega (arith, le, lt))) ∙ z.zeros (once_in_front parts more once) j lt;
}

-- ---- zeros are written

pub zeroes_write : (parts : List ChunkPart) (first n : ℕ) (old new : List ℕ) → ZeroesBytes parts first n old new → WritesBytes parts first (replicate n 0) n old new
zeroes_write parts first n old new z = record { changes = z.changes; within = λ once j lt. z.zeros once j lt ∙ sym (get_or-replicate n j 0 0 lt) }

pub zeroes_payloads : (parts : List ChunkPart) (first n : ℕ) (old new : List ℕ) → first + n ≤ payload_length parts → ZeroesBytes parts first n old new → ChangesPayloads parts old new
zeroes_payloads parts first n old new le z = record { longer = z.changes.longer; outside = λ b none. z.changes.outside b (λ j lt. none (first + j) (omega (arith, le, lt))); grows = λ b past here. reached_more parts first n 0 (payload_length parts) b (omega arith) (omega (arith, le)) (z.changes.grows b past here) }

pub payloads_zeroed : (parts : List ChunkPart) (first n : ℕ) (old new : List ℕ) → AreOnce parts → AreIn parts old → first + n ≤ payload_length parts → ZeroesBytes parts first n old new → payloads new parts ≡ written_over (payloads old parts) first (replicate n 0)
payloads_zeroed parts first n old new once all le z =
    let l : length (replicate n 0) ≡ n = length-replicate {A = ℕ} n 0 in
    payloads_written parts first (replicate n 0) old new once all (omega (arith, le, l)) (subst (λ m. WritesBytes parts first (replicate n 0) m old new) (sym l) (zeroes_write parts first n old new z))

-- only bytes of the chunks change
pub changes_chunks : (parts : List ChunkPart) (first n : ℕ) (old new : List ℕ) → first + n ≤ payload_length parts → ChangesBytes parts first n old new → ChangesOnly (chunk_extents parts) old new
changes_chunks parts first n old new le z = record {
  longer = z.longer;
  others = λ b none. z.outside b (λ j lt e. clash b j lt none e);
  grows = λ b past here. let g = z.grows b past here in let h = g.high in record { byte = byte_place parts g.byte; own = (let c = covered parts g.byte (omega (arith, h, le)) in omega (arith, c)); block = g.block };
}
  where
    clash : (b j : ℕ) → j < n → cover (chunk_extents parts) b ≡ 0 → byte_place parts (first + j) ≡ b → ⊥
    clash b j lt none e = let c : 1 ≤ cover (chunk_extents parts) b = subst (λ k. 1 ≤ cover (chunk_extents parts) k) e (covered parts (first + j) (omega (arith, le, lt))) in omega (arith, c, none)

pub all_changes_chunks : (parts : List ChunkPart) (first n : ℕ) (old new : Option (List ℕ)) → first + n ≤ payload_length parts → Both (ChangesBytes parts first n) old new → Both (ChangesOnly (chunk_extents parts)) old new
all_changes_chunks parts first n None None le z = tt
all_changes_chunks parts first n None (Some new) le z = z
all_changes_chunks parts first n (Some old) None le z = z
all_changes_chunks parts first n (Some old) (Some new) le z = changes_chunks parts first n old new le z

-- ---- the heap stays where ranges beside it change

module _ (es : List Extent) (space : FreeSpace) (low : (b : ℕ) → 0 < cover es b → 266 ≤ b) (apart : (b : ℕ) → 0 < cover es b → cover space.heap.gaps b ≡ 0) (old new : List ℕ) (c : ChangesOnly es old new) (threads : IsThreaded space old) where
  none_low : (b : ℕ) → b < 266 → cover es b ≡ 0
  none_low b lt = elim (cases_lt 0 (cover es b)) [
    | inl some ↦ absurd (let l = low b some in omega (arith, l, lt))
    | inr none ↦ omega (arith, none)
  ]

  none_in_gaps : (b : ℕ) → 0 < cover space.heap.gaps b → cover es b ≡ 0
  none_in_gaps b gap = elim (cases_lt 0 (cover es b)) [
    | inl some ↦ absurd (let a = apart b some in omega (arith, a, gap))
    | inr none ↦ omega (arith, none)
  ]

  pub heap_stays : KeepsHeap space.heap space old new
  heap_stays = record {
    threads = all_lists_stay es space (Some old) (Some new) c (record { table = λ b low high. none_low b (omega (arith, high)); chunks = λ b some. none_in_gaps b (let k = cover_kinds b space.heap.gaps in omega (arith, k, some)) }) threads;
    end = ends_stay es space space.heap.end (Some old) (Some new) c (λ b low high. none_low b (omega (arith, high))) threads;
    fillers = all_fillers_stay es space.heap.gaps (Some old) (Some new) c (λ b some. none_in_gaps b (let k = cover_kinds b space.heap.gaps in omega (arith, k, some)));
  }

-- ---- the bytes

pub over_front : (xs ys : List ℕ) (was n : ℕ) → length xs ≡ was + n → written_over (xs ++ ys) was (replicate n 0) ≡ take was xs ++ replicate n 0 ++ ys
over_front xs ys was n long =
    ap (λ t. t ++ replicate n 0 ++ drop (was + length (replicate {A = ℕ} n 0)) (xs ++ ys)) (take-append-le was xs ys (omega (arith, long)))
    ∙ ap (λ t. take was xs ++ replicate n 0 ++ t) (drop_at xs ys (was + length (replicate {A = ℕ} n 0)) (let l = length-replicate {A = ℕ} n 0 in omega (arith, long, l)))
