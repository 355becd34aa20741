-- What a change of the data of one node leaves.
use Rattle.std.proofs.Common.{◌≡◌, ◌≢◌, ℕ, zero, suc, ◌+◌, ◌-◌, ◌≤◌, arith, List, [], ◌∷◌, ◌++◌, length, take, refl, sym, ◌∙◌, ap, subst}
use Rattle.std.specs.Prelude.{Option, Some, None, replicate, min}
use Rattle.std.proofs.lemmas.List.{length-append, length-take, length-replicate, take-append-le, take_min}
use Rattle.std.proofs.Math.Seq.{take-length}
use Rattle.adf_format.specs.declared.types.Extent.{Extent}
use Rattle.adf_format.specs.Fields.{field}
use Rattle.adf_format.specs.Placement.{NodeParts, ChunkPart}
use Rattle.adf_format.specs.LaysOut.{HasChunkTable, payloads}
use Rattle.adf_format.specs.Changes.{IsApart, heap_fields}
use Rattle.adf_format.specs.HeapRule.{data_extents, give_all}
use Rattle.adf_format.proofs.FrameLaws.{whole}
use Rattle.adf_model.specs.Edits.{resized}
use Rattle.adf_model.specs.NodeData.{DataSpot, HoldsData, KeepsOthers, IsResized, IsReleased}

-- ---- chunks

no_table : (image : List ℕ) (chunks : List ChunkPart) (table : Option ℕ) → chunks ≡ [] → HasChunkTable image chunks table → table ≡ None
no_table image chunks None e h = refl
no_table image chunks (Some place) e h = absurd (few (ap length e) h.0)
  where
    few : length chunks ≡ 0 → 2 ≤ length chunks → ⊥
    few e h = omega (arith, e, h)

pub no_chunks : (image : List ℕ) (parts : NodeParts) → HoldsData image parts None → (parts.chunks ≡ []) × (parts.chunk_table ≡ None)
no_chunks image parts h = (h.begins, no_table image parts.chunks parts.chunk_table h.begins h.chunk_table)

pub data_read : (image : List ℕ) (parts : NodeParts) (bytes : List ℕ) → HoldsData image parts (Some bytes) → (parts.chunks ≢ []) × (take (length bytes) (payloads image parts.chunks) ≡ bytes)
data_read image parts bytes h = h.begins

pub data_once : (image : List ℕ) (parts : NodeParts) (bytes other : List ℕ) → length bytes ≡ length other → HoldsData image parts (Some bytes) → HoldsData image parts (Some other) → bytes ≡ other
data_once image parts bytes other e h k = sym h.begins.1 ∙ ap (λ n. take n (payloads image parts.chunks)) e ∙ k.begins.1

-- ---- sizes

take_less : (n m : ℕ) (xs : List ℕ) → n ≤ m → take n (take m xs) ≡ take n xs
take_less zero m xs le = refl
take_less (suc n) zero xs le = absurd (none le)
  where
    none : suc n ≤ 0 → ⊥
    none le = omega (arith, le)
take_less (suc n) (suc m) [] le = refl
take_less (suc n) (suc m) (x ∷ xs) le = ap (λ (l : List ℕ). x ∷ l) (take_less n m xs (omega (arith, le)))

length-resized : (bytes : List ℕ) (size : ℕ) → length (resized bytes size) ≡ size
length-resized bytes size =
    let zeros : List ℕ = replicate (size - length bytes) 0 in
    let front : length (take size bytes) ≡ min size (length bytes) = length-take size bytes in
    let behind : length zeros ≡ size - length bytes = length-replicate (size - length bytes) 0 in
    length-append (take size bytes) zeros ∙ ap (λ n. n + length zeros) front ∙ ap (λ n. min size (length bytes) + n) behind ∙ whole_size (length bytes)
  where
    whole_size : (have : ℕ) → min size have + (size - have) ≡ size
    whole_size have = omega arith

-- the first bytes of data that got a size
first_bytes : (size : ℕ) (bytes image : List ℕ) (parts : NodeParts) → HoldsData image parts (Some (resized bytes size)) → take size (payloads image parts.chunks) ≡ resized bytes size
first_bytes size bytes image parts h = ap (λ n. take n (payloads image parts.chunks)) (sym (length-resized bytes size)) ∙ h.begins.1

pub resize_keeps : (limit size n : ℕ) (bytes old new : List ℕ) (spot after : DataSpot) → IsResized limit size (Some bytes) spot after old new → n ≤ length bytes → n ≤ size → take n (payloads new after.0.chunks) ≡ take n bytes
resize_keeps limit size n bytes old new spot after h have le =
    sym (take_less n size (payloads new after.0.chunks) le) ∙ ap (take n) (first_bytes size bytes new after.0 h.holds)
    ∙ take-append-le n (take size bytes) (replicate (size - length bytes) 0) (subst (λ k. n ≤ k) (sym (length-take size bytes)) (within (length bytes) have)) ∙ take_less n size bytes le
  where
    within : (k : ℕ) → n ≤ k → n ≤ min size k
    within k have = omega (arith, have, le)

take_whole : (n : ℕ) (xs : List ℕ) → length xs ≤ n → take n xs ≡ xs
take_whole n xs le = sym (take_min n xs) ∙ ap (λ k. take k xs) (least (length xs) le) ∙ take-length xs
  where
    least : (k : ℕ) → k ≤ n → min n k ≡ k
    least k le = omega (arith, le)

pub resize_grows : (limit size : ℕ) (bytes old new : List ℕ) (spot after : DataSpot) → IsResized limit size (Some bytes) spot after old new → length bytes ≤ size → (zeros : ℕ) × (take size (payloads new after.0.chunks) ≡ bytes ++ replicate zeros 0)
resize_grows limit size bytes old new spot after h le =
    (size - length bytes, first_bytes size bytes new after.0 h.holds ∙ ap (λ (l : List ℕ). l ++ replicate (size - length bytes) 0) (take_whole size bytes le))

pub resize_fresh : (limit size : ℕ) (old new : List ℕ) (spot after : DataSpot) → IsResized limit size None spot after old new → take size (payloads new after.0.chunks) ≡ replicate size 0
resize_fresh limit size old new spot after h =
    first_bytes size [] new after.0 h.holds ∙ ap (λ (l : List ℕ). l ++ replicate (size - 0) 0) (take_whole size [] (omega arith)) ∙ ap (λ n. replicate n 0) (all size)
  where
    all : (n : ℕ) → n - 0 ≡ n
    all n = omega arith

-- ---- other parts

pub others_kept : (spot : DataSpot) (old new : List ℕ) (e : Extent) → KeepsOthers spot old new → IsApart (heap_fields ++ spot.1.gaps ++ data_extents spot.0) spot.1.end e → field new e.place e.length ≡ field old e.place e.length
others_kept spot old new e keeps apart = whole (heap_fields ++ spot.1.gaps ++ data_extents spot.0) spot.1.end old new keeps e apart

-- ---- releases

pub release_none : (spot after : DataSpot) (old new : List ℕ) → IsReleased spot after old new → (after.0.chunks ≡ []) × (after.0.chunk_table ≡ None)
release_none spot after old new h = (ap (λ (s : DataSpot). s.0.chunks) h.placed, ap (λ (s : DataSpot). s.0.chunk_table) h.placed)

pub release_rest : (spot after : DataSpot) (old new : List ℕ) → IsReleased spot after old new → (after.0.header ≡ spot.0.header) × (after.0.table ≡ spot.0.table)
release_rest spot after old new h = (ap (λ (s : DataSpot). s.0.header) h.placed, ap (λ (s : DataSpot). s.0.table) h.placed)

pub release_gives : (spot after : DataSpot) (old new : List ℕ) → IsReleased spot after old new → after.1 ≡ give_all (data_extents spot.0) spot.1
release_gives spot after old new h = ap (λ (s : DataSpot). s.1) h.placed
