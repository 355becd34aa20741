-- The chunk that has a byte of the data.
use Rattle.std.proofs.Common.{◌≡◌, ℕ, zero, suc, ◌+◌, ◌-◌, ◌<◌, ◌≤◌, arith, List, [], ◌∷◌, length, take, get_or, refl, sym, ◌∙◌, ap, subst, true, false}
use Rattle.std.proofs.lemmas.Bool.Decides.{nat_tests}
use Rattle.std.proofs.lemmas.List.{take_all, length-map}
use Rattle.std.proofs.lemmas.List.Elements.{All-get_or}
use Rattle.std.specs.Prelude.{nat_lt}
use Rattle.std.specs.List.{All}
use Rattle.adf_format.specs.Placement.{ChunkPart}
use Rattle.adf_format.specs.HeapRule.{payload_length}
use Rattle.adf_data.specs.declared.chunks.Chunk.{Chunk}
use Rattle.adf_data.specs.declared.ranges.Spot.{Spot}
use Rattle.adf_data.specs.Chunks.{part_of, parts_of, part_at, IsSane}
use Rattle.adf_data.specs.Ranges.{byte_place, IsSpot, IsSpan}

pub chunk_there : (chunks : List Chunk) (i : ℕ) (c : Chunk) → i < length chunks → c ≡ get_or chunks i c → part_of c ≡ part_at (parts_of chunks) i
chunk_there [] i c lt e = absurd (omega (arith, lt))
chunk_there (d ∷ ds) zero c lt e = ap part_of e
chunk_there (d ∷ ds) (suc i) c lt e = chunk_there ds i c (omega (arith, lt)) e

pub sane_there : (chunks : List Chunk) (i : ℕ) (c : Chunk) → All IsSane chunks → i < length chunks → c ≡ get_or chunks i c → IsSane c
sane_there chunks i c all lt e = subst IsSane (sym e) (All-get_or IsSane chunks i c lt all)

pub length-parts_of : (chunks : List Chunk) → length (parts_of chunks) ≡ length chunks
length-parts_of chunks = length-map chunks part_of

-- ---- sums

take_payload : (parts : List ChunkPart) (i : ℕ) → i < length parts → payload_length (take (suc i) parts) ≡ payload_length (take i parts) + ((part_at parts i).length - 20)
take_payload [] i lt = absurd (omega (arith, lt))
take_payload (c ∷ cs) zero lt = omega arith
take_payload (c ∷ cs) (suc i) lt = let h = take_payload cs i (omega (arith, lt)) in omega (arith, h)

pub next_spot : (chunks : List Chunk) (i first room : ℕ) (c : Chunk) → i < length chunks → part_of c ≡ part_at (parts_of chunks) i → room ≡ c.length - 20 → first ≡ payload_length (take i (parts_of chunks)) → first + room ≡ payload_length (take (i + 1) (parts_of chunks))
next_spot chunks i first room c lt is r f =
    let t = take_payload (parts_of chunks) i (let l = length-parts_of chunks in omega (arith, l, lt)) in
    let e : c.length ≡ (part_at (parts_of chunks) i).length = ap (λ (p : ChunkPart). p.length) is in
    let s : suc i ≡ i + 1 = omega arith in
    subst (λ n. first + room ≡ payload_length (take n (parts_of chunks))) s (omega (arith, t, e, r, f))

pub last_spot : (chunks : List Chunk) (i first k : ℕ) → length chunks ≤ i → first ≡ payload_length (take i (parts_of chunks)) → first ≤ k → k < payload_length (parts_of chunks) → ⊥
last_spot chunks i first k past f le lt =
    let l = length-parts_of chunks in
    let e : take i (parts_of chunks) ≡ parts_of chunks = take_all i (parts_of chunks) (omega (arith, l, past)) in
    let g = ap payload_length e in omega (arith, f, le, lt, g)

-- ---- places

byte_at_spot : (parts : List ChunkPart) (i k : ℕ) → i < length parts → payload_length (take i parts) ≤ k → k < payload_length (take i parts) + ((part_at parts i).length - 20)
    → byte_place parts k ≡ (part_at parts i).place + 16 + (k - payload_length (take i parts))
byte_at_spot [] i k lt low high = absurd (omega (arith, lt))
byte_at_spot (c ∷ cs) zero k lt low high = rw inside (omega arith)
  where
    inside : nat_lt k (c.length - 20) ≡ true
    inside = grind (arith, nat_tests)
byte_at_spot (c ∷ cs) (suc i) k lt low high =
    rw outside (byte_at_spot cs i (k - (c.length - 20)) (omega (arith, lt)) (omega (arith, low)) (omega (arith, low, high)) ∙ omega (arith, low))
  where
    outside : nat_lt k (c.length - 20) ≡ false
    outside = grind (arith, nat_tests)

pub spot_spans : (chunks : List Chunk) (s : Spot) (k most place n : ℕ) (c : Chunk) → s.number < length chunks → IsSpot (parts_of chunks) s → s.first ≤ k → k < s.first + ((part_at (parts_of chunks) s.number).length - 20) → part_of c ≡ part_at (parts_of chunks) s.number → IsSane c
    → 0 < most → place ≡ c.place + 16 + (k - s.first) → 0 < n → n ≤ most → n ≤ c.length - 20 - (k - s.first) → IsSpan (parts_of chunks) k most (record { place = place; length = n })
spot_spans chunks s k most place n c there spot low high is sane some at more few inside = record {
  some = more;
  few = few;
  near = (let q = sane.0 in let r = sane.1 in omega (arith, q, r, at, inside, low, more));
  stands = λ j lt.
      let l = length-parts_of chunks in
      let e : c.length ≡ (part_at (parts_of chunks) s.number).length = ap (λ (p : ChunkPart). p.length) is in
      let f : c.place ≡ (part_at (parts_of chunks) s.number).place = ap (λ (p : ChunkPart). p.place) is in
      let g = byte_at_spot (parts_of chunks) s.number (k + j) (omega (arith, l, there)) (omega (arith, spot, low)) (omega (arith, spot, e, inside, lt, low)) in
      g ∙ omega (arith, f, at, spot, low);
}

-- ---- all payloads

pub more_payload : (chunks : List Chunk) (i total : ℕ) (c : Chunk) → i < length chunks → part_of c ≡ part_at (parts_of chunks) i → total ≡ payload_length (take i (parts_of chunks)) → total + (c.length - 20) ≡ payload_length (take (i + 1) (parts_of chunks))
more_payload chunks i total c lt is f = next_spot chunks i total (c.length - 20) c lt is refl f

pub all_payload : (chunks : List Chunk) (i : ℕ) → length chunks ≤ i → payload_length (take i (parts_of chunks)) ≡ payload_length (parts_of chunks)
all_payload chunks i past = ap payload_length (take_all i (parts_of chunks) (let l = length-parts_of chunks in omega (arith, l, past)))
