-- What a write in payloads leaves of the chunks, and that no two bytes of the data stand at one place.
use Rattle.std.proofs.Common.{◌≡◌, inl, inr, ℕ, ◌+◌, ◌-◌, ◌<◌, ◌≤◌, arith, List, [], ◌∷◌, sym, subst, true, false, cond}
use Rattle.std.proofs.lemmas.Bool.Decides.{nat_tests}
use Rattle.std.proofs.lemmas.Bool.{cases_lt}
use Rattle.std.specs.Prelude.{nat_lt}
use Rattle.std.specs.List.{AllByRecursion}
use Rattle.adf_format.specs.declared.types.ExtentKind.{ExtentKind}
use Rattle.adf_format.specs.Tiles.{cover, holds_byte}
use Rattle.adf_format.specs.Placement.{ChunkPart, extent, chunk_extents}
use Rattle.adf_format.specs.HeapRule.{payload_length}
use Rattle.adf_data.specs.Ranges.{AreOnce, byte_place}

-- ---- each byte of the data is covered by its chunk

-- the chunks have room for a head and an end tag
abbrev pub AreLong : List ChunkPart → Type 0
AreLong parts = AllByRecursion (λ (c : ChunkPart). 20 ≤ c.length) parts

holds : (c : ChunkPart) (b : ℕ) → c.place ≤ b → b < c.place + c.length → holds_byte (extent ExtentKind.DataChunk c.place c.length) b ≡ true
holds c b low high = grind (arith, nat_tests)

pub is_in : (c : ChunkPart) (k : ℕ) → k < c.length - 20 → nat_lt k (c.length - 20) ≡ true
is_in c k lt = grind (arith, nat_tests)

pub is_behind : (c : ChunkPart) (k : ℕ) → c.length - 20 ≤ k → nat_lt k (c.length - 20) ≡ false
is_behind c k le = grind (arith, nat_tests)

pub covered : (parts : List ChunkPart) (k : ℕ) → k < payload_length parts → 1 ≤ cover (chunk_extents parts) (byte_place parts k)
covered [] k lt = absurd (omega (arith, lt))
covered (c ∷ cs) k lt = elim (cases_lt k (c.length - 20)) [
  | inl low ↦ (let t = is_in c k low in let h = holds c (c.place + 16 + k) (omega arith) (omega (arith, low)) in rw (t, h) (omega arith))
  | inr high ↦ (let t = is_behind c k high in let ih = covered cs (k - (c.length - 20)) (omega (arith, lt, high)) in rw t (omega (arith, ih)))
]

pub once_of : (parts : List ChunkPart) → ((b : ℕ) → cover (chunk_extents parts) b ≤ 1) → AreOnce parts
once_of [] one i j lt lu e = absurd (omega (arith, lt))
once_of (c ∷ cs) one i j lt lu e = elim (cases_lt i (c.length - 20)) [
  | inl li ↦ elim (cases_lt j (c.length - 20)) [
    | inl lj ↦ (let s = is_in c i li in let t = is_in c j lj in let f : c.place + 16 + i ≡ c.place + 16 + j = rw (s, t) at e in omega (arith, f))
    | inr hj ↦ (let s = is_in c i li in let t = is_behind c j hj in let f : c.place + 16 + i ≡ byte_place cs (j - (c.length - 20)) = rw (s, t) at e in
        absurd (apart i (j - (c.length - 20)) li (omega (arith, lu, hj)) f))
  ]
  | inr hi ↦ elim (cases_lt j (c.length - 20)) [
    | inl lj ↦ (let s = is_behind c i hi in let t = is_in c j lj in let f : byte_place cs (i - (c.length - 20)) ≡ c.place + 16 + j = rw (s, t) at e in
        absurd (apart j (i - (c.length - 20)) lj (omega (arith, lt, hi)) (sym f)))
    | inr hj ↦ (let s = is_behind c i hi in let t = is_behind c j hj in let f : byte_place cs (i - (c.length - 20)) ≡ byte_place cs (j - (c.length - 20)) = rw (s, t) at e in
        let ih = once_of cs (λ b. let o = one b in omega (arith, o)) (i - (c.length - 20)) (j - (c.length - 20)) (omega (arith, lt, hi)) (omega (arith, lu, hj)) f in omega (arith, ih, hi, hj))
  ]
]
  where
    apart : (i j : ℕ) → i < c.length - 20 → j < payload_length cs → c.place + 16 + i ≡ byte_place cs j → ⊥
    apart i j li lj f =
        let h = holds c (c.place + 16 + i) (omega arith) (omega (arith, li)) in
        let r : 1 ≤ cover (chunk_extents cs) (c.place + 16 + i) = subst (λ b. 1 ≤ cover (chunk_extents cs) b) (sym f) (covered cs j lj) in
        let o : cond (holds_byte (extent ExtentKind.DataChunk c.place c.length) (c.place + 16 + i)) 1 0 + cover (chunk_extents cs) (c.place + 16 + i) ≤ 1 = one (c.place + 16 + i) in
        let p : 1 + cover (chunk_extents cs) (c.place + 16 + i) ≤ 1 = rw h at o in
        omega (arith, r, p)
