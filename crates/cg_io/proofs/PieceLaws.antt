-- Bytes that are read and counted block by block.
use Rattle.std.proofs.Common.{◌≡◌, ◌⊎◌, ℕ, ◌+◌, ◌-◌, ◌*◌, ◌%◌, min, ◌≤◌, ◌<◌, List, length, get_or, take, drop, sym, ◌∙◌, ap, arith, inl, inr, Option, None, Some, length-take, length-drop, IfSome}
use Rattle.std.proofs.lemmas.Bool.{cases_lt}
use Rattle.std.proofs.lemmas.List.{get_or-take, get_or-drop}
use Rattle.std.proofs.lemmas.Grind.{same_number_lists}
use Rattle.cg_io.specs.Device.{overwritten, Gives, GivesAt}
use Rattle.cg_io.specs.Blocks.{blocks_of}
use Rattle.cg_io.proofs.Places.{length-bytes_at, get_or-bytes_at, overwritten-within}
use Rattle.cg_io.proofs.BlockLemmas.{overwritten-outside}

-- one piece more is read
pub read_step : (im : Option (List ℕ)) (p d c n start : ℕ) (into block part new : List ℕ) → IfSome im (λ bytes. (k : ℕ) → k < d → get_or into k 0 ≡ get_or bytes (p + k) 0) → Gives im n block
    → n * 4096 + start ≡ p + d → start + c ≤ 4096 → length block ≡ 4096 → part ≡ take (start + c - start) (drop start block) → new ≡ overwritten into d part → IfSome im (λ bytes. (k : ℕ) → k < d + c → get_or new k 0 ≡ get_or bytes (p + k) 0)
read_step None p d c n start into block part new taken gives place fits size is after = tt
read_step (Some bytes) p d c n start into block part new taken gives place fits size is after = λ k lt. ap (λ (l : List ℕ). get_or l k 0) after ∙ elim (cases_lt k d) [
  | inl before ↦ overwritten-outside into d part k (inl before) ∙ taken k before
  | inr past ↦ overwritten-within into d part k past (omega (arith, lt, long)) ∙ ap (λ (l : List ℕ). get_or l (k - d) 0) is ∙ get_or-take (start + c - start) (drop start block) (k - d) 0 (omega arith)
      ∙ get_or-drop start block (k - d) 0 ∙ ap (λ (l : List ℕ). get_or l (start + (k - d)) 0) gives ∙ get_or-bytes_at bytes (n * 4096) 4096 (start + (k - d)) (omega arith) ∙ ap (λ i. get_or bytes i 0) (omega arith)
]
  where
    long : length part ≡ c
    long = ap length is ∙ omega (arith, length-take (start + c - start) (drop start block), length-drop start block)

-- all of it is read
pub read_whole : (im : Option (List ℕ)) (p : ℕ) (into : List ℕ) → IfSome im (λ bytes. (k : ℕ) → k < length into → get_or into k 0 ≡ get_or bytes (p + k) 0) → GivesAt im p into
read_whole None p into taken = tt
read_whole (Some bytes) p into taken = same_number_lists _ _ (sym (length-bytes_at bytes p (length into))) (λ k lt. taken k lt ∙ sym (get_or-bytes_at bytes p (length into) k lt))

-- how many blocks are read, piece by piece
pub few_step : (p d c len : ℕ) → d < len → c ≡ min (4096 - (p + d) % 4096) (len - d) → (d ≡ 0) ⊎ ((d ≡ len) ⊎ ((p + d) % 4096 ≡ 0)) → blocks_of p d + 1 ≤ blocks_of p (d + c)
few_step p d c len lt is (inl none) = omega arith
few_step p d c len lt is (inr (inl all)) = absurd (omega arith)
few_step p d c len lt is (inr (inr edge)) = omega arith

pub edge_step : (p d c len : ℕ) → d < len → c ≡ min (4096 - (p + d) % 4096) (len - d) → (d + c ≡ 0) ⊎ ((d + c ≡ len) ⊎ ((p + (d + c)) % 4096 ≡ 0))
edge_step p d c len lt is = elim (cases_lt (len - d) (4096 - (p + d) % 4096)) [
  | inl short ↦ inr (inl (omega arith))
  | inr long ↦ inr (inr (omega arith))
]

pub blocks_of-le : (p d len : ℕ) → d ≤ len → blocks_of p d ≤ blocks_of p len
blocks_of-le p d len le = omega arith
