-- A block of the bytes after a write of a block.
use Rattle.std.proofs.Common.{◌≡◌, ◌≢◌, ◌⊎◌, ℕ, ◌+◌, ◌*◌, ◌≤◌, ◌<◌, List, length, get_or, take, sym, ◌∙◌, ap, arith, inl, inr, None, Some, length-take}
use Rattle.std.specs.declared.option.Option.{Option}
use Rattle.std.proofs.lemmas.List.{get_or-take, get_or_past}
use Rattle.std.proofs.lemmas.Grind.{same_number_lists}
use Rattle.std.proofs.lemmas.Bool.{cases_lt}
use Rattle.cg_io.specs.Device.{bytes_at, overwritten, Gives, with_block, Tears, IsTorn}
use Rattle.cg_io.proofs.Places.{length-bytes_at, get_or-bytes_at, overwritten-below, overwritten-within, overwritten-above}

-- the same bytes are read from bytes that agree there
pub same_bytes : (a b : List ℕ) (at n : ℕ) → ((k : ℕ) → at ≤ k → k < at + n → get_or a k 0 ≡ get_or b k 0) → bytes_at a at n ≡ bytes_at b at n
same_bytes a b at n same =
    same_number_lists _ _ (length-bytes_at a at n ∙ sym (length-bytes_at b at n))
    (λ k lt. let small : k < n = omega (arith, lt, length-bytes_at a at n) in get_or-bytes_at a at n k small ∙ same (at + k) (omega arith) (omega arith) ∙ sym (get_or-bytes_at b at n k small))

-- a byte outside a write
pub overwritten-outside : (bytes : List ℕ) (at : ℕ) (from : List ℕ) (k : ℕ) → (k < at) ⊎ (at + length from ≤ k) → get_or (overwritten bytes at from) k 0 ≡ get_or bytes k 0
overwritten-outside bytes at from k (inl lt) = overwritten-below bytes at from k lt
overwritten-outside bytes at from k (inr le) = overwritten-above bytes at from k le

-- a byte of one block lies outside another
pub apart : (m n k : ℕ) → m ≢ n → m * 4096 ≤ k → k < m * 4096 + 4096 → (k < n * 4096) ⊎ (n * 4096 + 4096 ≤ k)
apart m n k ne from to = elim (cases_lt k (n * 4096)) [
  | inl lt ↦ inl lt
  | inr le ↦ inr (omega arith)
]

outside_size : (n k : ℕ) (block : List ℕ) → length block ≡ 4096 → (k < n * 4096) ⊎ (n * 4096 + 4096 ≤ k) → (k < n * 4096) ⊎ (n * 4096 + length block ≤ k)
outside_size n k block size (inl lt) = inl lt
outside_size n k block size (inr le) = inr (omega arith)

-- and is read as before
pub written_other : (bytes : List ℕ) (m n : ℕ) (block : List ℕ) → length block ≡ 4096 → m ≢ n → bytes_at (overwritten bytes (n * 4096) block) (m * 4096) 4096 ≡ bytes_at bytes (m * 4096) 4096
written_other bytes m n block size ne =
    same_bytes _ _ (m * 4096) 4096 (λ k from to. overwritten-outside bytes (n * 4096) block k (outside_size n k block size (apart m n k ne from to)))

cut : (bytes new : List ℕ) (k : ℕ) → get_or new k 0 ≡ get_or bytes k 0 → get_or (take (length bytes) new) k 0 ≡ get_or bytes k 0
cut bytes new k same = elim (cases_lt k (length bytes)) [
  | inl lt ↦ get_or-take (length bytes) new k 0 lt ∙ same
  | inr le ↦ get_or_past (take (length bytes) new) k 0 (omega (arith, le, length-take (length bytes) new)) ∙ sym (get_or_past bytes k 0 le)
]

torn_other : (old new : List ℕ) (m n : ℕ) → m ≢ n → IsTorn old n new → bytes_at new (m * 4096) 4096 ≡ bytes_at old (m * 4096) 4096
torn_other old new m n ne (block, size, inl is) = ap (λ (l : List ℕ). bytes_at l (m * 4096) 4096) is ∙ written_other old m n block size ne
torn_other old new m n ne (block, size, inr is) = ap (λ (l : List ℕ). bytes_at l (m * 4096) 4096) is
    ∙ same_bytes _ _ (m * 4096) 4096 (λ k from to. cut old (overwritten old (n * 4096) block) k (overwritten-outside old (n * 4096) block k (outside_size n k block size (apart m n k ne from to))))

-- what was written is read
pub written_same : (bytes : List ℕ) (n : ℕ) (block : List ℕ) → length block ≡ 4096 → bytes_at (overwritten bytes (n * 4096) block) (n * 4096) 4096 ≡ block
written_same bytes n block size =
    same_number_lists _ _ (length-bytes_at (overwritten bytes (n * 4096) block) (n * 4096) 4096 ∙ sym size)
    (λ k lt. let small : k < 4096 = omega (arith, lt, length-bytes_at (overwritten bytes (n * 4096) block) (n * 4096) 4096) in
    get_or-bytes_at (overwritten bytes (n * 4096) block) (n * 4096) 4096 k small
    ∙ overwritten-within bytes (n * 4096) block (n * 4096 + k) (omega arith) (omega arith) ∙ ap (λ i. get_or block i 0) (omega arith))

pub Gives-same : (held : Option (List ℕ)) (n : ℕ) (block : List ℕ) → length block ≡ 4096 → Gives (with_block held n block) n block
Gives-same None n block size = tt
Gives-same (Some bytes) n block size = sym (written_same bytes n block size)

pub Gives-other : (held : Option (List ℕ)) (m n : ℕ) (block kept : List ℕ) → length block ≡ 4096 → m ≢ n → Gives held m kept → Gives (with_block held n block) m kept
Gives-other None m n block kept size ne is = tt
Gives-other (Some bytes) m n block kept size ne is = is ∙ sym (written_other bytes m n block size ne)

pub Gives-torn : (held torn : Option (List ℕ)) (m n : ℕ) (kept : List ℕ) → Tears held n torn → m ≢ n → Gives held m kept → Gives torn m kept
Gives-torn None None m n kept tears ne is = tt
Gives-torn None (Some new) m n kept tears ne is = absurd tears
Gives-torn (Some old) None m n kept tears ne is = absurd tears
Gives-torn (Some old) (Some new) m n kept tears ne is = is ∙ sym (torn_other old new m n ne tears)
