-- What a write that failed leaves.
use Rattle.std.proofs.Common.{◌≡◌, inl, inr, ℕ, ◌+◌, ◌-◌, ◌*◌, ◌≤◌, ◌<◌, max, Bool, false, Option, None, Some, IfSome, List, length, get_or, take, refl, sym, ◌∙◌, ap, subst, arith, length-take}
use Rattle.std.proofs.lemmas.List.{get_or-take}
use Rattle.std.proofs.lemmas.Grind.{same_number_lists}
use Rattle.std.proofs.lemmas.Bool.{cases_lt, cases_eq}
use Rattle.std.proofs.lemmas.Bool.Decides.{nat_tests}
use Rattle.cg_io.specs.Device.{bytes_at, padded, overwritten, IsTorn}
use Rattle.cg_io.specs.Memory.{LeavesTorn}
use Rattle.cg_io.proofs.Places.{length-padded, get_or-padded, length-overwritten, overwritten-below, overwritten-within, overwritten-above, length-bytes_at, get_or-bytes_at}

-- a part written over a block is the block that the part begins
pub part_of_block : (bytes : List ℕ) (at size : ℕ) (part : List ℕ) → length part ≤ size
    → overwritten (padded bytes (at + size)) at part ≡ overwritten bytes at (overwritten (bytes_at bytes at size) 0 part)
part_of_block bytes at size part fits = same_number_lists _ _ (omega (arith, fits, left_len, right_len, block_len)) (λ k lt. each k)
  where
    block_len : length (overwritten (bytes_at bytes at size) 0 part) ≡ size
    block_len = omega (arith, fits, length-overwritten (bytes_at bytes at size) 0 part, length-bytes_at bytes at size)

    left_len : length (overwritten (padded bytes (at + size)) at part) ≡ max (max (length bytes) (at + size)) (at + length part)
    left_len = omega (arith, length-overwritten (padded bytes (at + size)) at part, length-padded bytes (at + size))

    right_len : length (overwritten bytes at (overwritten (bytes_at bytes at size) 0 part)) ≡ max (length bytes) (at + size)
    right_len = omega (arith, length-overwritten bytes at (overwritten (bytes_at bytes at size) 0 part), block_len)

    padded_at : (k : ℕ) → get_or (padded bytes (at + size)) k 0 ≡ get_or bytes k 0
    padded_at k = get_or-padded bytes (at + size) k

    each : (k : ℕ) → get_or (overwritten (padded bytes (at + size)) at part) k 0 ≡ get_or (overwritten bytes at (overwritten (bytes_at bytes at size) 0 part)) k 0
    each k = elim (cases_lt k at) [
      | inl lt ↦ overwritten-below (padded bytes (at + size)) at part k lt ∙ padded_at k ∙ sym (overwritten-below bytes at (overwritten (bytes_at bytes at size) 0 part) k lt)
      | inr le ↦ elim (cases_lt k (at + size)) [
        | inr past ↦ overwritten-above (padded bytes (at + size)) at part k (omega (arith, fits, past)) ∙ padded_at k
            ∙ sym (overwritten-above bytes at (overwritten (bytes_at bytes at size) 0 part) k (omega (arith, block_len, past)))
        | inl within ↦ inside k le within ∙ sym (overwritten-within bytes at (overwritten (bytes_at bytes at size) 0 part) k le (omega (arith, block_len, within)))
      ]
    ]
      where
        inside : (k : ℕ) → at ≤ k → k < at + size → get_or (overwritten (padded bytes (at + size)) at part) k 0 ≡ get_or (overwritten (bytes_at bytes at size) 0 part) (k - at) 0
        inside k le within = elim (cases_lt k (at + length part)) [
          | inl lt ↦ overwritten-within (padded bytes (at + size)) at part k le lt ∙ ap (λ i. get_or part i 0) (omega arith)
              ∙ sym (overwritten-within (bytes_at bytes at size) 0 part (k - at) (omega arith) (omega arith))
          | inr past ↦ overwritten-above (padded bytes (at + size)) at part k past ∙ padded_at k ∙ ap (λ i. get_or bytes i 0) (omega arith)
              ∙ sym (get_or-bytes_at bytes at size (k - at) (omega arith)) ∙ sym (overwritten-above (bytes_at bytes at size) 0 part (k - at) (omega arith))
        ]

-- a block that is written as it stands, as far as the bytes go, changes nothing
pub same_block : (bytes : List ℕ) (at size : ℕ) → bytes ≡ take (length bytes) (overwritten bytes at (bytes_at bytes at size))
same_block bytes at size = same_number_lists _ _ len (λ k lt. sym (get_or-take (length bytes) (overwritten bytes at (bytes_at bytes at size)) k 0 lt ∙ each k))
  where
    size_is : length (bytes_at bytes at size) ≡ size
    size_is = length-bytes_at bytes at size

    len : length bytes ≡ length (take (length bytes) (overwritten bytes at (bytes_at bytes at size)))
    len = omega (arith, length-take (length bytes) (overwritten bytes at (bytes_at bytes at size)), length-overwritten bytes at (bytes_at bytes at size))

    each : (k : ℕ) → get_or (overwritten bytes at (bytes_at bytes at size)) k 0 ≡ get_or bytes k 0
    each k = elim (cases_lt k at) [
      | inl lt ↦ overwritten-below bytes at (bytes_at bytes at size) k lt
      | inr le ↦ elim (cases_lt k (at + size)) [
        | inr past ↦ overwritten-above bytes at (bytes_at bytes at size) k (omega (arith, size_is, past))
        | inl within ↦ overwritten-within bytes at (bytes_at bytes at size) k le (omega (arith, size_is, within))
            ∙ get_or-bytes_at bytes at size (k - at) (omega arith) ∙ ap (λ i. get_or bytes i 0) (omega arith)
      ]
    ]

pub unchanged_tears : (bytes new : List ℕ) (n : ℕ) → new ≡ bytes → IsTorn bytes n new
unchanged_tears bytes new n same = (bytes_at bytes (n * 4096) 4096, length-bytes_at bytes (n * 4096) 4096, inr (same ∙ same_block bytes (n * 4096) 4096))

-- what stands after a failed write that keeps so many bytes is what a device may leave
pub torn_tears : (bytes from new : List ℕ) (n kept : ℕ) → length from ≡ 4096 → LeavesTorn bytes (n * 4096) from kept new → IsTorn bytes n new
torn_tears bytes from new n kept size (inr same) = unchanged_tears bytes new n same.0
torn_tears bytes from new n kept size (inl is) = elim (cases_eq kept 0) [
  | inl none ↦ unchanged_tears bytes new n (is ∙ grind (arith, nat_tests))
  | inr some ↦
      let part = take kept from in
      let fits : length part ≤ 4096 = omega (arith, size, length-take kept from) in
      let written : new ≡ overwritten (padded bytes (n * 4096 + 4096)) (n * 4096) (take kept from) = is ∙ grind (arith, nat_tests) in (
        overwritten (bytes_at bytes (n * 4096) 4096) 0 part,
        omega (arith, fits, length-overwritten (bytes_at bytes (n * 4096) 4096) 0 part, length-bytes_at bytes (n * 4096) 4096),
        inl (written ∙ part_of_block bytes (n * 4096) 4096 part fits),
      )
]

-- so is what stands after any failed write
pub failed_tears : (held bytes from new : List ℕ) (n : ℕ) (kept : Option ℕ) (done : Bool) → bytes ≡ held → length from ≡ 4096
    → IfSome kept (λ k. (done ≡ false) × LeavesTorn bytes (n * 4096) from k new) → (kept ≡ None → (new ≡ bytes) × (length bytes < n * 4096 + 4096)) → IsTorn held n new
failed_tears held bytes from new n None done same size listed none = subst (λ b. IsTorn b n new) same (unchanged_tears bytes new n (none refl).0)
failed_tears held bytes from new n (Some k) done same size listed none = subst (λ b. IsTorn b n new) same (torn_tears bytes from new n k size listed.1)
