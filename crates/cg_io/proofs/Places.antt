-- The bytes of a list at a place, one by one.
use Rattle.std.proofs.Common.{◌≡◌, ℕ, ◌+◌, ◌-◌, ◌≤◌, ◌<◌, max, min, List, ◌++◌, length, get_or, take, drop, replicate, refl, sym, ◌∙◌, ap, arith, inl, inr, length-append, length-take, length-drop}
use Rattle.std.proofs.lemmas.List.{length-replicate, get_or-replicate, get_or_append_left, get_or-append_right, get_or-take, get_or-drop, get_or_past}
use Rattle.std.proofs.lemmas.Grind.{same_number_lists}
use Rattle.std.proofs.lemmas.Bool.{cases_lt}
use Rattle.cg_io.specs.Device.{bytes_at, padded, overwritten}

pub length-padded : (bytes : List ℕ) (n : ℕ) → length (padded bytes n) ≡ max (length bytes) n
unfolding padded
length-padded bytes n = grind (arith, length-append {A = ℕ}, length-replicate {A = ℕ})

zeros : (n k : ℕ) → ◌≡◌ {A = ℕ} (get_or (replicate n 0) k 0) 0
zeros n k = elim (cases_lt k n) [
  | inl lt ↦ get_or-replicate n k 0 0 lt
  | inr le ↦ get_or_past (replicate n 0) k 0 (omega (arith, length-replicate {A = ℕ} n 0))
]

-- zeros are what stands past the end anyway
pub get_or-padded : (bytes : List ℕ) (n k : ℕ) → get_or (padded bytes n) k 0 ≡ get_or bytes k 0
unfolding padded
get_or-padded bytes n k = elim (cases_lt k (length bytes)) [
  | inl lt ↦ get_or_append_left bytes (replicate (n - length bytes) 0) 0 k lt
  | inr le ↦ get_or-append_right bytes (replicate (n - length bytes) 0) (length bytes) k 0 refl le ∙ zeros (n - length bytes) (k - length bytes) ∙ sym (get_or_past bytes k 0 le)
]

pub length-overwritten : (bytes : List ℕ) (at : ℕ) (from : List ℕ) → length (overwritten bytes at from) ≡ max (length bytes) (at + length from)
unfolding overwritten
length-overwritten bytes at from = grind (arith, length-padded, length-append {A = ℕ}, length-take {A = ℕ}, length-drop {A = ℕ})

front : (bytes : List ℕ) (at : ℕ) → length (take at (padded bytes at)) ≡ at
front bytes at = grind (arith, length-padded, length-take {A = ℕ})

pub overwritten-below : (bytes : List ℕ) (at : ℕ) (from : List ℕ) (k : ℕ) → k < at → get_or (overwritten bytes at from) k 0 ≡ get_or bytes k 0
unfolding overwritten
overwritten-below bytes at from k lt =
    get_or_append_left (take at (padded bytes at)) (from ++ drop (at + length from) bytes) 0 k (omega (arith, front bytes at))
    ∙ get_or-take at (padded bytes at) k 0 lt ∙ get_or-padded bytes at k

pub overwritten-within : (bytes : List ℕ) (at : ℕ) (from : List ℕ) (k : ℕ) → at ≤ k → k < at + length from → get_or (overwritten bytes at from) k 0 ≡ get_or from (k - at) 0
unfolding overwritten
overwritten-within bytes at from k le lt =
    get_or-append_right (take at (padded bytes at)) (from ++ drop (at + length from) bytes) at k 0 (front bytes at) le
    ∙ get_or_append_left from (drop (at + length from) bytes) 0 (k - at) (omega arith)

pub overwritten-above : (bytes : List ℕ) (at : ℕ) (from : List ℕ) (k : ℕ) → at + length from ≤ k → get_or (overwritten bytes at from) k 0 ≡ get_or bytes k 0
unfolding overwritten
overwritten-above bytes at from k le =
    get_or-append_right (take at (padded bytes at)) (from ++ drop (at + length from) bytes) at k 0 (front bytes at) (omega arith)
    ∙ get_or-append_right from (drop (at + length from) bytes) (length from) (k - at) 0 refl (omega arith)
    ∙ get_or-drop (at + length from) bytes (k - at - length from) 0
    ∙ ap (λ i. get_or bytes i 0) (omega arith)

pub length-bytes_at : (bytes : List ℕ) (at n : ℕ) → length (bytes_at bytes at n) ≡ n
unfolding bytes_at
length-bytes_at bytes at n = grind (arith, length-append {A = ℕ}, length-take {A = ℕ}, length-replicate {A = ℕ})

-- one of the bytes that are read
pub get_or-bytes_at : (bytes : List ℕ) (at n k : ℕ) → k < n → get_or (bytes_at bytes at n) k 0 ≡ get_or bytes (at + k) 0
unfolding bytes_at
get_or-bytes_at bytes at n k lt =
    let part = take n (drop at bytes) in
    elim (cases_lt k (length part)) [
      | inl within ↦ get_or_append_left part (replicate (n - length part) 0) 0 k within ∙ get_or-take n (drop at bytes) k 0 lt ∙ get_or-drop at bytes k 0
      | inr past ↦ get_or-append_right part (replicate (n - length part) 0) (length part) k 0 refl past ∙ zeros (n - length part) (k - length part)
          ∙ sym (get_or_past bytes (at + k) 0 (omega (arith, past, length-take n (drop at bytes), length-drop at bytes)))
    ]

-- a front that is copied over zeros
pub copied_front : (bytes copied : List ℕ) (at start count len : ℕ) → start ≡ min at (length bytes) → count ≡ min len (length bytes - start)
    → copied ≡ take (start + count - start) (drop start bytes) → copied ++ drop count (replicate len 0) ≡ bytes_at bytes at len
copied_front bytes copied at start count len from_is count_is is =
    same_number_lists (copied ++ drop count (replicate len 0)) (bytes_at bytes at len) (whole ∙ sym (length-bytes_at bytes at len))
    (λ k lt. each k (omega (arith, whole, lt)) ∙ sym (get_or-bytes_at bytes at len k (omega (arith, whole, lt))))
  where
    zeros_len : length (replicate {A = ℕ} len 0) ≡ len
    zeros_len = length-replicate {A = ℕ} len 0

    long : length copied ≡ count
    long = ap length is ∙ omega (arith, length-take (start + count - start) (drop start bytes), length-drop start bytes)

    whole : length (copied ++ drop count (replicate len 0)) ≡ len
    whole = omega (arith, long, zeros_len, length-append copied (drop count (replicate len 0)), length-drop count (replicate {A = ℕ} len 0))

    each : (k : ℕ) → k < len → get_or (copied ++ drop count (replicate len 0)) k 0 ≡ get_or bytes (at + k) 0
    each k lt = elim (cases_lt k count) [
      | inl within ↦ get_or_append_left copied (drop count (replicate len 0)) 0 k (omega (arith, long)) ∙ ap (λ (l : List ℕ). get_or l k 0) is
          ∙ get_or-take (start + count - start) (drop start bytes) k 0 (omega arith) ∙ get_or-drop start bytes k 0 ∙ ap (λ i. get_or bytes i 0) (omega arith)
      | inr past ↦ get_or-append_right copied (drop count (replicate len 0)) count k 0 long past ∙ get_or-drop count (replicate len 0) (k - count) 0
          ∙ zeros len (count + (k - count)) ∙ sym (get_or_past bytes (at + k) 0 (omega arith))
    ]

-- room that is made for bytes makes no difference once they are written
pub overwritten-padded : (bytes : List ℕ) (at : ℕ) (from : List ℕ) → overwritten (padded bytes (at + length from)) at from ≡ overwritten bytes at from
overwritten-padded bytes at from =
    same_number_lists _ _ (omega (arith, sizes)) (λ k lt. each k)
  where
    sizes : length (overwritten (padded bytes (at + length from)) at from) ≡ length (overwritten bytes at from)
    sizes = omega (arith, length-overwritten (padded bytes (at + length from)) at from, length-overwritten bytes at from, length-padded bytes (at + length from))

    each : (k : ℕ) → get_or (overwritten (padded bytes (at + length from)) at from) k 0 ≡ get_or (overwritten bytes at from) k 0
    each k = elim (cases_lt k at) [
      | inl lt ↦ overwritten-below (padded bytes (at + length from)) at from k lt ∙ get_or-padded bytes (at + length from) k ∙ sym (overwritten-below bytes at from k lt)
      | inr le ↦ elim (cases_lt k (at + length from)) [
        | inl lt ↦ overwritten-within (padded bytes (at + length from)) at from k le lt ∙ sym (overwritten-within bytes at from k le lt)
        | inr past ↦ overwritten-above (padded bytes (at + length from)) at from k past ∙ get_or-padded bytes (at + length from) k ∙ sym (overwritten-above bytes at from k past)
      ]
    ]

pub stores : (bytes room new : List ℕ) (at : ℕ) (from : List ℕ) → room ≡ padded bytes (at + length from) → new ≡ overwritten room at from → new ≡ overwritten bytes at from
stores bytes room new at from grown is = is ∙ ap (λ (l : List ℕ). overwritten l at from) grown ∙ overwritten-padded bytes at from
