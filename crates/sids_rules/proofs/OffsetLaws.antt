-- Offsets that never fall lie between the first and the last.
use Rattle.std.proofs.Common.{◌≡◌, subst, arith, ℕ, zero, suc, ◌+◌, ◌-◌, ◌<◌, ◌≤◌, ℤ, pos, negsuc, ◌≤ℤ◌, List, length, below_more}
use Rattle.std.specs.Prelude.{unsigned_abs}
use Rattle.std.proofs.lemmas.Int.{ints}
use Rattle.std.proofs.lemmas.Option.{get_or_from_slice_get}
use Rattle.sids_rules.specs.Offsets.{offset_at, NeverFall, AreOffsets}

le_refl : (a : ℤ) → a ≤ℤ a
le_refl a = omega (arith, ints)

le_trans : (a b c : ℤ) → a ≤ℤ b → b ≤ℤ c → a ≤ℤ c
le_trans a b c h k = omega (arith, ints)

amounts_rise : (a b : ℤ) → pos 0 ≤ℤ a → a ≤ℤ b → unsigned_abs a ≤ unsigned_abs b
amounts_rise (pos a) (pos b) low order = let h : a ≤ b = omega (arith, ints) in h
amounts_rise (pos a) (negsuc b) low order = absurd (omega (arith, ints))
amounts_rise (negsuc a) b low order = absurd (omega (arith, ints))

rises : (offsets : List ℤ) → NeverFall offsets → (j d : ℕ) → j + d < length offsets → offset_at offsets j ≤ℤ offset_at offsets (j + d)
rises offsets h j zero lt = let e : j ≡ j + 0 = omega arith in subst (λ m. offset_at offsets j ≤ℤ offset_at offsets m) e (le_refl (offset_at offsets j))
rises offsets h j (suc d) lt =
    let e : (j + d) + 1 ≡ j + suc d = omega arith in
    let before : j + d < length offsets = omega arith in
    let here : (j + d) + 1 < length offsets = omega arith in
    subst (λ m. offset_at offsets j ≤ℤ offset_at offsets m) e (le_trans _ _ _ (rises offsets h j d before) (h (j + d) here))

rises_to : (offsets : List ℤ) → NeverFall offsets → (j m : ℕ) → j ≤ m → m < length offsets → offset_at offsets j ≤ℤ offset_at offsets m
rises_to offsets h j m le lt =
    let e : j + (m - j) ≡ m = omega arith in
    let within : j + (m - j) < length offsets = omega arith in
    subst (λ x. offset_at offsets j ≤ℤ offset_at offsets x) e (rises offsets h j (m - j) within)

-- each offset is at least 0 and at most the length
pub offset_low : (offsets : List ℤ) (entries : ℕ) → AreOffsets offsets entries → (k : ℕ) → k < length offsets → pos 0 ≤ℤ offset_at offsets k
offset_low offsets entries h k lt =
    let first : offset_at offsets 0 ≡ pos 0 = get_or_from_slice_get offsets 0 (pos 0) (pos 0) h.begin in
    subst (λ n. n ≤ℤ offset_at offsets k) first (rises_to offsets h.rise 0 k (omega arith) lt)

pub offset_high : (offsets : List ℤ) (entries : ℕ) → AreOffsets offsets entries → (k : ℕ) → k < length offsets → offset_at offsets k ≤ℤ pos entries
offset_high offsets entries h k lt =
    let last : offset_at offsets (length offsets - 1) ≡ pos entries = get_or_from_slice_get offsets (length offsets - 1) (pos entries) (pos 0) h.end in
    let before : k ≤ length offsets - 1 = omega arith in
    let within : length offsets - 1 < length offsets = omega arith in
    subst (λ n. offset_at offsets k ≤ℤ n) last (rises_to offsets h.rise k (length offsets - 1) before within)

-- as positions: none is under the one before it, and each lies within the connectivity
pub position_order : (offsets : List ℤ) (entries : ℕ) → AreOffsets offsets entries → (k : ℕ) → k + 1 < length offsets → unsigned_abs (offset_at offsets k) ≤ unsigned_abs (offset_at offsets (k + 1))
position_order offsets entries h k lt =
    let low : pos 0 ≤ℤ offset_at offsets k = offset_low offsets entries h k (omega arith) in
    let order : offset_at offsets k ≤ℤ offset_at offsets (k + 1) = h.rise k lt in
    amounts_rise (offset_at offsets k) (offset_at offsets (k + 1)) low order

pub position_high : (offsets : List ℤ) (entries : ℕ) → AreOffsets offsets entries → (k : ℕ) → k < length offsets → unsigned_abs (offset_at offsets k) ≤ entries
position_high offsets entries h k lt = amounts_rise (offset_at offsets k) (pos entries) (offset_low offsets entries h k lt) (offset_high offsets entries h k lt)

-- what holds below k and of the one before it holds below the next
pub one_more_below : (P : ℕ → Type 0) (k : ℕ) → 1 ≤ k → ((j : ℕ) → j + 1 < k → P j) → P (k - 1) → (j : ℕ) → j + 1 < k + 1 → P j
one_more_below P k some below here j lt = below_more P (k - 1) (λ i h. below i (omega arith)) here j (omega arith)
