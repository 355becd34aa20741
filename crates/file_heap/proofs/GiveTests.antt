-- Whether a range may be given to the gaps.
use Rattle.std.proofs.Common.{◌≡◌, ◌⊎◌, inl, inr, ℕ, zero, suc, ◌+◌, ◌<◌, ◌≤◌, true, false, List, [], ◌∷◌, length, arith, max}
use Rattle.std.proofs.lemmas.Bool.Decides.{nat_tests}
use Rattle.adf_format.specs.declared.types.Extent.{Extent}
use Rattle.adf_format.specs.Tiles.{cover, end_of, holds_byte, MeetsNone}
use Rattle.adf_format.specs.LaysOut.{AreGapsInOrder}
use Rattle.file_heap.specs.Gaps.{gap_at, IsBesideGap}

off : (g : Extent) (place n b : ℕ) → (end_of g ≤ place) ⊎ (place + n ≤ g.place) → place ≤ b → b < place + n → holds_byte g b ≡ false
off g place n b (inl h) low high = grind (arith, nat_tests, h, low)
off g place n b (inr h) low high = grind (arith, nat_tests, h, high)

none_more : (g : Extent) (gs : List Extent) (place n : ℕ) → (end_of g ≤ place) ⊎ (place + n ≤ g.place) → MeetsNone place n gs → MeetsNone place n (g ∷ gs)
none_more g gs place n apart none b low high = let e = none b low high in rw (off g place n b apart low high) (omega (arith, e))

pub none_of : (gaps : List Extent) (place n : ℕ) → ((j : ℕ) → j < length gaps → IsBesideGap place n (gap_at gaps j)) → MeetsNone place n gaps
none_of [] place n apart = λ b low high. omega arith
none_of (g ∷ gs) place n apart = none_more g gs place n (apart zero (omega arith)) (none_of gs place n (λ j lt. apart (suc j) (omega (arith, lt))))

covered : (gaps : List Extent) (i b : ℕ) → i < length gaps → (gap_at gaps i).place ≤ b → b < end_of (gap_at gaps i) → 1 ≤ cover gaps b
covered [] i b lt low high = absurd (omega (arith, lt))
covered (g ∷ gs) zero b lt low high = let h = holds low high in rw h (omega arith)
  where
    holds : g.place ≤ b → b < end_of g → holds_byte g b ≡ true
    holds low high = grind (arith, nat_tests)
covered (g ∷ gs) (suc i) b lt low high = let ih = covered gs i b (omega (arith, lt)) low high in omega (arith, ih)

pub meets_at : (gaps : List Extent) (i place n : ℕ) → i < length gaps → 1 ≤ n → (gap_at gaps i).place < place + n → place < end_of (gap_at gaps i) → 0 < (gap_at gaps i).length → MeetsNone place n gaps → ⊥
meets_at gaps i place n lt some before behind long none =
    let b : ℕ = max place (gap_at gaps i).place in
    let c = covered gaps i b lt (omega arith) (omega (arith, behind, long)) in
    let z = none b (omega arith) (omega (arith, before, some)) in omega (arith, c, z)

pub long_at : (gaps : List Extent) (i : ℕ) → i < length gaps → AreGapsInOrder gaps → 0 < (gap_at gaps i).length
long_at [] i lt order = absurd (omega (arith, lt))
long_at (g ∷ gs) zero lt order = order.0.0
long_at (g ∷ gs) (suc i) lt order = long_at gs i (omega (arith, lt)) order.2
