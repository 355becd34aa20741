-- Zeros, block by block.
use Rattle.std.proofs.Common.{◌≡◌, ◌⊎◌, inl, inr, ℕ, ◌+◌, ◌-◌, ◌<◌, ◌≤◌, arith, List, length, take, replicate, get_or, refl, ◌∙◌, ap, subst}
use Rattle.std.proofs.lemmas.Bool.{cases_lt}
use Rattle.std.proofs.lemmas.List.{get_or-replicate, length-replicate, get_or-take, length-take, get_or_past}
use Rattle.std.specs.Prelude.{Option, Some, None}
use Rattle.cg_io.specs.Blocks.{Both, Wrote, KeepsOutside}
use Rattle.adf_format.specs.Placement.{ChunkPart}
use Rattle.adf_format.specs.HeapRule.{payload_length}
use Rattle.adf_data.specs.Ranges.{byte_place, IsRead, ChangesBytes, WritesBytes}
use Rattle.adf_data.specs.Fills.{Fills, ChangesAt, AllZero, ZeroesBytes, CopiesPart, Copies, IsBeside}
use Rattle.adf_data.proofs.SpanLaws.{wrote_keeps, reached_more}

pub fills_none : (place : ℕ) (image : Option (List ℕ)) → Both (Fills place 0) image image
fills_none place None = tt
fills_none place (Some bytes) = record { changes = record { longer = omega arith; outside = λ b out. refl; grows = λ b past here. absurd (omega (arith, past, here)) }; zeros = λ k low high. absurd (omega (arith, low, high)) }

-- bytes that are all zero
abbrev pub AreZero : List ℕ → Type 0
AreZero piece = (k : ℕ) → k < length piece → get_or piece k 0 ≡ 0

pub changes_fill : (place n : ℕ) (old new : Option (List ℕ)) → Both (Fills place n) old new → Both (ChangesAt place n) old new
changes_fill place n None None f = tt
changes_fill place n None (Some new) f = f
changes_fill place n (Some old) None f = f
changes_fill place n (Some old) (Some new) f = f.changes

outside_more : (place done n m b : ℕ) → done + n ≤ m → (b < place) ⊎ (place + m ≤ b) → ((b < place) ⊎ (place + done ≤ b)) × ((b < place + done) ⊎ (place + done + n ≤ b))
outside_more place done n m b le (inl h) = (inl h, inl (omega (arith, h)))
outside_more place done n m b le (inr h) = (inr (omega (arith, h, le)), inr (omega (arith, h, le)))

changed_then : (place done n m : ℕ) (old middle new : List ℕ) → done + n ≤ m → KeepsOutside place done old middle → KeepsOutside (place + done) n middle new → KeepsOutside place m old new
changed_then place done n m old middle new le c w = record {
  longer = (let p = c.longer in let q = w.longer in omega (arith, p, q));
  outside = λ b out. let o = outside_more place done n m b le out in w.outside b o.1 ∙ c.outside b o.0;
  grows = λ b past here. elim (cases_lt b (length middle)) [
    | inl before ↦ (let g = c.grows b past before in let some = g.0 in let far = g.1 in (omega (arith, some, le), omega (arith, some, far, le)))
    | inr after ↦ (let g = w.grows b after here in let some = g.0 in let far = g.1 in (omega (arith, some, le), omega (arith, some, far, le)))
  ];
}

pub refused_fill : (place done n m : ℕ) (old middle new : Option (List ℕ)) → done + n ≤ m → Both (Fills place done) old middle → Both (KeepsOutside (place + done) n) middle new → Both (ChangesAt place m) old new
refused_fill place done n m None None None le c w = tt
refused_fill place done n m None None (Some new) le c w = w
refused_fill place done n m None (Some middle) new le c w = absurd c
refused_fill place done n m (Some old) None new le c w = absurd c
refused_fill place done n m (Some old) (Some middle) None le c w = w
refused_fill place done n m (Some old) (Some middle) (Some new) le c w = changed_then place done n m old middle new le c.changes w

pub part_filled : (place n : ℕ) (piece : List ℕ) (old new : Option (List ℕ)) → Both (Wrote place piece) old new → length piece ≡ n → AreZero piece → Both (Fills place n) old new
part_filled place n piece None None w long zero = tt
part_filled place n piece None (Some new) w long zero = w
part_filled place n piece (Some old) None w long zero = w
part_filled place n piece (Some old) (Some new) w long zero = record {
  changes = wrote_keeps place n piece old new long w;
  zeros = λ k low high. w.within k low (omega (arith, high, long)) ∙ zero (k - place) (omega (arith, high, long, low));
}

pub part_refused : (place n m : ℕ) (old new : Option (List ℕ)) → m ≡ n → Both (KeepsOutside place m) old new → Both (ChangesAt place n) old new
part_refused place n m old new e w = subst (λ k. Both (KeepsOutside place k) old new) e w

pub part_written : (place n : ℕ) (piece : List ℕ) (old new : Option (List ℕ)) → length piece ≡ n → Both (Wrote place piece) old new → Both (ChangesAt place n) old new
part_written place n piece None None e w = tt
part_written place n piece None (Some new) e w = w
part_written place n piece (Some old) None e w = w
part_written place n piece (Some old) (Some new) e w = wrote_keeps place n piece old new e w

fill_step : (place done n : ℕ) (old middle new : List ℕ) → Fills place done old middle → Fills (place + done) n middle new → Fills place (done + n) old new
fill_step place done n old middle new c w = record {
  changes = changed_then place done n (done + n) old middle new (omega arith) c.changes w.changes;
  zeros = λ k low high. elim (cases_lt k (place + done)) [
    | inl lt ↦ w.changes.outside k (inl lt) ∙ c.zeros k low lt
    | inr le ↦ w.zeros k le (omega (arith, high))
  ];
}

pub fills_then : (place done n : ℕ) (old middle new : Option (List ℕ)) → Both (Fills place done) old middle → Both (Fills (place + done) n) middle new → Both (Fills place (done + n)) old new
fills_then place done n None None None c w = tt
fills_then place done n None None (Some new) c w = w
fills_then place done n None (Some middle) new c w = absurd c
fills_then place done n (Some old) None new c w = absurd c
fills_then place done n (Some old) (Some middle) None c w = w
fills_then place done n (Some old) (Some middle) (Some new) c w = fill_step place done n old middle new c w

-- ---- zeros in an array

pub all_zero : (n k : ℕ) → ◌≡◌ {A = ℕ} (get_or (replicate n 0) k 0) 0
all_zero n k = elim (cases_lt k n) [
  | inl lt ↦ get_or-replicate n k 0 0 lt
  | inr le ↦ get_or_past (replicate n 0) k 0 (let r = length-replicate {A = ℕ} n 0 in omega (arith, le, r))
]

pub part_long : (m n : ℕ) (block : List ℕ) → length block ≡ n → m ≤ n → length (take m block) ≡ m
part_long m n block long le = omega (arith, le, long, length-take m block)

pub part_zero : (m : ℕ) (block : List ℕ) → AllZero block → AreZero (take m block)
part_zero m block zero k lt = get_or-take m block k 0 (let l = length-take m block in omega (arith, lt, l)) ∙ zero k

-- ---- copies

pub part_copied : (parts : List ChunkPart) (first n to : ℕ) (piece : List ℕ) (old middle new : Option (List ℕ)) → middle ≡ old → IsRead parts first n piece old → length piece ≡ n → Both (Wrote to piece) middle new → Both (CopiesPart parts first n to) old new
part_copied parts first n to piece old middle new e read long w = go old new read (subst (λ (i : Option (List ℕ)). Both (Wrote to piece) i new) e w)
  where
    back : (p i : ℕ) → p + i - p ≡ i
    back p i = omega arith

    go : (old new : Option (List ℕ)) → IsRead parts first n piece old → Both (Wrote to piece) old new → Both (CopiesPart parts first n to) old new
    go None None read w = tt
    go None (Some new) read w = w
    go (Some old) None read w = w
    go (Some old) (Some new) read w = record {
      changes = wrote_keeps to n piece old new long w;
      copied = λ k lt. w.within (to + k) (omega arith) (omega (arith, lt, long)) ∙ ap (λ i. get_or piece i 0) (back to k) ∙ read k lt;
    }

pub copies_none : (parts : List ChunkPart) (all to : ℕ) (image : Option (List ℕ)) → Both (Copies parts all 0 to) image image
copies_none parts all to None = tt
copies_none parts all to (Some bytes) = record { changes = record { longer = omega arith; outside = λ b out. refl; grows = λ b past here. absurd (omega (arith, past, here)) }; copied = λ beside k lt. absurd (omega (arith, lt)) }

pub changes_copy : (parts : List ChunkPart) (all n to : ℕ) (old new : Option (List ℕ)) → Both (Copies parts all n to) old new → Both (ChangesAt to n) old new
changes_copy parts all n to None None c = tt
changes_copy parts all n to None (Some new) c = c
changes_copy parts all n to (Some old) None c = c
changes_copy parts all n to (Some old) (Some new) c = c.changes

pub refused_copy : (parts : List ChunkPart) (all to done n : ℕ) (old middle new : Option (List ℕ)) → done + n ≤ all → Both (Copies parts all done to) old middle → Both (ChangesAt (to + done) n) middle new → Both (ChangesAt to all) old new
refused_copy parts all to done n None None None le c w = tt
refused_copy parts all to done n None None (Some new) le c w = w
refused_copy parts all to done n None (Some middle) new le c w = absurd c
refused_copy parts all to done n (Some old) None new le c w = absurd c
refused_copy parts all to done n (Some old) (Some middle) None le c w = w
refused_copy parts all to done n (Some old) (Some middle) (Some new) le c w = changed_then to done n all old middle new le c.changes w

copy_step : (parts : List ChunkPart) (all to done n : ℕ) (old middle new : List ℕ) → done + n ≤ all → all ≤ payload_length parts → Copies parts all done to old middle → CopiesPart parts done n (to + done) middle new → Copies parts all (done + n) to old new
copy_step parts all to done n old middle new le within c w = record {
  changes = changed_then to done n (done + n) old middle new (omega arith) c.changes w.changes;
  copied = λ beside k lt. elim (cases_lt k done) [
    | inl low ↦ w.changes.outside (to + k) (inl (omega (arith, low))) ∙ c.copied beside k low
    | inr high ↦ ap (λ b. get_or new b 0) (there k high) ∙ w.copied (k - done) (omega (arith, lt, high)) ∙ ap (λ i. get_or middle (byte_place parts i) 0) (omega (arith, high)) ∙ stays beside k (omega (arith, lt, le, within))
  ];
}
  where
    there : (k : ℕ) → done ≤ k → to + k ≡ to + done + (k - done)
    there k h = omega (arith, h)

    far : (b : ℕ) → (b < to) ⊎ (to + all ≤ b) → (b < to) ⊎ (to + done ≤ b)
    far b (inl h) = inl h
    far b (inr h) = inr (omega (arith, h, le))

    stays : IsBeside parts to all → (k : ℕ) → k < payload_length parts → get_or middle (byte_place parts k) 0 ≡ get_or old (byte_place parts k) 0
    stays beside k lt = c.changes.outside (byte_place parts k) (far (byte_place parts k) (beside k lt))

pub copies_then : (parts : List ChunkPart) (all to done n : ℕ) (old middle new : Option (List ℕ)) → done + n ≤ all → all ≤ payload_length parts → Both (Copies parts all done to) old middle → Both (CopiesPart parts done n (to + done)) middle new → Both (Copies parts all (done + n) to) old new
copies_then parts all to done n None None None le within c w = tt
copies_then parts all to done n None None (Some new) le within c w = w
copies_then parts all to done n None (Some middle) new le within c w = absurd c
copies_then parts all to done n (Some old) None new le within c w = absurd c
copies_then parts all to done n (Some old) (Some middle) None le within c w = w
copies_then parts all to done n (Some old) (Some middle) (Some new) le within c w = copy_step parts all to done n old middle new le within c w

-- ---- zeros over the data

pub zeroes_none : (parts : List ChunkPart) (first : ℕ) (image : Option (List ℕ)) → Both (ZeroesBytes parts first 0) image image
zeroes_none parts first None = tt
zeroes_none parts first (Some bytes) = record { changes = record { longer = omega arith; outside = λ b none. refl; grows = λ b past here. absurd (omega (arith, past, here)) }; zeros = λ once j lt. absurd (omega (arith, lt)) }

pub changes_zeroes : (parts : List ChunkPart) (first n : ℕ) (old new : Option (List ℕ)) → Both (ZeroesBytes parts first n) old new → Both (ChangesBytes parts first n) old new
changes_zeroes parts first n None None z = tt
changes_zeroes parts first n None (Some new) z = z
changes_zeroes parts first n (Some old) None z = z
changes_zeroes parts first n (Some old) (Some new) z = z.changes

both_change : (parts : List ChunkPart) (first done n m : ℕ) (old middle new : List ℕ) → done + n ≤ m → ChangesBytes parts first done old middle → ChangesBytes parts (first + done) n middle new → ChangesBytes parts first m old new
both_change parts first done n m old middle new le c w = record {
  longer = (let p = c.longer in let q = w.longer in omega (arith, p, q));
  outside = λ b none. w.outside b (λ j lt e. none (done + j) (omega (arith, lt, le)) (ap (byte_place parts) (there j) ∙ e)) ∙ c.outside b (λ j lt. none j (omega (arith, lt, le)));
  grows = λ b past here. elim (cases_lt b (length middle)) [
    | inl before ↦ reached_more parts first done first m b (omega arith) (omega (arith, le)) (c.grows b past before)
    | inr after ↦ reached_more parts (first + done) n first m b (omega arith) (omega (arith, le)) (w.grows b after here)
  ];
}
  where
    there : (j : ℕ) → first + (done + j) ≡ first + done + j
    there j = omega arith

pub refused_zeroes : (parts : List ChunkPart) (first done n m : ℕ) (old middle new : Option (List ℕ)) → done + n ≤ m → Both (ZeroesBytes parts first done) old middle → Both (ChangesBytes parts (first + done) n) middle new → Both (ChangesBytes parts first m) old new
refused_zeroes parts first done n m None None None le c w = tt
refused_zeroes parts first done n m None None (Some new) le c w = w
refused_zeroes parts first done n m None (Some middle) new le c w = absurd c
refused_zeroes parts first done n m (Some old) None new le c w = absurd c
refused_zeroes parts first done n m (Some old) (Some middle) None le c w = w
refused_zeroes parts first done n m (Some old) (Some middle) (Some new) le c w = both_change parts first done n m old middle new le c.changes w

zero_step : (parts : List ChunkPart) (first done n : ℕ) (piece old middle new : List ℕ) → first + (done + n) ≤ payload_length parts → ZeroesBytes parts first done old middle → WritesBytes parts (first + done) piece (length piece) middle new → length piece ≡ n → AreZero piece → ZeroesBytes parts first (done + n) old new
zero_step parts first done n piece old middle new within c w long zero = record {
  changes = both_change parts first done n (done + n) old middle new (omega arith) c.changes (subst (λ k. ChangesBytes parts (first + done) k middle new) long w.changes);
  zeros = λ once j lt. elim (cases_lt j done) [
    | inl low ↦ w.changes.outside (byte_place parts (first + j)) (λ i li e. clash j low i (omega (arith, li, long)) (once (first + done + i) (first + j) (omega (arith, within, li, long)) (omega (arith, within, low)) e)) ∙ c.zeros once j low
    | inr high ↦ ap (λ k. get_or new (byte_place parts k) 0) (there j high) ∙ w.within once (j - done) (omega (arith, lt, high, long)) ∙ zero (j - done) (omega (arith, lt, high, long))
  ];
}
  where
    clash : (j : ℕ) → j < done → (i : ℕ) → i < n → first + done + i ≡ first + j → ⊥
    clash j low i li e = omega (arith, low, e)

    there : (j : ℕ) → done ≤ j → first + j ≡ first + done + (j - done)
    there j h = omega (arith, h)

pub zeroes_then : (parts : List ChunkPart) (first done n : ℕ) (piece : List ℕ) (old middle new : Option (List ℕ)) → first + (done + n) ≤ payload_length parts → Both (ZeroesBytes parts first done) old middle → Both (WritesBytes parts (first + done) piece (length piece)) middle new → length piece ≡ n → AreZero piece
    → Both (ZeroesBytes parts first (done + n)) old new
zeroes_then parts first done n piece None None None within c w long zero = tt
zeroes_then parts first done n piece None None (Some new) within c w long zero = w
zeroes_then parts first done n piece None (Some middle) new within c w long zero = absurd c
zeroes_then parts first done n piece (Some old) None new within c w long zero = absurd c
zeroes_then parts first done n piece (Some old) (Some middle) None within c w long zero = w
zeroes_then parts first done n piece (Some old) (Some middle) (Some new) within c w long zero = zero_step parts first done n piece old middle new within c w long zero
