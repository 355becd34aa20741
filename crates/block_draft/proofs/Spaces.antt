-- A draft's image, byte by byte.
use Rattle.std.proofs.Common.{◌≡◌, ◌≢◌, ◌⊎◌, ℕ, nat_eq, false, ◌+◌, ◌-◌, ◌*◌, ◌/◌, ◌≤◌, ◌<◌, max, List, length, get_or, take, drop, refl, sym, ◌∙◌, ap, subst, arith, inl, inr, Option, None, Some, length-take, length-drop, IfSome, IsSome}
use Rattle.std.specs.Prelude.{unwrap_or}
use Rattle.std.proofs.lemmas.Bool.{cases_eq, cases_lt}
use Rattle.std.proofs.lemmas.Bool.Decides.{eqb_tells}
use Rattle.std.proofs.lemmas.List.{get_or-take, get_or-drop}
use Rattle.cg_io.specs.Device.{bytes_at, overwritten, Gives}
use Rattle.cg_io.specs.Blocks.{Both, Wrote}
use Rattle.cg_io.proofs.Places.{get_or-bytes_at, overwritten-within}
use Rattle.cg_io.proofs.BlockLemmas.{overwritten-outside}
use Rattle.block_draft.specs.Changes.{with_changes, image_of, block_in, reach, AreChanges, Puts, ChangesOnly}
use Rattle.block_draft.proofs.Image.{image_block, length-image, found_within}

pub unequal : (m n : ℕ) → m ≢ n → nat_eq m n ≡ false
unequal m n other = elim (eqb_tells m n) [
  | inl same ↦ absurd (other same.1)
  | inr ne ↦ ne.0
]

-- a changed block is the image's
pub loads_changed : (held : Option (List ℕ)) (changes : List (ℕ × List ℕ)) (n : ℕ) (block : List ℕ) → AreChanges changes → block_in changes n ≡ Some block → Gives (image_of held changes) n block
loads_changed None changes n block are is = tt
loads_changed (Some bytes) changes n block are is = sym (image_block bytes changes n are.sizes are.ascend ∙ ap (λ (o : Option (List ℕ)). unwrap_or o (bytes_at bytes (n * 4096) 4096)) is)

-- and so is a block below that is not changed
pub loads_below : (held : Option (List ℕ)) (changes : List (ℕ × List ℕ)) (n : ℕ) (block : List ℕ) → AreChanges changes → block_in changes n ≡ None → Gives held n block → Gives (image_of held changes) n block
loads_below None changes n block are none is = tt
loads_below (Some bytes) changes n block are none is = is ∙ sym (image_block bytes changes n are.sizes are.ascend ∙ ap (λ (o : Option (List ℕ)). unwrap_or o (bytes_at bytes (n * 4096) 4096)) none)

-- a byte of a block
in_block : (bytes : List ℕ) (n k : ℕ) → n * 4096 ≤ k → k < n * 4096 + 4096 → get_or bytes k 0 ≡ get_or (bytes_at bytes (n * 4096) 4096) (k - n * 4096) 0
in_block bytes n k from to = sym (get_or-bytes_at bytes (n * 4096) 4096 (k - n * 4096) (omega arith) ∙ ap (λ i. get_or bytes i 0) (omega arith))

outside_part : (at k : ℕ) (start : ℕ) (from : List ℕ) → at ≤ k → (k < at + start) ⊎ (at + start + length from ≤ k) → (k - at < start) ⊎ (start + length from ≤ k - at)
outside_part at k start from le (inl lt) = inl (omega arith)
outside_part at k start from le (inr past) = inr (omega arith)

-- a part of a block that is changed
pub changes_part : (held : Option (List ℕ)) (old new : List (ℕ × List ℕ)) (n start : ℕ) (from was block : List ℕ) → AreChanges old → AreChanges new → 1 ≤ length from → start + length from ≤ 4096 → length was ≡ 4096
    → (length from ≢ 4096 → Gives (image_of held old) n was) → block ≡ overwritten was start from → Puts n block old new → Both (Wrote (n * 4096 + start) from) (image_of held old) (image_of held new)
changes_part None old new n start from was block olds news some fits size gives is puts = tt
changes_part (Some bytes) old new n start from was block olds news some fits size gives is puts = record {
  longer = let far = puts.farther in omega (arith, long_old, long_new);
  reaches = λ some. let far = puts.reaches in omega (arith, long_new);
  within = λ k le lt. in_block image' n k (omega arith) (omega arith) ∙ ap (λ (l : List ℕ). get_or l (k - n * 4096) 0) (here ∙ is)
      ∙ overwritten-within was start from (k - n * 4096) (omega arith) (omega arith) ∙ ap (λ i. get_or from i 0) (omega arith);
  outside = λ k out. elim (cases_eq (k / 4096) n) [
    | inl same ↦ in_block image' n k (omega arith) (omega arith) ∙ ap (λ (l : List ℕ). get_or l (k - n * 4096) 0) (here ∙ is)
        ∙ overwritten-outside was start from (k - n * 4096) (outside_part (n * 4096) k start from (omega arith) out)
        ∙ ap (λ (l : List ℕ). get_or l (k - n * 4096) 0) (gives (part k same out)) ∙ sym (in_block image n k (omega arith) (omega arith))
    | inr ne ↦ in_block image' (k / 4096) k (omega arith) (omega arith) ∙ ap (λ (l : List ℕ). get_or l (k - k / 4096 * 4096) 0) (elsewhere (k / 4096) ne) ∙ sym (in_block image (k / 4096) k (omega arith) (omega arith))
  ];
  grows = λ k past here. let far = puts.no_farther in (some, omega (arith, long_old, long_new));
}
  where
    image : List ℕ
    image = with_changes bytes old

    -- a byte of the block outside the part: it is not the whole block
    part : (k : ℕ) → k / 4096 ≡ n → (k < n * 4096 + start) ⊎ (n * 4096 + start + length from ≤ k) → length from ≢ 4096
    part k same (inl before) all = omega arith
    part k same (inr past) all = omega arith

    image' : List ℕ
    image' = with_changes bytes new

    long_old : length (with_changes bytes old) ≡ max (length bytes) (reach old)
    long_old = length-image bytes old olds.sizes

    long_new : length (with_changes bytes new) ≡ max (length bytes) (reach new)
    long_new = length-image bytes new news.sizes

    here : bytes_at (with_changes bytes new) (n * 4096) 4096 ≡ block
    here = image_block bytes new n news.sizes news.ascend ∙ ap (λ (o : Option (List ℕ)). unwrap_or o (bytes_at bytes (n * 4096) 4096)) puts.here

    elsewhere : (m : ℕ) → m ≢ n → bytes_at (with_changes bytes new) (m * 4096) 4096 ≡ bytes_at (with_changes bytes old) (m * 4096) 4096
    elsewhere m ne = image_block bytes new m news.sizes news.ascend ∙ ap (λ (o : Option (List ℕ)). unwrap_or o (bytes_at bytes (m * 4096) 4096)) (puts.others m ne) ∙ sym (image_block bytes old m olds.sizes olds.ascend)

-- a changed block of which a part is changed again
pub patches_part : (held found : Option (List ℕ)) (old new : List (ℕ × List ℕ)) (n start : ℕ) (from : List ℕ) → AreChanges old → AreChanges new → 1 ≤ length from → start + length from ≤ 4096
    → block_in old n ≡ found → IsSome found → IfSome found (λ was. Puts n (overwritten was start from) old new) → Both (Wrote (n * 4096 + start) from) (image_of held old) (image_of held new) × ChangesOnly n old new
patches_part held None old new n start from olds news some fits is found puts = cc
patches_part held (Some was) old new n start from olds news some fits is found puts =
    (changes_part held old new n start from was (overwritten was start from) olds news some fits (found_within old n was olds.sizes is).0 (λ _. loads_changed held old n was olds is) refl puts, record { others = puts.others; few = puts.few })

wrote_then : (p d c : ℕ) (from piece a b z : List ℕ) → 1 ≤ c → d + c ≤ length from → piece ≡ take (d + c - d) (drop d from) → Wrote p (take d from) a b → Wrote (p + d) piece b z → Wrote p (take (d + c) from) a z
wrote_then p d c from piece a b z some fits is first then = record {
  longer = let one = first.longer in let two = then.longer in omega arith;
  reaches = λ _. let far = then.reaches (omega (arith, size)) in omega (arith, far, size, whole);
  within = λ k le lt. elim (cases_lt k (p + d)) [
    | inl before ↦ then.outside k (inl before) ∙ first.within k le (omega (arith, before, front)) ∙ get_or-take d from (k - p) 0 (omega arith) ∙ sym (get_or-take (d + c) from (k - p) 0 (omega arith))
    | inr past ↦ then.within k past (omega (arith, lt, size, whole)) ∙ ap (λ (l : List ℕ). get_or l (k - (p + d)) 0) is ∙ get_or-take (d + c - d) (drop d from) (k - (p + d)) 0 (omega (arith, lt, whole))
        ∙ get_or-drop d from (k - (p + d)) 0 ∙ ap (λ i. get_or from i 0) (omega arith) ∙ sym (get_or-take (d + c) from (k - p) 0 (omega (arith, lt, whole)))
  ];
  outside = λ k out. then.outside k (elim out [ inl lt ↦ inl (omega arith) | inr le ↦ inr (omega (arith, le, size, whole)) ]) ∙ first.outside k (elim out [ inl lt ↦ inl lt | inr le ↦ inr (omega (arith, le, front, whole)) ]);
  grows = λ k past here. elim (cases_lt k (length b)) [
    | inl before ↦ let one = first.grows k past before in (omega (arith, one.0, front, whole), omega (arith, one.0, one.1, front, whole))
    | inr after ↦ let two = then.grows k after here in (omega (arith, two.0, size, whole), omega (arith, two.1, size, whole))
  ];
}
  where
    size : length piece ≡ c
    size = ap length is ∙ omega (arith, length-take (d + c - d) (drop d from), length-drop d from)

    front : length (take d from) ≡ d
    front = omega (arith, length-take d from)

    whole : length (take (d + c) from) ≡ d + c
    whole = omega (arith, length-take (d + c) from)

-- one more piece is written
pub write_step : (im0 im1 im2 : Option (List ℕ)) (p d c at : ℕ) (from piece : List ℕ) → 1 ≤ c → d + c ≤ length from → piece ≡ take (d + c - d) (drop d from) → at ≡ p + d
    → Both (Wrote p (take d from)) im0 im1 → Both (Wrote at piece) im1 im2 → Both (Wrote p (take (d + c) from)) im0 im2
write_step None None None p d c at from piece some fits is place first then = tt
write_step None None (Some z) p d c at from piece some fits is place first then = absurd then
write_step None (Some b) im2 p d c at from piece some fits is place first then = absurd first
write_step (Some a) None im2 p d c at from piece some fits is place first then = absurd first
write_step (Some a) (Some b) None p d c at from piece some fits is place first then = absurd then
write_step (Some a) (Some b) (Some z) p d c at from piece some fits is place first then = wrote_then p d c from piece a b z some fits is first (subst (λ i. Wrote i piece b z) place then)
