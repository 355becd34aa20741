-- Extents that tile a file: in the order of their places each begins where the one before it ends.
use Rattle.std.proofs.Common.{◌≡◌, ◌⊎◌, inl, inr, ℕ, refl, sym, ◌∙◌, arith, List, [], ◌∷◌, ◌+◌, ◌-◌, ◌<◌, ◌≤◌, Bool, true, false}
use Rattle.std.proofs.lemmas.Bool.Decides.{nat_tests, leb_tells}
use Rattle.std.proofs.lemmas.List.Elements.{recursion_from_All}
use Rattle.std.proofs.lemmas.List.Sorted.{IsNonDecreasingBy-drop, All-permutation}
use Rattle.std.specs.Prelude.{nat_le}
use Rattle.std.specs.List.{All, AllByRecursion}
use Rattle.std.specs.List.Sorted.{IsPermutation, IsNonDecreasingBy}
use Rattle.adf_format.specs.declared.types.Extent.{Extent}
use Rattle.adf_format.specs.Tiles.{Tiles, TilesFrom, TilesInOrder, cover, holds_byte, end_of}
use Rattle.adf_format.proofs.CountLaws.{none_holds}
use Rattle.layout_laws.specs.TilePass.{AllFrom}
use Rattle.layout_laws.proofs.VisitExtents.{first_byte, last_byte_held}
use Rattle.layout_lint.proofs.GapLaws.{cover_same, sorted_from}

abbrev IsSorted : List Extent → Type 0
IsSorted xs = IsNonDecreasingBy (λ (x : Extent). x.place) xs

abbrev AreSome : List Extent → Type 0
AreSome xs = AllByRecursion (λ (x : Extent). 0 < x.length) xs

-- the byte is in this extent and in others of the list, or in those alone
with_one : (e : Extent) (es : List Extent) (b : ℕ) → holds_byte e b ≡ true → cover (e ∷ es) b ≡ 1 + cover es b
with_one e es b h = rw h refl

without_one : (e : Extent) (es : List Extent) (b : ℕ) → holds_byte e b ≡ false → cover (e ∷ es) b ≡ cover es b
without_one e es b h = rw h (plain (cover es b))
  where
    plain : (n : ℕ) → 0 + n ≡ n
    plain n = omega arith

out_before : (e : Extent) (b : ℕ) → b < e.place → holds_byte e b ≡ false
out_before e b lt = grind (arith, nat_tests)

out_behind : (e : Extent) (b : ℕ) → end_of e ≤ b → holds_byte e b ≡ false
out_behind e b le = grind (arith, nat_tests)

held_within : (e : Extent) (b : ℕ) → e.place ≤ b → b < end_of e → holds_byte e b ≡ true
held_within e b low high = grind (arith, nat_tests)

-- a byte before all of them is in none
none_before : (n : ℕ) (xs : List Extent) (b : ℕ) → AllFrom n xs → b < n → cover xs b ≡ 0
none_before n [] b h lt = refl
none_before n (e ∷ es) b h lt = let low = h.0 in without_one e es b (out_before e b (omega (arith, low, lt))) ∙ none_before n es b h.1 lt

-- extents that begin at another's place or later, and share no byte with it, begin where it ends or later
all_behind : (e : Extent) (xs : List Extent) → AreSome xs → AllFrom e.place xs → ((b : ℕ) → holds_byte e b ≡ true → cover xs b ≡ 0) → AllFrom (end_of e) xs
all_behind e [] some low apart = tt
all_behind e (x ∷ xs) some low apart = (first (leb_tells (end_of e) x.place), all_behind e xs some.1 low.1 (λ b held. (none_holds x xs b (apart b held)).1))
  where
    first : ((nat_le (end_of e) x.place ≡ true) × (end_of e ≤ x.place)) ⊎ ((nat_le (end_of e) x.place ≡ false) × (x.place < end_of e)) → end_of e ≤ x.place
    first (inl h) = h.1
    first (inr h) =
        let one = with_one x xs x.place (first_byte x some.0) in
        let none = apart x.place (held_within e x.place low.0 h.1) in
        absurd (omega (arith, one, none))

module _ (end : ℕ) where
  tiled_from : (xs : List Extent) (from : ℕ) → IsSorted xs → AllFrom from xs → AreSome xs → from ≤ end + 1 → ((b : ℕ) → from ≤ b → b ≤ end → cover xs b ≡ 1) → ((b : ℕ) → end < b → cover xs b ≡ 0) → TilesFrom from xs end
  tiled_from [] from sorted low some near once none = last (leb_tells from end)
    where
      last : ((nat_le from end ≡ true) × (from ≤ end)) ⊎ ((nat_le from end ≡ false) × (end < from)) → from ≡ end + 1
      last (inl h) = absurd (let one : 0 ≡ 1 = once from (omega arith) h.1 in omega (arith, one))
      last (inr h) = let gt = h.1 in omega (arith, gt, near)
  tiled_from (e ∷ es) from sorted low some near once none =
      (first (leb_tells e.place from), some.0, tiled_from es (end_of e) (IsNonDecreasingBy-drop (λ (x : Extent). x.place) 1 (e ∷ es) sorted) behind some.1 (inside (leb_tells (end_of e) (end + 1))) later (λ b gt. (none_holds e es b (none b gt)).1))
    where
      order : AllFrom e.place (e ∷ es)
      order = sorted_from (e ∷ es) 0 e sorted (omega arith)

      at_most : (b : ℕ) → from ≤ b → cover (e ∷ es) b ≤ 1
      at_most b le = elim (leb_tells b end) [ inl h ↦ (let one : cover (e ∷ es) b ≡ 1 = once b le h.1 in omega (arith, one)) | inr h ↦ (let zero' : cover (e ∷ es) b ≡ 0 = none b h.1 in omega (arith, zero')) ]

      apart : (b : ℕ) → holds_byte e b ≡ true → cover es b ≡ 0
      apart b held = by_place (leb_tells from b)
        where
          by_place : ((nat_le from b ≡ true) × (from ≤ b)) ⊎ ((nat_le from b ≡ false) × (b < from)) → cover es b ≡ 0
          by_place (inl h) = let one = with_one e es b held in let few = at_most b h.1 in omega (arith, one, few)
          by_place (inr h) = absurd (clash (holds_byte e b) held (out_before e b (let lt = h.1 in let le = low.0 in omega (arith, lt, le))))
            where
              clash : (t : Bool) → t ≡ true → t ≡ false → ⊥
              clash t p q = cc

      behind : AllFrom (end_of e) es
      behind = all_behind e es some.1 order.1 apart

      begins : e.place ≤ end
      begins = by_end (leb_tells e.place end)
        where
          by_end : ((nat_le e.place end ≡ true) × (e.place ≤ end)) ⊎ ((nat_le e.place end ≡ false) × (end < e.place)) → e.place ≤ end
          by_end (inl h) = h.1
          by_end (inr h) = let one = with_one e es e.place (first_byte e some.0) in let zero' = none e.place h.1 in absurd (omega (arith, one, zero'))

      first : ((nat_le e.place from ≡ true) × (e.place ≤ from)) ⊎ ((nat_le e.place from ≡ false) × (from < e.place)) → e.place ≡ from
      first (inl h) = let le = h.1 in let ge = low.0 in omega (arith, le, ge)
      first (inr h) =
          let lt = h.1 in
          let start = begins in
          let one = once from (omega arith) (omega (arith, lt, start)) in
          let zero' = none_before e.place (e ∷ es) from order h.1 in
          absurd (omega (arith, one, zero'))

      inside : ((nat_le (end_of e) (end + 1) ≡ true) × (end_of e ≤ end + 1)) ⊎ ((nat_le (end_of e) (end + 1) ≡ false) × (end + 1 < end_of e)) → end_of e ≤ end + 1
      inside (inl h) = h.1
      inside (inr h) =
          let gt = h.1 in
          let one = with_one e es (end_of e - 1) (last_byte_held e some.0 (end_of e - 1) (omega (arith, gt))) in
          let zero' = none (end_of e - 1) (omega (arith, gt)) in
          absurd (omega (arith, one, zero'))

      later : (b : ℕ) → end_of e ≤ b → b ≤ end → cover es b ≡ 1
      later b le high = sym (without_one e es b (out_behind e b le)) ∙ once b (let ge = low.0 in omega (arith, ge, le)) high

-- in the order of their places they tile in order
pub sorted_tiles : (xs ys : List Extent) (end : ℕ) → IsPermutation xs ys → IsSorted ys → All (λ (x : Extent). 0 < x.length) xs → Tiles xs end → TilesInOrder ys end
sorted_tiles xs ys end same sorted some t =
    tiled_from end ys 0 sorted (all_from ys) (recursion_from_All _ ys (All-permutation (λ (x : Extent). 0 < x.length) xs ys same some)) (omega arith)
    (λ b le high. sym (cover_same xs ys b same) ∙ t.once b high) (λ b gt. sym (cover_same xs ys b same) ∙ t.inside b gt)
  where
    all_from : (zs : List Extent) → AllFrom 0 zs
    all_from [] = tt
    all_from (z ∷ zs) = (omega arith, all_from zs)
