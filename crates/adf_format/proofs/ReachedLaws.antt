-- What may change of bytes in calls one after another, and how far they may grow.
use Rattle.std.proofs.Common.{◌≡◌, ℕ, zero, suc, refl, ◌∙◌, arith, List, [], ◌∷◌, length, true, ◌+◌, ◌-◌, ◌/◌, ◌<◌, ◌≤◌, inl, inr}
use Rattle.std.proofs.lemmas.Bool.{cases_lt}
use Rattle.std.proofs.lemmas.Bool.Decides.{nat_tests}
use Rattle.adf_format.specs.declared.types.Extent.{Extent}
use Rattle.adf_format.specs.declared.types.ExtentKind.{ExtentKind}
use Rattle.adf_format.specs.Tiles.{cover, holds_byte}
use Rattle.adf_format.specs.Placement.{extent}
use Rattle.adf_format.specs.HeapBytes.{IsReached, ChangesOnly}

-- what lies in some ranges lies in others too
abbrev pub LieIn : List Extent → List Extent → Type 0
LieIn xs ys = (b : ℕ) → cover ys b ≡ 0 → cover xs b ≡ 0

some_in : (ours theirs : ℕ) → (ours ≡ 0 → theirs ≡ 0) → 0 < theirs → 0 < ours
some_in zero theirs none some = let gone = none refl in absurd (omega (arith, gone, some))
some_in (suc ours) theirs none some = omega arith

pub reached_in : (xs ys : List Extent) (b : ℕ) → LieIn xs ys → IsReached xs b → IsReached ys b
reached_in xs ys b lie at = record { byte = at.byte; own = some_in (cover ys at.byte) (cover xs at.byte) (lie at.byte) at.own; block = at.block }

-- the last byte of a range lies in it
pub reached_by : (kind : ExtentKind) (at n b : ℕ) → 0 < n → b / 4096 ≤ (at + n - 1) / 4096 → IsReached (extent kind at n ∷ []) b
reached_by kind at n b some block = record { byte = at + n - 1; own = let there : holds_byte (extent kind at n) (at + n - 1) ≡ true = grind (arith, nat_tests) in rw there (omega arith); block = block }

-- nothing changes
pub still_changes : (xs : List Extent) (bytes : List ℕ) → ChangesOnly xs bytes bytes
still_changes xs bytes = record { longer = omega arith; others = λ b none. refl; grows = λ b past here. absurd (omega (arith, past, here)) }

-- more may change
pub more_changes : (xs ys : List Extent) (old new : List ℕ) → LieIn xs ys → ChangesOnly xs old new → ChangesOnly ys old new
more_changes xs ys old new lie c = record {
  longer = c.longer;
  others = λ b none. c.others b (lie b none);
  grows = λ b past here. reached_in xs ys b lie (c.grows b past here);
}

-- one change after another
pub later_changes : (xs : List Extent) (a b c : List ℕ) → ChangesOnly xs a b → ChangesOnly xs b c → ChangesOnly xs a c
later_changes xs a b c v w = record {
  longer = (let x = v.longer in let y = w.longer in omega (arith, x, y));
  others = λ k none. w.others k none ∙ v.others k none;
  grows = λ k past here. elim (cases_lt k (length b)) [ inl before ↦ v.grows k past before | inr after ↦ w.grows k after here ];
}
