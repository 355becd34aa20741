-- Bytes that are copied from one place to another, and bytes that are cleared.
use Rattle.std.specs.Prelude.{◌≡◌, ◌⊎◌, ℕ, ◌+◌, ◌<◌, ◌≤◌, List, [], ◌∷◌, length, slice_index}
use Rattle.adf_format.specs.declared.types.ExtentKind.{ExtentKind}
use Rattle.adf_format.specs.HeapBytes.{ChangesOnly}
use Rattle.adf_format.specs.Placement.{extent}

-- two ranges of so many bytes do not meet
abbrev pub AreApart : ℕ → ℕ → ℕ → Type 0
AreApart from to count = (from + count ≤ to) ⊎ (to + count ≤ from)

-- The bytes at a place are, read with zeros past the end, those that stood at another place apart from it; nothing else changes.
pub record Copies (from to count : ℕ) (old new : List ℕ) : Type 0 where
  pub bytes : AreApart from to count → (k : ℕ) → k < count → slice_index new (to + k) ≡ slice_index old (from + k)
  pub reaches : 0 < count → to + count ≤ length new
  pub only : ChangesOnly (extent ExtentKind.Node to count ∷ []) old new

-- the bytes at a place are zeros; nothing else changes
pub record Clears (at count : ℕ) (old new : List ℕ) : Type 0 where
  pub bytes : (k : ℕ) → k < count → slice_index new (at + k) ≡ 0
  pub reaches : 0 < count → at + count ≤ length new
  pub only : ChangesOnly (extent ExtentKind.Node at count ∷ []) old new
