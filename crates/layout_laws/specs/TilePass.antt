-- One pass over the extents of a file, sorted by their places: what stands behind each, and the gaps between them.
use Rattle.std.specs.Prelude.{◌≡◌, ℕ, ◌+◌, ◌-◌, ◌<◌, ◌≤◌, ◌==◌, true, cond, List, [], ◌∷◌, ◌++◌, filter, codes, IsTrue, ⊤}
use Rattle.adf_format.specs.Fields.{holds}
use Rattle.adf_format.specs.declared.types.Extent.{Extent}
use Rattle.adf_format.specs.declared.types.ExtentKind.{ExtentKind}
use Rattle.adf_format.specs.Tiles.{cover, end_of, is_free, is_filler}
use Rattle.adf_format.specs.Placement.{extent}
use Rattle.adf_format.specs.LaysOut.{AreGapsInOrder}

-- the gaps and a filler behind them, from a place to another
abbrev pub filled_up : List Extent → ℕ → ℕ → List Extent
filled_up gaps from to = cond (from == to) gaps (gaps ++ extent ExtentKind.Filler from (to - from) ∷ [])

-- the gaps behind one more extent, where the extents before it end at a place
abbrev pub passed_gaps : List Extent → ℕ → Extent → List Extent
passed_gaps gaps reach e = cond (is_free e) (filled_up gaps reach e.place ++ e ∷ []) (filled_up gaps reach e.place)

-- the last gap ends by a place, and before it where it is a filler
abbrev pub LastEndsBy : List Extent → ℕ → Type 0
LastEndsBy [] n = ⊤
LastEndsBy (g ∷ []) n = (end_of g ≤ n) × (IsTrue (is_filler g) → end_of g < n)
LastEndsBy (g ∷ h ∷ gs) n = LastEndsBy (h ∷ gs) n

-- all extents begin at a place or behind it
abbrev pub AllFrom : ℕ → List Extent → Type 0
AllFrom n [] = ⊤
AllFrom n (e ∷ es) = (n ≤ e.place) × AllFrom n es

-- the bytes from a place to the one before another are blank
abbrev pub AreBlank : List ℕ → ℕ → ℕ → Type 0
AreBlank image from to = (b : ℕ) → from ≤ b → b < to → holds image b (codes "z") ≡ true

-- Some extents, by place, were passed: the last of them begins at `low`, and all end by `reach`. Each byte before
-- it lies in one of them or, as a blank one, in a filler among the gaps, and no byte lies in two.
pub record IsPassed (image : List ℕ) (done : List Extent) (low reach : ℕ) (gaps : List Extent) : Type 0 where
  pub before : low ≤ reach
  pub once : (b : ℕ) → b < reach → cover done b + cover (filter is_filler gaps) b ≡ 1
  pub inside : (b : ℕ) → reach ≤ b → cover done b ≡ 0
  pub fillers_end : (b : ℕ) → low ≤ b → cover (filter is_filler gaps) b ≡ 0
  pub blank : (b : ℕ) → cover (filter is_filler gaps) b ≡ 1 → holds image b (codes "z") ≡ true
  pub frees : filter is_free gaps ≡ filter is_free done
  pub in_order : AreGapsInOrder gaps
  pub last : LastEndsBy gaps reach
