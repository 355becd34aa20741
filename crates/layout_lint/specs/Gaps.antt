-- What the tiling finds.
use Rattle.std.specs.Prelude.{◌≡◌, ◌⊎◌, ℕ, ◌+◌, ◌<◌, ◌≤◌, false, true, List, filter}
use Rattle.adf_format.specs.declared.types.Extent.{Extent}
use Rattle.adf_format.specs.Tiles.{cover, end_of, is_free, is_filler}
use Rattle.adf_format.specs.LaysOut.{HasSameRanges}
use Rattle.adf_format.specs.FirstFault.{IsLeastMisplaced}
use Rattle.layout_laws.specs.TilePass.{AreBlank, IsPassed, filled_up}
use Rattle.layout_lint.specs.Fillers.{IsHole}
use Rattle.layout_lint.specs.declared.verdict.Halt.{Halt}
use Rattle.layout_lint.specs.declared.verdict.Halt.TheVariants as halt

-- an extent that was found: no filler, not empty, up to the end, and a free chunk of 32 bytes or more
pub record IsSolid (end : ℕ) (e : Extent) : Type 0 where
  pub part : is_filler e ≡ false
  pub some : 0 < e.length
  pub inside : end_of e ≤ end + 1
  pub long : is_free e ≡ true → 32 ≤ e.length

-- the extent begins before those passed have ended, or a byte before it is not blank
abbrev pub StopsAt : List ℕ → ℕ → Extent → Halt → Type 0
StopsAt image reach e (halt.Broken b) = ((b.rule ≡ 30) × (b.place ≡ e.place) × (e.place < reach)) ⊎ ((reach ≤ e.place) × IsHole image reach e.place (halt.Broken b))
StopsAt image reach e halt.Memory = Unit {0}
StopsAt image reach e halt.Read = Unit {0}

-- rule 30, at the least byte that is misplaced among some extents
abbrev pub IsMisplaced : List ℕ → List Extent → ℕ → Halt → Type 0
IsMisplaced image extents end (halt.Broken b) = (b.rule ≡ 30) × IsLeastMisplaced image extents end b.place
IsMisplaced image extents end halt.Memory = Unit {0}
IsMisplaced image extents end halt.Read = Unit {0}

-- all of some extents were passed, and the gaps fill what they leave
pub record AreTiled (image : List ℕ) (extents : List Extent) (end : ℕ) (gaps : List Extent) : Type 0 where
  pub done : List Extent
  pub low : ℕ
  pub reach : ℕ
  pub before : List Extent
  pub passed : IsPassed image done low reach before
  pub near : reach ≤ end + 1
  pub blank : AreBlank image reach (end + 1)
  pub gaps_are : gaps ≡ filled_up before reach (end + 1)
  pub same : (b : ℕ) → cover extents b ≡ cover done b
  pub frees : HasSameRanges (filter is_free extents) (filter is_free done)
