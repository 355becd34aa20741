-- Bytes between extents.
use Rattle.std.specs.Prelude.{◌≡◌, ℕ, ◌<◌, ◌≤◌, List, codes, false}
use Rattle.adf_format.specs.Fields.{holds}
use Rattle.layout_laws.specs.TilePass.{AreBlank}
use Rattle.layout_lint.specs.declared.verdict.Halt.{Halt}
use Rattle.layout_lint.specs.declared.verdict.Halt.TheVariants as halt

-- a fault is rule 30 at the first byte of the range that is not blank
abbrev pub IsHole : List ℕ → ℕ → ℕ → Halt → Type 0
IsHole image from to (halt.Broken b) = (b.rule ≡ 30) × (from ≤ b.place) × (b.place < to) × AreBlank image from b.place × (holds image b.place (codes "z") ≡ false)
IsHole image from to halt.Memory = Unit {0}
IsHole image from to halt.Read = Unit {0}
