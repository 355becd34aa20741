-- What a call changes of the bytes that it is lent, read with zeros past their end; and what calls of the heap leave: fillers hold `z`, and the end pointer names the end.
use Rattle.std.specs.Prelude.{◌≡◌, ℕ, ◌/◌, ◌<◌, ◌≤◌, List, length, filter, slice_index}
use Rattle.adf_format.specs.declared.types.Extent.{Extent}
use Rattle.adf_format.specs.declared.fields.TheConstants.{HEADER_END}
use Rattle.adf_format.specs.RecordFields.{field_in}
use Rattle.adf_format.specs.Pointer.{PointsTo}
use Rattle.adf_format.specs.Tiles.{cover, is_filler}

-- a byte stands at most in the last block that the ranges touch
pub record IsReached (ranges : List Extent) (b : ℕ) : Type 0 where
  pub byte : ℕ
  pub own : 0 < cover ranges byte
  pub block : b / 4096 ≤ byte / 4096

-- no byte is lost, each that lies in none of the ranges reads as before, with zeros past the end, and none is gained behind the last block that they touch
pub record ChangesOnly (ranges : List Extent) (old new : List ℕ) : Type 0 where
  pub longer : length old ≤ length new
  pub others : (b : ℕ) → cover ranges b ≡ 0 → slice_index new b ≡ slice_index old b
  pub grows : (b : ℕ) → length old ≤ b → b < length new → IsReached ranges b

-- each byte of the fillers among some gaps is `z`
abbrev pub HoldsFillers : List ℕ → List Extent → Type 0
HoldsFillers bytes gaps = (b : ℕ) → 0 < cover (filter is_filler gaps) b → slice_index bytes b ≡ 122

-- where the fillers among some gaps hold `z` alone, those among the others do so afterwards
abbrev pub KeepsFillers : List Extent → List Extent → List ℕ → List ℕ → Type 0
KeepsFillers gaps after old new = HoldsFillers old gaps → HoldsFillers new after

-- where the end pointer names the one end, it names the other afterwards
abbrev pub MovesEnd : ℕ → ℕ → List ℕ → List ℕ → Type 0
MovesEnd end after old new = PointsTo (field_in old HEADER_END) end → PointsTo (field_in new HEADER_END) after
