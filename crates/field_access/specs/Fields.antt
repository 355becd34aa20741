-- Fields of bytes that may be told, what a write changes of the bytes, and which blocks wait after it.
use Rattle.std.specs.Prelude.{◌≡◌, ℕ, ◌+◌, ◌/◌, ◌<◌, ◌≤◌, List, Option, IfSome, length}
use Rattle.adf_format.specs.declared.types.Extent.{Extent}
use Rattle.adf_format.specs.declared.types.ExtentKind.{ExtentKind}
use Rattle.adf_format.specs.Fields.{field}
pub use Rattle.adf_format.specs.HeapBytes.{ChangesOnly}
use Rattle.adf_format.specs.Placement.{extent}
use Rattle.adf_format.specs.Tiles.{cover}
use Rattle.cg_io.specs.Waits.{WaitsOnly}

-- what holds of the n bytes at a place, where the bytes are told and have them
abbrev pub WhereTold : Option (List ℕ) → ℕ → ℕ → (List ℕ → Type 0) → Type 0
WhereTold held place n P = IfSome held (λ bytes. place + n ≤ length bytes → P (field bytes place n))

-- some bytes in a row
abbrev pub range : ℕ → ℕ → Extent
range place length = extent ExtentKind.FreeChunk place length

-- what lies in none of the one ranges lies in none of the others
abbrev pub IsWithin : List Extent → List Extent → Type 0
IsWithin xs ys = (b : ℕ) → cover ys b ≡ 0 → cover xs b ≡ 0

-- a byte of the ranges stands in this block
pub record AreInBlock (ranges : List Extent) (n : ℕ) : Type 0 where
  pub byte : ℕ
  pub own : 0 < cover ranges byte
  pub block : byte / 4096 ≡ n

-- no blocks wait anew but those in which a byte of the ranges stands
pub record WaitsWithin (ranges : List Extent) (old new : List ℕ) : Type 0 where
  pub only : WaitsOnly (AreInBlock ranges) old new

-- the same, where the bytes are told of which the ranges come
abbrev pub WaitsWhereTold : Option (List ℕ) → List Extent → List ℕ → List ℕ → Type 0
WaitsWhereTold held ranges old new = IfSome held (λ bytes. WaitsWithin ranges old new)
