-- What the calls of blocks and of a space answer, and what they do to the bytes.
use Rattle.std.specs.Prelude.{◌≡◌, ◌⊎◌, ℕ, ◌+◌, ◌-◌, ◌/◌, ◌%◌, min, ◌<◌, ◌≤◌, List, length, get_or, None, Some, ⊤}
use Rattle.std.specs.declared.option.Option.{Option}
use Rattle.cg_io.specs.Device.{DeviceState}

-- a call that reads leaves the bytes and the writes, and reads the device at most n times
pub record ReadsFew (n : ℕ) (old new : DeviceState) : Type 0 where
  pub held : new.held ≡ old.held
  pub lost : new.lost ≡ old.lost
  pub writes : new.writes ≡ old.writes
  pub reads : old.reads ≤ new.reads
  pub few : new.reads ≤ old.reads + n
  pub faults : old.faults ≤ new.faults

-- how many blocks a range touches
abbrev pub blocks_of : ℕ → ℕ → ℕ
blocks_of place len = min len ((place % 4096 + len + 4095) / 4096)

-- bytes that grew did so for a range of some bytes, and at most to the end of the last block that it touches
abbrev pub GrowsFor : ℕ → ℕ → List ℕ → List ℕ → Type 0
GrowsFor place len old new = (k : ℕ) → length old ≤ k → k < length new → (0 < len) × (k / 4096 ≤ (place + len - 1) / 4096)

-- these bytes stand in the new bytes at the place, and all others are as they were, with zeros where they grew
pub record Wrote (place : ℕ) (from old new : List ℕ) : Type 0 where
  pub longer : length old ≤ length new
  pub reaches : 0 < length from → place + length from ≤ length new
  pub within : (k : ℕ) → place ≤ k → k < place + length from → get_or new k 0 ≡ get_or from (k - place) 0
  pub outside : (k : ℕ) → (k < place) ⊎ (place + length from ≤ k) → get_or new k 0 ≡ get_or old k 0
  pub grows : GrowsFor place (length from) old new

-- bytes outside a range are as they were, with zeros where they grew
pub record KeepsOutside (place len : ℕ) (old new : List ℕ) : Type 0 where
  pub longer : length old ≤ length new
  pub outside : (k : ℕ) → (k < place) ⊎ (place + len ≤ k) → get_or new k 0 ≡ get_or old k 0
  pub grows : GrowsFor place len old new

-- a relation of bytes that are told before and after
abbrev pub Both : (List ℕ → List ℕ → Type 0) → Option (List ℕ) → Option (List ℕ) → Type 0
Both R None None = ⊤
Both R (Some old) (Some new) = R old new
Both R None (Some new) = ⊥
Both R (Some old) None = ⊥
