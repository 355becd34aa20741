-- Counts that never fall, and what calls leave of a device.
use Rattle.std.specs.Prelude.{◌≡◌, ℕ, ◌+◌, ◌-◌, ◌^◌, ◌≤◌, min, max, List, Option, None}

-- one more, up to the end of its type
abbrev pub raised : ℕ → ℕ
raised n = max n (min (n + 1) (2 ^ 64 - 1))

-- so many more, up to the end of its type
abbrev pub raised_by : ℕ → ℕ → ℕ
raised_by n count = max count (min (count + n) (2 ^ 64 - 1))

-- it is higher than before, or stands at the end of its type
abbrev pub Rose : ℕ → ℕ → Type 0
Rose before now = min (before + 1) (2 ^ 64 - 1) ≤ now

-- The bytes, where they are told, and how often the device failed, lost a write, was read and was written.
pub record DeviceState : Type 0 where
  pub held : Option (List ℕ)
  pub faults : ℕ
  pub lost : ℕ
  pub reads : ℕ
  pub writes : ℕ

-- what is still meant of a device that is dropped: it tells nothing, and its counts are the last ones
abbrev pub dropped : DeviceState → DeviceState
dropped state = record state { held = None }

-- no count of the device is lower
pub record NoCountFell (old new : DeviceState) : Type 0 where
  pub faults : old.faults ≤ new.faults
  pub lost : old.lost ≤ new.lost
  pub reads : old.reads ≤ new.reads
  pub writes : old.writes ≤ new.writes

-- nothing is written, and no count falls
pub record OnlyReads (old new : DeviceState) : Type 0 where
  pub held : new.held ≡ old.held
  pub lost : new.lost ≡ old.lost
  pub writes : new.writes ≡ old.writes
  pub reads : old.reads ≤ new.reads
  pub faults : old.faults ≤ new.faults

-- a write of the device failed
pub record WriteFails (old new : DeviceState) : Type 0 where
  pub faults : Rose old.faults new.faults
  pub lost : Rose old.lost new.lost
  pub writes : Rose old.writes new.writes
