-- What a device in memory is, and when its calls fail.
use Rattle.std.specs.Prelude.{◌≡◌, ◌⊎◌, ℕ, ◌+◌, ◌<◌, List, length, take, reverse, find, ◌==◌, if◌then◌else◌, Some, Result, OnOk, OnErr}
use Rattle.std.specs.Option.{option_map}
use Rattle.std.specs.declared.option.Option.{Option}
use Rattle.cg_io.specs.Cause.{raised}
use Rattle.cg_io.specs.Device.{DeviceState, padded, overwritten}

-- its bytes and counts, the numbers of the reads that are to fail, and those of the writes with what these keep, the newest last
pub record MemoryState : Type 0 where
  pub bytes : List ℕ
  pub faults : ℕ
  pub lost : ℕ
  pub reads : ℕ
  pub writes : ℕ
  pub failing_reads : List ℕ
  pub failing_writes : List (ℕ × ℕ)

-- as a device, it tells its bytes
abbrev pub device_of : MemoryState → DeviceState
device_of m = record { held = Some m.bytes; faults = m.faults; lost = m.lost; reads = m.reads; writes = m.writes }

-- how much the write of this number keeps, where it is to fail: the newest entry counts
abbrev pub kept_of : List (ℕ × ℕ) → ℕ → Option ℕ
kept_of entries k = option_map (λ e. e.1) (find (λ e. e.0 == k) (reverse entries))

-- the bytes after a write that failed and kept so many
abbrev pub torn : List ℕ → ℕ → List ℕ → ℕ → List ℕ
torn bytes at from kept = if kept == 0 then bytes else overwritten (padded bytes (at + 4096)) at (take kept from)

-- a write that failed left what it kept, or nothing where it found no memory to grow
abbrev pub LeavesTorn : List ℕ → ℕ → List ℕ → ℕ → List ℕ → Type 0
LeavesTorn old at from kept new = (new ≡ torn old at from kept) ⊎ ((new ≡ old) × (length old < at + 4096))

-- a count of failures rises by one at a failure, and not else
pub record CountsFailures {T E : Type 0} (before now : ℕ) (result : Result T E) : Type 0 where
  pub failed : OnErr result (now ≡ raised before)
  pub done : OnOk result (now ≡ before)

-- what is left of a source, how often it was called and failed, and the number of the call that is to fail
pub record SourceState : Type 0 where
  pub left : List ℕ
  pub calls : ℕ
  pub faults : ℕ
  pub failing : Option ℕ

-- the same of a sink, with what it took, and how many bytes it has memory for
pub record SinkState : Type 0 where
  pub taken : List ℕ
  pub room : ℕ
  pub calls : ℕ
  pub faults : ℕ
  pub failing : Option ℕ
