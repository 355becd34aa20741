-- Bytes that are written one behind another from the first byte of a device on, in whole blocks.
use Rattle.std.specs.Prelude.{◌≡◌, ℕ, ◌+◌, ◌*◌, ◌/◌, ◌-◌, ◌^◌, ◌<◌, ◌≤◌, List, ◌++◌, length, take, IfSome}
use Rattle.std.specs.declared.option.Option.{Option}
use Rattle.std.specs.Option.{option_map}
use Rattle.cg_io.specs.Device.{DeviceState, padded}
use Rattle.adf_model.specs.Counts.{raised_by}
use Rattle.adf_repack.specs.declared.writer.Tail.{Tail}
use Rattle.adf_repack.specs.declared.writer.BlockWriter.{BlockWriter}

-- the bytes that wait for the rest of their block
abbrev pub tail_bytes : Tail → List ℕ
tail_bytes tail = take tail.filled tail.block

-- the device below a writer
abbrev pub device_under : {E : Type 0} → BlockWriter E → E
device_under w = w.device

-- what it holds, and its counts
abbrev pub state_under : {E : Type 0} → (E → DeviceState) → BlockWriter E → DeviceState
state_under state w = state (device_under w)

-- how many blocks were written
abbrev pub blocks_in : {E : Type 0} → BlockWriter E → ℕ
blocks_in w = w.blocks

-- how many bytes were appended
abbrev pub count_in : {E : Type 0} → BlockWriter E → ℕ
count_in w = blocks_in w * 4096 + w.tail.filled

-- the bytes that were appended, where the device tells its bytes: those that it holds, and those that wait
abbrev pub appended_in : {E : Type 0} → (E → DeviceState) → BlockWriter E → Option (List ℕ)
appended_in state w = option_map (λ bytes. bytes ++ tail_bytes w.tail) (state_under state w).held

-- No write failed, less than a block waits, and the device, where it tells its bytes, holds the blocks that were written and no more.
pub record IsWriter {E : Type 0} (state : E → DeviceState) (w : BlockWriter E) : Type 0 where
  pub waits : w.tail.filled < 4096
  pub whole : IfSome (state_under state w).held (λ bytes. length bytes ≡ blocks_in w * 4096)
  pub within : count_in w ≤ 2 ^ 44

-- what is appended to bytes that are told
abbrev pub with_more : Option (List ℕ) → List ℕ → Option (List ℕ)
with_more bytes more = option_map (λ (b : List ℕ). b ++ more) bytes

-- the device was not read, and no count of writes fell
pub record OnlyWrites (old new : DeviceState) : Type 0 where
  pub reads : new.reads ≡ old.reads
  pub writes : old.writes ≤ new.writes

-- the blocks from one number up to another were written, each once
pub record WritesBlocks (from to : ℕ) (old new : DeviceState) : Type 0 where
  pub ahead : from ≤ to
  pub writes : new.writes ≡ raised_by (to - from) old.writes

-- how many blocks so many bytes are
abbrev pub blocks_for : ℕ → ℕ
blocks_for n = (n + 4095) / 4096

-- bytes with zeros up to the end of their last block
abbrev pub in_blocks : List ℕ → List ℕ
in_blocks bytes = padded bytes (blocks_for (length bytes) * 4096)
