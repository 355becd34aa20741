-- What a cache keeps of the blocks of a device.
use Rattle.std.specs.Prelude.{◌≡◌, ◌⊎◌, ◌≤◌, ℕ, List, ◌∷◌, length, take, nat_eq, None, Some}
use Rattle.std.specs.declared.option.Option.{Option}
use Rattle.std.specs.List.{IsDistinct}
use Rattle.std.specs.Map.{lookup, remove_entry, keys_of}
use Rattle.cg_io.specs.Device.{DeviceState, Gives}
use Rattle.block_cache.specs.declared.cache.BlockCache.{BlockCache}

-- the device below a cache
abbrev pub device_in : {D : Type 0} → BlockCache D → D
device_in cache = cache.device

-- the blocks that a cache keeps, by their numbers, the one that was used last first
abbrev pub blocks_in : {D : Type 0} → BlockCache D → List (ℕ × List ℕ)
blocks_in cache = cache.blocks.entries

-- how many blocks a cache may keep
abbrev pub capacity_of : {D : Type 0} → BlockCache D → ℕ
capacity_of cache = cache.blocks.cap

-- a block goes first, before the others in their order, as far as there is room
abbrev pub touch : ℕ → ℕ × List ℕ → List (ℕ × List ℕ) → List (ℕ × List ℕ)
touch capacity entry blocks = take capacity (entry ∷ remove_entry (nat_eq entry.0) blocks)

-- a block that was used goes first; only one that was not kept may stay out, and then all is as before
abbrev pub IsTouched : ℕ → ℕ × List ℕ → List (ℕ × List ℕ) → List (ℕ × List ℕ) → Type 0
IsTouched capacity entry old new = (new ≡ touch capacity entry old) ⊎ ((new ≡ old) × (lookup (nat_eq entry.0) old ≡ None))

-- each block that is kept is the device's
pub record AreCopies (held : Option (List ℕ)) (blocks : List (ℕ × List ℕ)) : Type 0 where
  pub copies : (n : ℕ) (block : List ℕ) → lookup (nat_eq n) blocks ≡ Some block → Gives held n block

-- a cache keeps copies of the device's blocks, each once, and no more than its capacity
pub record IsCache {D : Type 0} (state : D → DeviceState) (cache : BlockCache D) : Type 0 where
  pub copies : AreCopies (state (device_in cache)).held (blocks_in cache)
  pub distinct : IsDistinct nat_eq (keys_of (blocks_in cache))
  pub bounded : length (blocks_in cache) ≤ capacity_of cache
