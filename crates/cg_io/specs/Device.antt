-- What the calls of a device answer, and what they do to its bytes.
use Rattle.std.specs.Prelude.{◌≡◌, ◌⊎◌, ℕ, ◌+◌, ◌-◌, ◌*◌, List, ◌++◌, length, take, drop, replicate, None, Some, ⊤}
use Rattle.std.specs.Option.{option_map}
use Rattle.std.specs.declared.option.Option.{Option}
pub use Rattle.adf_model.specs.Counts.{DeviceState}
use Rattle.adf_model.specs.Counts.{raised}

-- n of the bytes from a place on, with zeros past the end
unfoldable pub bytes_at : List ℕ → ℕ → ℕ → List ℕ
bytes_at bytes at n = take n (drop at bytes) ++ replicate (n - length (take n (drop at bytes))) 0

-- the bytes, and zeros up to a length
unfoldable pub padded : List ℕ → ℕ → List ℕ
padded bytes n = bytes ++ replicate (n - length bytes) 0

-- the bytes with others at a place; a gap before it is filled with zeros
unfoldable pub overwritten : List ℕ → ℕ → List ℕ → List ℕ
overwritten bytes at from = take at (padded bytes at) ++ (from ++ drop (at + length from) bytes)

-- block n of bytes that are told
abbrev pub Gives : Option (List ℕ) → ℕ → List ℕ → Type 0
Gives None n block = ⊤
Gives (Some bytes) n block = block ≡ bytes_at bytes (n * 4096) 4096

-- the bytes at a place of bytes that are told
abbrev pub GivesAt : Option (List ℕ) → ℕ → List ℕ → Type 0
GivesAt None place into = ⊤
GivesAt (Some bytes) place into = into ≡ bytes_at bytes place (length into)

-- bytes that are told, with this block n
abbrev pub with_block : Option (List ℕ) → ℕ → List ℕ → Option (List ℕ)
with_block held n block = option_map (λ bytes. overwritten bytes (n * 4096) block) held

-- after a write that failed: any bytes in its range, the old length or the new one
abbrev pub IsTorn : List ℕ → ℕ → List ℕ → Type 0
IsTorn old n new = (block : List ℕ) × (length block ≡ 4096) × ((new ≡ overwritten old (n * 4096) block) ⊎ (new ≡ take (length old) (overwritten old (n * 4096) block)))

abbrev pub Tears : Option (List ℕ) → ℕ → Option (List ℕ) → Type 0
Tears None n None = ⊤
Tears None n (Some new) = ⊥
Tears (Some old) n None = ⊥
Tears (Some old) n (Some new) = IsTorn old n new

-- a call that reads leaves the bytes and the writes, and counts itself
pub record Reads (old new : DeviceState) : Type 0 where
  pub held : new.held ≡ old.held
  pub lost : new.lost ≡ old.lost
  pub writes : new.writes ≡ old.writes
  pub reads : new.reads ≡ raised old.reads

-- a call that writes leaves the reads, and counts itself
pub record Writes (old new : DeviceState) : Type 0 where
  pub reads : new.reads ≡ old.reads
  pub writes : new.writes ≡ raised old.writes
