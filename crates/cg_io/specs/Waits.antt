-- Blocks that wait to be written to a device, by their numbers.
use Rattle.std.specs.Prelude.{◌⊎◌, ℕ, suc, ◌+◌, ◌*◌, ◌<◌, List, [], ◌∷◌, nat_eq, if◌then◌else◌, IsTrue}
use Rattle.std.specs.List.{list_any}

-- this block is among those that wait
abbrev pub Waits : List ℕ → ℕ → Type 0
Waits blocks n = IsTrue (list_any (nat_eq n) blocks)

-- how many blocks these are, each counted once
abbrev pub how_many : List ℕ → ℕ
how_many [] = 0
how_many (n ∷ ns) = if list_any (nat_eq n) ns then how_many ns else suc (how_many ns)

-- a range has a byte of this block
abbrev pub IsTouched : ℕ → ℕ → ℕ → Type 0
IsTouched place len n = (0 < len) × (n * 4096 < place + len) × (place < n * 4096 + 4096)

-- no blocks wait anew but some
abbrev pub WaitsOnly : (ℕ → Type 0) → List ℕ → List ℕ → Type 0
WaitsOnly P old new = (n : ℕ) → Waits new n → Waits old n ⊎ P n
