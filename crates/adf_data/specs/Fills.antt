-- Ranges of a space that are filled or copied to.
use Rattle.std.specs.Prelude.{◌≡◌, ◌⊎◌, ℕ, ◌+◌, ◌-◌, ◌<◌, ◌≤◌, List, ◌++◌, length, take, replicate, get_or}
use Rattle.adf_format.specs.Fields.{field}
use Rattle.adf_format.specs.Parts.{SpellsChunk, payload}
use Rattle.adf_format.specs.LaysOut.{payloads}
use Rattle.cg_io.specs.Blocks.{KeepsOutside}
use Rattle.adf_format.specs.Placement.{ChunkPart}
use Rattle.adf_format.specs.HeapRule.{payload_length}
use Rattle.adf_data.specs.Ranges.{AreIn, AreOnce, byte_place, ChangesBytes}

abbrev pub ChangesAt : ℕ → ℕ → List ℕ → List ℕ → Type 0
ChangesAt place n old new = KeepsOutside place n old new

-- so many zeros stand at a place, and all else reads as before
pub record Fills (place n : ℕ) (old new : List ℕ) : Type 0 where
  pub changes : KeepsOutside place n old new
  pub zeros : (k : ℕ) → place ≤ k → k < place + n → get_or new k 0 ≡ 0

-- some bytes of the data, from one on, are zero, and all else reads as before
pub record ZeroesBytes (parts : List ChunkPart) (first n : ℕ) (old new : List ℕ) : Type 0 where
  pub changes : ChangesBytes parts first n old new
  pub zeros : AreOnce parts → (j : ℕ) → j < n → get_or new (byte_place parts (first + j)) 0 ≡ 0

-- some bytes of the data, from one on, stand at a place too, and all else reads as before
pub record CopiesPart (parts : List ChunkPart) (first n to : ℕ) (old new : List ℕ) : Type 0 where
  pub changes : KeepsOutside to n old new
  pub copied : (k : ℕ) → k < n → get_or new (to + k) 0 ≡ get_or old (byte_place parts (first + k)) 0

-- no byte of the data stands in a range
abbrev pub IsBeside : List ChunkPart → ℕ → ℕ → Type 0
IsBeside parts to n = (j : ℕ) → j < payload_length parts → (byte_place parts j < to) ⊎ (to + n ≤ byte_place parts j)

-- the first bytes of the data stand at a place too, where a longer range there has no byte of the data
pub record Copies (parts : List ChunkPart) (all n to : ℕ) (old new : List ℕ) : Type 0 where
  pub changes : KeepsOutside to n old new
  pub copied : IsBeside parts to all → (k : ℕ) → k < n → get_or new (to + k) 0 ≡ get_or old (byte_place parts k) 0

-- each byte is zero
abbrev pub AllZero : List ℕ → Type 0
AllZero bytes = (k : ℕ) → get_or bytes k 0 ≡ 0

-- a new chunk stands at a place: the first bytes of the data, and zeros behind them
pub record MakesChunk (parts : List ChunkPart) (kept n place : ℕ) (old new : List ℕ) : Type 0 where
  pub changes : KeepsOutside place n old new
  pub spells : SpellsChunk (field new place n) place n
  pub body : IsBeside parts place n → AreIn parts old → payload new place n ≡ take kept (payloads old parts) ++ replicate (n - 20 - kept) 0

-- a new chunk stands at a place: a text, and zeros behind it
pub record MakesText (text : List ℕ) (n place : ℕ) (old new : List ℕ) : Type 0 where
  pub changes : KeepsOutside place n old new
  pub spells : SpellsChunk (field new place n) place n
  pub body : payload new place n ≡ text ++ replicate (n - 20 - length text) 0
