-- Changed blocks over bytes that are told.
use Rattle.std.specs.Prelude.{◌≡◌, ◌⊎◌, ◌≢◌, ℕ, ◌+◌, ◌*◌, ◌≤◌, max, List, [], ◌∷◌, length, Some, ⊤}
use Rattle.std.specs.declared.option.Option.{Option}
use Rattle.std.specs.Option.{option_map}
use Rattle.std.specs.Map.{lookup, keys_of}
use Rattle.std.specs.Ordering.{nat_cmp}
use Rattle.std.specs.BTreeMap.{is_at}
use Rattle.std.specs.List.Sorted.{IsStrictlySortedBy}
use Rattle.cg_io.specs.Cause.{raised}
use Rattle.cg_io.specs.Device.{overwritten, with_block, Tears}
use Rattle.cg_io.specs.Blocks.{blocks_of}
use Rattle.cg_io.specs.Waits.{IsTouched}

-- the bytes with these blocks written, one after another
abbrev pub with_changes : List ℕ → List (ℕ × List ℕ) → List ℕ
with_changes bytes [] = bytes
with_changes bytes (change ∷ changes) = with_changes (overwritten bytes (change.0 * 4096) change.1) changes

-- the same of bytes that are told
abbrev pub image_of : Option (List ℕ) → List (ℕ × List ℕ) → Option (List ℕ)
image_of held changes = option_map (λ bytes. with_changes bytes changes) held

-- the first changes were written, the block of the next has any bytes, and each of these writes was counted
abbrev pub IsPartWritten : Option (List ℕ) → ℕ → List (ℕ × List ℕ) → Option (List ℕ) → ℕ → Type 0
IsPartWritten held writes [] new now = ⊥
IsPartWritten held writes (change ∷ changes) new now = (Tears held change.0 new × (now ≡ raised writes)) ⊎ IsPartWritten (with_block held change.0 change.1) (raised writes) changes new now

-- the changed block of this number
abbrev pub block_in : List (ℕ × List ℕ) → ℕ → Option (List ℕ)
block_in changes n = lookup (is_at (nat_cmp n)) changes

-- where the last changed block ends
abbrev pub reach : List (ℕ × List ℕ) → ℕ
reach [] = 0
reach (change ∷ changes) = max (change.0 * 4096 + 4096) (reach changes)

abbrev pub AreSized : List (ℕ × List ℕ) → Type 0
AreSized [] = ⊤
AreSized (change ∷ changes) = (length change.1 ≡ 4096) × AreSized changes

-- blocks of 4,096 bytes, ascending by their numbers
pub record AreChanges (changes : List (ℕ × List ℕ)) : Type 0 where
  pub sizes : AreSized changes
  pub ascend : IsStrictlySortedBy nat_cmp (keys_of changes)

-- this block is changed so, and the others are as they were
pub record Puts (n : ℕ) (block : List ℕ) (old new : List (ℕ × List ℕ)) : Type 0 where
  pub here : block_in new n ≡ Some block
  pub others : (m : ℕ) → m ≢ n → block_in new m ≡ block_in old m
  pub farther : reach old ≤ reach new
  pub reaches : n * 4096 + 4096 ≤ reach new
  pub no_farther : reach new ≤ max (reach old) (n * 4096 + 4096)
  pub few : length new ≤ length old + 1

-- no block but this one is changed anew, or otherwise
pub record ChangesOnly (n : ℕ) (old new : List (ℕ × List ℕ)) : Type 0 where
  pub others : (m : ℕ) → m ≢ n → block_in new m ≡ block_in old m
  pub few : length new ≤ length old + 1

-- only blocks that a range touches are changed anew, or otherwise
pub record ChangesWithin (place len : ℕ) (old new : List (ℕ × List ℕ)) : Type 0 where
  pub outside : (m : ℕ) → (IsTouched place len m → ⊥) → block_in new m ≡ block_in old m
  pub few : length new ≤ length old + blocks_of place len
