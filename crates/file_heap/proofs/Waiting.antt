-- How many blocks a short range touches.
use Rattle.std.proofs.Common.{ℕ, ◌+◌, ◌/◌, ◌%◌, ◌<◌, ◌≤◌, arith}
use Rattle.cg_io.specs.Blocks.{blocks_of}

few : (r n : ℕ) → r < 4096 → n ≤ 4096 → (r + n + 4095) / 4096 ≤ 2
few r n lt le = omega arith

first : (r n : ℕ) → r + n ≤ 4096 → (r + n + 4095) / 4096 ≤ 1
first r n le = omega arith

-- a range of up to a block's length touches at most two
pub few_blocks : (place n : ℕ) → n ≤ 4096 → blocks_of place n ≤ 2
few_blocks place n le = let f = few (place % 4096) n (omega arith) le in omega (arith, f)

-- a range within the first block touches one
pub one_block : (place n : ℕ) → place + n ≤ 4096 → blocks_of place n ≤ 1
one_block place n le = let f = first (place % 4096) n (omega (arith, le)) in omega (arith, f)
