-- How many blocks are read, changed and written, piece by piece.
use Rattle.std.proofs.Common.{◌≡◌, ◌*◌, List, ℕ, ◌+◌, ◌≤◌, ◌∙◌, arith}
use Rattle.adf_model.specs.Counts.{raised_by}
use Rattle.cg_io.specs.Cause.{raised}
use Rattle.cg_io.specs.Blocks.{blocks_of}
use Rattle.cg_io.proofs.PieceLaws.{blocks_of-le}
use Rattle.block_draft.specs.Changes.{ChangesOnly, ChangesWithin}

-- one more block is changed
pub within_step : (p d c n start : ℕ) (a b z : List (ℕ × List ℕ)) → ChangesWithin p d a b → ChangesOnly n b z → n * 4096 + start ≡ p + d → 1 ≤ c → start + c ≤ 4096 → blocks_of p d + 1 ≤ blocks_of p (d + c) → ChangesWithin p (d + c) a z
within_step p d c n start a b z first then place some fits more = record {
  outside = λ m out. then.others m (λ same. out (omega arith, omega arith, omega arith)) ∙ first.outside m (λ is. out (omega (arith, is.0), omega (arith, is.1), is.2));
  few = let one = first.few in let two = then.few in omega arith;
}

pub within_more : (p d len : ℕ) (a b : List (ℕ × List ℕ)) → d ≤ len → ChangesWithin p d a b → ChangesWithin p len a b
within_more p d len a b le is = record {
  outside = λ m out. is.outside m (λ part. out (omega (arith, part.0), omega (arith, part.1), part.2));
  few = let one = is.few in let more = blocks_of-le p d len le in omega arith;
}

-- one more block is written
pub raised-step : (n count : ℕ) → raised_by n (raised count) ≡ raised_by (n + 1) count
raised-step n count = omega arith
