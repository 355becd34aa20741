use Rattle.std.proofs.Common.{◌≡◌, ◌≤◌, ◌<◌, ℕ, length, get_or}
use Rattle.adf_repack.specs.Families.{IsChain, children_from}
use Rattle.adf_repack.proofs.families.families_of.Given as goal

abbrev pub invariant-loop-number : goal.invariant-loop-number
invariant-loop-number l = record {
  within : l.number ≤ length l.nodes;
  low : 1 ≤ length l.nodes → 1 ≤ l.number;
  first : length l.first.items ≡ length l.nodes;
  next : length l.next.items ≡ length l.nodes;
  count : length l.count.items ≡ length l.nodes;
  lists : (k : ℕ) → k < length l.nodes → IsChain l.next.items (get_or l.first.items k 0) (children_from l.number l.nodes k);
  counts : (k : ℕ) → k < length l.nodes → get_or l.count.items k 0 ≡ length (children_from l.number l.nodes k);
}

abbrev pub decreases-loop-number : goal.decreases-loop-number
decreases-loop-number l = l.number
