use Rattle.std.proofs.Common.{◌≡◌, ℕ, ◌<◌, length, get_or}
use Rattle.adf_repack.specs.Places.{place_of, limited}
use Rattle.adf_repack.proofs.places.packed_places.Given as goal

abbrev pub invariant-loop-shape : goal.invariant-loop-shape
invariant-loop-shape l = record {
  place : l.place ≡ limited (place_of l.wide l.shapes l.shape-index);
  count : length l.headers.items ≡ l.shape-index;
  headers : (k : ℕ) → k < l.shape-index → get_or l.headers.items k 0 ≡ limited (place_of l.wide l.shapes k);
}
