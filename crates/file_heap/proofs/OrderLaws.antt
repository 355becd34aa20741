-- The gaps after a cut, a gift and a growth are gaps of a heap.
use Rattle.std.proofs.Common.{◌≡◌, ℕ, refl, ◌∙◌, arith, List, [], ◌∷◌, ◌+◌, ◌<◌, ◌≤◌, ◌^◌}
use Rattle.std.proofs.lemmas.Bool.Decides.{nat_tests}
use Rattle.std.specs.Prelude.{Some, find}
use Rattle.std.specs.List.{AllByRecursion}
use Rattle.adf_format.specs.declared.types.Extent.{Extent}
use Rattle.adf_format.specs.Tiles.{cover, end_of, MeetsNone}
use Rattle.adf_format.specs.Placement.{Heap}
use Rattle.adf_format.specs.LaysOut.{AreGapsInOrder}
use Rattle.adf_format.specs.HeapRule.{heap_give, give_joined, cut, is_fit}
use Rattle.adf_format.proofs.HeapLaws.{in_range, cover-cut, cover-give_joined}
use Rattle.adf_format.proofs.GapLaws.{cut_in_order}
use Rattle.adf_format.proofs.HeapSteps.{give_keeps_order}
use Rattle.file_heap.specs.Heap.{IsHeap}
use Rattle.file_heap.proofs.HeapFacts.{all_within, heap_gaps, gaps_apart}

-- ---- heaps

before_range : (p n b : ℕ) → b < p → in_range p n b ≡ 0
before_range p n b lt = grind (arith, nat_tests)

behind_range : (p n b : ℕ) → p + n ≤ b → in_range p n b ≡ 0
behind_range p n b le = grind (arith, nat_tests)

no_low : (heap : Heap) → IsHeap heap → (b : ℕ) → b < 266 → cover heap.gaps b ≡ 0
no_low heap h b lt = (gaps_apart heap.gaps (heap_gaps heap h)).low b lt

no_high : (heap : Heap) → IsHeap heap → (b : ℕ) → heap.end + 1 ≤ b → cover heap.gaps b ≡ 0
no_high heap h b le = go heap.gaps h.within
  where
    go : (gs : List Extent) → AllByRecursion (λ (g : Extent). (266 ≤ g.place) × (end_of g ≤ heap.end + 1)) gs → cover gs b ≡ 0
    go [] w = refl
    go (g ∷ gs) w = let last : end_of g ≤ heap.end + 1 = w.0.1 in let z = behind_range g.place g.length b (omega (arith, le, last)) in let rest = go gs w.1 in omega (arith, z, rest)

pub given_is_heap : (place n : ℕ) (heap : Heap) → 1 ≤ n → MeetsNone place n heap.gaps → 266 ≤ place → place + n ≤ heap.end + 1 → IsHeap heap → IsHeap (heap_give place n heap)
given_is_heap place n heap some none low high h = record {
  order = order;
  within = all_within (heap.end + 1) (give_joined place n heap.gaps) order
      (λ b lt. cover-give_joined place n heap.gaps b ∙ (let r = before_range place n b (omega (arith, lt, low)) in let c = no_low heap h b lt in omega (arith, r, c)))
      (λ b le. cover-give_joined place n heap.gaps b ∙ (let r = behind_range place n b (omega (arith, le, high)) in let c = no_high heap h b le in omega (arith, r, c)));
  low = h.low;
  high = h.high;
}
  where
    order : AreGapsInOrder (give_joined place n heap.gaps)
    order = (give_keeps_order place n heap some h.order none).0

pub cut_is_heap : (n : ℕ) (heap : Heap) (g : Extent) → 1 ≤ n → find (is_fit n) heap.gaps ≡ Some g → IsHeap heap → IsHeap (record { gaps = cut n heap.gaps; end = heap.end })
cut_is_heap n heap g some found h = record {
  order = order;
  within = all_within (heap.end + 1) (cut n heap.gaps) order
      (λ b lt. let s = cover-cut n heap.gaps g b found in let c = no_low heap h b lt in omega (arith, s, c))
      (λ b le. let s = cover-cut n heap.gaps g b found in let c = no_high heap h b le in omega (arith, s, c));
  low = h.low;
  high = h.high;
}
  where
    order : AreGapsInOrder (cut n heap.gaps)
    order = (cut_in_order n heap.gaps some h.order).0

pub grown_is_heap : (n : ℕ) (heap : Heap) → heap.end + n < 2 ^ 44 → IsHeap heap → IsHeap (record { gaps = heap.gaps; end = heap.end + n })
grown_is_heap n heap near h = record { order = h.order; within = go heap.gaps h.within; low = (let l = h.low in omega (arith, l)); high = near }
  where
    go : (gs : List Extent) → AllByRecursion (λ (g : Extent). (266 ≤ g.place) × (end_of g ≤ heap.end + 1)) gs → AllByRecursion (λ (g : Extent). (266 ≤ g.place) × (end_of g ≤ heap.end + n + 1)) gs
    go [] w = tt
    go (g ∷ gs) w = ((w.0.0, let le : end_of g ≤ heap.end + 1 = w.0.1 in omega (arith, le)), go gs w.1)
