-- Where bytes are taken, and which bytes the range and the gaps have afterwards.
use Rattle.std.proofs.Common.{◌≡◌, ℕ, ◌+◌, ◌-◌, ◌*◌, ◌≤◌, arith, List, [], ◌∷◌, refl, sym, ap, subst, Bool, true, false, cond}
use Rattle.std.proofs.lemmas.Bool.Decides.{nat_tests}
use Rattle.std.specs.Prelude.{Option, Some, None, Result, Ok, Err, find, nat_lt, nat_le, ◌&&◌}
use Rattle.std.specs.List.{AllByRecursion}
use Rattle.adf_format.specs.declared.types.Extent.{Extent}
use Rattle.adf_format.specs.Tiles.{cover, end_of, is_free}
use Rattle.adf_format.specs.Placement.{Heap}
use Rattle.adf_format.specs.HeapRule.{LimitReached, is_fit, cut, take_from, heap_take}
use Rattle.adf_format.proofs.HeapLaws.{in_range, cover-cut}
use Rattle.file_heap.specs.Heap.{IsHeap}

both_true : (a b : Bool) → (a && b) ≡ true → b ≡ true
both_true true b e = e
both_true false b e = cc

fit_tells : (n : ℕ) (g : Extent) → is_fit n g ≡ true → n ≤ g.length
fit_tells n g e = let t : nat_le n g.length ≡ true = both_true (is_free g) (nat_le n g.length) e in grind (arith, nat_tests)

found : (n : ℕ) (P : Extent → Type 0) (gaps : List Extent) (g : Extent) → find (is_fit n) gaps ≡ Some g → AllByRecursion P gaps → P g × (n ≤ g.length)
found n P [] g e all = cc
found n P (x ∷ xs) g e all = by_test (is_fit n x) refl e (λ f. found n P xs g f all.1)
  where
    same : (a b : Extent) → Some a ≡ Some b → a ≡ b
    same a b e = cc

    by_test : (t : Bool) → is_fit n x ≡ t → cond t (Some x) (find (is_fit n) xs) ≡ Some g → (find (is_fit n) xs ≡ Some g → P g × (n ≤ g.length)) → P g × (n ≤ g.length)
    by_test true t e ih = subst (λ (y : Extent). P y × (n ≤ y.length)) (same x g e) (all.0, fit_tells n x t)
    by_test false t e ih = ih e

empty_range : (p n b : ℕ) → n ≡ 0 → in_range p n b ≡ 0
empty_range p n b e = grind (arith, nat_tests)

same_ok : (a b : ℕ × Heap) → ◌≡◌ {A = Result (ℕ × Heap) LimitReached} (Ok a) (Ok b) → a ≡ b
same_ok a b e = cc

module _ (limit n : ℕ) (heap after : Heap) (place : ℕ) where
  pub taken_within : IsHeap heap → heap_take limit n heap ≡ Ok (place, after) → (266 ≤ place) × (place + n ≤ after.end + 1)
  taken_within h e = by_fit (find (is_fit n) heap.gaps) refl e
    where
      by_limit : (t : Bool) → cond {A = Result (ℕ × Heap) LimitReached} t (Err (record { asked = n; end = heap.end })) (Ok (heap.end + 1, record heap { end = heap.end + n })) ≡ Ok (place, after) → (266 ≤ place) × (place + n ≤ after.end + 1)
      by_limit true e = cc
      by_limit false e = let s = same_ok (heap.end + 1, record heap { end = heap.end + n }) (place, after) e in let p = ap (λ (x : ℕ × Heap). x.0) s in let q = ap (λ (x : ℕ × Heap). x.1.end) s in let l = h.low in (omega (arith, p, l), omega (arith, p, q))

      by_fit : (o : Option Extent) → find (is_fit n) heap.gaps ≡ o → take_from limit n heap o ≡ Ok (place, after) → (266 ≤ place) × (place + n ≤ after.end + 1)
      by_fit None f e = by_limit (nat_lt (limit * 4096) (heap.end + 1 + n)) e
      by_fit (Some g) f e =
          let s = same_ok (g.place, record heap { gaps = cut n heap.gaps }) (place, after) e in let p = ap (λ (x : ℕ × Heap). x.0) s in let q = ap (λ (x : ℕ × Heap). x.1.end) s in
          let w = found n (λ (g : Extent). (266 ≤ g.place) × (end_of g ≤ heap.end + 1)) heap.gaps g f h.within in let a = w.0.0 in let b = w.0.1 in let c = w.1 in (omega (arith, p, a), omega (arith, p, q, b, c))

  pub taken_covers : (b : ℕ) → heap_take limit n heap ≡ Ok (place, after) → in_range place n b + cover after.gaps b ≡ cover heap.gaps b + in_range (heap.end + 1) (after.end - heap.end) b
  taken_covers b e = by_fit (find (is_fit n) heap.gaps) refl e
    where
      at_end : (m : ℕ) → heap.end + n - heap.end ≡ n
      at_end m = omega arith

      by_limit : (t : Bool) → cond {A = Result (ℕ × Heap) LimitReached} t (Err (record { asked = n; end = heap.end })) (Ok (heap.end + 1, record heap { end = heap.end + n })) ≡ Ok (place, after) → in_range place n b + cover after.gaps b ≡ cover heap.gaps b + in_range (heap.end + 1) (after.end - heap.end) b
      by_limit true e = cc
      by_limit false e =
          subst (λ (x : ℕ × Heap). in_range x.0 n b + cover x.1.gaps b ≡ cover heap.gaps b + in_range (heap.end + 1) (x.1.end - heap.end) b) (same_ok (heap.end + 1, record heap { end = heap.end + n }) (place, after) e)
          (subst (λ k. in_range (heap.end + 1) n b + cover heap.gaps b ≡ cover heap.gaps b + in_range (heap.end + 1) k b) (sym (at_end n)) (omega arith))

      by_fit : (o : Option Extent) → find (is_fit n) heap.gaps ≡ o → take_from limit n heap o ≡ Ok (place, after) → in_range place n b + cover after.gaps b ≡ cover heap.gaps b + in_range (heap.end + 1) (after.end - heap.end) b
      by_fit None f e = by_limit (nat_lt (limit * 4096) (heap.end + 1 + n)) e
      by_fit (Some g) f e =
          subst (λ (x : ℕ × Heap). in_range x.0 n b + cover x.1.gaps b ≡ cover heap.gaps b + in_range (heap.end + 1) (x.1.end - heap.end) b) (same_ok (g.place, record heap { gaps = cut n heap.gaps }) (place, after) e)
          (let c = cover-cut n heap.gaps g b f in let z = empty_range (heap.end + 1) (heap.end - heap.end) b (omega arith) in omega (arith, c, z))
