-- The tiling: want of memory says nothing, gaps as they are added, and the pass over sorted extents.
use Rattle.std.proofs.Common.{◌≡◌, ℕ, ◌+◌, ◌-◌, ◌<◌, ◌≤◌, Bool, true, false, cond, List, [], ◌∷◌, ◌++◌, length, filter, drop, length-drop, zero, suc, refl, sym, ◌∙◌, ap, subst, arith, inr}
use Rattle.std.proofs.lemmas.Bool.Decides.{nat_tests}
use Rattle.std.proofs.lemmas.List.Recursion.{is_sum_by}
use Rattle.std.proofs.lemmas.List.Sorted.{sum_by-IsPermutation}
use Rattle.std.specs.List.{sum_by}
use Rattle.std.specs.List.Sorted.{IsPermutation, IsNonDecreasingBy}
use Rattle.std.specs.Prelude.{◌==◌, ◌&&◌, slice_index_or}
use Rattle.adf_format.specs.declared.types.Extent.{Extent}
use Rattle.adf_format.specs.declared.types.ExtentKind.{ExtentKind}
use Rattle.adf_format.specs.Tiles.{cover, holds_byte, is_free}
use Rattle.adf_format.specs.LaysOut.{HasSameRanges, count_of}
use Rattle.adf_format.specs.Placement.{extent}
use Rattle.layout_laws.specs.TilePass.{AllFrom, filled_up, passed_gaps}
use Rattle.layout_lint.specs.Fillers.{IsHole}
use Rattle.layout_lint.specs.Gaps.{StopsAt}
use Rattle.layout_lint.specs.Halts.{MayLackMemory, IsWant}
use Rattle.layout_lint.specs.declared.verdict.Halt.{Halt}
use Rattle.layout_lint.specs.declared.verdict.Halt.TheVariants as halt

pub want_hole : (image : List ℕ) (from to : ℕ) (h : Halt) → IsWant h → IsHole image from to h
want_hole image from to (halt.Broken b) w = absurd w
want_hole image from to halt.Memory w = tt
want_hole image from to halt.Read w = absurd w

pub want_stops : (image : List ℕ) (reach : ℕ) (e : Extent) (h : Halt) → IsWant h → StopsAt image reach e h
want_stops image reach e (halt.Broken b) w = absurd w
want_stops image reach e halt.Memory w = tt
want_stops image reach e halt.Read w = absurd w

pub want_cause : (a b : ℕ) (h : Halt) → IsWant h → MayLackMemory a b h
want_cause a b (halt.Broken x) w = absurd w
want_cause a b halt.Memory w = tt
want_cause a b halt.Read w = absurd w

pub hole_stops : (image : List ℕ) (reach : ℕ) (e : Extent) (h : Halt) → reach ≤ e.place → IsHole image reach e.place h → StopsAt image reach e h
hole_stops image reach e (halt.Broken b) le k = inr (le, k)
hole_stops image reach e halt.Memory le k = tt
hole_stops image reach e halt.Read le k = tt

-- a filler behind the gaps
pub filled_more : (gaps : List Extent) (from to : ℕ) → (from ≡ to → ⊥) → gaps ++ extent ExtentKind.Filler from (to - from) ∷ [] ≡ filled_up gaps from to
filled_more gaps from to differ = sym (ap (λ c. cond c gaps (gaps ++ extent ExtentKind.Filler from (to - from) ∷ [])) (not_same from to differ))
  where
    not_same : (m n : ℕ) → (m ≡ n → ⊥) → (m == n) ≡ false
    not_same m n h = grind (arith, nat_tests)

pub filled_none : (gaps : List Extent) (from to : ℕ) → from ≡ to → gaps ≡ filled_up gaps from to
filled_none gaps from to e = sym (ap (λ c. cond c gaps (gaps ++ extent ExtentKind.Filler from (to - from) ∷ [])) (same from to e))
  where
    same : (m n : ℕ) → m ≡ n → (m == n) ≡ true
    same m n h = grind (arith, nat_tests)

pub passed_then : (gaps filled after : List Extent) (reach : ℕ) (e : Extent) → is_free e ≡ true → filled ≡ filled_up gaps reach e.place → after ≡ filled ++ e ∷ [] → after ≡ passed_gaps gaps reach e
passed_then gaps filled after reach e free f a = a ∙ ap (λ xs. xs ++ e ∷ []) f ∙ sym (ap (λ t. cond t (filled_up gaps reach e.place ++ e ∷ []) (filled_up gaps reach e.place)) free)

pub passed_else : (gaps filled : List Extent) (reach : ℕ) (e : Extent) → is_free e ≡ false → filled ≡ filled_up gaps reach e.place → filled ≡ passed_gaps gaps reach e
passed_else gaps filled reach e solid f = f ∙ sym (ap (λ t. cond t (filled_up gaps reach e.place ++ e ∷ []) (filled_up gaps reach e.place)) solid)

-- ---- sums over extents in any order

pub cover_same : (xs ys : List Extent) (b : ℕ) → IsPermutation xs ys → cover xs b ≡ cover ys b
cover_same xs ys b p = sum xs ∙ sym (sum_by-IsPermutation (λ (e : Extent). cond (holds_byte e b) 1 0) xs ys p) ∙ sym (sum ys)
  where
    sum : (zs : List Extent) → cover zs b ≡ sum_by (λ (e : Extent). cond (holds_byte e b) 1 0) zs
    sum zs = is_sum_by (λ (zs : List Extent). cover zs b) (λ (e : Extent). cond (holds_byte e b) 1 0) refl (λ e es. refl) zs

abbrev free_one : ℕ → ℕ → Extent → ℕ
free_one place length e = cond (is_free e) (cond ((e.place == place) && (e.length == length)) 1 0) 0

pub frees_same : (xs ys : List Extent) → IsPermutation xs ys → HasSameRanges (filter is_free xs) (filter is_free ys)
frees_same xs ys p place length = sum xs ∙ sym (sum_by-IsPermutation (free_one place length) xs ys p) ∙ sym (sum ys)
  where
    step : (e : Extent) (es : List Extent) → count_of place length (filter is_free (e ∷ es)) ≡ free_one place length e + count_of place length (filter is_free es)
    step e es = by_test (is_free e) refl
      where
        plain : (n : ℕ) → n ≡ 0 + n
        plain n = omega arith

        by_test : (t : Bool) → is_free e ≡ t → count_of place length (filter is_free (e ∷ es)) ≡ free_one place length e + count_of place length (filter is_free es)
        by_test true k = rw k refl
        by_test false k = rw k (plain (count_of place length (filter is_free es)))

    sum : (zs : List Extent) → count_of place length (filter is_free zs) ≡ sum_by (free_one place length) zs
    sum zs = is_sum_by (λ (zs : List Extent). count_of place length (filter is_free zs)) (free_one place length) refl step zs

-- ---- the extents by place

-- all behind the k-th begin at it or later
pub sorted_from : (xs : List Extent) (k : ℕ) (d : Extent) → IsNonDecreasingBy (λ (e : Extent). e.place) xs → k < length xs → AllFrom (slice_index_or xs k d).place (drop k xs)
sorted_from xs k d sorted lt = from_drop (drop k xs) 0 (λ j inside. subst (λ (e : Extent). (slice_index_or xs k d).place ≤ e.place) (moved j) (sorted k (k + j) d (omega arith) (omega (arith, inside, length-drop k xs))))
  where
    moved : (j : ℕ) → slice_index_or xs (k + j) d ≡ slice_index_or (drop k xs) j d
    moved j = at_drop xs k j
      where
        at_drop : (ys : List Extent) (m j : ℕ) → slice_index_or ys (m + j) d ≡ slice_index_or (drop m ys) j d
        at_drop ys zero j = ap (λ i. slice_index_or ys i d) (front j)
          where
            front : (j : ℕ) → 0 + j ≡ j
            front j = omega arith
        at_drop [] (suc m) j = refl
        at_drop (y ∷ ys) (suc m) j = ap (λ i. slice_index_or (y ∷ ys) i d) (next m j) ∙ at_drop ys m j
          where
            next : (m j : ℕ) → suc m + j ≡ suc (m + j)
            next m j = omega arith

    from_drop : (ys : List Extent) (i : ℕ) → ((j : ℕ) → j < length ys → (slice_index_or xs k d).place ≤ (slice_index_or ys j d).place) → AllFrom (slice_index_or xs k d).place ys
    from_drop [] i h = tt
    from_drop (y ∷ ys) i h = (h 0 (omega arith), from_drop ys i (λ j inside. h (suc j) (omega (arith, inside))))
