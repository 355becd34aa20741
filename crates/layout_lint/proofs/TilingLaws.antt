-- One pass over the sorted extents of an image, where its bytes are told.
use Rattle.std.proofs.Common.{◌≡◌, ◌⊎◌, ℕ, zero, suc, ◌+◌, ◌<◌, ◌≤◌, List, [], ◌∷◌, ◌++◌, length, drop, take, refl, sym, ◌∙◌, ap, subst, arith, inl, inr}
use Rattle.std.proofs.lemmas.List.{take-append-drop, take_all}
use Rattle.std.proofs.lemmas.List.Elements.{All-get_or}
use Rattle.std.specs.List.{All}
use Rattle.std.specs.List.Sorted.{IsPermutation, IsNonDecreasingBy}
use Rattle.std.specs.Prelude.{Option, slice_index_or}
use Rattle.adf_format.specs.declared.types.Extent.{Extent}
use Rattle.adf_format.specs.Tiles.{cover, end_of}
use Rattle.adf_format.specs.FirstFault.{IsLeastMisplaced}
use Rattle.adf_format.proofs.HeapSteps.{cover-append}
use Rattle.layout_laws.specs.TilePass.{AllFrom, AreBlank, IsPassed, filled_up, passed_gaps}
use Rattle.layout_laws.proofs.TilePassLaws.{start, pass_on, clash, hole}
use Rattle.layout_lint.specs.Fillers.{IsHole}
use Rattle.layout_lint.specs.Gaps.{IsSolid, StopsAt, IsMisplaced, AreTiled}
use Rattle.cg_io.specs.Answers.{Told}
use Rattle.layout_lint.specs.declared.verdict.Halt.{Halt}
use Rattle.layout_lint.specs.declared.verdict.Halt.TheVariants as halt
use Rattle.layout_lint.proofs.GapLaws.{cover_same, frees_same, sorted_from}

split_at : (xs : List Extent) (k : ℕ) (d : Extent) → k < length xs → (take (k + 1) xs ≡ take k xs ++ slice_index_or xs k d ∷ []) × (drop k xs ≡ slice_index_or xs k d ∷ drop (k + 1) xs)
split_at [] k d lt = absurd (omega (arith, lt))
split_at (x ∷ xs) zero d lt = (refl, refl)
split_at (x ∷ xs) (suc k) d lt = let r = split_at xs k d (omega (arith, lt)) in (ap (λ n. take n (x ∷ xs)) (next k) ∙ ap (λ ys. x ∷ ys) r.0, r.1 ∙ ap (λ n. slice_index_or xs k d ∷ drop n (x ∷ xs)) (sym (next k)))
  where
    next : (k : ℕ) → suc k + 1 ≡ suc (k + 1)
    next k = omega arith

-- some extents were passed, and the others begin where the last of them does or later
pub record IsAt (image : List ℕ) (xs : List Extent) (k reach : ℕ) (gaps : List Extent) : Type 0 where
  pub low : ℕ
  pub from : AllFrom low (drop k xs)
  pub passed : IsPassed image (take k xs) low reach gaps

pub at_start : (image : List ℕ) (xs : List Extent) → IsAt image xs 0 0 []
at_start image xs = record { low = 0; from = all xs; passed = start image }
  where
    all : (ys : List Extent) → AllFrom 0 ys
    all [] = tt
    all (y ∷ ys) = (omega arith, all ys)

module _ (held : Option (List ℕ)) (end : ℕ) (xs : List Extent) (sorted : IsNonDecreasingBy (λ (e : Extent). e.place) xs) (k reach : ℕ) (gaps : List Extent) (at : Told held (λ image. end < length image → IsAt image xs k reach gaps)) where
  module _ (d : Extent) (inside : k < length xs) (solid : IsSolid end (slice_index_or xs k d)) where
    abbrev e : Extent
    e = slice_index_or xs k d

    behind : AllFrom e.place (e ∷ drop (k + 1) xs)
    behind = subst (AllFrom e.place) (split_at xs k d inside).1 (sorted_from xs k d sorted inside)

    pub at_next : (after : List Extent) → reach ≤ e.place → Told held (λ image. e.place ≤ length image → AreBlank image reach e.place) → after ≡ passed_gaps gaps reach e
        → Told held (λ image. end < length image → IsAt image xs (k + 1) (e.place + e.length) after)
    at_next after le blank is = λ image told within.
        let a = at image told within in
        let near = solid.inside in
        let some = solid.some in
        record {
          low = e.place;
          from = behind.1;
          passed = subst (λ gs. IsPassed image (take (k + 1) xs) e.place (end_of e) gs) (sym is) (subst (λ ys. IsPassed image ys e.place (end_of e) (passed_gaps gaps reach e)) (sym (split_at xs k d inside).0)
              (pass_on image (take k xs) a.low reach gaps e a.passed le (blank image told (omega (arith, near, some, within))) solid.part solid.some solid.long));
        }

    all_of : (extents : List Extent) (b : ℕ) → IsPermutation extents xs → cover extents b ≡ cover (take k xs) b + cover (drop k xs) b
    all_of extents b same = cover_same extents xs b same ∙ ap (λ ys. cover ys b) (sym (take-append-drop k xs)) ∙ cover-append (take k xs) (drop k xs) b

    pub at_stop : (extents : List Extent) (h : Halt) → IsPermutation extents xs → Told held (λ image. e.place ≤ length image → StopsAt image reach e h) → Told held (λ image. end < length image → IsMisplaced image extents end h)
    at_stop extents (halt.Broken b) same stops = λ image told within.
        (let a = at image told within in
        let near = solid.inside in
        let some = solid.some in
        by_case image within a (stops image told (omega (arith, near, some, within))))
      where
        by_case : (image : List ℕ) → end < length image → IsAt image xs k reach gaps → ((b.rule ≡ 30) × (b.place ≡ e.place) × (e.place < reach)) ⊎ ((reach ≤ e.place) × IsHole image reach e.place (halt.Broken b)) → (b.rule ≡ 30) × IsLeastMisplaced image extents end b.place
        by_case image within a (inl r) = (
          r.0,
          subst (IsLeastMisplaced image extents end) (sym r.1)
              (clash image extents (take k xs) (drop k xs) a.low reach gaps end a.passed (λ b. all_of extents b same) e (drop (k + 1) xs) (split_at xs k d inside).1 (sorted_from xs k d sorted inside)
              (subst (AllFrom a.low) (split_at xs k d inside).1 a.from).0 r.2 solid.some (let near = solid.inside in let some = solid.some in omega (arith, near, some))),
        )
        by_case image within a (inr r) = (
          r.1.0,
          hole image extents (take k xs) (drop k xs) a.low reach gaps end a.passed (λ b. all_of extents b same) e.place b.place (sorted_from xs k d sorted inside) r.1.1 r.1.2 r.1.3 r.1.4
              (let before = r.1.2 in let near = solid.inside in let some = solid.some in omega (arith, before, near, some)),
        )
    at_stop extents halt.Memory same stops = λ image told within. tt
    at_stop extents halt.Read same stops = λ image told within. tt

  -- behind the last extent
  module _ (extents : List Extent) (same : IsPermutation extents xs) (last : length xs ≤ k) (near : reach ≤ end + 1) where
    whole : take k xs ≡ xs
    whole = take_all k xs last

    none : drop k xs ≡ []
    none = drop_all xs k last
      where
        drop_all : (ys : List Extent) (n : ℕ) → length ys ≤ n → drop n ys ≡ []
        drop_all [] zero h = refl
        drop_all [] (suc n) h = refl
        drop_all (y ∷ ys) zero h = absurd (omega (arith, h))
        drop_all (y ∷ ys) (suc n) h = drop_all ys n (omega (arith, h))

    pub at_end : (after : List Extent) → Told held (λ image. end + 1 ≤ length image → AreBlank image reach (end + 1)) → after ≡ filled_up gaps reach (end + 1) → Told held (λ image. end < length image → AreTiled image extents end after)
    at_end after blank is = λ image told within.
        let a = at image told within in
        record {
          done = xs;
          low = a.low;
          reach = reach;
          before = gaps;
          passed = subst (λ ys. IsPassed image ys a.low reach gaps) whole a.passed;
          near = near;
          blank = blank image told (omega (arith, within));
          gaps_are = is;
          same = λ b. cover_same extents xs b same;
          frees = frees_same extents xs same;
        }

    pub at_hole : (h : Halt) → Told held (λ image. end + 1 ≤ length image → IsHole image reach (end + 1) h) → Told held (λ image. end < length image → IsMisplaced image extents end h)
    at_hole (halt.Broken b) stops = λ image told within.
        (let a = at image told within in
        let r = stops image told (omega (arith, within)) in (
          r.0,
          hole image extents (take k xs) (drop k xs) a.low reach gaps end a.passed (λ c. cover_same extents xs c same ∙ ap (λ ys. cover ys c) (sym (take-append-drop k xs)) ∙ cover-append (take k xs) (drop k xs) c) (end + 1) b.place
              (subst (AllFrom (end + 1)) (sym none) tt) r.1 r.2 r.3 r.4 (let before = r.2 in omega (arith, before)),
        ))
    at_hole halt.Memory stops = λ image told within. tt
    at_hole halt.Read stops = λ image told within. tt

-- ---- the extent at a position

module _ (held : Option (List ℕ)) (end : ℕ) (xs : List Extent) (sorted : IsNonDecreasingBy (λ (e : Extent). e.place) xs) (solids : All (IsSolid end) xs) (k reach : ℕ) (gaps : List Extent) (at : Told held (λ image. end < length image → IsAt image xs k reach gaps)) (inside : k < length xs) (d x : Extent) (is_x : slice_index_or xs k d ≡ x) where
  pub solid_here : IsSolid end x
  solid_here = subst (IsSolid end) is_x (All-get_or (IsSolid end) xs k d inside solids)

  pub next_here : (n : ℕ) (after : List Extent) → n ≡ x.place + x.length → reach ≤ x.place → Told held (λ image. x.place ≤ length image → AreBlank image reach x.place) → after ≡ passed_gaps gaps reach x → Told held (λ image. end < length image → IsAt image xs (k + 1) n after)
  next_here n after ends = subst (λ (y : Extent). reach ≤ y.place → Told held (λ image. y.place ≤ length image → AreBlank image reach y.place) → after ≡ passed_gaps gaps reach y → Told held (λ image. end < length image → IsAt image xs (k + 1) n after)) is_x
      (λ le blank is. subst (λ m. Told held (λ image. end < length image → IsAt image xs (k + 1) m after)) (sym (ends ∙ ap (λ (y : Extent). y.place + y.length) (sym is_x)))
      (at_next held end xs sorted k reach gaps at d inside (All-get_or (IsSolid end) xs k d inside solids) after le blank is))

  pub stop_here : (extents : List Extent) (h : Halt) → IsPermutation extents xs → Told held (λ image. x.place ≤ length image → StopsAt image reach x h) → Told held (λ image. end < length image → IsMisplaced image extents end h)
  stop_here extents h same = subst (λ (y : Extent). Told held (λ image. y.place ≤ length image → StopsAt image reach y h) → Told held (λ image. end < length image → IsMisplaced image extents end h)) is_x
      (at_stop held end xs sorted k reach gaps at d inside (All-get_or (IsSolid end) xs k d inside solids) extents h same)
