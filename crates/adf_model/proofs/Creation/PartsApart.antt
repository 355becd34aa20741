-- What the extents of a file cover, and which ranges lie apart from extents.
use Rattle.std.proofs.Common.{◌≡◌, ◌≢◌, ◌⊎◌, inl, inr, ℕ, zero, suc, refl, ◌∙◌, ap, arith, List, [], ◌∷◌, ◌++◌, length, get_or, ◌+◌, ◌-◌, ◌<◌, ◌≤◌, Bool}
use Rattle.std.proofs.lemmas.Bool.Decides.{nat_tests}
use Rattle.std.specs.Prelude.{Option, None, slice_set}
use Rattle.std.specs.List.{flat_map}
use Rattle.adf_format.specs.declared.types.Extent.{Extent}
use Rattle.adf_format.specs.Tiles.{cover, end_of}
use Rattle.adf_format.specs.Placement.{Placement, head_extents, live_extents, all_extents}
use Rattle.adf_format.specs.Changes.{AllApart}
use Rattle.adf_format.proofs.BehindEnd.{AllLong}
use Rattle.adf_format.proofs.HeapLaws.{in_range}
use Rattle.adf_format.proofs.HeapSteps.{cover-append}

-- ---- ranges

pub range_in : (place n b : ℕ) → place ≤ b → b < place + n → in_range place n b ≡ 1
range_in place n b low high = grind (arith, nat_tests)

pub range_out : (place n b : ℕ) → (b < place) ⊎ (place + n ≤ b) → in_range place n b ≡ 0
range_out place n b (inl h) = grind (arith, nat_tests)
range_out place n b (inr h) = grind (arith, nat_tests)

-- a range within another
pub range_within : (place n inner m b : ℕ) → place ≤ inner → inner + m ≤ place + n → in_range inner m b ≤ in_range place n b
range_within place n inner m b low high = grind (arith, nat_tests)

-- ---- what a part of a list covers

pub cover_part : {A : Type 0} (f : Option A → List Extent) (xs : List (Option A)) (s b : ℕ) → s < length xs → cover (f (get_or xs s None)) b ≤ cover (flat_map f xs) b
cover_part f [] s b lt = absurd (omega (arith, lt))
cover_part f (x ∷ xs) zero b lt = let e = cover-append (f x) (flat_map f xs) b in omega (arith, e)
cover_part f (x ∷ xs) (suc s) b lt =
    let e = cover-append (f x) (flat_map f xs) b in
    let ih = cover_part f xs s b (omega (arith, lt)) in omega (arith, e, ih)

pub cover_two : {A : Type 0} (f : Option A → List Extent) (xs : List (Option A)) (s k b : ℕ) → s < length xs → k < length xs → k ≢ s → cover (f (get_or xs s None)) b + cover (f (get_or xs k None)) b ≤ cover (flat_map f xs) b
cover_two f [] s k b lt lk differ = absurd (omega (arith, lt))
cover_two f (x ∷ xs) zero zero b lt lk differ = absurd (differ refl)
cover_two f (x ∷ xs) zero (suc k) b lt lk differ =
    let e = cover-append (f x) (flat_map f xs) b in
    let ih = cover_part f xs k b (omega (arith, lk)) in omega (arith, e, ih)
cover_two f (x ∷ xs) (suc s) zero b lt lk differ =
    let e = cover-append (f x) (flat_map f xs) b in
    let ih = cover_part f xs s b (omega (arith, lt)) in omega (arith, e, ih)
cover_two f (x ∷ xs) (suc s) (suc k) b lt lk differ =
    let e = cover-append (f x) (flat_map f xs) b in
    let ih = cover_two f xs s k b (omega (arith, lt)) (omega (arith, lk)) (λ same. differ (ap suc same)) in omega (arith, e, ih)

pub cover_set : {A : Type 0} (f : Option A → List Extent) (xs : List (Option A)) (s b : ℕ) (y : Option A) → s < length xs
    → cover (flat_map f (slice_set xs s y)) b + cover (f (get_or xs s None)) b ≡ cover (flat_map f xs) b + cover (f y) b
cover_set f [] s b y lt = absurd (omega (arith, lt))
cover_set f (x ∷ xs) zero b y lt =
    let e = cover-append (f x) (flat_map f xs) b in
    let g = cover-append (f y) (flat_map f xs) b in omega (arith, e, g)
cover_set f (x ∷ xs) (suc s) b y lt =
    let e = cover-append (f x) (flat_map f xs) b in
    let g = cover-append (f x) (flat_map f (slice_set xs s y)) b in
    let ih = cover_set f xs s b y (omega (arith, lt)) in omega (arith, e, g, ih)

pub cover_last : {A : Type 0} (f : Option A → List Extent) (xs : List (Option A)) (b : ℕ) (y : Option A) → cover (flat_map f (xs ++ y ∷ [])) b ≡ cover (flat_map f xs) b + cover (f y) b
cover_last f [] b y = cover-append (f y) [] b ∙ omega arith
cover_last f (x ∷ xs) b y =
    let e = cover-append (f x) (flat_map f xs) b in
    let g = cover-append (f x) (flat_map f (xs ++ y ∷ [])) b in
    let ih = cover_last f xs b y in omega (arith, e, g, ih)

-- ---- a whole file

pub cover_all : (wide : Bool) (p : Placement) (b : ℕ) → cover (all_extents wide p) b ≡ cover head_extents b + cover (live_extents wide p) b + cover p.heap.gaps b
cover_all wide p b = cover-append (head_extents ++ live_extents wide p) p.heap.gaps b ∙ ap (λ k. k + cover p.heap.gaps b) (cover-append head_extents (live_extents wide p) b)

-- ---- extents that lie apart from ranges

pub all_apart : (ranges : List Extent) (end : ℕ) (xs : List Extent) → AllLong xs → ((b : ℕ) → 0 < cover xs b → (b ≤ end) × (cover ranges b ≡ 0)) → AllApart ranges end xs
all_apart ranges end [] long h = tt
all_apart ranges end (x ∷ xs) long h =
    ((λ b low high. (h b (held b low high)).1, last), all_apart ranges end xs long.1 (λ b some. h b (omega (arith, some))))
  where
    held : (b : ℕ) → x.place ≤ b → b < x.place + x.length → 0 < cover (x ∷ xs) b
    held b low high = let one : in_range x.place x.length b ≡ 1 = range_in x.place x.length b low high in omega (arith, one)

    last : end_of x ≤ end + 1
    last =
        let some : 0 < x.length = long.0 in
        let in_end : end_of x - 1 ≤ end = (h (end_of x - 1) (held (end_of x - 1) (omega (arith, some)) (omega (arith, some)))).0 in
        omega (arith, in_end)
