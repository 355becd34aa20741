-- The gifts of a deletion go by serial, and a sorted walk is the subtree.
use Rattle.std.proofs.Common.{◌≡◌, ◌≢◌, inl, inr, ℕ, zero, suc, refl, sym, ◌∙◌, ap, subst, arith, List, [], ◌∷◌, ◌++◌, length, map, get_or, ◌+◌, ◌<◌, ◌≤◌, Bool, true, false, not, cond}
use Rattle.std.proofs.lemmas.Bool.Decides.{eqb_tells}
use Rattle.std.proofs.lemmas.List.Sorted.{sum_by-IsPermutation}
use Rattle.std.specs.Prelude.{Option, Some, None, is_some, ◌==◌, ◌||◌, if◌then◌else◌, ⊤}
use Rattle.std.specs.List.{flat_map}
use Rattle.std.specs.List.Sorted.{IsNonDecreasing}
use Rattle.adf_format.specs.declared.types.Extent.{Extent}
use Rattle.adf_format.specs.Tree.{Node, IsAmong, is_among, is_within, live_from, subtree, descend, erased_from}
use Rattle.adf_format.specs.Placement.{NodeParts, parts_of, extents_of}
use Rattle.adf_model.proofs.Basics.{not_true, false_of, among_head}
use Rattle.adf_model.proofs.Trees.TreeOrder.{times, times-count_by}
use Rattle.tree_laws.specs.SerialOrder.{GivenBySerial, SortedWalkIsSubtree}
use Rattle.tree_laws.proofs.Holding.GiftsFolded.{erased_left}
use Rattle.tree_laws.proofs.Deletes.SubtreeWalked.{walks_list_subtrees, within_lives}
use Rattle.adf_model.proofs.Keeping.MoveKeeps.{among_live}

-- ---- gifts

same_head : (x : Bool) (y : Bool) (xs ys : List Bool) → x ∷ xs ≡ y ∷ ys → (x ≡ y) × (xs ≡ ys)
same_head x y xs ys e = (ap (λ (bs : List Bool). get_or bs 0 false) e, ap tail e)
  where
    tail : List Bool → List Bool
    tail [] = []
    tail (b ∷ bs) = bs

given_from : (w : Bool) (k : ℕ) (test : ℕ → Bool) (f : ℕ → List Extent) (xs : List (Option NodeParts)) (nodes : List (Option Node)) → map is_some xs ≡ map is_some nodes
    → ((i j : ℕ) → j ≡ k + i → f j ≡ extents_of w (get_or xs i None)) → flat_map (extents_of w) (erased_from k (λ j. not (test j)) xs) ≡ flat_map f (live_from k test nodes)
given_from w k test f [] [] same at = refl
given_from w k test f [] (n ∷ nodes) same at = cc
given_from w k test f (x ∷ xs) [] same at = cc
given_from w k test f (None ∷ xs) (None ∷ nodes) same at = none (not (test k)) ∙ given_from w (suc k) test f xs nodes (same_head false false (map is_some xs) (map is_some nodes) same).1 (λ i j e. at (suc i) j (omega (arith, e)))
  where
    none : (b : Bool) → flat_map (extents_of w) ((if b then None else None) ∷ erased_from (suc k) (λ j. not (test j)) xs) ≡ flat_map (extents_of w) (erased_from (suc k) (λ j. not (test j)) xs)
    none true = refl
    none false = refl
given_from w k test f (None ∷ xs) (Some n ∷ nodes) same at = absurd (not_true (same_head false true (map is_some xs) (map is_some nodes) same).0)
given_from w k test f (Some ms ∷ xs) (None ∷ nodes) same at = absurd (not_true (sym (same_head true false (map is_some xs) (map is_some nodes) same).0))
given_from w k test f (Some ms ∷ xs) (Some n ∷ nodes) same at =
    by_test (test k) (given_from w (suc k) test f xs nodes (same_head true true (map is_some xs) (map is_some nodes) same).1 (λ i j e. at (suc i) j (omega (arith, e))))
  where
    by_test : (b : Bool) → flat_map (extents_of w) (erased_from (suc k) (λ j. not (test j)) xs) ≡ flat_map f (live_from (suc k) test nodes)
        → flat_map (extents_of w) ((if not b then None else Some ms) ∷ erased_from (suc k) (λ j. not (test j)) xs) ≡ flat_map f (if b then k ∷ live_from (suc k) test nodes else live_from (suc k) test nodes)
    by_test true ih = ap (λ ys. extents_of w (Some ms) ++ ys) ih ∙ ap (λ ys. ys ++ flat_map f (live_from (suc k) test nodes)) (sym (at 0 k (omega arith)))
    by_test false ih = ih

pub given_by_serial : GivenBySerial
given_by_serial tree after p node is same e =
    sym (erased_left tree after p node is same e)
    ∙ given_from tree.wide 0 (is_within tree node.serial) (λ serial. extents_of tree.wide (parts_of p serial)) p.parts tree.nodes same (λ i j q. ap (λ k. extents_of tree.wide (parts_of p k)) (q ∙ zero_plus i))
  where
    zero_plus : (i : ℕ) → 0 + i ≡ i
    zero_plus i = omega arith

-- ---- rising lists

abbrev Rises : ℕ → List ℕ → Type 0
Rises low [] = ⊤
Rises low (x ∷ xs) = (low ≤ x) × Rises (suc x) xs

rises_less : (k : ℕ) (xs : List ℕ) → Rises (suc k) xs → Rises k xs
rises_less k [] r = tt
rises_less k (x ∷ xs) r = (let l : suc k ≤ x = r.0 in omega (arith, l), r.1)

rises_from : (low q : ℕ) (xs : List ℕ) → Rises low xs → IsAmong xs q → low ≤ q
rises_from low q [] r h = absurd (not_true h)
rises_from low q (x ∷ xs) r h = elim (eqb_tells x q) [
  | inl t ↦ subst (λ k. low ≤ k) t.1 r.0
  | inr t ↦ (let l : low ≤ x = r.0 in let m : suc x ≤ q = rises_from (suc x) q xs r.1 (later (x == q) (is_among xs q) t.0 h) in omega (arith, l, m))
]
  where
    later : (a b : Bool) → a ≡ false → (a || b) ≡ true → b ≡ true
    later true b p q = cc
    later false b p q = q

live_rises : (k : ℕ) (test : ℕ → Bool) (nodes : List (Option Node)) → Rises k (live_from k test nodes)
live_rises k test [] = tt
live_rises k test (None ∷ nodes) = rises_less k (live_from (suc k) test nodes) (live_rises (suc k) test nodes)
live_rises k test (Some n ∷ nodes) = by_test (test k) (live_rises (suc k) test nodes)
  where
    by_test : (b : Bool) → Rises (suc k) (live_from (suc k) test nodes) → Rises k (if b then k ∷ live_from (suc k) test nodes else live_from (suc k) test nodes)
    by_test true r = (omega arith, r)
    by_test false r = rises_less k (live_from (suc k) test nodes) r

-- rising lists of the same numbers are equal
rises_same : (low other : ℕ) (xs ys : List ℕ) → Rises low xs → Rises other ys → ((q : ℕ) → is_among xs q ≡ is_among ys q) → xs ≡ ys
rises_same low other [] [] r t same = refl
rises_same low other [] (y ∷ ys) r t same = absurd (not_true (same y ∙ among_head y ys))
rises_same low other (x ∷ xs) [] r t same = absurd (not_true (sym (same x) ∙ among_head x xs))
rises_same low other (x ∷ xs) (y ∷ ys) r t same = ap (λ z. z ∷ xs) equal ∙ ap (λ zs. y ∷ zs) (rises_same (suc x) (suc y) xs ys r.1 t.1 tails)
  where
    later : (a b : Bool) → a ≡ false → (a || b) ≡ true → b ≡ true
    later true b p q = cc
    later false b p q = q

    equal : x ≡ y
    equal = elim (eqb_tells x y) [
      | inl e ↦ e.1
      | inr d ↦ elim (eqb_tells y x) [
        | inl e ↦ sym e.1
        | inr f ↦ absurd (
            let up : suc y ≤ x = rises_from (suc y) x ys t.1 (later (y == x) (is_among ys x) f.0 (sym (same x) ∙ among_head x xs)) in
            let down : suc x ≤ y = rises_from (suc x) y xs r.1 (later (x == y) (is_among xs y) d.0 (same y ∙ among_head y ys)) in
            omega (arith, up, down))
      ]
    ]

    none_at : (z : ℕ) (zs : List ℕ) → Rises (suc z) zs → is_among zs z ≡ false
    none_at z zs u = false_of (is_among zs z) (λ h. let m : suc z ≤ z = rises_from (suc z) z zs u h in absurd (omega (arith, m)))

    skip : (a c b d : Bool) → a ≡ false → c ≡ false → (a || b) ≡ (c || d) → b ≡ d
    skip true c b d p q e = cc
    skip false true b d p q e = cc
    skip false false b d p q e = e

    tails : (q : ℕ) → is_among xs q ≡ is_among ys q
    tails q = elim (eqb_tells x q) [
      | inl e ↦ ap (is_among xs) (sym e.1) ∙ none_at x xs r.1 ∙ sym (ap (is_among ys) (sym e.1 ∙ equal) ∙ none_at y ys t.1)
      | inr d ↦ skip (x == q) (y == q) (is_among xs q) (is_among ys q) d.0 (ap (λ z. z == q) (sym equal) ∙ d.0) (same q)
    ]

-- ---- a sorted list without numbers that stand twice rises

some_times : (q : ℕ) (xs : List ℕ) → IsAmong xs q → 0 < times q xs
some_times q [] h = absurd (not_true h)
some_times q (x ∷ xs) h = by_head (x == q) h (some_times q xs)
  where
    by_head : (b : Bool) → (b || is_among xs q) ≡ true → (IsAmong xs q → 0 < times q xs) → 0 < cond b 1 0 + times q xs
    by_head true h ih = omega arith
    by_head false h ih = let m = ih h in omega (arith, m)

among_times : (q : ℕ) (xs : List ℕ) → 0 < times q xs → IsAmong xs q
among_times q [] some = absurd (omega (arith, some))
among_times q (x ∷ xs) some = by_head (x == q) some (among_times q xs)
  where
    by_head : (b : Bool) → 0 < cond b 1 0 + times q xs → (0 < times q xs → IsAmong xs q) → (b || is_among xs q) ≡ true
    by_head true some ih = refl
    by_head false some ih = ih (omega (arith, some))

among_at : (xs : List ℕ) (q : ℕ) → IsAmong xs q → (j : ℕ) × (j < length xs) × (get_or xs j 0 ≡ q)
among_at [] q h = absurd (not_true h)
among_at (x ∷ xs) q h = elim (eqb_tells x q) [
  | inl t ↦ (0, omega arith, t.1)
  | inr t ↦ (let r = among_at xs q (later (x == q) (is_among xs q) t.0 h) in let lt = r.1 in (suc r.0, omega (arith, lt), r.2))
]
  where
    later : (a b : Bool) → a ≡ false → (a || b) ≡ true → b ≡ true
    later true b p q = cc
    later false b p q = q

sorted_rises : (low : ℕ) (xs : List ℕ) → IsNonDecreasing xs → ((q : ℕ) → times q xs ≤ 1) → ((q : ℕ) → IsAmong xs q → low ≤ q) → Rises low xs
sorted_rises low [] up once from = tt
sorted_rises low (x ∷ xs) up once from = (
  from x (among_head x xs),
  sorted_rises (suc x) xs (λ i j d le lt. up (suc i) (suc j) d (omega (arith, le)) (omega (arith, lt))) (λ q. few q (once q)) above,
)
  where
    few : (q : ℕ) → cond (x == q) 1 0 + times q xs ≤ 1 → times q xs ≤ 1
    few q le = omega (arith, le)

    twice : (b : Bool) (n : ℕ) → b ≡ true → 0 < n → cond b 1 0 + n ≤ 1 → ⊥
    twice true n e some le = omega (arith, some, le)
    twice false n e some le = cc

    above : (q : ℕ) → IsAmong xs q → suc x ≤ q
    above q h =
        let place = among_at xs q h in
        let lt = place.1 in
        let le : x ≤ get_or xs place.0 0 = up 0 (suc place.0) 0 (omega arith) (omega (arith, lt)) in
        let same : get_or xs place.0 0 ≡ q = place.2 in
        elim (eqb_tells x q) [
          | inl t ↦ absurd (twice (x == q) (times q xs) t.0 (some_times q xs h) (once q))
          | inr t ↦ strict x q (omega (arith, le, same)) t.1
        ]
      where
        strict : (a b : ℕ) → a ≤ b → a ≢ b → suc a ≤ b
        strict zero zero le ne = absurd (ne refl)
        strict zero (suc b) le ne = omega arith
        strict (suc a) zero le ne = absurd (omega (arith, le))
        strict (suc a) (suc b) le ne = let m = strict a b (omega (arith, le)) (λ e. ne (ap suc e)) in omega (arith, m)

-- ---- a walk

passed_test : (k : ℕ) (test : ℕ → Bool) (nodes : List (Option Node)) (q : ℕ) → IsAmong (live_from k test nodes) q → test q ≡ true
passed_test k test [] q h = absurd (not_true h)
passed_test k test (None ∷ nodes) q h = passed_test (suc k) test nodes q h
passed_test k test (Some n ∷ nodes) q h = by_test (test k) refl h (passed_test (suc k) test nodes q)
  where
    by_test : (b : Bool) → test k ≡ b → IsAmong (if b then k ∷ live_from (suc k) test nodes else live_from (suc k) test nodes) q → (IsAmong (live_from (suc k) test nodes) q → test q ≡ true) → test q ≡ true
    by_test false e h ih = ih h
    by_test true e h ih = elim (eqb_tells k q) [ inl t ↦ ap test (sym t.1) ∙ e | inr t ↦ ih (later (k == q) (is_among (live_from (suc k) test nodes) q) t.0 h) ]
      where
        later : (a b : Bool) → a ≡ false → (a || b) ≡ true → b ≡ true
        later true b p q = cc
        later false b p q = q

pub sorted_walk_is_subtree : SortedWalkIsSubtree
sorted_walk_is_subtree tree top xs is live perm up =
    rises_same 0 0 xs (subtree tree top) (sorted_rises 0 xs up (λ q. at_most_one (is_within tree top q) (times q xs) (counted q)) (λ q h. omega arith)) (live_rises 0 (is_within tree top) tree.nodes)
    (λ q. in_walk q (is_within tree top q) refl ∙ sym (in_subtree q (is_within tree top q) refl))
  where
    counted : (q : ℕ) → times q xs ≡ (if is_within tree top q then 1 else 0)
    counted q = times-count_by q xs ∙ sum_by-IsPermutation (λ s. cond (s == q) 1 0) (descend 256 tree top) xs perm ∙ walks_list_subtrees tree top is live q

    at_most_one : (b : Bool) (n : ℕ) → n ≡ (if b then 1 else 0) → n ≤ 1
    at_most_one true n e = omega (arith, e)
    at_most_one false n e = omega (arith, e)

    in_walk : (q : ℕ) (b : Bool) → is_within tree top q ≡ b → is_among xs q ≡ b
    in_walk q true e = among_times q xs (let c = counted q ∙ ap (λ (b : Bool). if b then 1 else 0) e in let one : times q xs ≡ 1 = c in omega (arith, one))
    in_walk q false e = false_of (is_among xs q) (λ h. let some = some_times q xs h in let none : times q xs ≡ 0 = counted q ∙ ap (λ (b : Bool). if b then 1 else 0) e in absurd (omega (arith, some, none)))

    zero_plus : (i : ℕ) → 0 + i ≡ i
    zero_plus i = omega arith

    in_subtree : (q : ℕ) (b : Bool) → is_within tree top q ≡ b → is_among (subtree tree top) q ≡ b
    in_subtree q true e = subst (λ j. IsAmong (subtree tree top) j) (zero_plus q) (among_live 0 (is_within tree top) tree.nodes q (within_lives tree is top q live e) (ap (is_within tree top) (zero_plus q) ∙ e))
    in_subtree q false e = false_of (is_among (subtree tree top) q) (λ h. not_true (sym e ∙ passed_test 0 (is_within tree top) tree.nodes q h))
