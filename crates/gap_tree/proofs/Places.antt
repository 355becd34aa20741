-- A place in the gaps of a fork: on its left, in its middle, or on its right.
use Rattle.std.proofs.Common.{◌≡◌, ℕ, zero, suc, ◌+◌, ◌-◌, ◌<◌, ◌≤◌, List, [], ◌∷◌, ◌++◌, length, refl, ap, ◌∙◌, arith, length-append, Bool, true, false, cond}
use Rattle.std.specs.Prelude.{Some, slice_get, slice_set, insert, remove, nat_lt}
use Rattle.std.specs.List.{AllByRecursion}
use Rattle.std.proofs.lemmas.Bool.Decides.{nat_tests}
use Rattle.gap_tree.specs.declared.slot.Slot.{Slot}
use Rattle.gap_tree.specs.Slots.{IsByPlace, count_before}

pub fork_length : (l : List Slot) (g : Slot) (r : List Slot) → length (l ++ g ∷ r) ≡ length l + length r + 1
fork_length l g r = let e = length-append l (g ∷ r) in omega (arith, e)

-- ---- a gap

pub get_left : (l : List Slot) (g : Slot) (r : List Slot) (i : ℕ) → i < length l → slice_get (l ++ g ∷ r) i ≡ slice_get l i
get_left [] g r i lt = absurd (omega (arith, lt))
get_left (x ∷ xs) g r zero lt = refl
get_left (x ∷ xs) g r (suc i) lt = get_left xs g r i (omega (arith, lt))

behind : (n k : ℕ) → suc n + k - suc n ≡ k
behind n k = omega arith

get_behind : (l : List Slot) (g : Slot) (r : List Slot) (k : ℕ) → slice_get (l ++ g ∷ r) (length l + k) ≡ slice_get (g ∷ r) k
get_behind [] g r k = let e : 0 + k ≡ k = omega arith in ap (slice_get (g ∷ r)) e
get_behind (x ∷ xs) g r k = let e : suc (length xs) + k ≡ suc (length xs + k) = omega arith in ap (slice_get (x ∷ (xs ++ g ∷ r))) e ∙ get_behind xs g r k

pub get_right : (l : List Slot) (g : Slot) (r : List Slot) (i n : ℕ) → n ≡ length l → n < i → slice_get (l ++ g ∷ r) i ≡ slice_get r (i - n - 1)
get_right l g r i n is lt = let e : i ≡ length l + suc (i - n - 1) = omega (arith, is, lt) in ap (slice_get (l ++ g ∷ r)) e ∙ get_behind l g r (suc (i - n - 1))

pub get_middle : (l : List Slot) (g : Slot) (r : List Slot) (i n : ℕ) → n ≡ length l → n ≤ i → i ≤ n → slice_get (l ++ g ∷ r) i ≡ Some g
get_middle l g r i n is low high = let e : i ≡ length l + 0 = omega (arith, is, low, high) in ap (slice_get (l ++ g ∷ r)) e ∙ get_behind l g r 0

-- ---- a gap less

pub removed_left : (l : List Slot) (g : Slot) (r : List Slot) (i : ℕ) → i < length l → remove (l ++ g ∷ r) i ≡ remove l i ++ g ∷ r
removed_left [] g r i lt = absurd (omega (arith, lt))
removed_left (x ∷ xs) g r zero lt = refl
removed_left (x ∷ xs) g r (suc i) lt = ap (λ ys. x ∷ ys) (removed_left xs g r i (omega (arith, lt)))

removed_behind : (l : List Slot) (g : Slot) (r : List Slot) (k : ℕ) → remove (l ++ g ∷ r) (length l + k) ≡ l ++ remove (g ∷ r) k
removed_behind [] g r k = let e : 0 + k ≡ k = omega arith in ap (remove (g ∷ r)) e
removed_behind (x ∷ xs) g r k = let e : suc (length xs) + k ≡ suc (length xs + k) = omega arith in ap (remove (x ∷ (xs ++ g ∷ r))) e ∙ ap (λ ys. x ∷ ys) (removed_behind xs g r k)

pub removed_right : (l : List Slot) (g : Slot) (r : List Slot) (i n : ℕ) → n ≡ length l → n < i → remove (l ++ g ∷ r) i ≡ l ++ g ∷ remove r (i - n - 1)
removed_right l g r i n is lt = let e : i ≡ length l + suc (i - n - 1) = omega (arith, is, lt) in ap (remove (l ++ g ∷ r)) e ∙ removed_behind l g r (suc (i - n - 1))

pub removed_middle : (l : List Slot) (g : Slot) (r : List Slot) (i n : ℕ) → n ≡ length l → n ≤ i → i ≤ n → remove (l ++ g ∷ r) i ≡ l ++ r
removed_middle l g r i n is low high = let e : i ≡ length l + 0 = omega (arith, is, low, high) in ap (remove (l ++ g ∷ r)) e ∙ removed_behind l g r 0

-- ---- a gap in place of another

pub replaced_left : (l : List Slot) (g : Slot) (r : List Slot) (i : ℕ) (x : Slot) → i < length l → slice_set (l ++ g ∷ r) i x ≡ slice_set l i x ++ g ∷ r
replaced_left [] g r i x lt = absurd (omega (arith, lt))
replaced_left (y ∷ ys) g r zero x lt = refl
replaced_left (y ∷ ys) g r (suc i) x lt = ap (λ zs. y ∷ zs) (replaced_left ys g r i x (omega (arith, lt)))

replaced_behind : (l : List Slot) (g : Slot) (r : List Slot) (k : ℕ) (x : Slot) → slice_set (l ++ g ∷ r) (length l + k) x ≡ l ++ slice_set (g ∷ r) k x
replaced_behind [] g r k x = let e : 0 + k ≡ k = omega arith in ap (λ i. slice_set (g ∷ r) i x) e
replaced_behind (y ∷ ys) g r k x = let e : suc (length ys) + k ≡ suc (length ys + k) = omega arith in ap (λ i. slice_set (y ∷ (ys ++ g ∷ r)) i x) e ∙ ap (λ zs. y ∷ zs) (replaced_behind ys g r k x)

pub replaced_right : (l : List Slot) (g : Slot) (r : List Slot) (i n : ℕ) (x : Slot) → n ≡ length l → n < i → slice_set (l ++ g ∷ r) i x ≡ l ++ g ∷ slice_set r (i - n - 1) x
replaced_right l g r i n x is lt = let e : i ≡ length l + suc (i - n - 1) = omega (arith, is, lt) in ap (λ j. slice_set (l ++ g ∷ r) j x) e ∙ replaced_behind l g r (suc (i - n - 1)) x

pub replaced_middle : (l : List Slot) (g : Slot) (r : List Slot) (i n : ℕ) (x : Slot) → n ≡ length l → n ≤ i → i ≤ n → slice_set (l ++ g ∷ r) i x ≡ l ++ x ∷ r
replaced_middle l g r i n x is low high = let e : i ≡ length l + 0 = omega (arith, is, low, high) in ap (λ j. slice_set (l ++ g ∷ r) j x) e ∙ replaced_behind l g r 0 x

-- ---- a gap more

pub inserted_left : (l : List Slot) (g : Slot) (r : List Slot) (i n : ℕ) (x : Slot) → n ≡ length l → i ≤ n → insert (l ++ g ∷ r) i x ≡ insert l i x ++ g ∷ r
inserted_left [] g r zero n x is le = refl
inserted_left [] g r (suc i) n x is le = absurd (omega (arith, is, le))
inserted_left (y ∷ ys) g r zero n x is le = refl
inserted_left (y ∷ ys) g r (suc i) n x is le = ap (λ zs. y ∷ zs) (inserted_left ys g r i (length ys) x refl (omega (arith, is, le)))

inserted_behind : (l : List Slot) (g : Slot) (r : List Slot) (k : ℕ) (x : Slot) → insert (l ++ g ∷ r) (length l + k) x ≡ l ++ insert (g ∷ r) k x
inserted_behind [] g r k x = let e : 0 + k ≡ k = omega arith in ap (λ i. insert (g ∷ r) i x) e
inserted_behind (y ∷ ys) g r k x = let e : suc (length ys) + k ≡ suc (length ys + k) = omega arith in ap (λ i. insert (y ∷ (ys ++ g ∷ r)) i x) e ∙ ap (λ zs. y ∷ zs) (inserted_behind ys g r k x)

pub inserted_right : (l : List Slot) (g : Slot) (r : List Slot) (i n : ℕ) (x : Slot) → n ≡ length l → n < i → insert (l ++ g ∷ r) i x ≡ l ++ g ∷ insert r (i - n - 1) x
inserted_right l g r i n x is lt = let e : i ≡ length l + suc (i - n - 1) = omega (arith, is, lt) in ap (λ j. insert (l ++ g ∷ r) j x) e ∙ inserted_behind l g r (suc (i - n - 1)) x

-- ---- how many begin before a place

pub before_left : (place : ℕ) (l : List Slot) (g : Slot) (r : List Slot) → place ≤ g.gap.place → count_before place (l ++ g ∷ r) ≡ count_before place l
before_left place [] g r le = let off : nat_lt g.gap.place place ≡ false = grind (arith, nat_tests) in rw off
before_left place (x ∷ xs) g r le = ap (λ n. cond (nat_lt x.gap.place place) (suc n) 0) (before_left place xs g r le)

first_of_all : (x : Slot) (xs : List Slot) (g : Slot) (r : List Slot) → IsByPlace (x ∷ (xs ++ g ∷ r)) → x.gap.place < g.gap.place
first_of_all x xs g r o = go xs o.0
  where
    go : (ys : List Slot) → AllByRecursion (λ (h : Slot). x.gap.place < h.gap.place) (ys ++ g ∷ r) → x.gap.place < g.gap.place
    go [] a = a.0
    go (y ∷ ys) a = go ys a.1

pub before_right : (place : ℕ) (l : List Slot) (g : Slot) (r : List Slot) (n : ℕ) → n ≡ length l → g.gap.place < place → IsByPlace (l ++ g ∷ r) → count_before place (l ++ g ∷ r) ≡ n + count_before place r + 1
before_right place [] g r n is lt o = let on : nat_lt g.gap.place place ≡ true = grind (arith, nat_tests) in rw on (omega (arith, is))
before_right place (x ∷ xs) g r n is lt o =
    let first = first_of_all x xs g r o in
    let on : nat_lt x.gap.place place ≡ true = below x.gap.place (omega (arith, first, lt)) in
    let ih = before_right place xs g r (length xs) refl lt o.1 in rw on (omega (arith, is, ih))
  where
    below : (p : ℕ) → p < place → nat_lt p place ≡ true
    below p h = grind (arith, nat_tests)

by_place_front : (l r : List Slot) → IsByPlace (l ++ r) → IsByPlace l
by_place_front [] r o = tt
by_place_front (x ∷ xs) r o = (go xs o.0, by_place_front xs r o.1)
  where
    go : (ys : List Slot) → AllByRecursion (λ (h : Slot). x.gap.place < h.gap.place) (ys ++ r) → AllByRecursion (λ (h : Slot). x.gap.place < h.gap.place) ys
    go [] a = tt
    go (y ∷ ys) a = (a.0, go ys a.1)

by_place_back : (l r : List Slot) → IsByPlace (l ++ r) → IsByPlace r
by_place_back [] r o = o
by_place_back (x ∷ xs) r o = by_place_back xs r o.1

pub left_by_place : (l : List Slot) (g : Slot) (r : List Slot) → IsByPlace (l ++ g ∷ r) → IsByPlace l
left_by_place l g r o = by_place_front l (g ∷ r) o

pub right_by_place : (l : List Slot) (g : Slot) (r : List Slot) → IsByPlace (l ++ g ∷ r) → IsByPlace r
right_by_place l g r o = (by_place_back l (g ∷ r) o).1

pub before_within : (place : ℕ) (gs : List Slot) → count_before place gs ≤ length gs
before_within place [] = omega arith
before_within place (g ∷ gs) = by_test (nat_lt g.gap.place place) (before_within place gs)
  where
    by_test : (t : Bool) → count_before place gs ≤ length gs → cond t (suc (count_before place gs)) 0 ≤ suc (length gs)
    by_test true ih = omega (arith, ih)
    by_test false ih = omega arith
