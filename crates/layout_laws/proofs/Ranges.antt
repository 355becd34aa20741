-- Lists with the same ranges weigh the same.
use Rattle.std.proofs.Common.{◌≡◌, ℕ, refl, sym, ◌∙◌, ap, subst, arith, List, [], ◌∷◌, filter, ◌+◌, ◌≤◌, Bool, true, false}
use Rattle.std.proofs.lemmas.Bool.Decides.{nat_tests}
use Rattle.std.specs.Prelude.{nat_le, nat_lt, ◌&&◌, ◌==◌, if◌then◌else◌}
use Rattle.adf_format.specs.declared.types.Extent.{Extent}
use Rattle.adf_format.specs.Tiles.{cover, total_length}
use Rattle.adf_format.specs.LaysOut.{count_of, HasSameRanges}
use Rattle.adf_model.proofs.Basics.{and_parts}

-- the sum of what each range weighs
abbrev pub weigh : (ℕ → ℕ → ℕ) → List Extent → ℕ
weigh w [] = 0
weigh w (e ∷ es) = w e.place e.length + weigh w es

abbrev pub one_for : ℕ → ℕ → ℕ → ℕ → ℕ
one_for place length p n = if (p == place) && (n == length) then 1 else 0

pub count_weighs : (place length : ℕ) (xs : List Extent) → count_of place length xs ≡ weigh (one_for place length) xs
count_weighs place length [] = refl
count_weighs place length (e ∷ es) = ap (λ n. one_for place length e.place e.length + n) (count_weighs place length es)

abbrev pub holds_one : ℕ → ℕ → ℕ → ℕ
holds_one b p n = if nat_le p b && nat_lt b (p + n) then 1 else 0

pub cover_weighs : (b : ℕ) (xs : List Extent) → cover xs b ≡ weigh (holds_one b) xs
cover_weighs b [] = refl
cover_weighs b (e ∷ es) = ap (λ n. holds_one b e.place e.length + n) (cover_weighs b es)

pub total_weighs : (xs : List Extent) → total_length xs ≡ weigh (λ p n. n) xs
total_weighs [] = refl
total_weighs (e ∷ es) = ap (λ n. e.length + n) (total_weighs es)

-- without the first of this range
abbrev without : ℕ → ℕ → List Extent → List Extent
without p n [] = []
without p n (e ∷ es) = if (e.place == p) && (e.length == n) then es else e ∷ without p n es

swap : (a b c : ℕ) → a + (b + c) ≡ b + (a + c)
swap a b c = omega arith

without_weighs : (w : ℕ → ℕ → ℕ) (p n : ℕ) (ys : List Extent) → 1 ≤ count_of p n ys → weigh w ys ≡ w p n + weigh w (without p n ys)
without_weighs w p n [] h = absurd (omega (arith, h))
without_weighs w p n (e ∷ es) h = by_test ((e.place == p) && (e.length == n)) refl h (without_weighs w p n es)
  where
    by_test : (t : Bool) → ((e.place == p) && (e.length == n)) ≡ t → 1 ≤ (if t then 1 else 0) + count_of p n es → (1 ≤ count_of p n es → weigh w es ≡ w p n + weigh w (without p n es)) → w e.place e.length + weigh w es ≡ w p n + weigh w (if t then es else e ∷ without p n es)
    by_test true s h ih = let parts = and_parts (e.place == p) (e.length == n) s in ap (λ k. w k e.length + weigh w es) (number e.place p parts.0) ∙ ap (λ k. w p k + weigh w es) (number e.length n parts.1)
      where
        number : (a b : ℕ) → (a == b) ≡ true → a ≡ b
        number a b t = grind (arith, nat_tests)
    by_test false s h ih = ap (λ k. w e.place e.length + k) (ih (omega (arith, h))) ∙ swap (w e.place e.length) (w p n) (weigh w (without p n es))

counts_itself : (e : Extent) (es : List Extent) → 1 ≤ count_of e.place e.length (e ∷ es)
counts_itself e es = rw (same e.place, same e.length) (omega arith)
  where
    same : (n : ℕ) → (n == n) ≡ true
    same n = grind (arith, nat_tests)

cancel : (a b c : ℕ) → a + b ≡ a + c → b ≡ c
cancel a b c e = omega (arith, e)

-- lists with the same ranges weigh the same
pub same_weight : (w : ℕ → ℕ → ℕ) (xs ys : List Extent) → HasSameRanges xs ys → weigh w xs ≡ weigh w ys
same_weight w [] [] h = refl
same_weight w [] (y ∷ ys) h = absurd (let one = counts_itself y ys in let none : 0 ≡ count_of y.place y.length (y ∷ ys) = h y.place y.length in omega (arith, one, none))
same_weight w (x ∷ xs) ys h =
    let there : 1 ≤ count_of x.place x.length ys = subst (λ n. 1 ≤ n) (h x.place x.length) (counts_itself x xs) in
    let rest : HasSameRanges xs (without x.place x.length ys) = λ q m. count_weighs q m xs
    ∙ cancel (one_for q m x.place x.length) (weigh (one_for q m) xs) (weigh (one_for q m) (without x.place x.length ys))
    (sym (count_weighs q m (x ∷ xs)) ∙ h q m ∙ count_weighs q m ys ∙ without_weighs (one_for q m) x.place x.length ys there)
    ∙ sym (count_weighs q m (without x.place x.length ys)) in
    ap (λ n. w x.place x.length + n) (same_weight w xs (without x.place x.length ys) rest) ∙ sym (without_weighs w x.place x.length ys there)

pub same_cover : (xs ys : List Extent) (b : ℕ) → HasSameRanges xs ys → cover xs b ≡ cover ys b
same_cover xs ys b h = cover_weighs b xs ∙ same_weight (holds_one b) xs ys h ∙ sym (cover_weighs b ys)

pub same_total : (xs ys : List Extent) → HasSameRanges xs ys → total_length xs ≡ total_length ys
same_total xs ys h = total_weighs xs ∙ same_weight (λ p n. n) xs ys h ∙ sym (total_weighs ys)

-- ---- some of the extents

pub cover-filter : (test : Extent → Bool) (xs : List Extent) (b : ℕ) → cover (filter test xs) b ≤ cover xs b
cover-filter test [] b = omega arith
cover-filter test (e ∷ es) b = by_test (test e) refl (cover-filter test es b)
  where
    by_test : (t : Bool) → test e ≡ t → cover (filter test es) b ≤ cover es b → cover (filter test (e ∷ es)) b ≤ cover (e ∷ es) b
    by_test true k h = rw k (omega (arith, h))
    by_test false k h = rw k (omega (arith, h))

pub total-filter : (test : Extent → Bool) (xs : List Extent) → total_length (filter test xs) ≤ total_length xs
total-filter test [] = omega arith
total-filter test (e ∷ es) = by_test (test e) refl (total-filter test es)
  where
    by_test : (t : Bool) → test e ≡ t → total_length (filter test es) ≤ total_length es → total_length (filter test (e ∷ es)) ≤ total_length (e ∷ es)
    by_test true k h = rw k (omega (arith, h))
    by_test false k h = rw k (omega (arith, h))
