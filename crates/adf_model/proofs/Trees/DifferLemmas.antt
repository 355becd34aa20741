-- Names that all differ.
use Rattle.std.proofs.Common.{◌≡◌, ◌≢◌, ℕ, suc, ◌≤◌, length, arith, Bool, true, false, not, List, [], ◌∷◌, map, refl, sym, ◌∙◌, ap, subst, inl, inr}
use Rattle.std.specs.Prelude.{IsTrue, ◌==◌, ◌||◌, filter, bytes_eq, if◌then◌else◌}
use Rattle.std.specs.List.{list_any}
use Rattle.std.proofs.lemmas.Bool.Decides.{eqb_tells}
use Rattle.std.proofs.lemmas.Slice.Eq.{bytes_eq-Decides}
use Rattle.adf_format.specs.Tree.{is_among, IsAmong, AllDiffer}
use Rattle.adf_model.proofs.Basics.{not_true, false_of, or_parts, or_right, or_none, among_head}

pub bytes_eq_same : (a : List ℕ) → bytes_eq a a ≡ true
bytes_eq_same a = (bytes_eq-Decides a a).1 refl

pub bytes_eq_swap : (a b : List ℕ) → bytes_eq a b ≡ false → bytes_eq b a ≡ false
bytes_eq_swap a b e = false_of (bytes_eq b a) (λ t. not_true (sym e ∙ (bytes_eq-Decides a b).1 (sym ((bytes_eq-Decides b a).0 t))))

no_test : (b : Bool) → IsTrue (not b) → b ≡ false
no_test true e = absurd (not_true e)
no_test false e = refl

test_no : (b : Bool) → b ≡ false → IsTrue (not b)
test_no true e = absurd (not_true (sym e))
test_no false e = refl

-- no text of the list is this one
pub none_equal : (t : List ℕ) (f : ℕ → List ℕ) (xs : List ℕ) → list_any (bytes_eq t) (map f xs) ≡ false → (c : ℕ) → IsAmong xs c → bytes_eq t (f c) ≡ false
none_equal t f [] e c h = absurd (not_true h)
none_equal t f (x ∷ xs) e c h =
    let parts = or_none (bytes_eq t (f x)) (list_any (bytes_eq t) (map f xs)) e in
    elim (eqb_tells x c) [
      | inl k ↦ subst (λ d. bytes_eq t (f d) ≡ false) k.1 parts.0
      | inr k ↦ elim (or_parts (x == c) (is_among xs c) h) [ inl i ↦ absurd (not_true (sym k.0 ∙ i)) | inr i ↦ none_equal t f xs parts.1 c i ]
    ]

pub equal_none : (t : List ℕ) (f : ℕ → List ℕ) (xs : List ℕ) → ((c : ℕ) → IsAmong xs c → bytes_eq t (f c) ≡ false) → list_any (bytes_eq t) (map f xs) ≡ false
equal_none t f [] h = refl
equal_none t f (x ∷ xs) h = both (bytes_eq t (f x)) (list_any (bytes_eq t) (map f xs)) (h x (among_head x xs)) (equal_none t f xs (λ c i. h c (or_right (x == c) (is_among xs c) i)))
  where
    both : (a b : Bool) → a ≡ false → b ≡ false → (a || b) ≡ false
    both true b e f = absurd (not_true (sym e))
    both false b e f = f

-- two functions that agree on a list make the same list of it
pub map_agree : (xs : List ℕ) (f g : ℕ → List ℕ) → ((c : ℕ) → IsAmong xs c → f c ≡ g c) → map f xs ≡ map g xs
map_agree [] f g same = refl
map_agree (x ∷ xs) f g same = ap (λ t. t ∷ map f xs) (same x (among_head x xs)) ∙ ap (λ ts. g x ∷ ts) (map_agree xs f g (λ c h. same c (or_right (x == c) (is_among xs c) h)))

-- one of the texts is another, which none of the others is
pub AllDiffer-changed : (xs : List ℕ) (f g : ℕ → List ℕ) (s : ℕ) → ((c : ℕ) → c ≢ s → g c ≡ f c) → AllDiffer (map f xs) → ((c : ℕ) → IsAmong xs c → c ≢ s → bytes_eq (f c) (g s) ≡ false) → AllDiffer (map g xs)
AllDiffer-changed [] f g s same differ others = tt
AllDiffer-changed (x ∷ xs) f g s same differ others = (
  test_no (list_any (bytes_eq (g x)) (map g xs)) (equal_none (g x) g xs apart),
  AllDiffer-changed xs f g s same differ.1 (λ c h. others c (or_right (x == c) (is_among xs c) h)),
)
  where
    old : (c : ℕ) → IsAmong xs c → bytes_eq (f x) (f c) ≡ false
    old c h = none_equal (f x) f xs (no_test (list_any (bytes_eq (f x)) (map f xs)) differ.0) c h

    apart : (c : ℕ) → IsAmong xs c → bytes_eq (g x) (g c) ≡ false
    apart c h = elim (eqb_tells x s) [
      | inl i ↦ elim (eqb_tells c s) [
        | inl j ↦ absurd (not_true (sym (subst (λ d. bytes_eq (f x) (f d) ≡ false) (j.1 ∙ sym i.1) (old c h)) ∙ bytes_eq_same (f x)))
        | inr j ↦ subst (λ t. bytes_eq (g x) t ≡ false) (sym (same c j.1))
            (subst (λ d. bytes_eq (g d) (f c) ≡ false) (sym i.1) (bytes_eq_swap (f c) (g s) (others c (or_right (x == c) (is_among xs c) h) j.1)))
      ]
      | inr i ↦ elim (eqb_tells c s) [
        | inl j ↦ subst (λ d. bytes_eq (g x) (g d) ≡ false) (sym j.1) (subst (λ t. bytes_eq t (g s) ≡ false) (sym (same x i.1)) (others x (among_head x xs) i.1))
        | inr j ↦ subst (λ t. bytes_eq t (g c) ≡ false) (sym (same x i.1)) (subst (λ t. bytes_eq (f x) t ≡ false) (sym (same c j.1)) (old c h))
      ]
    ]

-- ---- the others of a list

abbrev pub others : List ℕ → ℕ → List ℕ
others xs s = filter (λ c. not (c == s)) xs

other_step : (x s c : ℕ) (xs : List ℕ) (t : Bool) → (x == s) ≡ t → c ≢ s → ((x == c) || is_among xs c) ≡ true → (is_among xs c ≡ true → is_among (others xs s) c ≡ true) → is_among (if not (x == s) then x ∷ others xs s else others xs s) c ≡ true
other_step x s c xs true e differ h ih = elim (or_parts (x == c) (is_among xs c) h) [
  | inl i ↦ elim (eqb_tells x c) [ inl k ↦ elim (eqb_tells x s) [ inl j ↦ absurd (differ (sym k.1 ∙ j.1)) | inr j ↦ absurd (not_true (sym j.0 ∙ e)) ] | inr k ↦ absurd (not_true (sym k.0 ∙ i)) ]
  | inr i ↦ rw e (ih i)
]
other_step x s c xs false e differ h ih = elim (or_parts (x == c) (is_among xs c) h) [
  | inl i ↦ rw e (ap (λ b. b || is_among (others xs s) c) i)
  | inr i ↦ rw e (or_right (x == c) (is_among (others xs s) c) (ih i))
]

pub among-others : (xs : List ℕ) (s c : ℕ) → IsAmong xs c → c ≢ s → IsAmong (others xs s) c
among-others [] s c h differ = h
among-others (x ∷ xs) s c h differ = other_step x s c xs (x == s) refl differ h (λ i. among-others xs s c i differ)

-- and one of the others is another one of the list
others_step : (x s c : ℕ) (xs : List ℕ) (t : Bool) → (x == s) ≡ t → is_among (if not (x == s) then x ∷ others xs s else others xs s) c ≡ true → (is_among (others xs s) c ≡ true → IsAmong xs c × (c ≢ s)) → IsAmong (x ∷ xs) c × (c ≢ s)
others_step x s c xs true e h ih = let i : is_among (others xs s) c ≡ true = rw e at h in let r = ih i in (or_right (x == c) (is_among xs c) r.0, r.1)
others_step x s c xs false e h ih =
    let i : is_among (x ∷ others xs s) c ≡ true = rw e at h in
    elim (or_parts (x == c) (is_among (others xs s) c) i) [
      | inl k ↦ (ap (λ b. b || is_among xs c) k, λ same. elim (eqb_tells x c) [ inl j ↦ elim (eqb_tells x s) [ inl l ↦ not_true (sym e ∙ l.0) | inr l ↦ l.1 (j.1 ∙ same) ] | inr j ↦ not_true (sym j.0 ∙ k) ])
      | inr k ↦ let r = ih k in (or_right (x == c) (is_among xs c) r.0, r.1)
    ]

pub others-among : (xs : List ℕ) (s c : ℕ) → IsAmong (others xs s) c → IsAmong xs c × (c ≢ s)
others-among [] s c h = absurd (not_true h)
others-among (x ∷ xs) s c h = others_step x s c xs (x == s) refl h (λ i. others-among xs s c i)

-- ---- names that are searched

-- ---- fewer names

length_step : (x s : ℕ) (xs : List ℕ) (t : Bool) → (x == s) ≡ t → length (others xs s) ≤ length xs → length (if not (x == s) then x ∷ others xs s else others xs s) ≤ suc (length xs)
length_step x s xs true e ih = rw e (omega (arith, ih))
length_step x s xs false e ih = rw e (omega (arith, ih))

pub length-others : (xs : List ℕ) (s : ℕ) → length (others xs s) ≤ length xs
length-others [] s = omega arith
length-others (x ∷ xs) s = length_step x s xs (x == s) refl (length-others xs s)

differ_step : (x s : ℕ) (xs : List ℕ) (f : ℕ → List ℕ) (t : Bool) → (x == s) ≡ t → IsTrue (not (list_any (bytes_eq (f x)) (map f xs))) → AllDiffer (map f (others xs s)) → AllDiffer (map f (if not (x == s) then x ∷ others xs s else others xs s))
differ_step x s xs f true e head ih = rw e ih
differ_step x s xs f false e head ih =
    rw e (test_no (list_any (bytes_eq (f x)) (map f (others xs s))) (equal_none (f x) f (others xs s) (λ c h. none_equal (f x) f xs (no_test (list_any (bytes_eq (f x)) (map f xs)) head) c (others-among xs s c h).0)), ih)

pub AllDiffer-others : (xs : List ℕ) (s : ℕ) (f : ℕ → List ℕ) → AllDiffer (map f xs) → AllDiffer (map f (others xs s))
AllDiffer-others [] s f h = tt
AllDiffer-others (x ∷ xs) s f h = differ_step x s xs f (x == s) refl h.0 (AllDiffer-others xs s f h.1)
