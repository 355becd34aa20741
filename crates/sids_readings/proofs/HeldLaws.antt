-- Lists of tests that hold, one behind another.
use Rattle.std.proofs.Common.{◌≡◌, ◌∙◌, sym, ap, refl, ℕ, Bool, true, false, List, [], ◌∷◌, ◌++◌, append_assoc}
use Rattle.std.specs.Prelude.{if◌then◌else◌}
use Rattle.sids_readings.specs.Held.{held}

first_or_none : (b : Bool) (n : ℕ) (xs ys : List ℕ) → (if b then n ∷ (xs ++ ys) else xs ++ ys) ≡ (if b then n ∷ xs else xs) ++ ys
first_or_none true n xs ys = refl
first_or_none false n xs ys = refl

pub held_append : (tests others : List (ℕ × Bool)) → held (tests ++ others) ≡ held tests ++ held others
held_append [] others = refl
held_append (test ∷ tests) others = ap (λ ns. if test.1 then test.0 ∷ ns else ns) (held_append tests others) ∙ first_or_none test.1 test.0 (held tests) (held others)

-- two tests before numbers
abbrev pub two_before : ℕ × Bool → ℕ × Bool → List ℕ → List ℕ
two_before a b numbers = if a.1 then a.0 ∷ (if b.1 then b.0 ∷ numbers else numbers) else (if b.1 then b.0 ∷ numbers else numbers)

-- more tests behind those of a list
pub held_more : (rules : List ℕ) (tests others : List (ℕ × Bool)) → (rules ++ held tests) ++ held others ≡ rules ++ held (tests ++ others)
held_more rules tests others = append_assoc rules (held tests) (held others) ∙ ap (λ ns. rules ++ ns) (sym (held_append tests others))

pub held_cons : (rules : List ℕ) (test : ℕ × Bool) (others : List (ℕ × Bool)) → (rules ++ held (test ∷ [])) ++ held others ≡ rules ++ held (test ∷ others)
held_cons rules test others = held_more rules (test ∷ []) others

pub three_held : (rules : List ℕ) (a b c : ℕ × Bool) → ((rules ++ held (a ∷ [])) ++ held (b ∷ [])) ++ held (c ∷ []) ≡ rules ++ held (a ∷ b ∷ c ∷ [])
three_held rules a b c = held_cons (rules ++ held (a ∷ [])) b (c ∷ []) ∙ held_cons rules a (b ∷ c ∷ [])
