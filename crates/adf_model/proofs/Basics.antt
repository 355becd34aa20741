-- Tests, results and lists: small facts that proofs on edits share.
use Rattle.std.proofs.Common.{◌≡◌, ℕ, ◌<◌, ◌≤◌, Bool, true, false, not, List, [], ◌∷◌, refl, sym, ap, arith, ◌⊎◌, inl, inr}
use Rattle.std.specs.Prelude.{Option, Some, None, Result, Ok, Err, ◌==◌, ◌||◌, ◌&&◌, nat_le, nat_lt, unwrap_or, if◌then◌else◌}
use Rattle.std.specs.Result.{result_unwrap_or}
use Rattle.std.proofs.lemmas.Bool.Decides.{nat_tests, eqb_tells}
use Rattle.adf_model.specs.declared.error.AdfError.{AdfError}
use Rattle.adf_model.specs.Tests.{Test, checked, and_then, if_there}
use Rattle.adf_format.specs.Tree.{is_among, IsAmong}

pub not_true : false ≡ true → ⊥
not_true e = cc

pub false_of : (b : Bool) → (b ≡ true → ⊥) → b ≡ false
false_of true no_way = absurd (no_way refl)
false_of false no_way = refl

pub true_of : (b : Bool) → (b ≡ false → ⊥) → b ≡ true
true_of true no_way = refl
true_of false no_way = absurd (no_way refl)

pub not_false : (b : Bool) → not b ≡ false → b ≡ true
not_false true e = refl
not_false false e = sym e

pub or_parts : (a b : Bool) → (a || b) ≡ true → (a ≡ true) ⊎ (b ≡ true)
or_parts true b e = inl refl
or_parts false b e = inr e

pub or_right : (a b : Bool) → b ≡ true → (a || b) ≡ true
or_right true b e = refl
or_right false b e = e

pub or_none : (a b : Bool) → (a || b) ≡ false → (a ≡ false) × (b ≡ false)
or_none true b e = absurd (not_true (sym e))
or_none false b e = (refl, e)

pub and_parts : (a b : Bool) → (a && b) ≡ true → (a ≡ true) × (b ≡ true)
and_parts true b e = (refl, e)
and_parts false b e = absurd (not_true e)

pub not_there : {A : Type 0} (a : A) → ◌≡◌ {A = Option A} None (Some a) → ⊥
not_there a e = cc

pub same_Some : {A : Type 0} (a b : A) → ◌≡◌ {A = Option A} (Some a) (Some b) → a ≡ b
same_Some a b e = ap (λ o. unwrap_or o a) e

pub same_Ok : {A E : Type 0} {a b : A} → ◌≡◌ {A = Result A E} (Ok a) (Ok b) → a ≡ b
same_Ok {a = a} e = ap (λ r. result_unwrap_or r a) e

pub not_Err : {A E : Type 0} {e : E} {a : A} → ◌≡◌ {A = Result A E} (Err e) (Ok a) → ⊥
not_Err h = cc

-- ---- tests in order

-- none of the tests holds
abbrev pub NoneHolds : List Test → Type 0
NoneHolds [] = Unit {0}
NoneHolds (test ∷ tests) = (test.0 ≡ false) × NoneHolds tests

one_more : {A : Type 0} (b : Bool) (e : AdfError) (rest : Result A AdfError) (a : A) → (if b then Err e else rest) ≡ Ok a → (b ≡ false) × (rest ≡ Ok a)
one_more true e rest a h = absurd (not_Err h)
one_more false e rest a h = (refl, h)

-- a result that is no refusal has passed all tests
pub passed : {A : Type 0} (tests : List Test) (r : Result A AdfError) (a : A) → checked tests r ≡ Ok a → NoneHolds tests × (r ≡ Ok a)
passed [] r a h = (tt, h)
passed (test ∷ tests) r a h =
    let first = one_more test.0 test.1 (checked tests r) a h in
    let rest = passed tests r a first.1 in
    ((first.0, rest.0), rest.1)

-- a result that is no refusal has its value there
pub found : {A B : Type 0} (o : Option A) (e : AdfError) (next : A → Result B AdfError) (b : B) → if_there o e next ≡ Ok b → (a : A) × (o ≡ Some a) × (next a ≡ Ok b)
found (Some a) e next b h = (a, refl, h)
found None e next b h = absurd (not_Err h)

-- a chain that is no refusal has the value of its first part
pub done : {A B E : Type 0} (r : Result A E) (next : A → Result B E) (b : B) → and_then r next ≡ Ok b → (a : A) × (r ≡ Ok a) × (next a ≡ Ok b)
done (Ok a) next b e = (a, refl, e)
done (Err x) next b e = absurd (not_Err e)

-- two chains agree where what follows agrees
pub and_then-agree : {A B E : Type 0} (r : Result A E) (one other : A → Result B E) → ((a : A) → r ≡ Ok a → one a ≡ other a) → and_then r one ≡ and_then r other
and_then-agree (Ok a) one other agree = agree a refl
and_then-agree (Err x) one other agree = refl

pub if_there-agree : {A B E : Type 0} (o : Option A) (e : E) (one other : A → Result B E) → ((a : A) → one a ≡ other a) → if_there o e one ≡ if_there o e other
if_there-agree (Some a) e one other agree = agree a
if_there-agree None e one other agree = refl

-- ---- numbers

pub not_le : (m n : ℕ) → nat_le m n ≡ false → n < m
not_le m n e = grind (arith, nat_tests)

pub not_lt : (m n : ℕ) → nat_lt m n ≡ false → n ≤ m
not_lt m n e = grind (arith, nat_tests)

pub equal : (m n : ℕ) → (m == n) ≡ true → m ≡ n
equal m n e = grind (arith, nat_tests)

-- ---- numbers in lists

pub among_head : (x : ℕ) (xs : List ℕ) → IsAmong (x ∷ xs) x
among_head x xs = elim (eqb_tells x x) [ inl e ↦ ap (λ b. b || is_among xs x) e.0 | inr e ↦ absurd (e.1 refl) ]
