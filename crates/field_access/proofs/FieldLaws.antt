-- What was read at a place is the field there.
use Rattle.std.proofs.Common.{◌≡◌, ℕ, ◌+◌, ◌-◌, ◌≤◌, List, ◌++◌, length, take, drop, replicate, Option, None, Some, ◌∙◌, ap, arith, length-take, length-drop, append-nil}
use Rattle.cg_io.specs.Device.{bytes_at, GivesAt}
use Rattle.adf_format.specs.Fields.{field}
use Rattle.field_access.specs.Fields.{WhereTold}

bytes_are_field : (bytes : List ℕ) (place n : ℕ) → place + n ≤ length bytes → bytes_at bytes place n ≡ field bytes place n
unfolding bytes_at
bytes_are_field bytes place n le =
    let none : n - length (take n (drop place bytes)) ≡ 0 = omega (arith, le, length-take n (drop place bytes), length-drop place bytes) in
    ap (λ k. take n (drop place bytes) ++ replicate k 0) none ∙ append-nil (take n (drop place bytes))

pub field_given : (held : Option (List ℕ)) (place n : ℕ) (text : List ℕ) → length text ≡ n → GivesAt held place text → WhereTold held place n (λ says. text ≡ says)
field_given None place n text long gives = tt
field_given (Some bytes) place n text long gives = λ within. gives ∙ ap (bytes_at bytes place) long ∙ bytes_are_field bytes place n within

-- whatever is made of the text is made of the field
pub made_given : {T : Type 0} (f : List ℕ → T) (made : T) (held : Option (List ℕ)) (place n : ℕ) (text : List ℕ) → length text ≡ n → GivesAt held place text → made ≡ f text → WhereTold held place n (λ says. made ≡ f says)
made_given f made None place n text long gives is = tt
made_given f made (Some bytes) place n text long gives is = λ within. is ∙ ap f (field_given (Some bytes) place n text long gives within)
