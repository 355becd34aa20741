-- A field that is read.
use Rattle.std.proofs.Common.{◌≡◌, ℕ, ◌+◌, ◌-◌, ◌≤◌, List, ◌++◌, length, take, drop, replicate, ◌∙◌, ap, subst, arith, Option, None, Some, length-take, length-drop, append-nil}
use Rattle.cg_io.specs.Device.{bytes_at, GivesAt}
use Rattle.adf_format.specs.Fields.{field}
use Rattle.cg_io.specs.Answers.{Told}

plain_field : (bytes : List ℕ) (place n : ℕ) → place + n ≤ length bytes → bytes_at bytes place n ≡ field bytes place n
unfolding bytes_at
plain_field bytes place n h =
    let long : n - length (take n (drop place bytes)) ≡ 0 = omega (arith, h, length-take n (drop place bytes), length-drop place bytes) in
    ap (λ k. take n (drop place bytes) ++ replicate k 0) long ∙ append-nil (take n (drop place bytes))

field_of : (held : Option (List ℕ)) (image : List ℕ) (place : ℕ) (into : List ℕ) → held ≡ Some image → GivesAt held place into → into ≡ bytes_at image place (length into)
field_of None image place into told gives = cc
field_of (Some bytes) image place into told gives = let same : bytes ≡ image = cc in subst (λ b. into ≡ bytes_at b place (length into)) same gives

-- what is read is the field, within the bytes
pub field_read : (held : Option (List ℕ)) (place n : ℕ) (into : List ℕ) → length into ≡ n → GivesAt held place into → Told held (λ image. place + n ≤ length image → into ≡ field image place n)
field_read held place n into long gives = λ image told within.
    let within' : place + length into ≤ length image = omega arith in
    subst (λ k. into ≡ field image place k) long (field_of held image place into told gives ∙ plain_field image place (length into) within')
