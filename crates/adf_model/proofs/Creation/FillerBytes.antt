-- The bytes of a filler: each is `z`.
use Rattle.std.proofs.Common.{◌≡◌, ℕ, zero, suc, refl, sym, ◌∙◌, ap, arith, List, ◌∷◌, length, replicate, ◌+◌, ◌-◌, ◌<◌, ◌≤◌}
use Rattle.std.proofs.lemmas.List.{length-replicate}
use Rattle.std.specs.Prelude.{Some, slice_get}
use Rattle.adf_format.specs.Fields.{field}
use Rattle.adf_format.specs.Parts.{IsFiller}
use Rattle.adf_format.proofs.FrameLaws.{field_step, put_first}

-- a range each byte of which is `z`
pub all_z : (n place : ℕ) (image : List ℕ) → ((b : ℕ) → place ≤ b → b < place + n → slice_get image b ≡ Some 122) → field image place n ≡ replicate n 122
all_z zero place image z = refl
all_z (suc n) place image z =
    field_step image place n
    ∙ ap (λ o. put_first o (field image (suc place) n)) (z place (omega arith) (omega arith))
    ∙ ap (λ xs. 122 ∷ xs) (all_z n (suc place) image (λ b low high. z b (omega (arith, low)) (omega (arith, high))))

pub filler_of : (n place : ℕ) (image : List ℕ) → ((b : ℕ) → place ≤ b → b < place + n → slice_get image b ≡ Some 122) → IsFiller (field image place n)
filler_of n place image z =
    let e : field image place n ≡ replicate n 122 = all_z n place image z in
    e ∙ ap (λ k. replicate k 122) (sym (ap length e ∙ length-replicate n 122))

pub get_replicate : (n i v : ℕ) → i < n → slice_get (replicate n v) i ≡ Some v
get_replicate zero i v lt = absurd (omega (arith, lt))
get_replicate (suc n) zero v lt = refl
get_replicate (suc n) (suc i) v lt = get_replicate n i v (omega (arith, lt))
