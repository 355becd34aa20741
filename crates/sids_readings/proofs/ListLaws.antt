-- Lists of numbers, and choices between two tests.
use Rattle.std.proofs.Common.{◌≡◌, ◌∙◌, ap, refl, ℕ, zero, suc, ℤ, Bool, true, false, List, length, drop}
use Rattle.std.specs.Prelude.{◌||◌, if◌then◌else◌}
use Rattle.std.specs.Int.{Width}
use Rattle.adf_format.specs.declared.types.Format.{Format}
use Rattle.sids_rules.specs.Values.{numbers_in}

pub or_assoc : (a b c : Bool) → ((a || b) || c) ≡ (a || (b || c))
or_assoc true b c = refl
or_assoc false b c = refl

pub counted : (format : Format) (width : Width) (n count : ℕ) (bytes : List ℕ) → length (numbers_in format width n count bytes) ≡ count
counted format width n zero bytes = refl
counted format width n (suc count) bytes = ap suc (counted format width n count (drop n bytes)) ∙ refl

pub either : (b : Bool) (xs ys : List ℤ) (n : ℕ) → length xs ≡ n → length ys ≡ n → length (if b then xs else ys) ≡ n
either true xs ys n hx hy = hx
either false xs ys n hx hy = hy
