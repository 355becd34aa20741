-- How far bytes reach.
use Rattle.std.proofs.Common.{◌≡◌, ◌⊎◌, inl, inr, ℕ, suc, arith, List, length, ◌+◌, ◌-◌, ◌<◌, ◌≤◌}
use Rattle.std.proofs.lemmas.Bool.Decides.{leb_tells}
use Rattle.adf_format.specs.Fields.{field}
use Rattle.adf_format.proofs.FieldLaws.{length-field}

pub less_or : (a b : ℕ) → (a < b) ⊎ (b ≤ a)
less_or a b = elim (leb_tells (suc a) b) [ inl h ↦ inl h.1 | inr h ↦ inr (omega (arith, h.1)) ]

-- the bytes reach to the end of a text that stands
pub stand_reaches : (new : List ℕ) (place n : ℕ) → 0 < n → length (field new place n) ≡ n → place + n ≤ length new
stand_reaches new place n some e = let f = length-field new place n in omega (arith, e, f, some)
