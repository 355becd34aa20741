-- A byte that a range covers lies in it; and a label is short.
use Rattle.std.proofs.Common.{◌≡◌, inl, inr, ℕ, arith, List, length, ◌+◌, ◌<◌, ◌≤◌, true}
use Rattle.std.proofs.lemmas.Bool.Decides.{leb_tells, nat_tests}
use Rattle.std.specs.Prelude.{nat_le}
use Rattle.adf_format.specs.Names.{is_label}
use Rattle.adf_format.proofs.HeapLaws.{in_range}
use Rattle.adf_model.proofs.Basics.{and_parts}
use Rattle.adf_model.proofs.Creation.PartsApart.{range_out}

le_true : (m n : ℕ) → nat_le m n ≡ true → m ≤ n
le_true m n e = grind (arith, nat_tests)

-- a byte that a range covers lies in it
pub range_holds : (place n b : ℕ) → 0 < in_range place n b → (place ≤ b) × (b < place + n)
range_holds place n b some = elim (leb_tells place b) [
  | inr before ↦ absurd (let none = range_out place n b (inl before.1) in omega (arith, none, some))
  | inl from ↦ elim (leb_tells (place + n) b) [
    | inl behind ↦ absurd (let none = range_out place n b (inr behind.1) in omega (arith, none, some))
    | inr inside ↦ (from.1, inside.1)
  ]
]

pub short_label : (label : List ℕ) → is_label label ≡ true → length label ≤ 32
short_label label e = le_true (length label) 32 (and_parts _ _ (and_parts _ _ (and_parts _ _ e).0).0).0
