-- The blocks of a draft that wait.
use Rattle.std.proofs.Common.{◌≡◌, ◌⊎◌, ℕ, suc, ◌+◌, ◌*◌, ◌≤◌, ◌||◌, nat_eq, List, [], ◌∷◌, length, refl, sym, ◌∙◌, ap, arith, inl, inr}
use Rattle.std.specs.Prelude.{is_some}
use Rattle.std.specs.List.{list_any}
use Rattle.std.specs.Map.{keys_of}
use Rattle.std.specs.Ordering.{nat_cmp}
use Rattle.std.specs.declared.cmp.Ordering.TheVariants.{Less, Equal, Greater}
use Rattle.std.specs.Cmp.{nat_cmp_is}
use Rattle.std.specs.List.Sorted.{IsStrictlySortedBy}
use Rattle.std.proofs.lemmas.Bool.{cases_lt}
use Rattle.std.proofs.lemmas.Bool.Decides.{eqb_tells}
use Rattle.std.proofs.lemmas.Map.Lookups.{exact_unsigned}
use Rattle.cg_io.specs.Blocks.{blocks_of}
use Rattle.cg_io.specs.Waits.{how_many, IsTouched, WaitsOnly}
use Rattle.cg_io.proofs.WaitLaws.{counted_touched}
use Rattle.block_draft.specs.Changes.{block_in, AreChanges, ChangesWithin}
use Rattle.block_draft.proofs.Image.{below_none}
use Rattle.block_draft.proofs.Spaces.{unequal}

-- a block waits where it is changed
found_key : (es : List (ℕ × List ℕ)) (n : ℕ) → list_any (nat_eq n) (keys_of es) ≡ is_some (block_in es n)
found_key [] n = refl
found_key (e ∷ es) n = (elim (nat_cmp n e.0) as (λ o. nat_cmp n e.0 ≡ o → (nat_eq n e.0 || list_any (nat_eq n) (keys_of es)) ≡ is_some (block_in (e ∷ es) n)) [
  | Less ↦ λ is. rw (is, unequal n e.0 (λ same. let equal = nat_cmp_is n e.0 Equal same in let both : Equal ≡ Less = equal ∙ is in cc)) (found_key es n)
  | Equal ↦ λ is. elim (eqb_tells n e.0) [
    | inl same ↦ rw (is, same.0) refl
    | inr ne ↦ absurd (ne.1 (exact_unsigned n e.0 is))
  ]
  | Greater ↦ λ is. rw (is, unequal n e.0 (λ same. let equal = nat_cmp_is n e.0 Equal same in let both : Equal ≡ Greater = equal ∙ is in cc)) (found_key es n)
]) refl

-- each changed block waits once
many_keys : (es : List (ℕ × List ℕ)) → IsStrictlySortedBy nat_cmp (keys_of es) → how_many (keys_of es) ≡ length es
unfolding IsStrictlySortedBy
many_keys [] ascend = refl
many_keys (e ∷ es) ascend = rw (found_key es e.0 ∙ ap is_some (below_none es e.0 ascend.0)) (ap suc (many_keys es ascend.1))

pub many_wait : (es : List (ℕ × List ℕ)) → AreChanges es → how_many (keys_of es) ≡ length es
many_wait es are = many_keys es are.ascend

-- a range touches a block, or does not
touches : (place len n : ℕ) → IsTouched place len n ⊎ (IsTouched place len n → ⊥)
touches place len n = elim (cases_lt 0 len) [
  | inl some ↦ elim (cases_lt (n * 4096) (place + len)) [
    | inl low ↦ elim (cases_lt place (n * 4096 + 4096)) [
      | inl high ↦ inl (some, low, high)
      | inr past ↦ inr (λ is. omega (arith, is.2, past))
    ]
    | inr past ↦ inr (λ is. omega (arith, is.1, past))
  ]
  | inr none ↦ inr (λ is. omega (arith, is.0, none))
]

pub waits_within : (place len : ℕ) (old new : List (ℕ × List ℕ)) → ChangesWithin place len old new → WaitsOnly (IsTouched place len) (keys_of old) (keys_of new)
waits_within place len old new is = λ n waits. elim (touches place len n) [
  | inl part ↦ inr part
  | inr out ↦ inl (found_key old n ∙ sym (ap is_some (is.outside n out)) ∙ sym (found_key new n) ∙ waits)
]

pub counts_within : (place len : ℕ) (old new : List (ℕ × List ℕ)) → ChangesWithin place len old new → how_many (keys_of new) ≤ how_many (keys_of old) + blocks_of place len
counts_within place len old new is = counted_touched place len (keys_of old) (keys_of new) (waits_within place len old new is)
