-- What is kept agrees with the device after a block was read, was written, or was to be.
use Rattle.std.proofs.Common.{◌≡◌, ◌≢◌, ◌⊎◌, ◌≤◌, ℕ, true, List, ◌∷◌, length, nat_eq, Option, Some, None, sym, subst, ◌∙◌, inl, inr, arith, length-take}
use Rattle.std.specs.Cmp.{nat_eq_equiv}
use Rattle.std.specs.List.{IsDistinct}
use Rattle.std.specs.Map.{lookup, remove_entry, keys_of}
use Rattle.std.proofs.lemmas.Bool.{cases_eq}
use Rattle.cg_io.specs.Device.{Gives, Tears, with_block}
use Rattle.cg_io.proofs.BlockLemmas.{Gives-same, Gives-other, Gives-torn}
use Rattle.block_cache.specs.Cache.{AreCopies, IsTouched, touch}
use Rattle.block_cache.proofs.Kept.{unlike, removed_other, taken_among, distinct-first}

-- what is found after a block went first is that block, or was there
touched_among : (cap n m : ℕ) (block found : List ℕ) (es : List (ℕ × List ℕ)) → lookup (nat_eq m) (touch cap (n, block) es) ≡ Some found → ((m ≡ n) × (block ≡ found)) ⊎ ((m ≢ n) × (lookup (nat_eq m) es ≡ Some found))
touched_among cap n m block found es is = elim (cases_eq m n) [
  | inl same ↦ inl (same, here same)
  | inr other ↦ inr (other, sym (removed_other m n es other) ∙ there other)
]
  where
    all : lookup (nat_eq m) ((n, block) ∷ remove_entry (nat_eq n) es) ≡ Some found
    all = taken_among m cap ((n, block) ∷ remove_entry (nat_eq n) es) found is

    here : m ≡ n → block ≡ found
    here same = let alike = nat_eq_equiv.refl m in let first : nat_eq m n ≡ true = subst (λ k. nat_eq m k ≡ true) same alike in let told : Some block ≡ Some found = rw first at all in cc

    there : m ≢ n → lookup (nat_eq m) (remove_entry (nat_eq n) es) ≡ Some found
    there other = let apart = unlike m n other in rw apart at all

-- what is kept stays distinct, and within the capacity
pub distinct_touched : (cap : ℕ) (entry : ℕ × List ℕ) (old new : List (ℕ × List ℕ)) → IsDistinct nat_eq (keys_of old) → IsTouched cap entry old new → IsDistinct nat_eq (keys_of new)
distinct_touched cap entry old new distinct (inl first) = subst (λ l. IsDistinct nat_eq (keys_of l)) (sym first) (distinct-first cap entry.0 entry.1 old distinct)
distinct_touched cap entry old new distinct (inr same) = subst (λ l. IsDistinct nat_eq (keys_of l)) (sym same.0) distinct

pub bounded_touched : (cap : ℕ) (entry : ℕ × List ℕ) (old new : List (ℕ × List ℕ)) → length old ≤ cap → IsTouched cap entry old new → length new ≤ cap
bounded_touched cap entry old new bounded (inl first) = rw first (omega (arith, length-take cap (entry ∷ remove_entry (nat_eq entry.0) old)))
bounded_touched cap entry old new bounded (inr same) = rw same.0 bounded

-- a block of the device is used
pub copies_touched : (held : Option (List ℕ)) (cap n : ℕ) (block : List ℕ) (old new : List (ℕ × List ℕ)) → AreCopies held old → Gives held n block → IsTouched cap (n, block) old new → AreCopies held new
copies_touched held cap n block old new sound gives (inl is) = subst (AreCopies held) (sym is) (record {
  copies = λ m found there. elim (touched_among cap n m block found old there) [
    | inl here ↦ subst (λ b. Gives held m b) here.1 (subst (λ k. Gives held k block) (sym here.0) gives)
    | inr other ↦ sound.copies m found other.1
  ];
})
copies_touched held cap n block old new sound gives (inr same) = subst (AreCopies held) (sym same.0) sound

-- a block was written and is used
pub copies_written : (held now : Option (List ℕ)) (cap n : ℕ) (from : List ℕ) (old new : List (ℕ × List ℕ)) → length from ≡ 4096 → AreCopies held old → now ≡ with_block held n from → IsTouched cap (n, from) old new → AreCopies now new
copies_written held now cap n from old new size sound is (inl first) = subst (λ h. AreCopies h new) (sym is) (subst (AreCopies (with_block held n from)) (sym first) (record {
  copies = λ m found there. elim (touched_among cap n m from found old there) [
    | inl here ↦ subst (λ b. Gives (with_block held n from) m b) here.1 (subst (λ k. Gives (with_block held n from) k from) (sym here.0) (Gives-same held n from size))
    | inr other ↦ Gives-other held m n from found size other.0 (sound.copies m found other.1)
  ];
}))
copies_written held now cap n from old new size sound is (inr same) = subst (λ h. AreCopies h new) (sym is) (subst (AreCopies (with_block held n from)) (sym same.0) (record {
  copies = λ m found there. elim (cases_eq m n) [
    | inl here ↦ let none : lookup (nat_eq m) old ≡ None = subst (λ k. lookup (nat_eq k) old ≡ None) (sym here) same.1 in cc
    | inr other ↦ Gives-other held m n from found size other (sound.copies m found there)
  ];
}))

-- a block that was to be written is kept no longer
pub copies_torn : (held torn : Option (List ℕ)) (n : ℕ) (old new : List (ℕ × List ℕ)) → AreCopies held old → Tears held n torn → new ≡ remove_entry (nat_eq n) old → lookup (nat_eq n) new ≡ None → AreCopies torn new
copies_torn held torn n old new sound tears is gone = record {
  copies = λ m block found. elim (cases_eq m n) [
    | inl same ↦ let there : lookup (nat_eq n) new ≡ Some block = subst (λ k. lookup (nat_eq k) new ≡ Some block) same found in cc
    | inr other ↦ Gives-torn held torn m n block tears other (sound.copies m block (sym (removed_other m n old other) ∙ subst (λ l. lookup (nat_eq m) l ≡ Some block) is found))
  ];
}
