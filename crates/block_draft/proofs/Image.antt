-- The blocks of bytes with changes over them.
use Rattle.std.proofs.Common.{◌≡◌, ◌≢◌, ℕ, ◌+◌, ◌*◌, ◌≤◌, max, Bool, true, false, cond, List, [], ◌∷◌, length, refl, sym, ◌∙◌, ap, subst, arith, None, Some}
use Rattle.std.specs.Prelude.{unwrap_or}
use Rattle.std.specs.Map.{keys_of, set_value}
use Rattle.std.specs.Ordering.{nat_cmp, is_eq}
use Rattle.std.specs.declared.cmp.Ordering.TheVariants.{Less, Equal, Greater}
use Rattle.std.specs.BTreeMap.{BTreeMap, is_at, insert_entry, Updates, WritesThrough}
use Rattle.std.specs.Cmp.{nat_cmp_is}
use Rattle.std.specs.List.Sorted.{IsStrictlySortedBy}
use Rattle.std.specs.List.{AllByRecursion}
use Rattle.std.proofs.lemmas.Map.Lookups.{exact_unsigned}
use Rattle.cg_io.specs.Device.{bytes_at, overwritten}
use Rattle.cg_io.proofs.Places.{length-overwritten}
use Rattle.cg_io.proofs.BlockLemmas.{written_same, written_other}
use Rattle.block_draft.specs.Changes.{with_changes, block_in, reach, AreSized, Puts}

pub apart : (n m : ℕ) → m ≢ n → is_at (nat_cmp n) m ≡ false
apart n m ne = (elim (nat_cmp n m) as (λ o. nat_cmp n m ≡ o → is_eq o ≡ false) [
  | Less ↦ λ _. refl
  | Equal ↦ λ is. absurd (ne (sym (exact_unsigned n m is)))
  | Greater ↦ λ _. refl
]) refl

reach-insert : (es : List (ℕ × List ℕ)) (k : ℕ) (v : List ℕ) → reach (insert_entry nat_cmp es k v) ≡ max (k * 4096 + 4096) (reach es)
reach-insert [] k v = refl
reach-insert (e ∷ es) k v = (elim (nat_cmp k e.0) as (λ o. nat_cmp k e.0 ≡ o → reach (insert_entry nat_cmp (e ∷ es) k v) ≡ max (k * 4096 + 4096) (reach (e ∷ es))) [
  | Less ↦ λ is. rw is refl
  | Equal ↦ λ is. let same = exact_unsigned k e.0 is in rw is (omega arith)
  | Greater ↦ λ is. let more = reach-insert es k v in rw is (omega arith)
]) refl

pub sized-insert : (es : List (ℕ × List ℕ)) (k : ℕ) (v : List ℕ) → AreSized es → length v ≡ 4096 → AreSized (insert_entry nat_cmp es k v)
sized-insert [] k v sized size = (size, tt)
sized-insert (e ∷ es) k v sized size = (elim (nat_cmp k e.0) as (λ o. nat_cmp k e.0 ≡ o → AreSized (insert_entry nat_cmp (e ∷ es) k v)) [
  | Less ↦ λ is. rw is (size, sized)
  | Equal ↦ λ is. rw is (size, sized.1)
  | Greater ↦ λ is. rw is (sized.0, sized-insert es k v sized.1 size)
]) refl

few-insert : (es : List (ℕ × List ℕ)) (k : ℕ) (v : List ℕ) → length (insert_entry nat_cmp es k v) ≤ length es + 1
few-insert [] k v = omega arith
few-insert (e ∷ es) k v = (elim (nat_cmp k e.0) as (λ o. nat_cmp k e.0 ≡ o → length (insert_entry nat_cmp (e ∷ es) k v) ≤ length (e ∷ es) + 1) [
  | Less ↦ λ is. rw is (omega arith)
  | Equal ↦ λ is. rw is (omega arith)
  | Greater ↦ λ is. let more = few-insert es k v in rw is (omega arith)
]) refl

-- what `insert` does
pub puts : (old new : BTreeMap ℕ (List ℕ)) (n : ℕ) (made block : List ℕ) → made ≡ block → Updates nat_cmp old new n (Some made) → new.entries ≡ insert_entry nat_cmp old.entries n made → Puts n block old.entries new.entries
puts old new n made block same updates is = record {
  here = updates.1 ∙ ap (λ (b : List ℕ). Some b) same;
  others = λ m ne. updates.2 m (apart n m ne);
  farther = let far = reach-insert old.entries n made in let far' = sym is in rw is (omega arith);
  reaches = let far = reach-insert old.entries n made in rw is (omega arith);
  no_farther = let far = reach-insert old.entries n made in rw is (omega arith);
  few = let more = few-insert old.entries n made in rw is more;
}

reach-set : (es : List (ℕ × List ℕ)) (test : ℕ → Bool) (v : List ℕ) → reach (set_value test es v) ≡ reach es
reach-set [] test v = refl
reach-set (e ∷ es) test v = elim (test e.0) as (λ b. reach (cond b ((e.0, v) ∷ es) (e ∷ set_value test es v)) ≡ reach (e ∷ es)) [
  | true ↦ refl
  | false ↦ ap (λ n. max (e.0 * 4096 + 4096) n) (reach-set es test v)
]

pub sized-set : (es : List (ℕ × List ℕ)) (test : ℕ → Bool) (v : List ℕ) → AreSized es → length v ≡ 4096 → AreSized (set_value test es v)
sized-set [] test v sized size = tt
sized-set (e ∷ es) test v sized size = elim (test e.0) as (λ b. AreSized (cond b ((e.0, v) ∷ es) (e ∷ set_value test es v))) [
  | true ↦ (size, sized.1)
  | false ↦ (sized.0, sized-set es test v sized.1 size)
]

-- a changed block is 4,096 bytes long, and does not end past the last one
pub found_within : (es : List (ℕ × List ℕ)) (n : ℕ) (v : List ℕ) → AreSized es → block_in es n ≡ Some v → (length v ≡ 4096) × (n * 4096 + 4096 ≤ reach es)
found_within [] n v sized is = cc
found_within (e ∷ es) n v sized is = (elim (nat_cmp n e.0) as (λ o. nat_cmp n e.0 ≡ o → (length v ≡ 4096) × (n * 4096 + 4096 ≤ reach (e ∷ es))) [
  | Less ↦ λ at. let rest = found_within es n v sized.1 (rw at at is) in (rest.0, let far = rest.1 in omega arith)
  | Equal ↦ λ at. let same = exact_unsigned n e.0 at in let told : Some e.1 ≡ Some v = rw at at is in let one : e.1 ≡ v = cc in (subst (λ (b : List ℕ). length b ≡ 4096) one sized.0, omega arith)
  | Greater ↦ λ at. let rest = found_within es n v sized.1 (rw at at is) in (rest.0, let far = rest.1 in omega arith)
]) refl

pub patched_size : (es : List (ℕ × List ℕ)) (n start : ℕ) (was from made : List ℕ) → AreSized es → block_in es n ≡ Some was → start + length from ≤ 4096 → made ≡ overwritten was start from → length made ≡ 4096
patched_size es n start was from made sized found fits is = ap (λ (b : List ℕ). length b) is ∙ omega (arith, length-overwritten was start from, (found_within es n was sized found).0)

-- what a write through `get_mut` does
pub patches : (old new : BTreeMap ℕ (List ℕ)) (n : ℕ) (was made : List ℕ) → AreSized old.entries → block_in old.entries n ≡ Some was → WritesThrough nat_cmp (nat_cmp n) old made new → Puts n made old.entries new.entries
patches old new n was made sized found writes = let updates = writes.3 (rw found refl) in record {
  here = updates.1;
  others = λ m ne. updates.2 m (apart n m ne);
  farther = let same = reach-set old.entries (is_at (nat_cmp n)) made in rw writes.0 (omega arith);
  reaches = let same = reach-set old.entries (is_at (nat_cmp n)) made in let far = (found_within old.entries n was sized found).1 in rw writes.0 (omega arith);
  no_farther = let same = reach-set old.entries (is_at (nat_cmp n)) made in rw writes.0 (omega arith);
  few = let same = writes.2 in omega arith;
}

-- no block below all changed ones is changed
pub below_none : (es : List (ℕ × List ℕ)) (n : ℕ) → AllByRecursion (λ m. nat_cmp n m ≡ Less) (keys_of es) → block_in es n ≡ None
below_none [] n below = refl
below_none (e ∷ es) n below = let less = below.0 in rw less (below_none es n below.1)

-- a block of the image is the changed one, or the one below it
pub image_block : (bytes : List ℕ) (es : List (ℕ × List ℕ)) (n : ℕ) → AreSized es → IsStrictlySortedBy nat_cmp (keys_of es)
    → bytes_at (with_changes bytes es) (n * 4096) 4096 ≡ unwrap_or (block_in es n) (bytes_at bytes (n * 4096) 4096)
unfolding IsStrictlySortedBy
image_block bytes [] n sized ascend = refl
image_block bytes (e ∷ es) n sized ascend = image_block (overwritten bytes (e.0 * 4096) e.1) es n sized.1 ascend.1 ∙ (elim (nat_cmp n e.0) as (λ o. nat_cmp n e.0 ≡ o →
    unwrap_or (block_in es n) (bytes_at (overwritten bytes (e.0 * 4096) e.1) (n * 4096) 4096) ≡ unwrap_or (block_in (e ∷ es) n) (bytes_at bytes (n * 4096) 4096)) [
      | Less ↦ λ is. rw is (other (λ same. let equal = nat_cmp_is n e.0 Equal same in let both : Equal ≡ Less = equal ∙ is in cc))
      | Equal ↦ λ is. rw is (here (exact_unsigned n e.0 is))
      | Greater ↦ λ is. rw is (other (λ same. let equal = nat_cmp_is n e.0 Equal same in let both : Equal ≡ Greater = equal ∙ is in cc))
    ]) refl
  where
    other : n ≢ e.0 → unwrap_or (block_in es n) (bytes_at (overwritten bytes (e.0 * 4096) e.1) (n * 4096) 4096) ≡ unwrap_or (block_in es n) (bytes_at bytes (n * 4096) 4096)
    other ne = ap (λ (b : List ℕ). unwrap_or (block_in es n) b) (written_other bytes n e.0 e.1 sized.0 ne)

    here : n ≡ e.0 → unwrap_or (block_in es n) (bytes_at (overwritten bytes (e.0 * 4096) e.1) (n * 4096) 4096) ≡ e.1
    here same = let none : block_in es n ≡ None = subst (λ k. block_in es k ≡ None) (sym same) (below_none es e.0 ascend.0) in
        rw none (ap (λ k. bytes_at (overwritten bytes (e.0 * 4096) e.1) (k * 4096) 4096) same ∙ written_same bytes e.0 e.1 sized.0)

-- the image ends where the bytes or the last change end
pub length-image : (bytes : List ℕ) (es : List (ℕ × List ℕ)) → AreSized es → length (with_changes bytes es) ≡ max (length bytes) (reach es)
length-image bytes [] sized = omega arith
length-image bytes (e ∷ es) sized = length-image (overwritten bytes (e.0 * 4096) e.1) es sized.1 ∙ (let long = length-overwritten bytes (e.0 * 4096) e.1 in let size = sized.0 in omega arith)
