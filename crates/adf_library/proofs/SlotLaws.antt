-- A list of slots in which one is changed.
use Rattle.std.proofs.Common.{◌≡◌, ◌≢◌, ℕ, zero, suc, ◌+◌, ◌<◌, List, [], ◌∷◌, length, get_or, set, map, refl, sym, ◌∙◌, ap, arith, inl, inr}
use Rattle.std.specs.List.{All}
use Rattle.std.proofs.lemmas.Bool.{cases_eq}
use Rattle.std.proofs.lemmas.List.{length-set, length-map, get_or-set_same, get_or-set_other}

pub All-set : {X : Type 0} (P : X → Type 0) (xs : List X) (n : ℕ) (x : X) → All P xs → P x → All P (set xs n x)
All-set P xs n x all p k d lt = elim (cases_eq k n) [
  | inl is ↦ rw (is, get_or-set_same xs n x d (omega (arith, lt, is, length-set xs n x))) p
  | inr not ↦ rw (get_or-set_other xs n k x d not) (all k d (omega (arith, lt, length-set xs n x)))
]

-- a slot that means what it meant
pub kept : {X Y : Type 0} (f : X → Y) (xs : List X) (n : ℕ) (old new : X) → n < length xs → old ≡ get_or xs n old → f new ≡ f old → map f (set xs n new) ≡ map f xs
kept f [] n old new lt is same = absurd (omega arith)
kept f (x ∷ xs) zero old new lt is same = ap (λ (y : _). y ∷ map f xs) (same ∙ ap f is)
kept f (x ∷ xs) (suc n) old new lt is same = ap (λ (ys : List _). f x ∷ ys) (kept f xs n old new (omega arith) is same)

-- what stands at the place of a slot
pub at_slot : {X Y : Type 0} (f : X → Y) (xs : List X) (n : ℕ) (old : X) (d : Y) → n < length xs → old ≡ get_or xs n old → get_or (map f xs) n d ≡ f old
at_slot f [] n old d lt is = absurd (omega arith)
at_slot f (x ∷ xs) zero old d lt is = ap f (sym is)
at_slot f (x ∷ xs) (suc n) old d lt is = at_slot f xs n old d (omega arith) is

-- and at that of one that is set
pub at_new : {X Y : Type 0} (f : X → Y) (xs : List X) (n : ℕ) (new : X) (d : Y) → n < length xs → get_or (map f (set xs n new)) n d ≡ f new
at_new f [] n new d lt = absurd (omega arith)
at_new f (x ∷ xs) zero new d lt = refl
at_new f (x ∷ xs) (suc n) new d lt = at_new f xs n new d (omega arith)

pub at_other : {X Y : Type 0} (f : X → Y) (xs : List X) (n k : ℕ) (new : X) (d : Y) → k ≢ n → get_or (map f (set xs n new)) k d ≡ get_or (map f xs) k d
at_other f [] n k new d ne = refl
at_other f (x ∷ xs) zero zero new d ne = absurd (ne refl)
at_other f (x ∷ xs) zero (suc k) new d ne = refl
at_other f (x ∷ xs) (suc n) zero new d ne = refl
at_other f (x ∷ xs) (suc n) (suc k) new d ne = at_other f xs n k new d (λ is. ne (ap suc is))

pub length_kept : {X Y : Type 0} (f : X → Y) (xs : List X) (n : ℕ) (new : X) → length (map f (set xs n new)) ≡ length (map f xs)
length_kept f xs n new = length-map (set xs n new) f ∙ length-set xs n new ∙ sym (length-map xs f)

-- one more of the first ones has what they all have
pub one_further : {X : Type 0} (P : X → Type 0) (xs : List X) (n : ℕ) (new : X) → n < length xs → ((k : ℕ) (d : X) → k < n → P (get_or xs k d)) → P new
    → (k : ℕ) (d : X) → k < n + 1 → P (get_or (set xs n new) k d)
one_further P xs n new lt so_far p k d below = elim (cases_eq k n) [
  | inl is ↦ rw (is, get_or-set_same xs n new d lt) p
  | inr ne ↦ rw (get_or-set_other xs n k new d ne) (so_far k d (omega (arith, below, ne)))
]
