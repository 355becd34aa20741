-- A table of the places of headers finds each serial.
use Rattle.std.proofs.Common.{◌≡◌, inl, inr, ℕ, zero, suc, refl, sym, ◌∙◌, ap, arith, List, [], ◌∷◌, length, map, get_or, cond, ◌+◌}
use Rattle.std.proofs.lemmas.Bool.Decides.{eqb_tells}
use Rattle.std.proofs.lemmas.List.{length-map}
use Rattle.std.specs.Prelude.{Option, Some, None}
use Rattle.std.specs.Option.{option_map}
use Rattle.adf_format.specs.Placement.{NodeParts, parts_of}
use Rattle.adf_model.proofs.Basics.{same_Some, not_there}
use Rattle.layout_laws.proofs.NodesStand.{places_differ}
use Rattle.tree_laws.specs.Reading.{serial_from, places_of, PlacesAre, HeadersDiffer, PlacesFind}

-- ---- lists of things that may be there

-- two of one length that have the same at each index are one
pub same_list : {A : Type 0} (xs ys : List (Option A)) → length xs ≡ length ys → ((k : ℕ) → get_or xs k None ≡ get_or ys k None) → xs ≡ ys
same_list [] [] e same = refl
same_list [] (y ∷ ys) e same = absurd (omega (arith, e))
same_list (x ∷ xs) [] e same = absurd (omega (arith, e))
same_list (x ∷ xs) (y ∷ ys) e same = ap (λ z. z ∷ xs) (same 0) ∙ ap (λ zs. y ∷ zs) (same_list xs ys (omega (arith, e)) (λ k. same (suc k)))

pub get_mapped : {A B : Type 0} (f : A → B) (xs : List (Option A)) (k : ℕ) → get_or (map (option_map f) xs) k None ≡ option_map f (get_or xs k None)
get_mapped f [] k = refl
get_mapped f (x ∷ xs) zero = refl
get_mapped f (x ∷ xs) (suc k) = get_mapped f xs k

pub places_are : PlacesAre
places_are p places are = same_list places (places_of p) (are.count ∙ sym (length-map p.parts (option_map (λ (parts : NodeParts). parts.header)))) (λ k. are.each k ∙ sym (get_mapped (λ (parts : NodeParts). parts.header) p.parts k))

-- ---- the serial of a place

-- the first serial that stands at a place is one that does where no other does
find_from : (k : ℕ) (places : List (Option ℕ)) (i place : ℕ) → get_or places i None ≡ Some place → ((j : ℕ) → get_or places j None ≡ Some place → j ≡ i) → serial_from k places place ≡ k + i
find_from k [] i place at one = absurd (not_there place at)
find_from k (None ∷ places) zero place at one = absurd (not_there place at)
find_from k (None ∷ places) (suc i) place at one = find_from (suc k) places i place at (λ j e. less (one (suc j) e)) ∙ shift k i
  where
    less : {m n : ℕ} → suc m ≡ suc n → m ≡ n
    less e = omega (arith, e)

    shift : (k i : ℕ) → suc k + i ≡ k + suc i
    shift k i = omega arith
find_from k (Some p ∷ places) zero place at one = elim (eqb_tells p place) [ inl t ↦ ap (λ b. cond b k (serial_from (suc k) places place)) t.0 ∙ plain k | inr t ↦ absurd (t.1 (same_Some p place at)) ]
  where
    plain : (k : ℕ) → k ≡ k + 0
    plain k = omega arith
find_from k (Some p ∷ places) (suc i) place at one = elim (eqb_tells p place) [
  | inl t ↦ absurd (zero_not i (one zero (ap Some t.1)))
  | inr t ↦ ap (λ b. cond b k (serial_from (suc k) places place)) t.0 ∙ find_from (suc k) places i place at (λ j e. less (one (suc j) e)) ∙ shift k i
]
  where
    zero_not : (i : ℕ) → zero ≡ suc i → ⊥
    zero_not i e = omega (arith, e)

    less : {m n : ℕ} → suc m ≡ suc n → m ≡ n
    less e = omega (arith, e)

    shift : (k i : ℕ) → suc k + i ≡ k + suc i
    shift k i = omega arith

-- ---- headers

pub headers_differ : HeadersDiffer
headers_differ image tree p i j a b l one other apart = places_differ image tree p l i j a b apart one other

-- parts whose header stands at a place
parts_there : (o : Option NodeParts) (place : ℕ) → option_map (λ (parts : NodeParts). parts.header) o ≡ Some place → (parts : NodeParts) × (o ≡ Some parts) × (parts.header ≡ place)
parts_there None place e = absurd (not_there place e)
parts_there (Some parts) place e = (parts, refl, same_Some parts.header place e)

pub places_find : PlacesFind
places_find image tree p places serial parts l are at =
    find_from 0 places serial parts.header (are.each serial ∙ ap (option_map (λ (parts : NodeParts). parts.header)) at) (λ j e.
    let there = parts_there (parts_of p j) parts.header (sym (are.each j) ∙ e) in
    elim (eqb_tells j serial) [ inl t ↦ t.1 | inr t ↦ absurd (headers_differ image tree p j serial there.0 parts l there.1 at t.1 there.2) ])
    ∙ plain serial
  where
    plain : (n : ℕ) → 0 + n ≡ n
    plain n = omega arith
