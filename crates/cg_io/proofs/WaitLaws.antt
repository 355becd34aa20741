-- How many blocks wait.
use Rattle.std.proofs.Common.{◌≡◌, ◌≢◌, ◌⊎◌, ℕ, suc, zero, ◌+◌, ◌/◌, ◌≤◌, ◌<◌, true, false, cond, ◌||◌, nat_eq, List, [], ◌∷◌, ◌++◌, length, refl, sym, ◌∙◌, ap, subst, arith, inl, inr}
use Rattle.std.specs.List.{list_any, range_with_len}
use Rattle.std.proofs.lemmas.Bool.{cases_eq}
use Rattle.std.proofs.lemmas.Bool.Decides.{eqb_tells}
use Rattle.cg_io.specs.Blocks.{blocks_of}
use Rattle.cg_io.specs.Waits.{Waits, how_many, IsTouched, WaitsOnly}

-- the blocks that are not this one
abbrev without : ℕ → List ℕ → List ℕ
without n [] = []
without n (m ∷ ms) = cond (nat_eq n m) (without n ms) (m ∷ without n ms)

unequal : (m n : ℕ) → m ≢ n → nat_eq m n ≡ false
unequal m n other = elim (eqb_tells m n) [
  | inl same ↦ absurd (other same.1)
  | inr ne ↦ ne.0
]

equal : (m n : ℕ) → nat_eq m n ≡ true → m ≡ n
equal m n is = elim (eqb_tells m n) [
  | inl same ↦ same.1
  | inr ne ↦ let wrong : true ≡ false = sym is ∙ ne.0 in cc
]

differs : (n k : ℕ) → nat_eq n k ≡ false → k ≢ n
differs n k is same = elim (eqb_tells n k) [
  | inl both ↦ let wrong : true ≡ false = sym both.0 ∙ is in cc
  | inr ne ↦ ne.1 (sym same)
]

others_stay : (n m : ℕ) (ms : List ℕ) → m ≢ n → list_any (nat_eq m) (without n ms) ≡ list_any (nat_eq m) ms
others_stay n m [] ne = refl
others_stay n m (k ∷ ms) ne = (elim (nat_eq n k) as (λ b. nat_eq n k ≡ b → list_any (nat_eq m) (cond b (without n ms) (k ∷ without n ms)) ≡ list_any (nat_eq m) (k ∷ ms)) [
  | true ↦ λ is. others_stay n m ms ne ∙ sym (ap (λ b. b || list_any (nat_eq m) ms) (unequal m k (λ same. ne (same ∙ sym (equal n k is)))))
  | false ↦ λ is. ap (λ b. nat_eq m k || b) (others_stay n m ms ne)
]) refl

absent_stays : (n : ℕ) (ms : List ℕ) → list_any (nat_eq n) ms ≡ false → without n ms ≡ ms
absent_stays n [] none = refl
absent_stays n (k ∷ ms) none = (elim (nat_eq n k) as (λ b. nat_eq n k ≡ b → (b || list_any (nat_eq n) ms) ≡ false → cond b (without n ms) (k ∷ without n ms) ≡ k ∷ ms) [
  | true ↦ λ is no. cc
  | false ↦ λ is no. ap (λ (l : List ℕ). k ∷ l) (absent_stays n ms no)
]) refl none

fewer_without : (n : ℕ) (ms : List ℕ) → list_any (nat_eq n) ms ≡ true → suc (how_many (without n ms)) ≡ how_many ms
fewer_without n [] found = cc
fewer_without n (k ∷ ms) found = (elim (nat_eq n k) as (λ b. nat_eq n k ≡ b → (b || list_any (nat_eq n) ms) ≡ true → suc (how_many (cond b (without n ms) (k ∷ without n ms))) ≡ how_many (k ∷ ms)) [
  | true ↦ λ is _. let same : n ≡ k = equal n k is in
      (elim (list_any (nat_eq n) ms) as (λ b. list_any (nat_eq n) ms ≡ b → suc (how_many (without n ms)) ≡ cond b (how_many ms) (suc (how_many ms))) [
        | true ↦ λ more. fewer_without n ms more
        | false ↦ λ none. ap (λ (l : List ℕ). suc (how_many l)) (absent_stays n ms none)
      ]) refl ∙ ap (λ i. cond (list_any (nat_eq i) ms) (how_many ms) (suc (how_many ms))) same
  | false ↦ λ is rest. let fewer = fewer_without n ms rest in let ne : k ≢ n = differs n k is in
      rw (others_stay n k ms ne) ((elim (list_any (nat_eq k) ms) as (λ b. suc (cond b (how_many (without n ms)) (suc (how_many (without n ms)))) ≡ cond b (how_many ms) (suc (how_many ms))) [
        | true ↦ fewer
        | false ↦ ap suc fewer
      ]))
]) refl found

-- blocks that are all among others are no more
pub how_many-le : (xs ys : List ℕ) → ((n : ℕ) → Waits xs n → Waits ys n) → how_many xs ≤ how_many ys
how_many-le [] ys among = omega arith
how_many-le (x ∷ xs) ys among = (elim (list_any (nat_eq x) xs) as (λ b. list_any (nat_eq x) xs ≡ b → cond b (how_many xs) (suc (how_many xs)) ≤ how_many ys) [
  | true ↦ λ again. how_many-le xs ys (λ n waits. among n (later n waits))
  | false ↦ λ once. let gone = fewer_without x ys (among x (first x)) in
      let rest = how_many-le xs (without x ys) (λ n waits. others_stay x n ys (λ same. let wrong : true ≡ false = sym waits ∙ subst (λ i. list_any (nat_eq i) xs ≡ false) (sym same) once in cc) ∙ among n (later n waits)) in omega arith
]) refl
  where
    later : (n : ℕ) → list_any (nat_eq n) xs ≡ true → (nat_eq n x || list_any (nat_eq n) xs) ≡ true
    later n waits = elim (nat_eq n x) as (λ b. (b || list_any (nat_eq n) xs) ≡ true) [
      | true ↦ refl
      | false ↦ waits
    ]

    first : (n : ℕ) → (nat_eq n n || list_any (nat_eq n) xs) ≡ true
    first n = elim (eqb_tells n n) [
      | inl same ↦ ap (λ b. b || list_any (nat_eq n) xs) same.0
      | inr ne ↦ absurd (ne.1 refl)
    ]

-- ---- the blocks of a range

among_first : (n : ℕ) (ns : List ℕ) → Waits (n ∷ ns) n
among_first n ns = elim (eqb_tells n n) [
  | inl same ↦ ap (λ b. b || list_any (nat_eq n) ns) same.0
  | inr ne ↦ absurd (ne.1 refl)
]

among_later : (m n : ℕ) (ns : List ℕ) → Waits ns m → Waits (n ∷ ns) m
among_later m n ns waits = elim (nat_eq m n) as (λ b. (b || list_any (nat_eq m) ns) ≡ true) [
  | true ↦ refl
  | false ↦ waits
]

among_range : (a c n : ℕ) → a ≤ n → n < a + c → Waits (range_with_len a c) n
among_range a zero n from to = absurd (omega arith)
among_range a (suc c) n from to = elim (cases_eq n a) [
  | inl same ↦ subst (λ i. Waits (i ∷ range_with_len (a + 1) c) n) same (among_first n (range_with_len (a + 1) c))
  | inr ne ↦ among_later n a (range_with_len (a + 1) c) (among_range (a + 1) c n (omega arith) (omega arith))
]

length-range : (a c : ℕ) → length (range_with_len a c) ≡ c
length-range a zero = refl
length-range a (suc c) = ap suc (length-range (a + 1) c)

among_either : (xs ys : List ℕ) (n : ℕ) → Waits xs n ⊎ Waits ys n → Waits (xs ++ ys) n
among_either [] ys n (inl none) = cc
among_either [] ys n (inr waits) = waits
among_either (x ∷ xs) ys n (inl waits) = (elim (nat_eq n x) as (λ b. (b || list_any (nat_eq n) xs) ≡ true → (b || list_any (nat_eq n) (xs ++ ys)) ≡ true) [
  | true ↦ λ _. refl
  | false ↦ λ more. among_either xs ys n (inl more)
]) waits
among_either (x ∷ xs) ys n (inr waits) = among_later n x (xs ++ ys) (among_either xs ys n (inr waits))

few_more : (ns old : List ℕ) → how_many (ns ++ old) ≤ how_many old + length ns
few_more [] old = omega arith
few_more (n ∷ ns) old = let rest = few_more ns old in elim (list_any (nat_eq n) (ns ++ old)) as (λ b. cond b (how_many (ns ++ old)) (suc (how_many (ns ++ old))) ≤ how_many old + suc (length ns)) [
  | true ↦ omega arith
  | false ↦ omega arith
]

-- where no blocks wait anew but some, at most so many more wait
pub counted : (P : ℕ → Type 0) (ns old new : List ℕ) → WaitsOnly P old new → ((n : ℕ) → P n → Waits ns n) → how_many new ≤ how_many old + length ns
counted P ns old new only among =
    let all = how_many-le new (ns ++ old) (λ n waits. among_either ns old n (elim (only n waits) [ inl was ↦ inr was | inr is ↦ inl (among n is) ])) in
    let few = few_more ns old in omega arith

-- the blocks that a range touches
abbrev pub touched : ℕ → ℕ → List ℕ
touched place len = range_with_len (place / 4096) (blocks_of place len)

pub is_touched : (place len n : ℕ) → IsTouched place len n → Waits (touched place len) n
is_touched place len n is = among_range (place / 4096) (blocks_of place len) n (omega (arith, is.2)) (omega (arith, is.0, is.1))

pub length-touched : (place len : ℕ) → length (touched place len) ≡ blocks_of place len
length-touched place len = length-range (place / 4096) (blocks_of place len)

pub counted_touched : (place len : ℕ) (old new : List ℕ) → WaitsOnly (IsTouched place len) old new → how_many new ≤ how_many old + blocks_of place len
counted_touched place len old new only = let all = counted (IsTouched place len) (touched place len) old new only (is_touched place len) in let long = length-touched place len in omega arith

-- ---- one write after another

pub waits_none : (P : ℕ → Type 0) (blocks : List ℕ) → WaitsOnly P blocks blocks
waits_none P blocks = λ n waits. inl waits

pub waits_more : (P Q : ℕ → Type 0) (old new : List ℕ) → ((n : ℕ) → P n → Q n) → WaitsOnly P old new → WaitsOnly Q old new
waits_more P Q old new more only = λ n waits. elim (only n waits) [ inl was ↦ inl was | inr is ↦ inr (more n is) ]

pub waits_then : (P : ℕ → Type 0) (old middle new : List ℕ) → WaitsOnly P old middle → WaitsOnly P middle new → WaitsOnly P old new
waits_then P old middle new first then = λ n waits. elim (then n waits) [ inl was ↦ first n was | inr is ↦ inr is ]

-- a part of a range touches what the range does
pub touched_part : (place len at n : ℕ) → place ≤ at → at + n ≤ place + len → (b : ℕ) → IsTouched at n b → IsTouched place len b
touched_part place len at n low high b is = (omega (arith, is.0), omega (arith, is.1), omega (arith, is.2))
