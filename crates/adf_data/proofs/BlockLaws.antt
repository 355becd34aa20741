-- Which blocks wait where bytes of the data were written.
use Rattle.std.proofs.Common.{◌≡◌, ◌⊎◌, ℕ, ◌+◌, ◌-◌, ◌*◌, ◌/◌, ◌≤◌, ◌<◌, min, true, false, ◌||◌, nat_eq, List, [], ◌∷◌, ◌++◌, length, refl, ◌∙◌, ap, subst, arith, inl, inr}
use Rattle.std.specs.Prelude.{nat_lt}
use Rattle.std.specs.List.{list_any}
use Rattle.std.proofs.lemmas.Bool.{cases_lt}
use Rattle.std.proofs.lemmas.Bool.Decides.{nat_tests}
use Rattle.std.proofs.lemmas.List.{length-append}
use Rattle.adf_format.specs.Placement.{ChunkPart}
use Rattle.adf_format.specs.HeapRule.{payload_length, chunk_length_for}
use Rattle.cg_io.specs.Blocks.{blocks_of}
use Rattle.cg_io.specs.Waits.{Waits, how_many, IsTouched, WaitsOnly}
use Rattle.cg_io.proofs.WaitLaws.{touched, is_touched, length-touched, counted, counted_touched, waits_none, waits_more, waits_then, touched_part}
use Rattle.adf_format.specs.Pointer.{Pointer}
use Rattle.adf_format.specs.Records.{Data, head_text, end_tag}
use Rattle.adf_data.specs.Ranges.{byte_place, HasByte}
use Rattle.adf_data.proofs.ChunkLaws.{head_size}

-- ---- spans

-- a block that a span touches has a byte of the data in the span
span_touched : (parts : List ChunkPart) (first d n len place : ℕ) → d + n ≤ len → first + len ≤ payload_length parts → ((j : ℕ) → j < n → byte_place parts (first + d + j) ≡ place + j) → (b : ℕ) → IsTouched place n b → HasByte parts first len b
span_touched parts first d n len place fits all stands b is = record {
  byte = first + d + (b * 4096 - place);
  low = omega arith;
  high = omega (arith, inside, fits);
  inside = omega (arith, inside, fits, all);
  from = rw (stands (b * 4096 - place) inside) (omega arith);
  to = rw (stands (b * 4096 - place) inside) (omega (arith, is.2));
}
  where
    inside : b * 4096 - place < n
    inside = omega (arith, is.0, is.1)

-- one more span was written
pub span_waits : (parts : List ChunkPart) (first d n len place m : ℕ) (old middle new : List ℕ) → d + n ≤ len → first + len ≤ payload_length parts → ((j : ℕ) → j < n → byte_place parts (first + d + j) ≡ place + j) → m ≡ n
    → WaitsOnly (HasByte parts first len) old middle → WaitsOnly (IsTouched place m) middle new → WaitsOnly (HasByte parts first len) old new
span_waits parts first d n len place m old middle new fits all stands same first' then =
    waits_then (HasByte parts first len) old middle new first'
    (waits_more (IsTouched place n) (HasByte parts first len) middle new (span_touched parts first d n len place fits all stands) (subst (λ i. WaitsOnly (IsTouched place i) middle new) same then))

-- a part of some bytes of the data
pub part_has : (parts : List ChunkPart) (first n all len : ℕ) → all ≤ first → first + n ≤ all + len → (b : ℕ) → HasByte parts first n b → HasByte parts all len b
part_has parts first n all len low high b has =
    record { byte = has.byte; low = (let l = has.low in omega (arith, l, low)); high = (let h = has.high in omega (arith, h, high)); inside = has.inside; from = has.from; to = has.to }

pub part_waits : (parts : List ChunkPart) (first n all len : ℕ) (old middle new : List ℕ) → all ≤ first → first + n ≤ all + len → WaitsOnly (HasByte parts all len) old middle → WaitsOnly (HasByte parts first n) middle new → WaitsOnly (HasByte parts all len) old new
part_waits parts first n all len old middle new low high first' then =
    waits_then (HasByte parts all len) old middle new first' (waits_more (HasByte parts first n) (HasByte parts all len) middle new (part_has parts first n all len low high) then)

-- ---- ranges

-- one more part of a range was written
pub range_waits : (place len at n m : ℕ) (old middle new : List ℕ) → place ≤ at → at + n ≤ place + len → m ≡ n → WaitsOnly (IsTouched place len) old middle → WaitsOnly (IsTouched at m) middle new → WaitsOnly (IsTouched place len) old new
range_waits place len at n m old middle new low high same first then =
    waits_then (IsTouched place len) old middle new first (waits_more (IsTouched at n) (IsTouched place len) middle new (touched_part place len at n low high) (subst (λ i. WaitsOnly (IsTouched at i) middle new) same then))

-- the pieces of a chunk
module _ (place n kept : ℕ) (head : List ℕ) (p : Pointer) (head_is : head ≡ head_text Data p) (fits : 20 + kept ≤ n) (a b c : List ℕ)
    (first : WaitsOnly (IsTouched place (length head)) a b) (second : WaitsOnly (IsTouched (place + 16) kept) b c) where
  pub head_waits : (m : List ℕ) → WaitsOnly (IsTouched place (length head)) a m → WaitsOnly (IsTouched place n) a m
  head_waits m at = range_waits place n place 16 (length head) a a m (omega arith) (omega (arith, fits)) (ap length head_is ∙ head_size p) (waits_none (IsTouched place n) a) at

  pub copy_waits : WaitsOnly (IsTouched place n) a c
  copy_waits = range_waits place n (place + 16) kept kept a b c (omega arith) (omega (arith, fits)) refl (head_waits b first) second

  pub body_waits : (d : List ℕ) → WaitsOnly (IsTouched (place + 16 + kept) (n - 20 - kept)) c d → WaitsOnly (IsTouched place n) a d
  body_waits d third = range_waits place n (place + 16 + kept) (n - 20 - kept) (n - 20 - kept) a c d (omega arith) (omega (arith, fits)) refl copy_waits third

  pub tail_waits : (d : List ℕ) → WaitsOnly (IsTouched (place + 16 + kept) (n - 20 - kept)) c d → (tag e : List ℕ) → tag ≡ end_tag Data → WaitsOnly (IsTouched (place + n - 4) (length tag)) d e → WaitsOnly (IsTouched place n) a e
  tail_waits d third tag e tag_is last = range_waits place n (place + n - 4) 4 (length tag) a d e (omega (arith, fits)) (omega (arith, fits)) (ap length tag_is) (body_waits d third) last

-- ---- how many they are

-- the blocks of some bytes of the data
abbrev data_blocks : List ChunkPart → ℕ → ℕ → List ℕ
data_blocks [] first n = []
data_blocks (c ∷ cs) first n = touched (c.place + 16 + first) (min n (c.length - 20 - first)) ++ data_blocks cs (first - (c.length - 20)) (n - (c.length - 20 - first))

among_either : (xs ys : List ℕ) (n : ℕ) → Waits xs n ⊎ Waits ys n → Waits (xs ++ ys) n
among_either [] ys n (inl none) = cc
among_either [] ys n (inr waits) = waits
among_either (x ∷ xs) ys n either = elim (nat_eq n x) as (λ b. (b || list_any (nat_eq n) xs ≡ true) ⊎ Waits ys n → (b || list_any (nat_eq n) (xs ++ ys)) ≡ true) [
  | true ↦ λ _. refl
  | false ↦ λ rest. among_either xs ys n rest
] either

in_data_blocks : (parts : List ChunkPart) (first n b : ℕ) → HasByte parts first n b → Waits (data_blocks parts first n) b
in_data_blocks [] first n b has = absurd (let i = has.inside in omega (arith, i))
in_data_blocks (c ∷ cs) first n b has = elim (cases_lt has.byte (c.length - 20)) [
  | inl here ↦ let place : byte_place (c ∷ cs) has.byte ≡ c.place + 16 + has.byte = rw (inside here) refl in
      let l = has.low in let h = has.high in let f = has.from in let t = has.to in
      among_either _ (data_blocks cs (first - (c.length - 20)) (n - (c.length - 20 - first))) b (inl (is_touched (c.place + 16 + first) (min n (c.length - 20 - first)) b
      (omega (arith, l, h, here), omega (arith, f, place, l, h, here), omega (arith, t, place, l))))
  | inr past ↦ let place : byte_place (c ∷ cs) has.byte ≡ byte_place cs (has.byte - (c.length - 20)) = rw (outside past) refl in
      among_either (touched (c.place + 16 + first) (min n (c.length - 20 - first))) _ b (inr (in_data_blocks cs (first - (c.length - 20)) (n - (c.length - 20 - first)) b (record {
        byte = has.byte - (c.length - 20);
        low = (let l = has.low in omega (arith, l));
        high = (let h = has.high in let l = has.low in omega (arith, h, l, past));
        inside = (let i = has.inside in omega (arith, i, past));
        from = (let f = has.from in omega (arith, f, place));
        to = (let t = has.to in omega (arith, t, place));
      })))
]
  where
    inside : has.byte < c.length - 20 → nat_lt has.byte (c.length - 20) ≡ true
    inside here = grind (arith, nat_tests)

    outside : c.length - 20 ≤ has.byte → nat_lt has.byte (c.length - 20) ≡ false
    outside past = grind (arith, nat_tests)

pub few_blocks : (place n : ℕ) → blocks_of place n ≤ n / 4096 + 2
few_blocks place n = omega arith

length-data_blocks : (parts : List ChunkPart) (first n : ℕ) → length (data_blocks parts first n) ≤ n / 4096 + 2 * length parts
length-data_blocks [] first n = omega arith
length-data_blocks (c ∷ cs) first n =
    let rest = length-data_blocks cs (first - (c.length - 20)) (n - (c.length - 20 - first)) in
    let here = length-touched (c.place + 16 + first) (min n (c.length - 20 - first)) in
    let few = few_blocks (c.place + 16 + first) (min n (c.length - 20 - first)) in
    let both = length-append (touched (c.place + 16 + first) (min n (c.length - 20 - first))) (data_blocks cs (first - (c.length - 20)) (n - (c.length - 20 - first))) in
    let sum = sums (min n (c.length - 20 - first)) (n - (c.length - 20 - first)) n (omega arith) in omega (arith, rest, here, few, both, sum)
  where
    sums : (a b n : ℕ) → a + b ≡ n → a / 4096 + b / 4096 ≤ n / 4096
    sums a b n is = omega (arith, is)

-- at most two blocks a chunk wait beside those that the bytes fill
pub counted_data : (parts : List ChunkPart) (first n : ℕ) (old new : List ℕ) → WaitsOnly (HasByte parts first n) old new → how_many new ≤ how_many old + (n / 4096 + 2 * length parts)
counted_data parts first n old new only =
    let all = counted (HasByte parts first n) (data_blocks parts first n) old new only (λ b has. in_data_blocks parts first n b has) in let few = length-data_blocks parts first n in omega (arith, all, few)

pub counted_range : (place n : ℕ) (old new : List ℕ) → WaitsOnly (IsTouched place n) old new → how_many new ≤ how_many old + (n / 4096 + 2)
counted_range place n old new only = let all = counted_touched place n old new only in let few = few_blocks place n in omega (arith, all, few)

-- a chunk has at most one block more than its bytes fill
pub chunk_blocks : (size : ℕ) → chunk_length_for size / 4096 ≤ size / 4096 + 1
chunk_blocks size = omega arith
