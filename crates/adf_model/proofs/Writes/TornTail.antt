-- Single bytes of a file after a write that failed, by the blocks that they stand in.
use Rattle.std.proofs.Common.{◌≡◌, ◌≢◌, ◌⊎◌, inl, inr, ℕ, zero, suc, ◌+◌, ◌-◌, ◌*◌, ◌/◌, ◌<◌, ◌≤◌, arith, List, length, take, drop, get_or, refl, sym, ◌∙◌, ap, length-take, length-drop}
use Rattle.std.specs.Prelude.{Some, slice_get, slice_index_or, replicate}
use Rattle.std.proofs.lemmas.Bool.Decides.{leb_tells}
use Rattle.std.proofs.lemmas.List.{get_or-take, get_or-drop, get_or_append_left, get_or-append_right, get_or_past}
use Rattle.std.proofs.lemmas.Option.{slice_get-get_or}
use Rattle.adf_format.specs.Tree.{Tree}
use Rattle.adf_model.specs.Torn.{block, TornAt, Torn}

pub nat_cases : (a c : ℕ) → (a < c) ⊎ (c ≤ a)
nat_cases a c = elim (leb_tells (suc a) c) [ inl h ↦ inl h.1 | inr h ↦ inr (omega (arith, h.1)) ]

pub sides : (a b : ℕ) → a ≢ b → (a < b) ⊎ (b < a)
sides a b apart = elim (nat_cases a b) [ inl low ↦ inl low | inr high ↦ elim (nat_cases b a) [ inl h ↦ inr h | inr back ↦ absurd (apart (omega (arith, high, back))) ] ]

zeros : (n k : ℕ) → ◌≡◌ {A = ℕ} (get_or (replicate n 0) k 0) 0
zeros zero k = refl
zeros (suc n) zero = refl
zeros (suc n) (suc k) = zeros n k

-- a byte of a block: zero past the end
in_block : (xs : List ℕ) (number i : ℕ) → i < 4096 → get_or (block xs number) i 0 ≡ get_or xs (number * 4096 + i) 0
in_block xs number i small =
    let piece : List ℕ = take 4096 (drop (number * 4096) xs) in
    elim (nat_cases i (length piece)) [
      | inl within ↦ get_or_append_left piece (replicate (4096 - length piece) 0) 0 i within ∙ get_or-take 4096 (drop (number * 4096) xs) i 0 small ∙ get_or-drop (number * 4096) xs i 0
      | inr past ↦ get_or-append_right piece (replicate (4096 - length piece) 0) (length piece) i 0 refl past ∙ zeros (4096 - length piece) (i - length piece)
          ∙ sym (get_or_past xs (number * 4096 + i) 0 (omega (arith, past, length-take 4096 (drop (number * 4096) xs), length-drop (number * 4096) xs)))
    ]

-- a byte that stands in equal blocks reads the same
pub same_byte : (xs ys : List ℕ) (b : ℕ) → block xs (b / 4096) ≡ block ys (b / 4096) → get_or xs b 0 ≡ get_or ys b 0
same_byte xs ys b same =
    let small : b - b / 4096 * 4096 < 4096 = omega arith in
    let at : b / 4096 * 4096 + (b - b / 4096 * 4096) ≡ b = omega arith in
    ap (λ i. get_or xs i 0) (sym at) ∙ sym (in_block xs (b / 4096) (b - b / 4096 * 4096) small) ∙ ap (λ (bytes : List ℕ). get_or bytes (b - b / 4096 * 4096) 0) same
    ∙ in_block ys (b / 4096) (b - b / 4096 * 4096) small ∙ ap (λ i. get_or ys i 0) at

-- and is there in both where it is
pub there_too : (xs ys : List ℕ) (b : ℕ) → b < length xs → b < length ys → get_or xs b 0 ≡ get_or ys b 0 → slice_get xs b ≡ slice_get ys b
there_too xs ys b lt lt_too same = slice_get-get_or xs b 0 lt ∙ ap Some same ∙ sym (slice_get-get_or ys b 0 lt_too)

-- before the torn block a byte is as wanted, behind it as before
pub byte_written : (torn : ℕ) (before wanted now : List ℕ) → TornAt torn before wanted now → (b : ℕ) → b / 4096 < torn → get_or now b 0 ≡ get_or wanted b 0
byte_written torn before wanted now t b low = same_byte now wanted b (t.written (b / 4096) low)

pub byte_unwritten : (torn : ℕ) (before wanted now : List ℕ) → TornAt torn before wanted now → (b : ℕ) → torn < b / 4096 → get_or now b 0 ≡ get_or before b 0
byte_unwritten torn before wanted now t b high = same_byte now before b (t.unwritten (b / 4096) high)

pub behind_stays : (before now : List ℕ) (tree : Tree) (torn : Torn before now tree) (b : ℕ) → torn.placement.heap.end < b → b / 4096 ≢ torn.number → slice_index_or now b 0 ≡ slice_index_or before b 0
behind_stays before now tree torn b behind apart = elim (sides (b / 4096) torn.number apart) [
  | inl low ↦ byte_written torn.number before torn.wanted now torn.torn b low ∙ torn.tail.tail b behind
  | inr high ↦ byte_unwritten torn.number before torn.wanted now torn.torn b high
]

pub tail_stays : (before now : List ℕ) (tree : Tree) (torn : Torn before now tree) (b : ℕ) → torn.placement.heap.end < b → b < length before → b / 4096 ≢ torn.number → slice_get now b ≡ slice_get before b
tail_stays before now tree torn b behind lt apart = there_too now before b (let kept = torn.torn.kept in omega (arith, lt, kept)) lt (behind_stays before now tree torn b behind apart)

pub written_stands : (before now : List ℕ) (tree : Tree) (torn : Torn before now tree) (b : ℕ) → b < length torn.wanted → b < length now → b / 4096 < torn.number → slice_get now b ≡ slice_get torn.wanted b
written_stands before now tree torn b in_wanted in_now low = there_too now torn.wanted b in_now in_wanted (byte_written torn.number before torn.wanted now torn.torn b low)
