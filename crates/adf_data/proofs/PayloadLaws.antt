-- The payloads of some chunks as one list.
use Rattle.std.proofs.Common.{◌≡◌, ◌≢◌, ℕ, ◌+◌, ◌-◌, ◌<◌, ◌≤◌, arith, List, [], ◌∷◌, ◌++◌, length, take, drop, get_or, refl, sym, ◌∙◌, ap, true, false, inl, inr}
use Rattle.std.proofs.lemmas.Bool.Decides.{nat_tests}
use Rattle.std.proofs.lemmas.Bool.{cases_lt}
use Rattle.std.proofs.lemmas.Grind.{same_number_lists}
use Rattle.std.proofs.lemmas.List.{get_or_append_left, get_or-append_right, get_or-take, get_or-drop, length-append, length-take, length-drop}
use Rattle.std.specs.Prelude.{nat_lt, Some}
use Rattle.adf_format.specs.Fields.{field}
use Rattle.adf_format.specs.Parts.{payload}
use Rattle.adf_format.specs.Placement.{ChunkPart}
use Rattle.adf_format.specs.LaysOut.{payloads}
use Rattle.adf_format.specs.HeapRule.{payload_length}
use Rattle.adf_format.proofs.FieldLaws.{length-field}
use Rattle.adf_model.specs.Selection.{written_over}
use Rattle.adf_data.specs.Ranges.{byte_place, AreIn, AreOnce, IsRead, WritesBytes}

length-payload : (bytes : List ℕ) (c : ChunkPart) → 20 ≤ c.length → c.place + c.length ≤ length bytes → length (payload bytes c.place c.length) ≡ c.length - 20
length-payload bytes c long within = let l = length-field bytes (c.place + 16) (c.length - 20) in omega (arith, l, long, within)

pub length-payloads : (parts : List ChunkPart) (bytes : List ℕ) → AreIn parts bytes → length (payloads bytes parts) ≡ payload_length parts
length-payloads [] bytes all = refl
length-payloads (c ∷ cs) bytes all =
    let a = length-append (payload bytes c.place c.length) (payloads bytes cs) in
    let p = length-payload bytes c all.0.0 all.0.1 in
    let r = length-payloads cs bytes all.1 in
    omega (arith, a, p, r)

pub payloads_at : (parts : List ChunkPart) (bytes : List ℕ) (k : ℕ) → AreIn parts bytes → k < payload_length parts → get_or (payloads bytes parts) k 0 ≡ get_or bytes (byte_place parts k) 0
payloads_at [] bytes k all lt = absurd (omega (arith, lt))
payloads_at (c ∷ cs) bytes k all lt = elim (cases_lt k (c.length - 20)) [
  | inl low ↦ (let t = here low in rw t (first low))
  | inr high ↦ (let t = there high in rw t (rest high (payloads_at cs bytes (k - (c.length - 20)) all.1 (omega (arith, lt, high)))))
]
  where
    here : k < c.length - 20 → nat_lt k (c.length - 20) ≡ true
    here low = grind (arith, nat_tests)

    there : c.length - 20 ≤ k → nat_lt k (c.length - 20) ≡ false
    there high = grind (arith, nat_tests)

    p : length (payload bytes c.place c.length) ≡ c.length - 20
    p = length-payload bytes c all.0.0 all.0.1

    first : k < c.length - 20 → get_or (payload bytes c.place c.length ++ payloads bytes cs) k 0 ≡ get_or bytes (c.place + 16 + k) 0
    first low =
        get_or_append_left (payload bytes c.place c.length) (payloads bytes cs) 0 k (omega (arith, p, low))
        ∙ get_or-take (c.length - 20) (drop (c.place + 16) bytes) k 0 low ∙ get_or-drop (c.place + 16) bytes k 0

    rest : c.length - 20 ≤ k → get_or (payloads bytes cs) (k - (c.length - 20)) 0 ≡ get_or bytes (byte_place cs (k - (c.length - 20))) 0
        → get_or (payload bytes c.place c.length ++ payloads bytes cs) k 0 ≡ get_or bytes (byte_place cs (k - (c.length - 20))) 0
    rest high ih =
        get_or-append_right (payload bytes c.place c.length) (payloads bytes cs) (c.length - 20) k 0 p high
        ∙ ih

-- what was read is a part of the payloads
pub read_is_field : (parts : List ChunkPart) (first n : ℕ) (into bytes : List ℕ) → length into ≡ n → first + n ≤ payload_length parts → AreIn parts bytes → IsRead parts first n into (Some bytes) → into ≡ field (payloads bytes parts) first n
read_is_field parts first n into bytes long within all read =
    same_number_lists into (field (payloads bytes parts) first n) (omega (arith, long, within, length-field (payloads bytes parts) first n, length-payloads parts bytes all))
    (λ k lt. read k (omega (arith, lt, long)) ∙ sym (payloads_at parts bytes (first + k) all (omega (arith, lt, long, within)))
    ∙ sym (get_or-take n (drop first (payloads bytes parts)) k 0 (omega (arith, lt, long)) ∙ get_or-drop first (payloads bytes parts) k 0))

-- ---- writes

pub still_in : (parts : List ChunkPart) (old new : List ℕ) → length old ≤ length new → AreIn parts old → AreIn parts new
still_in [] old new longer all = tt
still_in (c ∷ cs) old new longer all = ((all.0.0, (let w = all.0.1 in omega (arith, w, longer))), still_in cs old new longer all.1)

pub length-written_over : (xs : List ℕ) (at : ℕ) (piece : List ℕ) → at + length piece ≤ length xs → length (written_over xs at piece) ≡ length xs
length-written_over xs at piece le = omega (arith, le, length-append (take at xs ++ piece) (drop (at + length piece) xs), length-append (take at xs) piece, length-take at xs, length-drop (at + length piece) xs)

front : (xs : List ℕ) (at : ℕ) → at ≤ length xs → length (take at xs) ≡ at
front xs at le = omega (arith, le, length-take at xs)

pub written_over_at : (xs : List ℕ) (at : ℕ) (piece : List ℕ) (k : ℕ) → at + length piece ≤ length xs
    → (k < at → get_or (written_over xs at piece) k 0 ≡ get_or xs k 0) × (at ≤ k → k < at + length piece → get_or (written_over xs at piece) k 0 ≡ get_or piece (k - at) 0) × (at + length piece ≤ k → get_or (written_over xs at piece) k 0 ≡ get_or xs k 0)
written_over_at xs at piece k le = (
  λ lt. get_or_append_left (take at xs ++ piece) (drop (at + length piece) xs) 0 k (omega (arith, lt, l, both)) ∙ get_or_append_left (take at xs) piece 0 k (omega (arith, lt, l)) ∙ get_or-take at xs k 0 lt,
  λ low high. get_or_append_left (take at xs ++ piece) (drop (at + length piece) xs) 0 k (omega (arith, high, l, both)) ∙ get_or-append_right (take at xs) piece at k 0 l low,
  λ past. get_or-append_right (take at xs ++ piece) (drop (at + length piece) xs) (at + length piece) k 0 (omega (arith, l, both)) past
      ∙ get_or-drop (at + length piece) xs (k - (at + length piece)) 0 ∙ ap (λ i. get_or xs i 0) (omega (arith, past)),
)
  where
    l : length (take at xs) ≡ at
    l = front xs at (omega (arith, le))

    both : length (take at xs ++ piece) ≡ length (take at xs) + length piece
    both = length-append (take at xs) piece

pub payloads_written : (parts : List ChunkPart) (first : ℕ) (from old new : List ℕ) → AreOnce parts → AreIn parts old → first + length from ≤ payload_length parts → WritesBytes parts first from (length from) old new → payloads new parts ≡ written_over (payloads old parts) first from
payloads_written parts first from old new once all within w =
    same_number_lists (payloads new parts) (written_over (payloads old parts) first from) (l ∙ sym (length-written_over (payloads old parts) first from (omega (arith, within, m)) ∙ m))
    (λ k lt. each k (omega (arith, lt, l)))
  where
    now : AreIn parts new
    now = still_in parts old new w.changes.longer all

    l : length (payloads new parts) ≡ payload_length parts
    l = length-payloads parts new now

    m : length (payloads old parts) ≡ payload_length parts
    m = length-payloads parts old all

    outside : (k : ℕ) → k < payload_length parts → ((j : ℕ) → j < length from → first + j ≢ k) → get_or new (byte_place parts k) 0 ≡ get_or old (byte_place parts k) 0
    outside k lt none = w.changes.outside (byte_place parts k) (λ j less e. none j less (once (first + j) k (omega (arith, less, within)) lt e))

    each : (k : ℕ) → k < payload_length parts → get_or (payloads new parts) k 0 ≡ get_or (written_over (payloads old parts) first from) k 0
    each k lt =
        let o = written_over_at (payloads old parts) first from k (omega (arith, within, m)) in
        payloads_at parts new k now lt ∙ elim (cases_lt k first) [
          | inl low ↦ outside k lt (λ j less e. omega (arith, low, e)) ∙ sym (payloads_at parts old k all lt) ∙ sym (o.0 low)
          | inr high ↦ elim (cases_lt k (first + length from)) [
            | inl inside ↦ ap (λ i. get_or new (byte_place parts i) 0) (omega (arith, high)) ∙ w.within once (k - first) (omega (arith, high, inside)) ∙ sym (o.1 high inside)
            | inr past ↦ outside k lt (λ j less e. omega (arith, past, e, less)) ∙ sym (payloads_at parts old k all lt) ∙ sym (o.2 past)
          ]
        ]
