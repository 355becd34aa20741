-- Bytes of the data that are read and written, span by span.
use Rattle.std.proofs.Common.{◌≡◌, ◌≢◌, ◌⊎◌, inl, inr, ℕ, ◌+◌, ◌-◌, ◌/◌, ◌<◌, ◌≤◌, arith, List, ◌++◌, length, take, drop, get_or, refl, sym, ◌∙◌, ap, subst, length-take, length-drop, rules}
use Rattle.std.proofs.lemmas.List.{get_or_append_left, get_or-append_right, get_or-take, get_or-drop, places}
use Rattle.std.proofs.lemmas.Bool.{cases_lt}
use Rattle.std.specs.Prelude.{Option, Some, None}
use borrow.Rule.Slice.PartMut.{put_mid, post_of}
use Rattle.cg_io.specs.Device.{bytes_at, GivesAt}
use Rattle.cg_io.specs.Blocks.{Both, Wrote, KeepsOutside}
use Rattle.cg_io.proofs.Places.{get_or-bytes_at}
use Rattle.adf_format.specs.Placement.{ChunkPart}
use Rattle.adf_format.specs.HeapRule.{payload_length}
use Rattle.adf_data.specs.Ranges.{byte_place, IsReachedBy, AreOnce, IsRead, ChangesBytes, WritesBytes}

-- what was written left the bytes outside its range
pub wrote_keeps : (place n : ℕ) (piece a b : List ℕ) → length piece ≡ n → Wrote place piece a b → KeepsOutside place n a b
wrote_keeps place n piece a b e w = subst (λ m. KeepsOutside place m a b) e (record { longer = w.longer; outside = w.outside; grows = w.grows })

-- more bytes of the data reach as far
pub reached_more : (parts : List ChunkPart) (first n from m b : ℕ) → from ≤ first → first + n ≤ from + m → IsReachedBy parts first n b → IsReachedBy parts from m b
reached_more parts first n from m b low high r = record { byte = r.byte; low = (let l = r.low in omega (arith, low, l)); high = (let h = r.high in omega (arith, high, h)); block = r.block }

-- some bytes of the data, from one on, stand from a place on
abbrev pub StandAt : List ChunkPart → ℕ → ℕ → ℕ → Type 0
StandAt parts k n place = (j : ℕ) → j < n → byte_place parts (k + j) ≡ place + j

pub read_none : (parts : List ChunkPart) (first : ℕ) (into : List ℕ) (image : Option (List ℕ)) → IsRead parts first 0 into image
read_none parts first into None = tt
read_none parts first into (Some bytes) = λ j lt. absurd (omega (arith, lt))

pub read_more : (parts : List ChunkPart) (first done n m place : ℕ) (into piece : List ℕ) (image now : Option (List ℕ)) → now ≡ image → IsRead parts first done into image → GivesAt now place piece → length piece ≡ n → done + n ≤ length into
    → StandAt parts (first + done) n place → IsRead parts first (done + n) (put_mid done m into piece) image
read_more parts first done n m place into piece image now same read given long le stands = by_image image read (subst (λ i. GivesAt i place piece) same given)
  where
    front : length (take done into) ≡ done
    front = omega (arith, length-take done into, le)

    by_image : (image : Option (List ℕ)) → IsRead parts first done into image → GivesAt image place piece → IsRead parts first (done + n) (put_mid done m into piece) image
    by_image None read given = tt
    by_image (Some bytes) read given = λ j lt. elim (cases_lt j done) [
      | inl low ↦ get_or_append_left (take done into) (piece ++ post_of done m into) 0 j (omega (arith, front, low)) ∙ get_or-take done into j 0 low ∙ read j low
      | inr high ↦
          get_or-append_right (take done into) (piece ++ post_of done m into) done j 0 front high
          ∙ get_or_append_left piece (post_of done m into) 0 (j - done) (omega (arith, long, lt, high))
          ∙ ap (λ xs. get_or xs (j - done) 0) (given ∙ ap (bytes_at bytes place) long)
          ∙ get_or-bytes_at bytes place n (j - done) (omega (arith, lt, high))
          ∙ ap (λ b. get_or bytes b 0) (sym (stands (j - done) (omega (arith, lt, high))))
          ∙ ap (λ k. get_or bytes (byte_place parts k) 0) (omega (arith, high))
    ]

-- ---- writes

pub written_none : (parts : List ChunkPart) (first : ℕ) (from : List ℕ) (image : Option (List ℕ)) → Both (WritesBytes parts first from 0) image image
written_none parts first from None = tt
written_none parts first from (Some bytes) = record { changes = record { longer = omega arith; outside = λ b none. refl; grows = λ b past here. absurd (omega (arith, past, here)) }; within = λ once j lt. absurd (omega (arith, lt)) }

pub changes_of : (parts : List ChunkPart) (first n : ℕ) (from : List ℕ) (old new : Option (List ℕ)) → Both (WritesBytes parts first from n) old new → Both (ChangesBytes parts first n) old new
changes_of parts first n from None None w = tt
changes_of parts first n from None (Some new) w = w
changes_of parts first n from (Some old) None w = w
changes_of parts first n from (Some old) (Some new) w = w.changes

-- where some bytes of the data stand from a place on, what lies beside all of more of them lies beside the place
beside : (parts : List ChunkPart) (first done n place b : ℕ) → StandAt parts (first + done) n place → ((j : ℕ) → j < done + n → byte_place parts (first + j) ≢ b) → (b < place) ⊎ (place + n ≤ b)
beside parts first done n place b stands none = elim (cases_lt b place) [
  | inl lt ↦ inl lt
  | inr le ↦ elim (cases_lt b (place + n)) [
    | inl lt ↦ absurd (clash le lt)
    | inr past ↦ inr past
  ]
]
  where
    clash : place ≤ b → b < place + n → ⊥
    clash le lt =
        none (done + (b - place)) (omega (arith, le, lt))
        (ap (byte_place parts) (omega (arith, le)) ∙ stands (b - place) (omega (arith, le, lt)) ∙ omega (arith, le))

changed_more : (parts : List ChunkPart) (first done n place : ℕ) (old middle new : List ℕ) → ChangesBytes parts first done old middle → KeepsOutside place n middle new → StandAt parts (first + done) n place → ChangesBytes parts first (done + n) old new
changed_more parts first done n place old middle new c w stands = record {
  longer = (let p = c.longer in let q = w.longer in omega (arith, p, q));
  outside = λ b none. w.outside b (beside parts first done n place b stands none) ∙ c.outside b (λ j lt. none j (omega (arith, lt)));
  grows = λ b past here. elim (cases_lt b (length middle)) [
    | inl before ↦ reached_more parts first done first (done + n) b (omega arith) (omega arith) (c.grows b past before)
    | inr after ↦
        (let g = w.grows b after here in let some : 0 < n = g.0 in let far : b / 4096 ≤ (place + n - 1) / 4096 = g.1 in let at : byte_place parts (first + done + (n - 1)) ≡ place + (n - 1) = stands (n - 1) (omega (arith, some)) in
        record { byte = first + done + (n - 1); low = omega arith; high = omega (arith, some); block = omega (arith, some, far, at) })
  ];
}

written_step : (parts : List ChunkPart) (first done n place : ℕ) (from piece old middle new : List ℕ) → WritesBytes parts first from done old middle → Wrote place piece middle new → length piece ≡ n → piece ≡ take n (drop done from)
    → first + (done + n) ≤ payload_length parts → StandAt parts (first + done) n place → WritesBytes parts first from (done + n) old new
written_step parts first done n place from piece old middle new c w long is within stands = record {
  changes = changed_more parts first done n place old middle new c.changes (wrote_keeps place n piece middle new long w) stands;
  within = λ once j lt. elim (cases_lt j done) [
    | inl low ↦ w.outside (byte_place parts (first + j)) (elsewhere once j low) ∙ c.within once j low
    | inr high ↦ here j high lt
  ];
}
  where
    elsewhere : AreOnce parts → (j : ℕ) → j < done → (byte_place parts (first + j) < place) ⊎ (place + length piece ≤ byte_place parts (first + j))
    elsewhere once j low =
        subst (λ k. (byte_place parts (first + j) < place) ⊎ (place + k ≤ byte_place parts (first + j))) (sym long)
        (elim (cases_lt (byte_place parts (first + j)) place) [
          | inl lt ↦ inl lt
          | inr le ↦ elim (cases_lt (byte_place parts (first + j)) (place + n)) [
            | inl lt ↦ absurd (clash le lt)
            | inr past ↦ inr past
          ]
        ])
      where
        clash : place ≤ byte_place parts (first + j) → byte_place parts (first + j) < place + n → ⊥
        clash le lt =
            let i : ℕ = byte_place parts (first + j) - place in
            let small : i < n = omega (arith, le, lt) in
            let e : byte_place parts (first + done + i) ≡ byte_place parts (first + j) = stands i small ∙ omega (arith, le) in
            let same = once (first + done + i) (first + j) (omega (arith, within, small)) (omega (arith, within, low)) e in
            omega (arith, same, low)

    here : (j : ℕ) → done ≤ j → j < done + n → get_or new (byte_place parts (first + j)) 0 ≡ get_or from j 0
    here j high lt =
        let at : byte_place parts (first + j) ≡ place + (j - done) = ap (byte_place parts) (omega (arith, high)) ∙ stands (j - done) (omega (arith, high, lt)) in
        ap (λ b. get_or new b 0) at
        ∙ w.within (place + (j - done)) (omega arith) (omega (arith, long, high, lt))
        ∙ ap (λ k. get_or piece k 0) (back place (j - done))
        ∙ ap (λ xs. get_or xs (j - done) 0) is
        ∙ get_or-take n (drop done from) (j - done) 0 (omega (arith, high, lt))
        ∙ get_or-drop done from (j - done) 0
        ∙ ap (λ k. get_or from k 0) (omega (arith, high))
      where
        back : (p i : ℕ) → p + i - p ≡ i
        back p i = omega arith

pub written_more : (parts : List ChunkPart) (first done n place : ℕ) (from piece : List ℕ) (old middle new : Option (List ℕ)) → Both (WritesBytes parts first from done) old middle → Both (Wrote place piece) middle new → length piece ≡ n → piece ≡ take n (drop done from)
    → first + (done + n) ≤ payload_length parts → StandAt parts (first + done) n place → Both (WritesBytes parts first from (done + n)) old new
written_more parts first done n place from piece None None None c w long is within stands = tt
written_more parts first done n place from piece None None (Some new) c w long is within stands = w
written_more parts first done n place from piece None (Some middle) new c w long is within stands = absurd c
written_more parts first done n place from piece (Some old) None new c w long is within stands = absurd c
written_more parts first done n place from piece (Some old) (Some middle) None c w long is within stands = w
written_more parts first done n place from piece (Some old) (Some middle) (Some new) c w long is within stands = written_step parts first done n place from piece old middle new c w long is within stands

-- a write that failed changed at most these bytes
pub refused_more : (parts : List ChunkPart) (first done n all place : ℕ) (from : List ℕ) (old middle new : Option (List ℕ)) → Both (WritesBytes parts first from done) old middle → Both (KeepsOutside place n) middle new → done + n ≤ all
    → StandAt parts (first + done) n place → Both (ChangesBytes parts first all) old new
refused_more parts first done n all place from None None None c w le stands = tt
refused_more parts first done n all place from None None (Some new) c w le stands = w
refused_more parts first done n all place from None (Some middle) new c w le stands = absurd c
refused_more parts first done n all place from (Some old) None new c w le stands = absurd c
refused_more parts first done n all place from (Some old) (Some middle) None c w le stands = w
refused_more parts first done n all place from (Some old) (Some middle) (Some new) c w le stands =
    let m = changed_more parts first done n place old middle new c.changes w stands in
    record { longer = m.longer; outside = λ b none. m.outside b (λ j lt. none j (omega (arith, lt, le))); grows = λ b past here. reached_more parts first (done + n) first all b (omega arith) (omega (arith, le)) (m.grows b past here) }

pub length-put : (at n : ℕ) (into piece : List ℕ) → length piece ≡ n → at + n ≤ length into → length (put_mid at (at + n - at) into piece) ≡ length into
length-put at n into piece long le = search (rules, places)

pub span_taken : (at n : ℕ) (from : List ℕ) → at + n ≤ length from → (take (at + n - at) (drop at from) ≡ take n (drop at from)) × (length (take (at + n - at) (drop at from)) ≡ n)
span_taken at n from le =
    let e : at + n - at ≡ n = omega arith in
    (ap (λ k. take k (drop at from)) e, ap (λ k. length (take k (drop at from))) e ∙ omega (arith, le, length-take n (drop at from), length-drop at from))
