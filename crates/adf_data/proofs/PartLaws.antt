-- Elements that are put where there are no data: zeros, and the elements over them.
use Rattle.std.proofs.Common.{◌≡◌, ◌≢◌, ◌⊎◌, inl, inr, ℕ, ◌+◌, ◌-◌, ◌*◌, ◌<◌, ◌≤◌, arith, min, List, [], ◌∷◌, ◌++◌, length, take, drop, get_or, replicate, refl, sym, ◌∙◌, ap, true, false, cond}
use Rattle.std.proofs.lemmas.Bool.{cases_lt}
use Rattle.std.proofs.lemmas.Grind.{same_number_lists}
use Rattle.std.proofs.lemmas.List.{append-nil, get_or-take, get_or_append_left, get_or-append_right, get_or-replicate, length-append, length-take, length-replicate, take-replicate}
use Rattle.std.proofs.lemmas.List.Elements.{recursion_from_All}
use Rattle.std.specs.Prelude.{Option}
use Rattle.std.specs.List.{All}
use Rattle.cg_io.specs.Blocks.{Both, KeepsOutside}
use Rattle.cg_io.specs.Waits.{IsTouched, WaitsOnly}
use Rattle.cg_io.specs.Answers.{Then}
use Rattle.cg_io.proofs.BothLaws.{both_then, both_map}
use Rattle.cg_io.proofs.WaitLaws.{waits_more, waits_then}
use Rattle.adf_format.specs.Tiles.{cover, holds_byte}
use Rattle.adf_format.specs.declared.types.ExtentKind.{ExtentKind}
use Rattle.adf_format.specs.Parts.{payload}
use Rattle.adf_format.specs.Placement.{ChunkPart, extent, chunk_extents}
use Rattle.adf_format.specs.HeapRule.{chunk}
use Rattle.adf_model.specs.declared.lists.Run.{Run}
use Rattle.adf_model.specs.Selection.{written_over, with_elements}
use Rattle.strided.specs.RunLists.{spread}
use Rattle.adf_data.specs.Ranges.{AreIn, byte_place, HasByte}
use Rattle.adf_data.specs.Fills.{MakesChunk, MakesText}
use Rattle.adf_data.specs.Runs.{EndsIn, ChangesPayloads, WritesRuns, fresh_elements}
use Rattle.adf_data.proofs.PayloadLaws.{written_over_at, length-written_over}
use Rattle.adf_data.proofs.KeptLaws.{once_of}
use Rattle.adf_data.proofs.DataLaws.{spelled_in}
use Rattle.adf_data.proofs.StayLaws.{EndBy, is_in, frame_apart, frame_within, byte_kept, chunks_kept, front_with, end_all}
use Rattle.adf_data.proofs.ChunkLaws.{kept_then}

-- ---- one chunk

abbrev one : ℕ → ℕ → List ChunkPart
one place n = chunk place n ∷ []

-- where a byte of its payload stands
at_place : (place n j : ℕ) → j < n - 20 → byte_place (one place n) j ≡ place + 16 + j
at_place place n j lt = rw (is_in (chunk place n) j lt) refl

covered_once : (place n b : ℕ) → cover (chunk_extents (one place n)) b ≤ 1
covered_once place n b = elim (holds_byte (extent ExtentKind.DataChunk place n) b) as (λ t. cond t 1 0 + 0 ≤ 1) [
  | true ↦ omega arith
  | false ↦ omega arith
]

-- what changes of the payload changes of the chunk
payload_changes : (place n : ℕ) (old new : List ℕ) → ChangesPayloads (one place n) old new → KeepsOutside place n old new
payload_changes place n old new w = record {
  longer = w.longer;
  outside = λ k out. w.outside k (λ j lt same. beside k j out (omega (arith, lt)) same);
  grows = λ k past here. let g = w.grows k past here in let h = g.high in let e = at_place place n g.byte (omega (arith, h)) in let b = g.block in (omega (arith, h), omega (arith, b, e, h));
}
  where
    beside : (k j : ℕ) → (k < place) ⊎ (place + n ≤ k) → j < n - 20 → byte_place (one place n) j ≢ k
    beside k j (inl low) lt same = let e = at_place place n j lt in omega (arith, low, e, same)
    beside k j (inr high) lt same = let e = at_place place n j lt in omega (arith, high, e, same, lt)

-- a block of the payload is one of the chunk
payload_touched : (place n limit b : ℕ) → HasByte (one place n) 0 limit b → IsTouched place n b
payload_touched place n limit b has =
    let i = has.inside in let e = at_place place n has.byte (omega (arith, i)) in let f = has.from in let t = has.to in (omega (arith, i), omega (arith, f, e, i), omega (arith, t, e))

pub elements_wait : (place n limit : ℕ) (old middle new : List ℕ) → WaitsOnly (IsTouched place n) old middle → WaitsOnly (HasByte (one place n) 0 limit) middle new → WaitsOnly (IsTouched place n) old new
elements_wait place n limit old middle new first then = waits_then (IsTouched place n) old middle new first (waits_more (HasByte (one place n) 0 limit) (IsTouched place n) middle new (payload_touched place n limit) then)

-- ---- the elements

-- no byte behind those of the elements changes
behind_with : (element n : ℕ) (es given xs : List ℕ) (k : ℕ) → EndBy element n es → n ≤ length xs → n ≤ k → get_or (with_elements element es given xs) k 0 ≡ get_or xs k 0
behind_with element n [] given xs k all short past = refl
behind_with element n (e ∷ es) given xs k all short past =
    let h : e * element + element ≤ n = all.0 in
    let p : length (take element given) ≡ min element (length given) = length-take element given in
    let l : length (written_over xs (e * element) (take element given)) ≡ length xs = length-written_over xs (e * element) (take element given) (omega (arith, h, p, short)) in
    behind_with element n es (drop element given) (written_over xs (e * element) (take element given)) k all.1 (omega (arith, l, short)) past
    ∙ (written_over_at xs (e * element) (take element given) k (omega (arith, h, p, short))).2 (omega (arith, h, p, past))

zeros_with : (element size more : ℕ) (es given : List ℕ) → EndBy element size es → with_elements element es given (replicate (size + more) 0) ≡ with_elements element es given (replicate size 0) ++ replicate more 0
zeros_with element size more es given ends =
    same_number_lists (with_elements element es given (replicate (size + more) 0)) (with_elements element es given (replicate size 0) ++ replicate more 0) (long ∙ sym both) (λ k lt. each k (omega (arith, lt, long)))
  where
    zeros : length (replicate {A = ℕ} (size + more) 0) ≡ size + more
    zeros = length-replicate {A = ℕ} (size + more) 0

    f : (take size (with_elements element es given (replicate (size + more) 0)) ≡ with_elements element es given (take size (replicate (size + more) 0))) × (length (with_elements element es given (replicate (size + more) 0)) ≡ length (replicate {A = ℕ} (size + more) 0))
    f = front_with element size es given (replicate (size + more) 0) ends (omega (arith, zeros))

    long : length (with_elements element es given (replicate (size + more) 0)) ≡ size + more
    long = f.1 ∙ zeros

    front : length (with_elements element es given (replicate size 0)) ≡ size
    front = let z = length-replicate {A = ℕ} size 0 in (front_with element size es given (replicate size 0) ends (omega (arith, z))).1 ∙ z

    both : length (with_elements element es given (replicate size 0) ++ replicate more 0) ≡ size + more
    both = let a = length-append (with_elements element es given (replicate size 0)) (replicate more 0) in let z = length-replicate {A = ℕ} more 0 in omega (arith, a, z, front)

    each : (k : ℕ) → k < size + more → get_or (with_elements element es given (replicate (size + more) 0)) k 0 ≡ get_or (with_elements element es given (replicate size 0) ++ replicate more 0) k 0
    each k lt = elim (cases_lt k size) [
      | inl low ↦
          sym (get_or-take size (with_elements element es given (replicate (size + more) 0)) k 0 low)
          ∙ ap (λ (l : List ℕ). get_or l k 0) (f.0 ∙ ap (with_elements element es given) (take-replicate size (size + more) 0 (omega arith)))
          ∙ sym (get_or_append_left (with_elements element es given (replicate size 0)) (replicate more 0) 0 k (omega (arith, front, low)))
      | inr high ↦
          behind_with element size es given (replicate (size + more) 0) k ends (omega (arith, zeros)) high ∙ get_or-replicate (size + more) k 0 0 lt
          ∙ sym (get_or-append_right (with_elements element es given (replicate size 0)) (replicate more 0) size k 0 front high ∙ get_or-replicate more (k - size) 0 0 (omega (arith, lt, high)))
    ]

-- ---- the chunk

elements_made : (size element n place : ℕ) (runs : List Run) (given a b c : List ℕ) → 21 ≤ n → 20 + size ≤ n → All (EndsIn element size) runs → MakesChunk [] 0 n place a b → WritesRuns (one place n) element runs given b c → MakesText (fresh_elements size element runs given) n place a c
elements_made size element n place runs given a b c long fits ends makes w = record {
  changes = kept_then place n a b c makes.changes (payload_changes place n b c w.changes);
  spells = (chunks_kept b c (one place n) inside (λ k frame. byte_kept b c k w.changes.longer (frame_within (one place n) k b inside frame)
      (w.changes.outside k (λ j lt. frame_apart (one place n) k j b inside (covered_once place n) frame lt))) (makes.spells, tt)).0;
  body =
      sym (append-nil (payload c place n)) ∙ w.said (once_of (one place n) (covered_once place n)) inside ∙ ap (with_elements element (spread runs) given) (append-nil (payload b place n) ∙ zero ∙ ap (λ m. replicate m 0) whole)
      ∙ zeros_with element size (n - 20 - size) (spread runs) given by_end ∙ ap (λ m. fresh_elements size element runs given ++ replicate m 0) (rest front);
}
  where
    inside : AreIn (one place n) b
    inside = spelled_in b (one place n) (makes.spells, tt)

    zero : payload b place n ≡ replicate (n - 20 - 0) 0
    zero = makes.body (λ j lt. absurd (omega (arith, lt))) tt

    whole : n - 20 - 0 ≡ size + (n - 20 - size)
    whole = omega (arith, fits)

    by_end : EndBy element size (spread runs)
    by_end = end_all element size runs (recursion_from_All (EndsIn element size) runs ends)

    front : length (fresh_elements size element runs given) ≡ size
    front = let z = length-replicate {A = ℕ} size 0 in (front_with element size (spread runs) given (replicate size 0) by_end (omega (arith, z))).1 ∙ z

    rest : length (fresh_elements size element runs given) ≡ size → n - 20 - size ≡ n - 20 - length (fresh_elements size element runs given)
    rest e = omega (arith, e)

pub all_elements_made : (size element n place : ℕ) (runs : List Run) (given : List ℕ) (a b c : Option (List ℕ)) → 21 ≤ n → 20 + size ≤ n → All (EndsIn element size) runs → Both (MakesChunk [] 0 n place) a b → Both (WritesRuns (one place n) element runs given) b c
    → Both (MakesText (fresh_elements size element runs given) n place) a c
all_elements_made size element n place runs given a b c long fits ends makes w =
    both_map (Then (MakesChunk [] 0 n place) (WritesRuns (one place n) element runs given)) (MakesText (fresh_elements size element runs given) n place) a c
    (λ old new t. elements_made size element n place runs given old t.0 new long fits ends t.1 t.2) (both_then (MakesChunk [] 0 n place) (WritesRuns (one place n) element runs given) a b c makes w)

pub elements_change : (place n : ℕ) (a b c : Option (List ℕ)) → Both (KeepsOutside place n) a b → Both (ChangesPayloads (one place n)) b c → Both (KeepsOutside place n) a c
elements_change place n a b c first then =
    both_map (Then (KeepsOutside place n) (ChangesPayloads (one place n))) (KeepsOutside place n) a c (λ old new t. kept_then place n old t.0 new t.1 (payload_changes place n t.0 new t.2)) (both_then (KeepsOutside place n) (ChangesPayloads (one place n)) a b c first then)

pub elements_long : (size element : ℕ) (runs : List Run) (given : List ℕ) → All (EndsIn element size) runs → length (fresh_elements size element runs given) ≡ size
elements_long size element runs given ends =
    let z = length-replicate {A = ℕ} size 0 in (front_with element size (spread runs) given (replicate size 0) (end_all element size runs (recursion_from_All (EndsIn element size) runs ends)) (omega (arith, z))).1 ∙ z

pub ends_later : (element size limit : ℕ) (runs : List Run) → size ≤ limit → All (EndsIn element size) runs → All (EndsIn element limit) runs
ends_later element size limit runs le ends k d lt = let e = ends k d lt in omega (arith, e, le)
