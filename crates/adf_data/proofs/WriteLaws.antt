-- Elements that are written over, run by run.
use Rattle.std.proofs.Common.{◌≡◌, inl, inr, ℕ, zero, suc, ◌+◌, ◌*◌, ◌<◌, ◌≤◌, arith, List, [], ◌∷◌, ◌++◌, length, take, drop, refl, sym, ◌∙◌, ap, append_assoc}
use Rattle.std.proofs.lemmas.Bool.{cases_lt}
use Rattle.std.proofs.lemmas.List.{take_at, take-append-drop, drop-drop, append-nil, length-append, length-take, length-drop}
use Rattle.std.proofs.lemmas.List.FromFn.{length-range_with_len}
use Rattle.std.proofs.Math.Seq.{drop-append-add}
use Rattle.std.proofs.Math.Nat.{add-mul}
use Rattle.std.specs.Prelude.{Option, Some, None}
use Rattle.std.specs.List.{range_with_len}
use Rattle.cg_io.specs.Blocks.{Both}
use Rattle.adf_format.specs.Placement.{ChunkPart}
use Rattle.adf_format.specs.LaysOut.{payloads}
use Rattle.adf_format.specs.HeapRule.{payload_length}
use Rattle.adf_model.specs.declared.lists.Run.{Run}
use Rattle.adf_model.specs.Selection.{written_over, with_elements}
use Rattle.strided.specs.RunLists.{spread, elements_of}
use Rattle.adf_data.specs.Ranges.{AreIn, ChangesBytes, WritesBytes}
use Rattle.adf_data.specs.Runs.{run_bytes, run_at, ChangesPayloads, WritesRuns}
use Rattle.adf_data.proofs.PayloadLaws.{payloads_written, still_in, length-payloads, length-written_over}
use Rattle.adf_data.proofs.RunLaws.{take_sum, spread_more}
use Rattle.adf_data.proofs.SpanLaws.{reached_more}

-- ---- pieces one behind another

front : (xs : List ℕ) (at : ℕ) (p : List ℕ) → at ≤ length xs → length (take at xs ++ p) ≡ at + length p
front xs at p le = omega (arith, le, length-append (take at xs) p, length-take at xs)

pub written_join : (xs : List ℕ) (at k : ℕ) (p q : List ℕ) → k ≡ at + length p → at ≤ length xs → written_over (written_over xs at p) k q ≡ written_over xs at (p ++ q)
written_join xs at k p q e le =
    let head : List ℕ = take at xs ++ p in
    let rest : List ℕ = drop (at + length p) xs in
    let long : length head ≡ at + length p = front xs at p le in
    let all : length (p ++ q) ≡ length p + length q = length-append p q in
    ap (λ k. take k (head ++ rest) ++ q ++ drop (k + length q) (head ++ rest)) (e ∙ sym long)
    ∙ ap (λ ys. ys ++ q ++ drop (length head + length q) (head ++ rest)) (take_at head rest (length head) refl)
    ∙ ap (λ ys. head ++ q ++ ys) (drop-append-add head rest (length q) ∙ drop-drop (length q) (at + length p) xs ∙ ap (λ n. drop n xs) (omega (arith, all)))
    ∙ ap (λ ys. ys ++ drop (at + length (p ++ q)) xs) (append_assoc (take at xs) p q)

pub written_nothing : (xs : List ℕ) (at : ℕ) → xs ≡ written_over xs at []
written_nothing xs at =
    let e : at + 0 ≡ at = omega arith in
    sym (ap (λ ys. ys ++ drop (at + 0) xs) (append-nil (take at xs)) ∙ ap (λ n. take at xs ++ drop n xs) e ∙ take-append-drop at xs)

-- ---- elements one behind another

pub with_more : (element : ℕ) (xs ys given data' : List ℕ) → with_elements element (xs ++ ys) given data' ≡ with_elements element ys (drop (element * length xs) given) (with_elements element xs given data')
with_more element [] ys given data' = let e : element * 0 ≡ 0 = omega arith in sym (ap (λ n. with_elements element ys (drop n given) data') e)
with_more element (x ∷ xs) ys given data' =
    let e : element + element * length xs ≡ element * suc (length xs) = omega arith in
    with_more element xs ys (drop element given) (written_over data' (x * element) (take element given))
    ∙ ap (λ g. with_elements element ys g (with_elements element xs (drop element given) (written_over data' (x * element) (take element given)))) (drop-drop (element * length xs) element given ∙ ap (λ n. drop n given) e)

pub with_run : (element first count : ℕ) (given data' : List ℕ) → (first + count) * element ≤ length data' → count * element ≤ length given → with_elements element (range_with_len first count) given data' ≡ written_over data' (first * element) (take (count * element) given)
with_run element first zero given data' le long = let e : 0 * element ≡ 0 = omega arith in written_nothing data' (first * element) ∙ sym (ap (λ n. written_over data' (first * element) (take n given)) e)
with_run element first (suc n) given data' le long =
    let more : suc n * element ≡ element + n * element = omega arith in
    let next : (first + 1) * element ≡ first * element + element = add-mul first 1 element ∙ omega arith in
    let all : (first + suc n) * element ≡ first * element + suc n * element = add-mul first (suc n) element in
    let rest : (first + 1 + n) * element ≡ first * element + suc n * element = ap (λ k. k * element) (one first n) ∙ all in
    let piece : length (take element given) ≡ element = omega (arith, long, more, length-take element given) in
    let kept : length (written_over data' (first * element) (take element given)) ≡ length data' = length-written_over data' (first * element) (take element given) (omega (arith, piece, le, all, more)) in
    with_run element (first + 1) n (drop element given) (written_over data' (first * element) (take element given)) (omega (arith, kept, rest, all, le)) (omega (arith, long, more, length-drop element given))
    ∙ written_join data' (first * element) ((first + 1) * element) (take element given) (take (n * element) (drop element given)) (omega (arith, next, piece)) (omega (arith, le, all))
    ∙ ap (written_over data' (first * element)) (sym (take_sum element (n * element) given) ∙ ap (λ k. take k given) (sym more))
  where
    one : (a b : ℕ) → a + 1 + b ≡ a + suc b
    one a b = omega arith

pub bytes_of_spread : (element : ℕ) (runs : List Run) → element * length (spread runs) ≡ run_bytes element runs
bytes_of_spread element [] = omega arith
bytes_of_spread element (r ∷ rs) =
    let a : length (elements_of r ++ spread rs) ≡ length (elements_of r) + length (spread rs) = length-append (elements_of r) (spread rs) in
    let b : length (elements_of r) ≡ r.count = length-range_with_len r.first r.count in
    let c : length (spread (r ∷ rs)) ≡ r.count + length (spread rs) = a ∙ ap (λ n. n + length (spread rs)) b in
    ap (λ n. element * n) c ∙ split r.count (length (spread rs)) ∙ ap (λ n. r.count * element + n) (bytes_of_spread element rs)
  where
    split : (a b : ℕ) → element * (a + b) ≡ a * element + element * b
    split a b = let e = add-mul a b element in omega (arith, e)

-- ---- runs one behind another

pub writes_none : (parts : List ChunkPart) (element : ℕ) (from : List ℕ) (image : Option (List ℕ)) → Both (WritesRuns parts element [] from) image image
writes_none parts element from None = tt
writes_none parts element from (Some bytes) = record { changes = record { longer = omega arith; outside = λ b none. refl; grows = λ b past here. absurd (omega (arith, past, here)) }; said = λ once all. refl }

changes_more : (parts : List ChunkPart) (first n : ℕ) (old middle new : List ℕ) → ChangesPayloads parts old middle → ChangesBytes parts first n middle new → first + n ≤ payload_length parts → ChangesPayloads parts old new
changes_more parts first n old middle new c w le = record {
  longer = (let p = c.longer in let q = w.longer in omega (arith, p, q));
  outside = λ b none. w.outside b (λ j lt. none (first + j) (omega (arith, lt, le))) ∙ c.outside b none;
  grows = λ b past here. elim (cases_lt b (length middle)) [
    | inl before ↦ c.grows b past before
    | inr after ↦ reached_more parts first n 0 (payload_length parts) b (omega arith) (omega (arith, le)) (w.grows b after here)
  ];
}

pub all_changes : (parts : List ChunkPart) (element : ℕ) (runs : List Run) (from : List ℕ) (old new : Option (List ℕ)) → Both (WritesRuns parts element runs from) old new → Both (ChangesPayloads parts) old new
all_changes parts element runs from None None w = tt
all_changes parts element runs from None (Some new) w = w
all_changes parts element runs from (Some old) None w = w
all_changes parts element runs from (Some old) (Some new) w = w.changes

pub refused_changes : (parts : List ChunkPart) (element : ℕ) (runs : List Run) (from : List ℕ) (first n : ℕ) (old middle new : Option (List ℕ)) → Both (WritesRuns parts element runs from) old middle → Both (ChangesBytes parts first n) middle new → first + n ≤ payload_length parts → Both (ChangesPayloads parts) old new
refused_changes parts element runs from first n None None None c w le = tt
refused_changes parts element runs from first n None None (Some new) c w le = w
refused_changes parts element runs from first n None (Some middle) new c w le = absurd c
refused_changes parts element runs from first n (Some old) None new c w le = absurd c
refused_changes parts element runs from first n (Some old) (Some middle) None c w le = w
refused_changes parts element runs from first n (Some old) (Some middle) (Some new) c w le = changes_more parts first n old middle new c.changes w le

written_step : (parts : List ChunkPart) (element : ℕ) (runs : List Run) (i : ℕ) (from piece : List ℕ) (first done n : ℕ) (old middle new : List ℕ) → i < length runs → WritesRuns parts element (take i runs) from old middle → WritesBytes parts first piece (length piece) middle new
    → first ≡ (run_at runs i).first * element → n ≡ (run_at runs i).count * element → piece ≡ take n (drop done from) → length piece ≡ n → done ≡ run_bytes element (take i runs) → done + n ≤ length from → first + n ≤ payload_length parts
    → WritesRuns parts element (take (i + 1) runs) from old new
written_step parts element runs i from piece first done n old middle new lt c w at is piece_is long far room within = record {
  changes = changes_more parts first (length piece) old middle new c.changes w.changes (omega (arith, long, within));
  said = λ once all. payloads_written parts first piece middle new once (still_in parts old middle c.changes.longer all) (omega (arith, long, within)) w ∙ ap (λ ys. written_over ys first piece) (c.said once all) ∙ sym (whole all (c.said once all));
}
  where
    whole : AreIn parts old → payloads middle parts ≡ with_elements element (spread (take i runs)) from (payloads old parts)
        → with_elements element (spread (take (i + 1) runs)) from (payloads old parts) ≡ written_over (with_elements element (spread (take i runs)) from (payloads old parts)) first piece
    whole all said =
        let r : Run = run_at runs i in
        let so_far : List ℕ = with_elements element (spread (take i runs)) from (payloads old parts) in
        let size : length so_far ≡ payload_length parts = sym (ap length said) ∙ length-payloads parts middle (still_in parts old middle c.changes.longer all) in
        let e : (r.first + r.count) * element ≡ r.first * element + r.count * element = add-mul r.first r.count element in
        let passed : element * length (spread (take i runs)) ≡ done = bytes_of_spread element (take i runs) ∙ sym far in
        ap (λ es. with_elements element es from (payloads old parts)) (spread_more runs i lt)
        ∙ with_more element (spread (take i runs)) (elements_of r) from (payloads old parts)
        ∙ ap (λ k. with_elements element (elements_of r) (drop k from) so_far) passed
        ∙ with_run element r.first r.count (drop done from) so_far (omega (arith, e, size, at, is, within)) (omega (arith, is, room, length-drop done from))
        ∙ ap (λ k. written_over so_far k (take (r.count * element) (drop done from))) (sym at)
        ∙ ap (λ k. written_over so_far first (take k (drop done from))) (sym is)
        ∙ ap (written_over so_far first) (sym piece_is)

pub runs_written : (parts : List ChunkPart) (element : ℕ) (runs : List Run) (i : ℕ) (from piece : List ℕ) (first done n : ℕ) (old middle new : Option (List ℕ)) → i < length runs → Both (WritesRuns parts element (take i runs) from) old middle → Both (WritesBytes parts first piece (length piece)) middle new
    → first ≡ (run_at runs i).first * element → n ≡ (run_at runs i).count * element → piece ≡ take n (drop done from) → length piece ≡ n → done ≡ run_bytes element (take i runs) → done + n ≤ length from → first + n ≤ payload_length parts
    → Both (WritesRuns parts element (take (i + 1) runs) from) old new
runs_written parts element runs i from piece first done n None None None lt c w at is piece_is long far room within = tt
runs_written parts element runs i from piece first done n None None (Some new) lt c w at is piece_is long far room within = w
runs_written parts element runs i from piece first done n None (Some middle) new lt c w at is piece_is long far room within = absurd c
runs_written parts element runs i from piece first done n (Some old) None new lt c w at is piece_is long far room within = absurd c
runs_written parts element runs i from piece first done n (Some old) (Some middle) None lt c w at is piece_is long far room within = w
runs_written parts element runs i from piece first done n (Some old) (Some middle) (Some new) lt c w at is piece_is long far room within = written_step parts element runs i from piece first done n old middle new lt c w at is piece_is long far room within
