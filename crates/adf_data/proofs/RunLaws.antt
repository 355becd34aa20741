-- Runs of elements as bytes of the data.
use Rattle.std.proofs.Common.{◌≡◌, ℕ, zero, suc, ◌+◌, ◌*◌, ◌<◌, ◌≤◌, arith, List, [], ◌∷◌, ◌++◌, length, take, drop, get_or, refl, sym, ◌∙◌, ap, subst}
use Rattle.std.proofs.lemmas.List.{take_more, take_all, drop-drop, append-nil}
use Rattle.std.proofs.lemmas.Slice.{take-put_mid}
use Rattle.std.proofs.lemmas.List.Elements.{All-get_or}
use Rattle.std.proofs.lemmas.Grind.{flat_map-append}
use Rattle.std.specs.Prelude.{Option, Some, None}
use Rattle.std.specs.List.{All, range_with_len}
use Rattle.std.proofs.Math.Nat.{add-mul}
use borrow.Rule.Slice.PartMut.{put_mid}
use Rattle.adf_format.specs.Fields.{field}
use Rattle.adf_format.specs.Placement.{ChunkPart}
use Rattle.adf_format.specs.LaysOut.{payloads}
use Rattle.adf_format.specs.HeapRule.{payload_length}
use Rattle.adf_model.specs.declared.lists.Run.{Run}
use Rattle.adf_model.specs.Selection.{element_bytes}
use Rattle.strided.specs.RunLists.{spread, elements_of}
use Rattle.adf_data.specs.Ranges.{IsRead}
use Rattle.adf_data.specs.Runs.{EndsIn, run_bytes, run_at, RunsRead}
use Rattle.adf_data.proofs.PayloadLaws.{read_is_field}

pub run_there : (runs : List Run) (i : ℕ) (r : Run) → i < length runs → r ≡ get_or runs i r → r ≡ run_at runs i
run_there [] i r lt e = absurd (omega (arith, lt))
run_there (q ∷ qs) zero r lt e = e
run_there (q ∷ qs) (suc i) r lt e = run_there qs i r (omega (arith, lt)) e

pub run_ends : (runs : List Run) (i element limit : ℕ) → i < length runs → All (EndsIn element limit) runs → (run_at runs i).first * element + (run_at runs i).count * element ≤ limit
run_ends runs i element limit lt all =
    let h : ((run_at runs i).first + (run_at runs i).count) * element ≤ limit = All-get_or (EndsIn element limit) runs i (record { first = 0; count = 0 }) lt all in
    let e = add-mul (run_at runs i).first (run_at runs i).count element in omega (arith, h, e)

pub run_is_in : (runs : List Run) (i element limit : ℕ) → (run_at runs i).first * element + (run_at runs i).count * element ≤ limit → EndsIn element limit (run_at runs i)
run_is_in runs i element limit h = let e = add-mul (run_at runs i).first (run_at runs i).count element in omega (arith, h, e)

-- ---- how many bytes

pub bytes_more : (runs : List Run) (i element : ℕ) → i < length runs → run_bytes element (take (i + 1) runs) ≡ run_bytes element (take i runs) + (run_at runs i).count * element
bytes_more runs i element lt = subst (λ n. run_bytes element (take n runs) ≡ run_bytes element (take i runs) + (run_at runs i).count * element) (one i) (step runs i lt)
  where
    one : (i : ℕ) → suc i ≡ i + 1
    one i = omega arith

    step : (runs : List Run) (i : ℕ) → i < length runs → run_bytes element (take (suc i) runs) ≡ run_bytes element (take i runs) + (run_at runs i).count * element
    step [] i lt = absurd (omega (arith, lt))
    step (r ∷ rs) zero lt = omega arith
    step (r ∷ rs) (suc i) lt = let h = step rs i (omega (arith, lt)) in omega (arith, h)

pub bytes_within : (runs : List Run) (i element : ℕ) → i < length runs → run_bytes element (take i runs) + (run_at runs i).count * element ≤ run_bytes element runs
bytes_within [] i element lt = absurd (omega (arith, lt))
bytes_within (r ∷ rs) zero element lt = omega arith
bytes_within (r ∷ rs) (suc i) element lt = let h = bytes_within rs i element (omega (arith, lt)) in omega (arith, h)

pub bytes_all : (runs : List Run) (i element : ℕ) → length runs ≤ i → run_bytes element (take i runs) ≡ run_bytes element runs
bytes_all runs i element past = ap (run_bytes element) (take_all i runs past)

-- ---- which bytes

pub take_sum : (a b : ℕ) (xs : List ℕ) → take (a + b) xs ≡ take a xs ++ take b (drop a xs)
take_sum zero b xs = let e : 0 + b ≡ b = omega arith in ap (λ n. take n xs) e
take_sum (suc a) b [] = let e : suc a + b ≡ suc (a + b) = omega arith in ap (λ n. take {A = ℕ} n []) e ∙ none b
  where
    none : (b : ℕ) → [] ≡ take {A = ℕ} b []
    none zero = refl
    none (suc b) = refl
take_sum (suc a) b (x ∷ xs) = let e : suc a + b ≡ suc (a + b) = omega arith in ap (λ n. take n (x ∷ xs)) e ∙ ap (λ ys. x ∷ ys) (take_sum a b xs)

pub field_join : (xs : List ℕ) (a n m : ℕ) → field xs a n ++ field xs (a + n) m ≡ field xs a (n + m)
field_join xs a n m = sym (take_sum n m (drop a xs) ∙ ap (λ ys. take n (drop a xs) ++ take m ys) (drop-drop n a xs))

pub run_field : (element first count : ℕ) (data' : List ℕ) → element_bytes element (range_with_len first count) data' ≡ field data' (first * element) (count * element)
run_field element first zero data' = let e : 0 * element ≡ 0 = omega arith in sym (ap (field data' (first * element)) e)
run_field element first (suc n) data' =
    let next : (first + 1) * element ≡ first * element + element = add-mul first 1 element ∙ omega arith in
    let more : suc n * element ≡ element + n * element = omega arith in
    ap (λ ys. field data' (first * element) element ++ ys) (run_field element (first + 1) n data' ∙ ap (λ a. field data' a (n * element)) next)
    ∙ field_join data' (first * element) element (n * element) ∙ ap (field data' (first * element)) (sym more)

pub spread_more : (runs : List Run) (i : ℕ) → i < length runs → spread (take (i + 1) runs) ≡ spread (take i runs) ++ elements_of (run_at runs i)
spread_more runs i lt =
    ap spread (take_more runs i (record { first = 0; count = 0 }) lt) ∙ flat_map-append elements_of (take i runs) (run_at runs i ∷ [])
    ∙ ap (λ ys. spread (take i runs) ++ ys) (append-nil (elements_of (run_at runs i)))

-- ---- reads

pub runs_none : (parts : List ChunkPart) (element : ℕ) (image : Option (List ℕ)) → RunsRead parts element [] [] image
runs_none parts element None = tt
runs_none parts element (Some bytes) = λ all. refl

pub runs_more : (parts : List ChunkPart) (element : ℕ) (runs : List Run) (i done n m : ℕ) (into piece : List ℕ) (image now : Option (List ℕ)) → now ≡ image → i < length runs → RunsRead parts element (take i runs) (take done into) image
    → IsRead parts ((run_at runs i).first * element) n piece now → length piece ≡ n → n ≡ (run_at runs i).count * element → (run_at runs i).first * element + n ≤ payload_length parts → done + n ≤ length into
    → RunsRead parts element (take (i + 1) runs) (take (done + n) (put_mid done m into piece)) image
runs_more parts element runs i done n m into piece image now same lt so_far read long is within le = by_image image so_far (subst (IsRead parts ((run_at runs i).first * element) n piece) same read)
  where
    by_image : (image : Option (List ℕ)) → RunsRead parts element (take i runs) (take done into) image → IsRead parts ((run_at runs i).first * element) n piece image → RunsRead parts element (take (i + 1) runs) (take (done + n) (put_mid done m into piece)) image
    by_image None so_far read = tt
    by_image (Some bytes) so_far read = λ all.
        take-put_mid done m into piece (done + n) (omega (arith, long)) (omega (arith, le))
        ∙ ap (λ xs. xs ++ piece) (so_far all)
        ∙ ap (λ ys. element_bytes element (spread (take i runs)) (payloads bytes parts) ++ ys)
        (read_is_field parts ((run_at runs i).first * element) n piece bytes long within all read ∙ ap (field (payloads bytes parts) ((run_at runs i).first * element)) is
        ∙ sym (run_field element (run_at runs i).first (run_at runs i).count (payloads bytes parts)))
        ∙ sym (ap (λ es. element_bytes element es (payloads bytes parts)) (spread_more runs i lt)
        ∙ flat_map-append (λ (e : ℕ). take element (drop (e * element) (payloads bytes parts))) (spread (take i runs)) (elements_of (run_at runs i)))

pub runs_all : (parts : List ChunkPart) (element : ℕ) (runs : List Run) (i done : ℕ) (into : List ℕ) (image : Option (List ℕ)) → length runs ≤ i → length into ≤ done → RunsRead parts element (take i runs) (take done into) image → RunsRead parts element runs into image
runs_all parts element runs i done into image past full read =
    subst (λ xs. RunsRead parts element runs xs image) (take_all done into full) (subst (λ rs. RunsRead parts element rs (take done into) image) (take_all i runs past) read)
