-- How many elements a selection names: no more than the array has; and how many the first of some runs have.
use Rattle.std.proofs.Common.{◌≡◌, ℕ, zero, suc, refl, sym, ◌∙◌, ap, arith, List, [], ◌∷◌, ◌++◌, length, take, drop, map, get_or, length-append, append-nil, mul-add, mul-suc, mul-zero, ◌+◌, ◌-◌, ◌*◌, ◌/◌, ◌<◌, ◌≤◌, true, ◌==◌}
use Rattle.std.proofs.lemmas.Bool.Decides.{nat_tests}
use Rattle.std.proofs.lemmas.Grind.{flat_map-append}
use Rattle.std.proofs.lemmas.List.{length-map, take_more, take-append-drop}
use Rattle.std.proofs.lemmas.List.FromFn.{length-range_with_len}
use Rattle.std.proofs.lemmas.Nat.{mul-le}
use Rattle.std.proofs.Math.Nat.{mul-div-le}
use Rattle.std.specs.Prelude.{nat_le, ◌&&◌}
use Rattle.std.specs.List.{flat_map}
use Rattle.adf_format.specs.Names.{product}
use Rattle.adf_model.specs.declared.lists.Run.{Run}
use Rattle.adf_model.specs.declared.tree.Selection.{Selection}
use Rattle.adf_model.specs.Selection.{each_axis_fits, selection_fits, spaced, indices, elements_from, elements}
use Rattle.adf_model.proofs.Basics.{and_parts, not_true}
use Rattle.strided.specs.RunLists.{elements_of, spread}

-- ---- of a selection

spaced_long : (first step n : ℕ) → length (spaced first step n) ≡ n
spaced_long first step zero = refl
spaced_long first step (suc n) = ap suc (spaced_long (first + step) step n)

indices_few : (start end stride : ℕ) → 1 ≤ start → start ≤ end → 1 ≤ stride → length (indices start end stride) ≤ end
indices_few start end stride low high some =
    let long = spaced_long start stride ((end - start) / stride + 1) in
    let most : stride * ((end - start) / stride) ≤ end - start = mul-div-le (end - start) stride in
    let times : 1 * ((end - start) / stride) ≤ stride * ((end - start) / stride) = mul-le 1 ((end - start) / stride) stride ((end - start) / stride) some (omega arith) in
    omega (arith, long, most, times, low, high)

rows_long : (f : ℕ → ℕ → ℕ) (is xs : List ℕ) → length (flat_map (λ x. map (f x) is) xs) ≡ length is * length xs
rows_long f is [] = sym (mul-zero (length is))
rows_long f is (x ∷ xs) =
    let one = length-append (map (f x) is) (flat_map (λ y. map (f y) is) xs) in
    let same = length-map is (f x) in
    let rest = rows_long f is xs in
    let more : length is * suc (length xs) ≡ length is * length xs + length is = mul-suc (length is) (length xs) in
    omega (arith, one, same, rest, more)

le_of : (m n : ℕ) → nat_le m n ≡ true → m ≤ n
le_of m n e = grind (arith, nat_tests)

few_from : (dims starts ends strides : List ℕ) → each_axis_fits dims starts ends strides ≡ true → length (elements_from dims starts ends strides) ≤ product dims
few_from [] starts ends strides e = omega arith
few_from (dim ∷ dims) [] ends strides e = absurd (not_true e)
few_from (dim ∷ dims) (start ∷ starts) [] strides e = absurd (not_true e)
few_from (dim ∷ dims) (start ∷ starts) (end ∷ ends) [] e = absurd (not_true e)
few_from (dim ∷ dims) (start ∷ starts) (end ∷ ends) (stride ∷ strides) e =
    let a = and_parts (nat_le 1 start && nat_le start end && nat_le end dim && nat_le 1 stride) (each_axis_fits dims starts ends strides) e in
    let b = and_parts (nat_le 1 start && nat_le start end && nat_le end dim) (nat_le 1 stride) a.0 in
    let c = and_parts (nat_le 1 start && nat_le start end) (nat_le end dim) b.0 in
    let d = and_parts (nat_le 1 start) (nat_le start end) c.0 in
    let row = indices_few start end stride (le_of 1 start d.0) (le_of start end d.1) (le_of 1 stride b.1) in
    let last = le_of end dim c.1 in
    let long = rows_long (λ later index. (index - 1) + dim * later) (indices start end stride) (elements_from dims starts ends strides) in
    let most = mul-le (length (indices start end stride)) (length (elements_from dims starts ends strides)) dim (product dims) (omega (arith, row, last)) (few_from dims starts ends strides a.1) in
    omega (arith, long, most)

pub few_elements : (dims : List ℕ) (selection : Selection) → selection_fits dims selection ≡ true → length (elements dims selection) ≤ product dims
few_elements dims selection fit =
    few_from dims selection.start selection.end selection.stride
    (and_parts (selection.rank == length dims) (each_axis_fits dims selection.start selection.end selection.stride) fit).1

-- ---- of runs

spread_both : (xs ys : List Run) → length (spread (xs ++ ys)) ≡ length (spread xs) + length (spread ys)
spread_both xs ys = ap length (flat_map-append elements_of xs ys) ∙ length-append (spread xs) (spread ys)

abbrev pub none : Run
none = record { first = 0; count = 0 }

spread_more : (runs : List Run) (i : ℕ) → i < length runs → length (spread (take (i + 1) runs)) ≡ length (spread (take i runs)) + (get_or runs i none).count
spread_more runs i lt =
    let both = ap (λ rs. length (spread rs)) (take_more runs i none lt) ∙ spread_both (take i runs) (get_or runs i none ∷ []) in
    let one = ap length (append-nil (elements_of (get_or runs i none))) ∙ length-range_with_len (get_or runs i none).first (get_or runs i none).count in
    omega (arith, both, one)

spread_part : (runs : List Run) (i : ℕ) → length (spread (take i runs)) ≤ length (spread runs)
spread_part runs i =
    let both = spread_both (take i runs) (drop i runs) in
    let all = ap (λ rs. length (spread rs)) (take-append-drop i runs) in
    omega (arith, both, all)

-- the bytes of one run more
pub bytes_more : (element : ℕ) (runs : List Run) (i : ℕ) → i < length runs
    → (element * length (spread (take (i + 1) runs)) ≡ element * length (spread (take i runs)) + element * (get_or runs i none).count) × (element * length (spread (take i runs)) + element * (get_or runs i none).count ≤ element * length (spread runs))
bytes_more element runs i lt =
    let next = ap (λ n. element * n) (spread_more runs i lt) ∙ mul-add element (length (spread (take i runs))) (get_or runs i none).count in
    let most = mul-le element (length (spread (take (i + 1) runs))) element (length (spread runs)) (omega arith) (spread_part runs (i + 1)) in
    (next, omega (arith, next, most))
