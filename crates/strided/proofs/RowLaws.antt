-- The elements of rows.
use Rattle.std.proofs.Common.{◌≡◌, ◌≢◌, ℕ, zero, suc, ◌+◌, ◌-◌, ◌*◌, ◌/◌, ◌<◌, ◌≤◌, true, List, [], ◌∷◌, ◌++◌, length, take, get_or, map, refl, sym, ◌∙◌, ap, arith, ◌⊎◌, inl, inr}
use Rattle.std.specs.List.{flat_map, range_with_len}
use Rattle.std.proofs.lemmas.List.{append-nil, take_more}
use Rattle.std.proofs.lemmas.Grind.{flat_map-append}
use Rattle.std.proofs.Math.Nat.{mul-suc, mul-le-mul_left, le_of_mul-le-mul_left, zero-div}
use Rattle.std.specs.Prelude.{◌==◌, ◌&&◌, ◌||◌}
use Rattle.adf_model.proofs.Basics.{and_parts, or_parts, equal}
use Rattle.adf_model.specs.declared.lists.Run.{Run}
use Rattle.adf_model.specs.Selection.{spaced, indices}
use Rattle.strided.specs.declared.axis.Axis.{Axis}
use Rattle.strided.specs.RunLists.{elements_of, spread, BeginsElsewhere, AreMaximal}
use Rattle.strided.specs.Axes.{Fits, is_whole, row_of, whole_rows}
use Rattle.strided.proofs.RunLaws.{range-add}

-- ---- one row

-- one more index
spaced-more : (f : ℕ → ℕ) (start stride k : ℕ) → map f (spaced start stride (suc k)) ≡ map f (spaced start stride k) ++ f (start + stride * k) ∷ []
spaced-more f start stride zero = let e : start ≡ start + stride * 0 = omega arith in ap (λ n. f n ∷ []) e
spaced-more f start stride (suc k) =
    let e : start + stride + stride * k ≡ start + stride * suc k = omega (arith, mul-suc stride k) in
    ap (λ xs. f start ∷ xs) (spaced-more f (start + stride) stride k ∙ ap (λ n. map f (spaced (start + stride) stride k) ++ f n ∷ []) e)

pub row_more : (base start stride k first : ℕ) → 1 ≤ start → first ≡ base + (start - 1) + stride * k → map (λ index. (index - 1) + base) (spaced start stride (k + 1)) ≡ map (λ index. (index - 1) + base) (spaced start stride k) ++ range_with_len first 1
row_more base start stride k first low e =
    let n : k + 1 ≡ suc k = omega arith in
    let at : start + stride * k - 1 + base ≡ first = omega (arith, low, e) in
    ap (λ m. map (λ index. (index - 1) + base) (spaced start stride m)) n
    ∙ spaced-more (λ index. (index - 1) + base) start stride k
    ∙ ap (λ m. map (λ index. (index - 1) + base) (spaced start stride k) ++ m ∷ []) at

-- indices one behind another
row_of_ones : (base start n : ℕ) → 1 ≤ start → map (λ index. (index - 1) + base) (spaced start 1 n) ≡ range_with_len (base + (start - 1)) n
row_of_ones base start zero low = refl
row_of_ones base start (suc n) low =
    let e : start - 1 + base ≡ base + (start - 1) = omega arith in
    let f : base + (start + 1 - 1) ≡ base + (start - 1) + 1 = omega (arith, low) in
    ap (λ m. m ∷ map (λ index. (index - 1) + base) (spaced (start + 1) 1 n)) e
    ∙ ap (λ xs. (base + (start - 1)) ∷ xs) (row_of_ones base (start + 1) n (omega arith) ∙ ap (λ m. range_with_len m n) f)

pub row_of_stride_one : (axis : Axis) (row : ℕ) → 1 ≤ axis.start → axis.stride ≡ 1 → row_of axis row ≡ range_with_len (axis.dim * row + (axis.start - 1)) (axis.end - axis.start + 1)
row_of_stride_one axis row low e =
    let n : (axis.end - axis.start) / 1 + 1 ≡ axis.end - axis.start + 1 = omega arith in
    ap (λ stride. map (λ index. (index - 1) + axis.dim * row) (indices axis.start axis.end stride)) e
    ∙ ap (λ count. map (λ index. (index - 1) + axis.dim * row) (spaced axis.start 1 count)) n
    ∙ row_of_ones (axis.dim * row) axis.start (axis.end - axis.start + 1) low

-- ---- rows one behind another

range-more : (first k : ℕ) → range_with_len first (k + 1) ≡ range_with_len first k ++ (first + k) ∷ []
range-more first k = range-add first k 1

-- one more row
pub rows_more : (f : ℕ → List ℕ) (first row : ℕ) → first ≤ row → flat_map f (range_with_len first (row + 1 - first)) ≡ flat_map f (range_with_len first (row - first)) ++ f row
rows_more f first row le =
    let n : row + 1 - first ≡ row - first + 1 = omega (arith, le) in
    let at : first + (row - first) ≡ row = omega (arith, le) in
    ap (λ m. flat_map f (range_with_len first m)) n
    ∙ ap (flat_map f) (range-more first (row - first) ∙ ap (λ m. range_with_len first (row - first) ++ m ∷ []) at)
    ∙ flat_map-append f (range_with_len first (row - first)) (row ∷ [])
    ∙ ap (λ xs. flat_map f (range_with_len first (row - first)) ++ xs) (append-nil (f row))

-- one more run of rows
pub runs_more : (f : ℕ → List ℕ) (rows : List Run) (i : ℕ) (run : Run) → i < length rows → run ≡ get_or rows i run → flat_map f (spread (take (i + 1) rows)) ≡ flat_map f (spread (take i rows)) ++ flat_map f (elements_of run)
runs_more f rows i run lt at =
    ap (λ runs. flat_map f (spread runs)) (take_more rows i run lt ∙ ap (λ r. take i rows ++ r ∷ []) (sym at))
    ∙ ap (flat_map f) (flat_map-append elements_of (take i rows) (run ∷ []) ∙ ap (λ xs. spread (take i rows) ++ xs) (append-nil (elements_of run)))
    ∙ flat_map-append f (spread (take i rows)) (elements_of run)

-- ---- whole rows

whole_parts : (axis : Axis) → is_whole axis ≡ true → (axis.start ≡ 1) × (axis.end ≡ axis.dim) × ((axis.stride ≡ 1) ⊎ (axis.dim ≡ 1))
whole_parts axis e =
    let all = and_parts ((axis.start == 1) && (axis.end == axis.dim)) ((axis.stride == 1) || (axis.dim == 1)) e in
    let ends = and_parts (axis.start == 1) (axis.end == axis.dim) all.0 in
    (equal axis.start 1 ends.0, equal axis.end axis.dim ends.1, elim (or_parts (axis.stride == 1) (axis.dim == 1) all.1) [ inl s ↦ inl (equal axis.stride 1 s) | inr d ↦ inr (equal axis.dim 1 d) ])

whole_row : (axis : Axis) → Fits axis → is_whole axis ≡ true → (row : ℕ) → row_of axis row ≡ range_with_len (axis.dim * row) axis.dim
whole_row axis fits e row =
    let parts = whole_parts axis e in
    let base : axis.dim * row + (axis.start - 1) ≡ axis.dim * row = omega (arith, parts.0) in
    let all : axis.end - axis.start + 1 ≡ axis.dim = omega (arith, parts.0, parts.1, fits.ordered) in
    elim parts.2 [
      | inl stride ↦ row_of_stride_one axis row fits.start stride ∙ ap (λ n. range_with_len n (axis.end - axis.start + 1)) base ∙ ap (range_with_len (axis.dim * row)) all
      | inr one ↦
          let span : axis.end - axis.start ≡ 0 = omega (arith, parts.0, parts.1, one) in
          let few : (axis.end - axis.start) / axis.stride + 1 ≡ 1 = ap (λ n. n / axis.stride + 1) span ∙ ap (λ n. n + 1) (zero-div axis.stride) in
          let at : axis.start - 1 + axis.dim * row ≡ axis.dim * row = omega (arith, parts.0) in
          ap (λ n. map (λ index. (index - 1) + axis.dim * row) (spaced axis.start axis.stride n)) few
          ∙ ap (λ n. n ∷ []) at
          ∙ ap (range_with_len (axis.dim * row)) (sym one)
    ]

whole_run : (axis : Axis) → Fits axis → is_whole axis ≡ true → (first count : ℕ) → flat_map (row_of axis) (range_with_len first count) ≡ range_with_len (axis.dim * first) (axis.dim * count)
whole_run axis fits e first zero = let z : 0 ≡ axis.dim * 0 = omega arith in ap (range_with_len (axis.dim * first)) z
whole_run axis fits e first (suc count) =
    let n : axis.dim + axis.dim * count ≡ axis.dim * suc count = omega (arith, mul-suc axis.dim count) in
    let s : axis.dim * (first + 1) ≡ axis.dim * first + axis.dim = omega arith in
    ap (λ xs. xs ++ flat_map (row_of axis) (range_with_len (first + 1) count)) (whole_row axis fits e first)
    ∙ ap (λ xs. range_with_len (axis.dim * first) axis.dim ++ xs) (whole_run axis fits e (first + 1) count ∙ ap (λ m. range_with_len m (axis.dim * count)) s)
    ∙ sym (range-add (axis.dim * first) axis.dim (axis.dim * count))
    ∙ ap (range_with_len (axis.dim * first)) n

pub whole_spread : (axis : Axis) → Fits axis → is_whole axis ≡ true → (rows : List Run) → spread (map (whole_rows axis.dim) rows) ≡ flat_map (row_of axis) (spread rows)
whole_spread axis fits e [] = refl
whole_spread axis fits e (run ∷ rows) =
    ap (λ xs. xs ++ spread (map (whole_rows axis.dim) rows)) (sym (whole_run axis fits e run.first run.count))
    ∙ ap (λ xs. flat_map (row_of axis) (elements_of run) ++ xs) (whole_spread axis fits e rows)
    ∙ sym (flat_map-append (row_of axis) (elements_of run) (spread rows))

apart : (dim place first : ℕ) → 1 ≤ dim → place ≢ first → dim * place ≢ dim * first
apart dim place first some ne e =
    let low : dim * place ≤ dim * first = omega (arith, e) in
    let high : dim * first ≤ dim * place = omega (arith, e) in
    let a : place ≤ first = le_of_mul-le-mul_left low some in
    let b : first ≤ place = le_of_mul-le-mul_left high some in
    ne (omega (arith, a, b))

pub whole_maximal : (dim : ℕ) → 1 ≤ dim → (rows : List Run) → AreMaximal rows → AreMaximal (map (whole_rows dim) rows)
whole_maximal dim some [] m = tt
whole_maximal dim some (run ∷ rows) m = (room, elsewhere rows m.1, whole_maximal dim some rows m.2)
  where
    room : 1 ≤ dim * run.count
    room = let n : dim * 1 ≤ dim * run.count = mul-le-mul_left dim m.0 in omega (arith, n, some)

    elsewhere : (others : List Run) → BeginsElsewhere (run.first + run.count) others → BeginsElsewhere (dim * run.first + dim * run.count) (map (whole_rows dim) others)
    elsewhere [] b = tt
    elsewhere (next ∷ others) b =
        let sum : dim * (run.first + run.count) ≡ dim * run.first + dim * run.count = omega arith in
        λ e. apart dim (run.first + run.count) next.first some b (sum ∙ e)
