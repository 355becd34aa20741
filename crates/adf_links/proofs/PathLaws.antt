-- Where the components of a path stand.
use Rattle.std.proofs.Common.{◌≡◌, ℕ, zero, suc, ◌+◌, ◌-◌, ◌≤◌, Bool, true, false, cond, List, [], ◌∷◌, ◌++◌, length, take, drop, map, get_or, refl, sym, ◌∙◌, ap, subst, arith, length-append, append_assoc}
use Rattle.std.specs.Prelude.{◌==◌}
use Rattle.std.specs.List.{All, slice_split, onto_first, join_with_byte}
use Rattle.std.proofs.lemmas.List.Elements.{All-nil, All-cons}
use Rattle.std.proofs.lemmas.List.{take_at, drop_at, drop_all, append-nil}
use Rattle.std.proofs.lemmas.List.Splits.{join_with_byte-slice_split}
use Rattle.adf_format.specs.Links.{between_slashes, put_before, components}
use Rattle.adf_format.specs.Names.{ends_with_space}
use Rattle.adf_model.specs.declared.lists.PathRange.{PathRange}
use Rattle.adf_links.specs.Components.{ranges_from, ranges_between, component_ranges, text_at, IsWithin}

-- the last byte
pub ends_last : (xs : List ℕ) (i : ℕ) → i + 1 ≡ length xs → (get_or xs i 0 == 32) ≡ ends_with_space xs
ends_last [] i h = absurd (omega (arith, h))
ends_last (x ∷ []) zero h = refl
ends_last (x ∷ []) (suc i) h = absurd (omega (arith, h))
ends_last (x ∷ y ∷ xs) zero h = absurd (omega (arith, h))
ends_last (x ∷ y ∷ xs) (suc i) h = ends_last (y ∷ xs) i (omega (arith, h))

-- ---- the pass over a path

-- the ranges that end at the slashes of what is left and at its end, where the first started at `start` and what is left stands at `place`
abbrev pub ranges_left : ℕ → ℕ → List ℕ → List PathRange
ranges_left start place [] = record { start = start; end = place } ∷ []
ranges_left start place (b ∷ rest) = cond (b == 47) (record { start = start; end = place } ∷ ranges_left (place + 1) (place + 1) rest) (ranges_left start (place + 1) rest)

-- the ranges of texts of which the first has begun at `start`, and the rest of it stands at `place`
abbrev begun_ranges : ℕ → ℕ → List (List ℕ) → List PathRange
begun_ranges start place [] = []
begun_ranges start place (text ∷ texts) = record { start = start; end = place + length text } ∷ ranges_from (place + length text + 1) texts

begun_here : (start : ℕ) (texts : List (List ℕ)) → begun_ranges start start texts ≡ ranges_from start texts
begun_here start [] = refl
begun_here start (text ∷ texts) = refl

some_text : (path : List ℕ) → (text : List ℕ) × (texts : List (List ℕ)) × (between_slashes path ≡ text ∷ texts)
some_text [] = ([], [], refl)
some_text (b ∷ path) = let IH = some_text path in by_case (b == 47) IH.0 IH.1 IH.2
  where
    by_case : (t : Bool) (text : List ℕ) (texts : List (List ℕ)) → between_slashes path ≡ text ∷ texts → (first : List ℕ) × (more : List (List ℕ)) × (cond t ([] ∷ between_slashes path) (put_before b (between_slashes path)) ≡ first ∷ more)
    by_case true text texts e = ([], between_slashes path, refl)
    by_case false text texts e = (b ∷ text, texts, ap (put_before b) e)

begun_put : (start place b : ℕ) (text : List ℕ) (texts : List (List ℕ)) → begun_ranges start (place + 1) (text ∷ texts) ≡ begun_ranges start place (put_before b (text ∷ texts))
begun_put start place b text texts = let e : place + 1 + length text ≡ place + suc (length text) = omega arith in ap (λ n. record { start = start; end = n } ∷ ranges_from (n + 1) texts) e

pub ranges_left-all : (start place : ℕ) (path : List ℕ) → ranges_left start place path ≡ begun_ranges start place (between_slashes path)
ranges_left-all start place [] = let e : place ≡ place + 0 = omega arith in ap (λ n. record { start = start; end = n } ∷ []) e
ranges_left-all start place (b ∷ path) = by_case (λ s p. ranges_left-all s p path) (b == 47)
  where
    by_case : ((s p : ℕ) → ranges_left s p path ≡ begun_ranges s p (between_slashes path)) → (t : Bool) → cond t (record { start = start; end = place } ∷ ranges_left (place + 1) (place + 1) path) (ranges_left start (place + 1) path) ≡ begun_ranges start place (cond t ([] ∷ between_slashes path) (put_before b (between_slashes path)))
    by_case rest true =
        let e : place ≡ place + 0 = omega arith in
        ap (λ ranges. record { start = start; end = place } ∷ ranges) (rest (place + 1) (place + 1) ∙ begun_here (place + 1) (between_slashes path))
        ∙ ap (λ n. record { start = start; end = n } ∷ ranges_from (n + 1) (between_slashes path)) e
    by_case rest false =
        let some = some_text path in
        rest start (place + 1)
        ∙ ap (begun_ranges start (place + 1)) some.2
        ∙ begun_put start place b some.0 some.1
        ∙ ap (λ texts. begun_ranges start place (put_before b texts)) (sym some.2)

-- all ranges from a place on
pub ranges_left-from : (path : List ℕ) (from : ℕ) → ranges_left from from (drop from path) ≡ ranges_between path from
ranges_left-from path from = ranges_left-all from from (drop from path) ∙ begun_here from (between_slashes (drop from path))

-- ---- the texts of the ranges

put-onto : (b : ℕ) (texts : List (List ℕ)) → put_before b texts ≡ onto_first b texts
put-onto b [] = refl
put-onto b (text ∷ texts) = refl

-- what stands between slashes, in the words of std
pub between_slashes-split : (path : List ℕ) → between_slashes path ≡ slice_split (λ b. b == 47) path
between_slashes-split [] = refl
between_slashes-split (b ∷ path) =
    let IH = between_slashes-split path in
    ap (λ texts. cond (b == 47) ([] ∷ texts) (put_before b texts)) IH ∙ ap (cond (b == 47) ([] ∷ slice_split (λ b. b == 47) path)) (put-onto b (slice_split (λ b. b == 47) path))

joined-between : (path : List ℕ) → join_with_byte 47 (between_slashes path) ≡ path
joined-between path = ap (join_with_byte 47) (between_slashes-split path) ∙ join_with_byte-slice_split 47 path

-- a text behind others
text_behind : (before text after : List ℕ) → text_at (before ++ (text ++ after)) (record { start = length before; end = length before + length text }) ≡ text
text_behind before text after =
    let n : length before + length text - length before ≡ length text = omega arith in
    ap (λ k. take k (drop (length before) (before ++ (text ++ after)))) n
    ∙ ap (take (length text)) (drop_at before (text ++ after) (length before) refl)
    ∙ take_at text after (length text) refl

texts_of : (before : List ℕ) (texts : List (List ℕ)) → map (text_at (before ++ join_with_byte 47 texts)) (ranges_from (length before) texts) ≡ texts
texts_of before [] = refl
texts_of before (text ∷ []) =
    ap (λ t. t ∷ []) (ap (λ whole. text_at (before ++ whole) (record { start = length before; end = length before + length text })) (sym (append-nil text)) ∙ text_behind before text [])
texts_of before (text ∷ next ∷ texts) =
    let after = join_with_byte 47 (next ∷ texts) in
    let front = before ++ (text ++ 47 ∷ []) in
    let whole : front ++ after ≡ before ++ (text ++ 47 ∷ after) = append_assoc before (text ++ 47 ∷ []) after ∙ ap (λ t. before ++ t) (append_assoc text (47 ∷ []) after) in
    let long : length front ≡ length before + length text + 1 = omega (arith, length-append before (text ++ 47 ∷ []), length-append text (47 ∷ [])) in
    let rest : map (text_at (front ++ after)) (ranges_from (length front) (next ∷ texts)) ≡ next ∷ texts = texts_of front (next ∷ texts) in
    ap (λ t. t ∷ map (text_at (before ++ (text ++ 47 ∷ after))) (ranges_from (length before + length text + 1) (next ∷ texts))) (text_behind before text (47 ∷ after))
    ∙ ap (λ ts. text ∷ ts) (ap (λ n. map (text_at (before ++ (text ++ 47 ∷ after))) (ranges_from n (next ∷ texts))) (sym long) ∙ ap (λ path. map (text_at path) (ranges_from (length front) (next ∷ texts))) (sym whole) ∙ rest)

within_of : (n start : ℕ) (texts : List (List ℕ)) → start + length (join_with_byte 47 texts) ≤ n → All (IsWithin n) (ranges_from start texts)
within_of n start [] le = All-nil (IsWithin n)
within_of n start (text ∷ []) le = All-cons (IsWithin n) _ [] (record { ordered = omega arith; ended = omega (arith, le) }) (All-nil (IsWithin n))
within_of n start (text ∷ next ∷ texts) le =
    let long : length (text ++ 47 ∷ join_with_byte 47 (next ∷ texts)) ≡ length text + suc (length (join_with_byte 47 (next ∷ texts))) = length-append text (47 ∷ join_with_byte 47 (next ∷ texts)) in
    All-cons (IsWithin n) _ (ranges_from (start + length text + 1) (next ∷ texts)) (record { ordered = omega arith; ended = omega (arith, le, long) }) (within_of n (start + length text + 1) (next ∷ texts) (omega (arith, le, long)))

-- the ranges from the start, and those behind the first byte
texts_from : (path : List ℕ) → map (text_at path) (ranges_from 0 (between_slashes path)) ≡ between_slashes path
texts_from path = ap (λ p. map (text_at p) (ranges_from 0 (between_slashes path))) (sym (joined-between path)) ∙ texts_of [] (between_slashes path)

texts_behind : (b : ℕ) (path : List ℕ) → map (text_at (b ∷ path)) (ranges_from 1 (between_slashes path)) ≡ between_slashes path
texts_behind b path = ap (λ p. map (text_at (b ∷ p)) (ranges_from 1 (between_slashes path))) (sym (joined-between path)) ∙ texts_of (b ∷ []) (between_slashes path)

within_from : (n start : ℕ) (path : List ℕ) → start + length path ≤ n → All (IsWithin n) (ranges_from start (between_slashes path))
within_from n start path le = within_of n start (between_slashes path) (subst (λ p. start + length p ≤ n) (sym (joined-between path)) le)

-- the texts of a path's ranges are its components
pub texts_of_ranges : (path : List ℕ) → map (text_at path) (component_ranges path) ≡ components path
texts_of_ranges [] = refl
texts_of_ranges (b ∷ []) = by_case (b == 47) refl
  where
    by_case : (t : Bool) → (b == 47) ≡ t → map (text_at (b ∷ [])) (ranges_from (cond t 1 0) (cond t [] ((b ∷ []) ∷ []))) ≡ cond t [] ((b ∷ []) ∷ [])
    by_case true e = refl
    by_case false e = refl
texts_of_ranges (b ∷ c ∷ path) = by_case (b == 47)
  where
    by_case : (t : Bool) → map (text_at (b ∷ c ∷ path)) (ranges_from (cond t 1 0) (cond t (between_slashes (c ∷ path)) (between_slashes (b ∷ c ∷ path)))) ≡ cond t (between_slashes (c ∷ path)) (between_slashes (b ∷ c ∷ path))
    by_case true = texts_behind b (c ∷ path)
    by_case false = texts_from (b ∷ c ∷ path)

-- and they lie within it
pub ranges_within : (path : List ℕ) → All (IsWithin (length path)) (component_ranges path)
ranges_within [] = within_from 0 0 [] (omega arith)
ranges_within (b ∷ []) = by_case (b == 47)
  where
    by_case : (t : Bool) → All (IsWithin 1) (ranges_from (cond t 1 0) (cond t [] ((b ∷ []) ∷ [])))
    by_case true = All-nil (IsWithin 1)
    by_case false = All-cons (IsWithin 1) _ [] (record { ordered = omega arith; ended = omega arith }) (All-nil (IsWithin 1))
ranges_within (b ∷ c ∷ path) = by_case (b == 47)
  where
    by_case : (t : Bool) → All (IsWithin (length (b ∷ c ∷ path))) (ranges_from (cond t 1 0) (cond t (between_slashes (c ∷ path)) (between_slashes (b ∷ c ∷ path))))
    by_case true = within_from (length (b ∷ c ∷ path)) 1 (c ∷ path) (omega arith)
    by_case false = within_from (length (b ∷ c ∷ path)) 0 (b ∷ c ∷ path) (omega arith)

-- the pass at the end of the path
pub last_range : (path : List ℕ) (found : List PathRange) (start place from : ℕ) → length path ≤ place → found ++ ranges_left start place (drop place path) ≡ ranges_left from from (drop from path) → found ++ record { start = start; end = place } ∷ [] ≡ ranges_between path from
last_range path found start place from le e =
    let nothing : drop place path ≡ [] = drop_all place path le in
    ap (λ rest. found ++ ranges_left start place rest) (sym nothing) ∙ e ∙ ranges_left-from path from
