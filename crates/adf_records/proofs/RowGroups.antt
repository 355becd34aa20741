-- Rows, a group or a turn at a time.
use Rattle.std.proofs.Common.{◌≡◌, ℕ, ◌+◌, ◌-◌, ◌<◌, List, [], ◌∷◌, ◌++◌, map, refl, ◌∙◌, ap, Bool, true, false, cond}
use Rattle.std.specs.Prelude.{Some, None, Option}
use Rattle.adf_records.specs.Groups.{mark_rows, size_row, place_rows}
use Rattle.std.specs.Option.{option_or}
use Rattle.std.specs.List.{range_with_len}
use Rattle.adf_format.specs.Checks.{Row, Fault, first_broken}
use Rattle.adf_format.specs.FirstFault.{header_rows, count_up, node_rows, text_rows, number_rows, pointer_rows, shape_rows}
use Rattle.adf_format.proofs.CheckLaws.{first_broken-next, first_broken-append}

one_or : (t : Bool) (f : Fault) (o : Option Fault) → cond t o (Some f) ≡ option_or (cond t None (Some f)) o
one_or true f o = refl
one_or false f o = refl

-- a loop over rows: the row of this turn, or else those after it
pub row_then : (f : ℕ → Row) (k n : ℕ) → k < n
    → first_broken (map f (range_with_len k (n - k))) ≡ option_or (first_broken (f k ∷ [])) (first_broken (map f (range_with_len (k + 1) (n - (k + 1)))))
row_then f k n h = first_broken-next f k n h ∙ one_or (f k).kept (f k).fault (first_broken (map f (range_with_len (k + 1) (n - (k + 1)))))

-- the groups of a node header
pub node_parts : (wide : Bool) (base : ℕ) (named : Bool) (bytes : List ℕ)
    → first_broken (node_rows wide base named bytes)
    ≡ option_or (option_or (option_or (first_broken (text_rows wide base named bytes)) (first_broken (number_rows wide base bytes))) (first_broken (pointer_rows wide base bytes))) (first_broken (shape_rows wide base bytes))
unfolding node_rows
node_parts wide base named bytes =
    let t = text_rows wide base named bytes in
    let n = number_rows wide base bytes in
    let p = pointer_rows wide base bytes in
    let s = shape_rows wide base bytes in
    first_broken-append (t ++ n ++ p) s
    ∙ ap (λ o. option_or o (first_broken s)) (first_broken-append (t ++ n) p ∙ ap (λ o. option_or o (first_broken p)) (first_broken-append t n))

header_groups : (bytes : List ℕ) → header_rows bytes ≡ mark_rows bytes ++ map (size_row bytes) (count_up 12) ++ place_rows bytes
unfolding header_rows mark_rows size_row place_rows
header_groups bytes = refl

pub header_parts : (bytes : List ℕ) → first_broken (header_rows bytes) ≡ option_or (option_or (first_broken (mark_rows bytes)) (first_broken (map (size_row bytes) (count_up 12)))) (first_broken (place_rows bytes))
header_parts bytes =
    let m = mark_rows bytes in
    let s = map (size_row bytes) (count_up 12) in
    let p = place_rows bytes in
    ap first_broken (header_groups bytes) ∙ first_broken-append (m ++ s) p ∙ ap (λ o. option_or o (first_broken p)) (first_broken-append m s)
