-- A record at a place: the same rules, their places from there on.
use Rattle.std.proofs.Common.{◌≡◌, ℕ, zero, suc, ◌+◌, ◌*◌, List, [], ◌∷◌, ◌++◌, map, refl, sym, ◌∙◌, ap, arith, Bool, true, false, cond}
use Rattle.std.specs.Prelude.{Some, Option, option_map, ◌&&◌, ◌==◌, nat_lt, nat_le, codes}
use Rattle.std.specs.Bool.{beq}
use Rattle.std.specs.List.{range_with_len}
use Rattle.std.proofs.lemmas.List.{map-append}
use Rattle.adf_format.specs.Hex.{is_hex}
use Rattle.adf_format.specs.Names.{is_mt}
use Rattle.adf_format.specs.Pointer.{is_pointer, is_blank}
use Rattle.adf_format.specs.Parts.{type_of}
use Rattle.adf_format.specs.RecordFields.{free_table_fields}
use Rattle.adf_format.specs.Checks.{Row, row, Fault, first_broken}
use Rattle.adf_format.specs.Fields.{field, number}
use Rattle.adf_format.specs.FirstFault.{tag_rows, dimension_row, has_type, type_or_mt, is_pointer_for, count_up, free_table_rows, node_rows, text_rows, number_rows, pointer_rows, shape_rows}
use Rattle.adf_records.specs.Laws.{placed, NodeFaultIsPlaced, FreeFaultIsPlaced}

abbrev pub moved : ℕ → Row → Row
moved base r = record { fault = placed base r.fault; kept = r.kept }

moved_step : (base : ℕ) (t : Bool) (f : Fault) (a b : Option Fault) → a ≡ option_map (placed base) b → cond t a (Some (placed base f)) ≡ option_map (placed base) (cond t b (Some f))
moved_step base true f a b e = e
moved_step base false f a b e = refl

pub first_broken-moved : (base : ℕ) (rows : List Row) → first_broken (map (moved base) rows) ≡ option_map (placed base) (first_broken rows)
first_broken-moved base [] = refl
first_broken-moved base (r ∷ rows) = moved_step base r.kept r.fault (first_broken (map (moved base) rows)) (first_broken rows) (first_broken-moved base rows)

moved_texts : (wide : Bool) (base : ℕ) (named : Bool) (bytes : List ℕ) → text_rows wide base named bytes ≡ map (moved base) (text_rows wide 0 named bytes)
unfolding text_rows
moved_texts true base named bytes = refl
moved_texts false base named bytes = refl

moved_numbers : (wide : Bool) (base : ℕ) (bytes : List ℕ) → number_rows wide base bytes ≡ map (moved base) (number_rows wide 0 bytes)
unfolding number_rows
moved_numbers true base bytes = refl
moved_numbers false base bytes = refl

-- a row at two sums that are one
row_at : (rule a b : ℕ) (kept : Bool) → a ≡ b → row rule a kept ≡ row rule b kept
row_at rule a b kept e = ap (λ p. row rule p kept) e

moved_pointers : (wide : Bool) (base : ℕ) (bytes : List ℕ) → pointer_rows wide base bytes ≡ map (moved base) (pointer_rows wide 0 bytes)
unfolding pointer_rows
moved_pointers true base bytes = ap (λ r. row 19 (base + 84) (is_pointer_for (number bytes 76 8) (field bytes 84 12)) ∷ r ∷ []) (row_at 19 (base + 322 + 4) (base + 326) (is_pointer_for (number bytes 322 4) (field bytes 326 12)) (omega arith))
moved_pointers false base bytes = ap (λ r. row 19 (base + 84) (is_pointer_for (number bytes 76 8) (field bytes 84 12)) ∷ r ∷ []) (row_at 19 (base + 226 + 4) (base + 230) (is_pointer_for (number bytes 226 4) (field bytes 230 12)) (omega arith))

-- rows of a count, at a place
moved_map : (base : ℕ) (f g : ℕ → Row) (a n : ℕ) → ((i : ℕ) → f i ≡ moved base (g i)) → map f (range_with_len a n) ≡ map (moved base) (map g (range_with_len a n))
moved_map base f g a zero same = refl
moved_map base f g a (suc n) same = ap (λ r. r ∷ map f (range_with_len (a + 1) n)) (same a) ∙ ap (λ rows. moved base (g a) ∷ rows) (moved_map base f g (a + 1) n same)

moved_dimension : (wide : Bool) (base : ℕ) (bytes : List ℕ) (i : ℕ) → dimension_row wide base bytes i ≡ moved base (dimension_row wide 0 bytes i)
unfolding dimension_row
moved_dimension true base bytes i = row_at 21 (base + 130 + 16 * i) (base + (130 + 16 * i)) (is_hex (field bytes (130 + 16 * i) 16) && nat_lt 0 (number bytes (130 + 16 * i) 16)) (omega arith)
moved_dimension false base bytes i = row_at 21 (base + 130 + 8 * i) (base + (130 + 8 * i)) (is_hex (field bytes (130 + 8 * i) 8) && nat_lt 0 (number bytes (130 + 8 * i) 8)) (omega arith)

moved_shape : (wide : Bool) (base : ℕ) (bytes : List ℕ) → shape_rows wide base bytes ≡ map (moved base) (shape_rows wide 0 bytes)
unfolding shape_rows
moved_shape wide base bytes =
    ap (λ rows. row 20 (base + 96) (has_type (type_of (field bytes 96 32)))
    ∷ row 21 (base + 128) (nat_le (number bytes 128 2) 12 && beq (number bytes 128 2 == 0) (is_mt (type_or_mt (field bytes 96 32))))
    ∷ rows) (moved_map base (dimension_row wide base bytes) (dimension_row wide 0 bytes) 0 (number bytes 128 2) (moved_dimension wide base bytes))

pub node_rows_at : (wide : Bool) (base : ℕ) (named : Bool) (bytes : List ℕ) → node_rows wide base named bytes ≡ map (moved base) (node_rows wide 0 named bytes)
unfolding node_rows
node_rows_at wide base named bytes =
    let t = text_rows wide 0 named bytes in
    let n = number_rows wide 0 bytes in
    let p = pointer_rows wide 0 bytes in
    let s = shape_rows wide 0 bytes in
    ap (λ xs. xs ++ number_rows wide base bytes ++ pointer_rows wide base bytes ++ shape_rows wide base bytes) (moved_texts wide base named bytes)
    ∙ ap (λ xs. map (moved base) t ++ xs ++ pointer_rows wide base bytes ++ shape_rows wide base bytes) (moved_numbers wide base bytes)
    ∙ ap (λ xs. map (moved base) t ++ map (moved base) n ++ xs ++ shape_rows wide base bytes) (moved_pointers wide base bytes)
    ∙ ap (λ xs. map (moved base) t ++ map (moved base) n ++ map (moved base) p ++ xs) (moved_shape wide base bytes)
    ∙ ap (λ xs. xs ++ map (moved base) p ++ map (moved base) s) (sym (map-append (moved base) t n))
    ∙ ap (λ xs. xs ++ map (moved base) s) (sym (map-append (moved base) (t ++ n) p))
    ∙ sym (map-append (moved base) (t ++ n ++ p) s)

-- the first fault of a node header at a place is that of its bytes, from the place on
pub node_placed : NodeFaultIsPlaced
node_placed wide named base bytes = ap first_broken (node_rows_at wide base named bytes) ∙ first_broken-moved base (node_rows wide 0 named bytes)

-- the free table
moved_free : (base : ℕ) (bytes : List ℕ) → free_table_rows base bytes ≡ map (moved base) (free_table_rows 0 bytes)
unfolding free_table_rows
moved_free base bytes =
    let pointers : ℕ → ℕ → Row = λ b k. row 10 (b + 4 + 12 * k) (is_pointer (field bytes (4 + 12 * k) 12)) in
    let pairs : ℕ → ℕ → Row = λ b k. row 11 (b + 4 + 24 * k) (beq (is_blank (field bytes (4 + 24 * k) 12)) (is_blank (field bytes (16 + 24 * k) 12))) in
    ap (λ rows. tag_rows 9 base bytes free_table_fields ++ rows ++ map (pairs base) (count_up 3))
    (moved_map base (pointers base) (pointers 0) 0 6 (λ k. row_at 10 (base + 4 + 12 * k) (base + (0 + 4 + 12 * k)) (is_pointer (field bytes (4 + 12 * k) 12)) (omega arith)))
    ∙ ap (λ rows. tag_rows 9 base bytes free_table_fields ++ map (moved base) (map (pointers 0) (count_up 6)) ++ rows)
    (moved_map base (pairs base) (pairs 0) 0 3 (λ k. row_at 11 (base + 4 + 24 * k) (base + (0 + 4 + 24 * k)) (beq (is_blank (field bytes (4 + 24 * k) 12)) (is_blank (field bytes (16 + 24 * k) 12))) (omega arith)))

pub free_placed : FreeFaultIsPlaced
free_placed base bytes = ap first_broken (moved_free base bytes) ∙ first_broken-moved base (free_table_rows 0 bytes)
