-- What is written of the header of a node is what the packed file has there.
use Rattle.std.proofs.Common.{◌≡◌, ℕ, zero, suc, refl, sym, ◌∙◌, ap, arith, List, [], ◌∷◌, ◌++◌, length, map, take, drop, replicate, get_or, append_assoc, length-append, length-take, take_all, min, ◌⊎◌, inl, inr, ◌+◌, ◌-◌, ◌<◌, ◌≤◌, ◌^◌, Bool, true, false, Option, None, Some}
use Rattle.std.specs.Prelude.{option_map, cond, not, is_some, ◌==◌}
use Rattle.std.specs.List.{range_with_len}
use Rattle.std.proofs.lemmas.List.{get_or-append_right, drop-replicate}
use Rattle.std.proofs.lemmas.Bool.{cases_lt}
use Rattle.adf_format.specs.Hex.{hex_text, hex_value}
use Rattle.std.specs.Prelude.{unwrap_or}
use Rattle.std.proofs.Math.Seq.{take-nil}
use Rattle.adf_records.specs.declared.NodeHeader.{NodeHeader}
use Rattle.adf_records.specs.View.{record_of}
use Rattle.layout_lint.specs.Nodes.{numbers_of}
use Rattle.adf_format.specs.Parts.{node_length, dimension_digits}
use Rattle.adf_format.specs.Placement.{TablePart}
use Rattle.adf_format.specs.LaysOut.{entry_count, chunk_pointer}
use Rattle.adf_format.specs.Spelled.{pointer_to}
use Rattle.adf_format.specs.Packed.{packed_table}
use Rattle.packed_laws.specs.PackedForm.{table_at, chunks_at, packed_dims}
use Rattle.adf_repack.specs.Copies.{pointer_when, numbers_in, CopiedIsPacked}
use Rattle.adf_repack.specs.Places.{limited}
use Rattle.adf_repack.proofs.PlaceLaws.{table_is, no_zero}

some_children : (c : ℕ) (cs : List ℕ) → not (length (c ∷ cs) == 0) ≡ true
some_children c cs = ap not (no_zero (length (c ∷ cs)) (omega arith))

table_pointer : (place : ℕ) (children : List ℕ) → pointer_when (not (length children == 0)) place ≡ pointer_to (option_map (λ (t : TablePart). t.place) (table_at place children))
table_pointer place [] = refl
table_pointer place (c ∷ cs) = ap (λ b. pointer_when b place) (some_children c cs)

table_entries : (place : ℕ) (children : List ℕ) → length children ≡ entry_count (table_at place children)
table_entries place [] = refl
table_entries place (c ∷ cs) = refl

chunk_pointed : (place : ℕ) (bytes : Option (List ℕ)) → pointer_when (is_some (option_map (λ (b : List ℕ). length b) bytes)) place ≡ pointer_to (chunk_pointer (chunks_at place bytes) None)
chunk_pointed place None = refl
chunk_pointed place (Some bytes) = refl

chunks_counted : (place : ℕ) (bytes : Option (List ℕ)) → ◌≡◌ {A = ℕ} (cond (is_some (option_map (λ (b : List ℕ). length b) bytes)) 1 0) (length (chunks_at place bytes))
chunks_counted place None = refl
chunks_counted place (Some bytes) = refl

pub copied_is : CopiedIsPacked
copied_is wide h place node is =
    let table : ℕ = place + node_length wide in
    rw (
      is.dims,
      is.name,
      is.label,
      is.kind,
      is.rank,
      table_is node.children,
      table_pointer table node.children,
      ← table_entries table node.children,
      chunk_pointed (table + packed_table node.children) node.bytes,
      chunks_counted (table + packed_table node.children) node.bytes,
    ) refl

-- ---- twelve dimensions

map_past : (f : List ℕ → List ℕ) (xs : List (List ℕ)) (i : ℕ) → f [] ≡ [] → get_or (map f xs) i [] ≡ f (get_or xs i [])
map_past f [] i none = sym none
map_past f (x ∷ xs) zero none = refl
map_past f (x ∷ xs) (suc i) none = map_past f xs i none

map_same : (f g : ℕ → ℕ) (xs : List ℕ) → ((i : ℕ) → f i ≡ g i) → map f xs ≡ map g xs
map_same f g [] same = refl
map_same f g (x ∷ xs) same = ap (λ n. n ∷ map f xs) (same x) ∙ ap (λ l. g x ∷ l) (map_same f g xs same)

-- the numbers of a header are those of its record
pub numbers_are : (h : NodeHeader) → numbers_of h ≡ numbers_in (record_of h)
numbers_are h =
    map_same (λ i. unwrap_or (hex_value (take (dimension_digits h.wide) (get_or h.dims i []))) 0) (λ i. unwrap_or (hex_value (get_or (map (take (dimension_digits h.wide)) h.dims) i [])) 0) (range_with_len 0 12)
    (λ i. ap (λ (d : List ℕ). unwrap_or (hex_value d) 0) (sym (map_past (take (dimension_digits h.wide)) h.dims i (take-nil (dimension_digits h.wide)))))

-- the first of twelve numbers, and zeros
pub first_of : (numbers copied zeros : List ℕ) (r m : ℕ) → length numbers ≡ 12 → m ≡ min r 12 → copied ≡ take m numbers → zeros ≡ replicate 12 0
    → copied ++ drop m zeros ≡ take r numbers ++ replicate (12 - r) 0
first_of numbers copied zeros r m long is first none =
    ap (λ (l : List ℕ). l ++ drop m zeros) (first ∙ same (cases_lt r 12))
    ∙ ap (λ (l : List ℕ). take r numbers ++ l) (ap (drop m) none ∙ drop-replicate m 12 0 ∙ ap (λ k. replicate k 0) (omega (arith, is)))
  where
    same : (r < 12) ⊎ (12 ≤ r) → take m numbers ≡ take r numbers
    same (inl lt) = ap (λ k. take k numbers) (omega (arith, is, lt))
    same (inr le) = take_all m numbers (omega (arith, is, le, long)) ∙ sym (take_all r numbers (omega (arith, le, long)))

each_at : (f : ℕ → List ℕ) (before xs : List ℕ) → map (λ (i : ℕ). f (get_or (before ++ xs) i 0)) (range_with_len (length before) (length xs)) ≡ map f xs
each_at f before [] = refl
each_at f before (x ∷ xs) =
    let none : length before - length before ≡ 0 = omega arith in
    let one : get_or (before ++ x ∷ xs) (length before) 0 ≡ x = get_or-append_right before (x ∷ xs) (length before) (length before) 0 refl (omega arith) ∙ ap (λ (i : ℕ). get_or (x ∷ xs) i 0) none in
    let more : length (before ++ x ∷ []) ≡ length before + 1 = length-append before (x ∷ []) in
    ap (λ (n : ℕ). f n ∷ map (λ (i : ℕ). f (get_or (before ++ x ∷ xs) i 0)) (range_with_len (length before + 1) (length xs))) one
    ∙ ap (λ (l : List (List ℕ)). f x ∷ l) (
    ap (λ (l : List ℕ). map (λ (i : ℕ). f (get_or l i 0)) (range_with_len (length before + 1) (length xs))) (sym (append_assoc before (x ∷ []) xs))
    ∙ ap (λ (k : ℕ). map (λ (i : ℕ). f (get_or ((before ++ x ∷ []) ++ xs) i 0)) (range_with_len k (length xs))) (sym more)
    ∙ each_at f (before ++ x ∷ []) xs
    )

-- what is made of twelve numbers, one by one
pub each_of_twelve : (f : ℕ → List ℕ) (xs : List ℕ) → length xs ≡ 12 → map (λ (i : ℕ). f (get_or xs i 0)) (range_with_len 0 12) ≡ map f xs
each_of_twelve f xs long = ap (λ (n : ℕ). map (λ (i : ℕ). f (get_or xs i 0)) (range_with_len 0 n)) (sym long) ∙ each_at f [] xs

zero_digits : (wide : Bool) → hex_text (dimension_digits wide) 0 ≡ replicate (dimension_digits wide) 48
zero_digits false = refl
zero_digits true = refl

map_zeros : (f : ℕ → List ℕ) (xs : List ℕ) (n : ℕ) → map f (xs ++ replicate n 0) ≡ map f xs ++ replicate n (f 0)
map_zeros f [] zero = refl
map_zeros f [] (suc n) = ap (λ (l : List (List ℕ)). f 0 ∷ l) (map_zeros f [] n)
map_zeros f (x ∷ xs) n = ap (λ (l : List (List ℕ)). f x ∷ l) (map_zeros f xs n)

-- the dimensions of a packed header, from numbers with zeros behind them
pub dims_are : (wide : Bool) (r : ℕ) (numbers values : List ℕ) (texts : List (List ℕ)) → length numbers ≡ 12 → values ≡ take r numbers ++ replicate (12 - r) 0
    → texts ≡ map (hex_text (dimension_digits wide)) values → texts ≡ packed_dims wide (take r numbers)
dims_are wide r numbers values texts long are is =
    is ∙ ap (map (hex_text (dimension_digits wide))) are ∙ map_zeros (hex_text (dimension_digits wide)) (take r numbers) (12 - r)
    ∙ ap (λ (z : List ℕ). map (hex_text (dimension_digits wide)) (take r numbers) ++ replicate (12 - r) z) (zero_digits wide)
    ∙ ap (λ (k : ℕ). map (hex_text (dimension_digits wide)) (take r numbers) ++ replicate k (replicate (dimension_digits wide) 48)) (omega (arith, long, length-take r numbers))

pub limited_is : (n : ℕ) → n < 2 ^ 44 → limited n ≡ n
limited_is n lt = omega (arith, lt)
