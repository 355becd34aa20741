-- A part of a list: so many elements from one on, and the numbers in their bytes.
use Rattle.std.proofs.Common.{◌≡◌, ◌∙◌, sym, ap, subst, refl, arith, ℕ, zero, suc, ◌+◌, ◌-◌, ◌*◌, ◌≤◌, ℤ, Bool, true, false, List, [], ◌∷◌, ◌++◌, length, take, drop, length-drop, map}
use Rattle.std.specs.Prelude.{◌/◌, ◌||◌, ◌&&◌, ◌==◌, not, nat_le, unwrap_or, is_some, if◌then◌else◌, Option, Some, None, Result, Ok, Err, IfOk}
use Rattle.std.specs.List.{list_any}
use Rattle.std.specs.Int.{w32, w64}
use Rattle.std.proofs.lemmas.List.{append-nil, drop-drop, drop-take, get_or-take, length-take-le}
use Rattle.std.proofs.lemmas.Bool.{le-ltb}
use Rattle.std.proofs.lemmas.Bool.Decides.{Decides-eqb}
use Rattle.adf_format.specs.declared.types.DataType.{DataType}
use Rattle.adf_format.specs.declared.types.DataType.TheVariants.{I4, I8}
use Rattle.adf_format.specs.Names.{is_same_type, element_size, product}
use Rattle.adf_format.specs.Tree.{Node}
use Rattle.adf_format.specs.declared.types.Format.{Format}
use Rattle.adf_format.specs.declared.types.Format.TheVariants.{Little, Big}
use Rattle.adf_model.specs.declared.error.AdfError.{AdfError}
use Rattle.adf_model.specs.declared.error.AdfError.TheVariants.{BadRange}
use Rattle.adf_model.specs.declared.tree.Reply.{Reply}
use Rattle.adf_model.specs.declared.tree.Selection.{Selection}
use Rattle.adf_model.specs.Tests.{checked, and_then}
use Rattle.adf_model.specs.Edits.{size_of, size_limit}
use Rattle.adf_model.specs.Answers.{bytes_of as answered_bytes}
use Rattle.adf_model.specs.Selection.{spaced, elements_from, elements, element_bytes, selection_fits}
use Rattle.adf_model.proofs.Basics.{not_true}
use Rattle.sids_views.specs.Asks.{IsValueOr}
use Rattle.sids_views.specs.Replies.{as_bytes}
use Rattle.sids_rules.specs.Values.{is_type, is_ints, has_rank, ints_of, numbers_in}
use Rattle.sids_rules.specs.Rules.{first_dimension}
use Rattle.sids_section_rules.specs.Parts.{part_bytes, IsPart}
use Rattle.sids_readings.specs.Reading.{is_list, bytes_of, first_number, numbers_of, is_wide}
use Rattle.sids_readings.proofs.TextLaws.{both}
use Rattle.sids_readings.proofs.ListLaws.{or_assoc}

-- ---- the elements of a selection without steps

placed : (a n d : ℕ) → map (λ i. (i - 1) + d * 0) (spaced (a + 1) 1 n) ≡ spaced a 1 n
placed a zero d = refl
placed a (suc n) d =
    let here : ((a + 1) - 1) + d * 0 ≡ a = omega arith in
    ap (λ k. k ∷ map (λ i. (i - 1) + d * 0) (spaced ((a + 1) + 1) 1 n)) here ∙ ap (λ ks. a ∷ ks) (placed (a + 1) n d)

pub elements_are : (d first count : ℕ) (starts ends strides : List ℕ) → 1 ≤ count
    → elements_from (d ∷ []) ((first + 1) ∷ starts) ((first + count) ∷ ends) (1 ∷ strides) ≡ spaced first 1 count
elements_are d first count starts ends strides some =
    let many : ((first + count) - (first + 1)) / 1 + 1 ≡ count = omega arith in
    append-nil _ ∙ ap (λ n. map (λ i. (i - 1) + d * 0) (spaced (first + 1) 1 n)) many ∙ placed first count d

-- ---- the bytes of these elements

abbrev nothing : List ℕ
nothing = []

nil : (n : ℕ) → take n nothing ≡ nothing
nil zero = refl
nil (suc n) = refl

take_more : (m n : ℕ) (xs : List ℕ) → take m xs ++ take n (drop m xs) ≡ take (m + n) xs
take_more zero n xs = let e : n ≡ 0 + n = omega arith in ap (λ k. take k xs) e
take_more (suc m) n [] = nil n ∙ sym (nil (suc m + n))
take_more (suc m) n (x ∷ xs) =
    let e : suc (m + n) ≡ suc m + n = omega arith in
    ap (λ ys. x ∷ ys) (take_more m n xs) ∙ ap (λ k. take k (x ∷ xs)) e

one_behind : (wide : Bool) (a : ℕ) → a * bytes_of wide + bytes_of wide ≡ (a + 1) * bytes_of wide
one_behind true a = omega arith
one_behind false a = omega arith

one_before : (wide : Bool) (n : ℕ) → bytes_of wide + n * bytes_of wide ≡ suc n * bytes_of wide
one_before true n = omega arith
one_before false n = omega arith

none : (wide : Bool) → 0 ≡ 0 * bytes_of wide
none true = refl
none false = refl

pub run_is : (wide : Bool) (first count : ℕ) (bytes : List ℕ) → element_bytes (bytes_of wide) (spaced first 1 count) bytes ≡ take (count * bytes_of wide) (drop (first * bytes_of wide) bytes)
run_is wide first zero bytes = ap (λ n. take n (drop (first * bytes_of wide) bytes)) (none wide)
run_is wide first (suc count) bytes =
    let w = bytes_of wide in
    ap (λ xs. take w (drop (first * w) bytes) ++ xs)
    (run_is wide (first + 1) count bytes ∙ ap (λ n. take (count * w) (drop n bytes)) (sym (one_behind wide first)) ∙ ap (take (count * w)) (sym (drop-drop w (first * w) bytes)))
    ∙ take_more w (count * w) (drop (first * w) bytes)
    ∙ ap (λ n. take n (drop (first * w) bytes)) (one_before wide count)

-- ---- the numbers in them

module _ (format : Format) (wide : Bool) where
  abbrev w : ℕ
  w = bytes_of wide

  abbrev numbers : ℕ → List ℕ → List ℤ
  numbers n bytes = numbers_of format wide n bytes

  split : (m n : ℕ) (bytes : List ℕ) → numbers (m + n) bytes ≡ numbers m bytes ++ numbers n (drop (m * w) bytes)
  split zero n bytes =
      let e : zero + n ≡ n = omega arith in
      ap (λ k. numbers k bytes) e ∙ ap (λ k. numbers n (drop k bytes)) (none wide)
  split (suc m) n bytes =
      let e : suc m + n ≡ suc (m + n) = omega arith in
      ap (λ k. numbers k bytes) e
      ∙ ap (λ ns. first_number format wide bytes ∷ ns)
      (split m n (drop w bytes) ∙ ap (λ bs. numbers m (drop w bytes) ++ numbers n bs) (drop-drop (m * w) w bytes ∙ ap (λ k. drop k bytes) (one_before wide m)))

taken : (format : Format) (wide : Bool) (m : ℕ) (bytes : List ℕ) → bytes_of wide ≤ m → first_number format wide (take m bytes) ≡ first_number format wide bytes
taken Little true m bytes h =
    rw (get_or-take m bytes 0 0 (omega arith), get_or-take m bytes 1 0 (omega arith), get_or-take m bytes 2 0 (omega arith), get_or-take m bytes 3 0 (omega arith), get_or-take m bytes 4 0 (omega arith), get_or-take m bytes 5 0 (omega arith), get_or-take m bytes 6 0 (omega arith), get_or-take m bytes 7 0 (omega arith)) refl
taken Little false m bytes h =
    rw (get_or-take m bytes 0 0 (omega arith), get_or-take m bytes 1 0 (omega arith), get_or-take m bytes 2 0 (omega arith), get_or-take m bytes 3 0 (omega arith)) refl
taken Big true m bytes h =
    rw (get_or-take m bytes 0 0 (omega arith), get_or-take m bytes 1 0 (omega arith), get_or-take m bytes 2 0 (omega arith), get_or-take m bytes 3 0 (omega arith), get_or-take m bytes 4 0 (omega arith), get_or-take m bytes 5 0 (omega arith), get_or-take m bytes 6 0 (omega arith), get_or-take m bytes 7 0 (omega arith)) refl
taken Big false m bytes h =
    rw (get_or-take m bytes 0 0 (omega arith), get_or-take m bytes 1 0 (omega arith), get_or-take m bytes 2 0 (omega arith), get_or-take m bytes 3 0 (omega arith)) refl

within : (wide : Bool) (n : ℕ) → bytes_of wide ≤ suc n * bytes_of wide
within true n = omega arith
within false n = omega arith

numbers_taken : (format : Format) (wide : Bool) (n : ℕ) (bytes : List ℕ) → numbers_of format wide n (take (n * bytes_of wide) bytes) ≡ numbers_of format wide n bytes
numbers_taken format wide zero bytes = refl
numbers_taken format wide (suc n) bytes =
    let w = bytes_of wide in
    ap (λ k. k ∷ numbers_of format wide n (drop w (take (suc n * w) bytes))) (taken format wide (suc n * w) bytes (within wide n))
    ∙ ap (λ bs. first_number format wide bytes ∷ numbers_of format wide n bs) (ap (λ k. drop w (take k bytes)) (sym (one_before wide n)) ∙ drop-take w (n * w) bytes)
    ∙ ap (λ ns. first_number format wide bytes ∷ ns) (numbers_taken format wide n (drop w bytes))

-- ---- tests of them, part by part

any_append : (p : ℤ → Bool) (ns ms : List ℤ) → list_any p (ns ++ ms) ≡ (list_any p ns || list_any p ms)
any_append p [] ms = refl
any_append p (n ∷ ns) ms = ap (λ b. p n || b) (any_append p ns ms) ∙ sym (or_assoc (p n) (list_any p ns) (list_any p ms))

pub by_parts : (p : ℤ → Bool) (format : Format) (wide : Bool) (count left : ℕ) (bytes : List ℕ) → count ≤ left
    → list_any p (numbers_of format wide left bytes)
    ≡ (list_any p (numbers_of format wide count bytes) || list_any p (numbers_of format wide (left - count) (drop (count * bytes_of wide) bytes)))
by_parts p format wide count left bytes h =
    let e : left ≡ count + (left - count) = omega arith in
    ap (λ n. list_any p (numbers_of format wide n bytes)) e
    ∙ ap (list_any p) (split format wide count (left - count) bytes)
    ∙ any_append p (numbers_of format wide count bytes) (numbers_of format wide (left - count) (drop (count * bytes_of wide) bytes))

-- as many numbers as the part has
whole_part : (wide : Bool) (n : ℕ) → (n * bytes_of wide) / bytes_of wide ≡ n
whole_part true n = omega arith
whole_part false n = omega arith

pub part_numbers : (format : Format) (wide : Bool) (count : ℕ) (bytes part : List ℕ) → part ≡ take (count * bytes_of wide) bytes → length part ≡ count * bytes_of wide
    → numbers_of format wide (length part / bytes_of wide) part ≡ numbers_of format wide count bytes
part_numbers format wide count bytes part e l =
    ap (λ n. numbers_of format wide (n / bytes_of wide) part) l
    ∙ ap (λ n. numbers_of format wide n part) (whole_part wide count)
    ∙ ap (numbers_of format wide count) e
    ∙ numbers_taken format wide count bytes

-- ---- what is answered to a question for a part

pub at_most_is : (a b : ℕ) → a ≤ b → nat_le a b ≡ true
at_most_is a b h = grind arith

width_is : (kind : DataType) (there : Bool) → ((is_same_type kind I4 || is_same_type kind I8) && there) ≡ true → element_size kind ≡ bytes_of (not (is_same_type kind I4))
width_is I4 there h = refl
width_is I8 there h = refl
width_is other there h = absurd (not_true h)

there_is : (a : Bool) (o : Option (List ℕ)) → (a && is_some o) ≡ true → o ≡ Some (unwrap_or o [])
there_is a (Some bytes) h = refl
there_is true None h = absurd (not_true h)
there_is false None h = absurd (not_true h)

one_dim : (dims : List ℕ) → (length dims == 1) ≡ true → dims ≡ first_dimension dims ∷ []
one_dim [] h = absurd (not_true h)
one_dim (d ∷ []) h = refl
one_dim (d ∷ e ∷ dims) h = absurd (let l : length (d ∷ e ∷ dims) ≡ 1 = (Decides-eqb (length (d ∷ e ∷ dims)) 1).0 h in omega arith)

pub part_data : (node : Node) (selection : Selection) (first count : ℕ) → IsPart first count selection → is_list node ≡ true → size_of node ≤ size_limit → first + count ≤ first_dimension node.dims
    → and_then (and_then (answered_bytes node) (λ bytes. checked ((not (selection_fits node.dims selection), BadRange) ∷ [])
    (Ok (Reply.Bytes (element_bytes (element_size node.kind) (elements node.dims selection) bytes))))) as_bytes
    ≡ Ok (part_bytes (is_wide node) first count (unwrap_or node.bytes []))
part_data node selection first count part list small within =
    let halves = both (is_ints node) (has_rank 1 node) list in
    let bytes = unwrap_or node.bytes [] in
    let dim = first_dimension node.dims in
    let held = there_is (is_same_type node.kind I4 || is_same_type node.kind I8) node.bytes halves.0 in
    let dims = one_dim node.dims halves.1 in
    let fits = ap (λ ds. selection_fits ds selection) dims ∙ part.fits dim within in
    let chosen = ap (λ ds. elements ds selection) dims ∙ part.elements dim in
    rw (held, le-ltb size_limit (size_of node) small, fits, chosen, width_is node.kind (is_some node.bytes) halves.0)
    (ap (λ bs. Ok bs) (run_is (is_wide node) first count bytes))

pub has_bytes : (node : Node) → is_list node ≡ true → is_some node.bytes ≡ true
has_bytes node list = (both (is_same_type node.kind I4 || is_same_type node.kind I8) (is_some node.bytes) (both (is_ints node) (has_rank 1 node) list).0).1

in_data : (wide : Bool) (first count dim : ℕ) → first + count ≤ dim → count * bytes_of wide ≤ bytes_of wide * (dim * 1) - first * bytes_of wide
in_data true first count dim h = omega arith
in_data false first count dim h = omega arith

if_sized : (r : Result (List ℕ) AdfError) (wanted : List ℕ) (n : ℕ) → length wanted ≡ n → IsValueOr wanted r → IfOk r (λ bytes. length bytes ≡ n)
if_sized (Ok bytes) wanted n l e = ap length e ∙ l
if_sized (Err error) wanted n l h = tt

-- a part has the bytes of its numbers
pub part_sized : (node : Node) (first count : ℕ) → is_list node ≡ true → length (unwrap_or node.bytes []) ≡ size_of node → first + count ≤ first_dimension node.dims
    → (r : Result (List ℕ) AdfError) → IsValueOr (part_bytes (is_wide node) first count (unwrap_or node.bytes [])) r → IfOk r (λ bytes. length bytes ≡ count * bytes_of (is_wide node))
part_sized node first count list sized within r h =
    let halves = both (is_ints node) (has_rank 1 node) list in
    let wide = is_wide node in
    let bytes = unwrap_or node.bytes [] in
    let dim = first_dimension node.dims in
    let size : size_of node ≡ bytes_of wide * (dim * 1) =
    ap (λ ds. element_size node.kind * product ds) (one_dim node.dims halves.1) ∙ ap (λ w. w * (dim * 1)) (width_is node.kind (is_some node.bytes) halves.0) in
    let behind : length (drop (first * bytes_of wide) bytes) ≡ bytes_of wide * (dim * 1) - first * bytes_of wide =
    length-drop (first * bytes_of wide) bytes ∙ ap (λ n. n - first * bytes_of wide) (sized ∙ size) in
    if_sized r (part_bytes wide first count bytes) (count * bytes_of wide)
    (length-take-le (count * bytes_of wide) (drop (first * bytes_of wide) bytes) (subst (λ n. count * bytes_of wide ≤ n) (sym behind) (in_data wide first count dim within))) h

-- the numbers of a list are those in its bytes
as_wide : (b : Bool) (format : Format) (count : ℕ) (bytes : List ℕ)
    → numbers_of format (not b) count bytes ≡ (if b then numbers_in format w32 4 count bytes else numbers_in format w64 8 count bytes)
as_wide true format count bytes = refl
as_wide false format count bytes = refl

pub ints_are : (node : Node) (format : Format) (wide : Bool) (entries : ℕ) → is_list node ≡ true → is_wide node ≡ wide → first_dimension node.dims ≡ entries
    → numbers_of format wide entries (unwrap_or node.bytes []) ≡ ints_of format node
ints_are node format wide entries list width there =
    let one : product node.dims ≡ first_dimension node.dims * 1 = ap product (one_dim node.dims (both (is_ints node) (has_rank 1 node) list).1) in
    let count : entries ≡ product node.dims = omega (arith, one, there) in
    ap (λ b. numbers_of format b entries (unwrap_or node.bytes [])) (sym width)
    ∙ ap (λ n. numbers_of format (is_wide node) n (unwrap_or node.bytes [])) count
    ∙ as_wide (is_type I4 node) format (product node.dims) (unwrap_or node.bytes [])

sum_of_parts : (wide : Bool) (first count : ℕ) → first * bytes_of wide + count * bytes_of wide ≡ (first + count) * bytes_of wide
sum_of_parts true first count = omega arith
sum_of_parts false first count = omega arith

module _ (p : ℤ → Bool) (format : Format) (wide : Bool) (first count entries : ℕ) (bytes : List ℕ) (all : Bool) where
  abbrev behind : List ℕ
  behind = drop (first * bytes_of wide) bytes

  abbrev later : Bool
  later = list_any p (numbers_of format wide (entries - (first + count)) (drop ((first + count) * bytes_of wide) bytes))

  both_parts : first + count ≤ entries → list_any p (numbers_of format wide (entries - first) behind) ≡ (list_any p (numbers_of format wide count behind) || later)
  both_parts h =
      let less : (entries - first) - count ≡ entries - (first + count) = omega arith in
      by_parts p format wide count (entries - first) behind (omega arith)
      ∙ ap (λ n. list_any p (numbers_of format wide count behind) || list_any p (numbers_of format wide n (drop (count * bytes_of wide) behind))) less
      ∙ ap (λ bs. list_any p (numbers_of format wide count behind) || list_any p (numbers_of format wide (entries - (first + count)) bs))
      (drop-drop (count * bytes_of wide) (first * bytes_of wide) bytes ∙ ap (λ n. drop n bytes) (sum_of_parts wide first count))

  pub one_part : first + count ≤ entries → list_any p (numbers_of format wide (entries - first) behind) ≡ all → list_any p (numbers_of format wide count behind) ≡ false → later ≡ all
  one_part h rest passes = sym (ap (λ b. b || later) passes) ∙ sym (both_parts h) ∙ rest

  pub found_part : first + count ≤ entries → list_any p (numbers_of format wide (entries - first) behind) ≡ all → list_any p (numbers_of format wide count behind) ≡ true → true ≡ all
  found_part h rest found = sym (ap (λ b. b || later) found) ∙ sym (both_parts h) ∙ rest

pub no_part : (p : ℤ → Bool) (format : Format) (wide : Bool) (first entries : ℕ) (bytes : List ℕ) (all : Bool) → entries ≤ first
    → list_any p (numbers_of format wide (entries - first) bytes) ≡ all → false ≡ all
no_part p format wide first entries bytes all h e =
    let over : 0 ≡ entries - first = omega arith in
    ap (λ n. list_any p (numbers_of format wide n bytes)) over ∙ e
