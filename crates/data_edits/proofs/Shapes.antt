-- The dimensions of a good shape, and the fields of a header that say them.
use Rattle.std.proofs.Common.{◌≡◌, ℕ, zero, suc, refl, sym, ◌∙◌, ap, subst, arith, List, [], ◌∷◌, ◌++◌, length, take, map, get_or, ◌+◌, ◌*◌, ◌^◌, ◌<◌, ◌≤◌, Bool, true, false, not, Option, None, Some}
use Rattle.std.proofs.lemmas.Bool.Decides.{nat_tests}
use Rattle.std.proofs.lemmas.List.{length-append, length-take, take_all}
use Rattle.std.proofs.lemmas.Result.{on_ok_weaker}
use Rattle.std.specs.Prelude.{Result, OnOk, nat_le, nat_lt, slice_get}
use Rattle.std.specs.List.{list_all, flat_map}
use Rattle.adf_format.specs.declared.types.DataType.{DataType}
use Rattle.adf_format.specs.declared.types.ExtentKind.{ExtentKind}
use Rattle.adf_format.specs.Changes.{Writes}
use Rattle.adf_format.specs.HeapBytes.{ChangesOnly}
use Rattle.adf_format.specs.Names.{is_dimension, is_shape_of, is_lk}
use Rattle.adf_format.specs.Fields.{text_field}
use Rattle.adf_format.specs.Hex.{hex_text}
use Rattle.adf_format.specs.Parts.{chunk_count_at, dimension_digits, node_length, type_word}
use Rattle.adf_format.specs.Pointer.{Pointer, pointer_text}
use Rattle.adf_format.specs.Spelled.{in_row}
use Rattle.adf_format.proofs.HexLaws.{length-hex_text}
use Rattle.adf_format.proofs.SpelledParts.{length-pointer_text}
use Rattle.adf_model.specs.declared.tree.Shape.{Shape}
use Rattle.adf_model.specs.Shapes.{is_shape, dims_of}
use Rattle.adf_model.proofs.Basics.{and_parts, not_there, same_Some}
use Rattle.cg_io.specs.Blocks.{Both, blocks_of}
use Rattle.field_access.specs.Fields.{range}
use Rattle.tree_laws.specs.DataSwitch.{AreSpelled, shape_text}
use Rattle.tree_laws.specs.MidEdit.{Puts}
use Rattle.tree_laws.proofs.Data.DataFields.{fits, shape_long}
use Rattle.tree_edits.proofs.NameWritten.{put_there}
use Rattle.data_edits.specs.Shaped.{is_good}

-- ---- the dimensions of a good shape

fits_digits : (wide : Bool) (d : ℕ) → is_dimension wide d ≡ true → d < 16 ^ dimension_digits wide
fits_digits true d e = let lt : d < 2 ^ 64 = below d (2 ^ 64) (and_parts (nat_le 1 d) (nat_lt d (2 ^ 64)) e).1 in omega (arith, lt)
  where
    below : (m n : ℕ) → nat_lt m n ≡ true → m < n
    below m n e = grind (arith, nat_tests)
fits_digits false d e = let lt : d < 2 ^ 32 = below d (2 ^ 32) (and_parts (nat_le 1 d) (nat_lt d (2 ^ 32)) e).1 in omega (arith, lt)
  where
    below : (m n : ℕ) → nat_lt m n ≡ true → m < n
    below m n e = grind (arith, nat_tests)

all_spelled : (wide : Bool) (dims : List ℕ) → list_all (is_dimension wide) dims ≡ true → AreSpelled wide dims
all_spelled wide [] h i d e = absurd (not_there d e)
all_spelled wide (x ∷ xs) h zero d e = subst (λ k. k < 16 ^ dimension_digits wide) (same_Some x d e) (fits_digits wide x (and_parts (is_dimension wide x) (list_all (is_dimension wide) xs) h).0)
all_spelled wide (x ∷ xs) h (suc i) d e = all_spelled wide xs (and_parts (is_dimension wide x) (list_all (is_dimension wide) xs) h).1 i d e

module _ (wide : Bool) (shape : Shape) (good : is_good wide shape ≡ true) where
  shaped : is_shape wide shape ≡ true
  shaped = (and_parts (is_shape wide shape) (not (is_lk shape.kind)) good).0

  pub few_rank : shape.rank ≤ 12
  few_rank = at_most shape.rank (and_parts (nat_le shape.rank 12) (is_shape_of wide shape.kind (dims_of shape)) shaped).0
    where
      at_most : (n : ℕ) → nat_le n 12 ≡ true → n ≤ 12
      at_most n e = grind (arith, nat_tests)

  pub good_dims : AreSpelled wide (dims_of shape)
  good_dims =
      let whole = (and_parts (nat_le shape.rank 12) (is_shape_of wide shape.kind (dims_of shape)) shaped).1 in
      all_spelled wide (dims_of shape) (and_parts _ (list_all (is_dimension wide) (dims_of shape)) whole).1

  pub few_dims : length (dims_of shape) ≤ 12
  few_dims =
      let whole = (and_parts (nat_le shape.rank 12) (is_shape_of wide shape.kind (dims_of shape)) shaped).1 in
      let front = (and_parts _ (list_all (is_dimension wide) (dims_of shape)) whole).0 in
      at_most (length (dims_of shape)) (and_parts _ (nat_le (length (dims_of shape)) 12) front).1
    where
      at_most : (n : ℕ) → nat_le n 12 ≡ true → n ≤ 12
      at_most n e = grind (arith, nat_tests)

-- each has as many digits as the version gives it
got : (xs : List ℕ) (n i : ℕ) → i < n → n ≤ length xs → slice_get (take n xs) i ≡ Some (get_or xs i 0)
got xs zero i lt le = absurd (omega (arith, lt))
got [] (suc n) i lt le = absurd (omega (arith, le))
got (x ∷ xs) (suc n) zero lt le = refl
got (x ∷ xs) (suc n) (suc i) lt le = got xs n i (omega (arith, lt)) (omega (arith, le))

pub dimension_fits : (wide : Bool) (shape : Shape) (i : ℕ) → length shape.dims ≡ 12 → shape.rank ≤ 12 → AreSpelled wide (dims_of shape) → i < shape.rank → get_or shape.dims i 0 < 16 ^ dimension_digits wide
dimension_fits wide shape i twelve few spelled lt = spelled i (get_or shape.dims i 0) (got shape.dims shape.rank i lt (omega (arith, twelve, few)))

pub dims_long : (shape : Shape) → length shape.dims ≡ 12 → shape.rank ≤ 12 → shape.rank ≡ length (dims_of shape)
dims_long shape twelve few = let t = length-take shape.rank shape.dims in omega (arith, t, twelve, few)

-- ---- texts in a row

pub row_is : (texts : List (List ℕ)) → flat_map (λ (t : List ℕ). t) texts ≡ in_row texts
row_is [] = refl
row_is (t ∷ ts) = ap (λ xs. t ++ xs) (row_is ts)

-- the type, the rank and the dimensions, written one after another
pub shape_put : (wide : Bool) (shape : Shape) (number : ℕ) {word pad first second third : List ℕ} → word ≡ type_word shape.kind → pad ≡ text_field 32 word → first ≡ pad → number ≡ shape.rank → second ≡ first ++ hex_text 2 number
    → shape.rank ≡ length (dims_of shape) → third ≡ second ++ flat_map (λ (t : List ℕ). t) (map (hex_text (dimension_digits wide)) (dims_of shape)) → third ≡ shape_text wide shape.kind (dims_of shape)
shape_put wide shape number {word} {pad} {first} {second} {third} w p f n s count t =
    t
    ∙ ap (λ xs. xs ++ flat_map (λ (d : List ℕ). d) (map (hex_text (dimension_digits wide)) (dims_of shape)))
    (s ∙ ap (λ xs. xs ++ hex_text 2 number) (f ∙ p ∙ ap (text_field 32) w) ∙ ap (λ k. text_field 32 (type_word shape.kind) ++ hex_text 2 k) (n ∙ count))
    ∙ ap (λ xs. text_field 32 (type_word shape.kind) ++ hex_text 2 (length (dims_of shape)) ++ xs) (row_is (map (hex_text (dimension_digits wide)) (dims_of shape)))

-- how long they are, and where they end
module _ (wide : Bool) (rank end : ℕ) (few : rank ≤ 12) (end_is : end ≡ 34 + rank * dimension_digits wide) where
  pub shape_few : end ≤ 226
  shape_few = let f = fits wide rank few in let most = count_early wide in omega (arith, end_is, f, most)
    where
      count_early : (w : Bool) → chunk_count_at w ≤ 322
      count_early true = omega arith
      count_early false = omega arith

  pub shape_within : (place : ℕ) (text : List ℕ) → place + 96 + length (take end text) ≤ place + node_length wide
  shape_within place text = let f = fits wide rank few in let n = count_in wide in let t = length-take end text in omega (arith, end_is, f, n, t)
    where
      count_in : (w : Bool) → chunk_count_at w ≤ node_length w
      count_in true = omega arith
      count_in false = omega arith

  pub shape_near : (place : ℕ) (text : List ℕ) → place + node_length wide ≤ 2 ^ 44 → place + 96 + length (take end text) ≤ 2 ^ 44
  shape_near place text near = let within = shape_within place text in omega (arith, within, near)

pub piece_blocks : (place end : ℕ) (text : List ℕ) → end ≤ 226 → blocks_of place (length (take end text)) ≤ 2
piece_blocks place end text few = let t = length-take end text in two_blocks place (length (take end text)) (omega (arith, t, few))
  where
    two_blocks : (place n : ℕ) → n ≤ 226 → blocks_of place n ≤ 2
    two_blocks place n le = omega (arith, le)

pub shape_fields_long : (wide : Bool) (kind : DataType) (dims : List ℕ) → length (shape_text wide kind dims) ≡ 34 + length dims * dimension_digits wide
shape_fields_long wide kind dims = let long = shape_long wide kind dims in omega (arith, long)

-- the count of the chunks and the pointer to them, written one after the other
pub chunks_put : (count number end stop : ℕ) (pointer first all : List ℕ) → number ≡ count → end ≡ 4 → take end first ≡ hex_text 4 number → stop ≡ end + 12 → length all ≡ 16 → take stop all ≡ take end first ++ pointer → all ≡ hex_text 4 count ++ pointer
chunks_put count number end stop pointer first all n e f s long t =
    sym (take_all stop all (omega (arith, e, s, long))) ∙ t ∙ ap (λ xs. xs ++ pointer) (f ∙ ap (hex_text 4) n)

-- ---- a text that is put in its place

pub put_once : {T E : Type 0} (r : Result T E) (kind : ExtentKind) (place n : ℕ) (text other : List ℕ) (old new : Option (List ℕ)) → text ≡ other → length other ≡ n → OnOk r (Both (Writes place text) old new) → Both (ChangesOnly (range place (length text) ∷ [])) old new
    → OnOk r (Both (Puts kind place n other) old new)
put_once r kind place n text other old new is long wrote only = on_ok_weaker r (by_held old new only) wrote
  where
    by_held : (old new : Option (List ℕ)) → Both (ChangesOnly (range place (length text) ∷ [])) old new → Both (Writes place text) old new → Both (Puts kind place n other) old new
    by_held None None only w = tt
    by_held None (Some new) only w = absurd w
    by_held (Some old) None only w = absurd w
    by_held (Some old) (Some new) only w = subst (λ t. Puts kind place n t old new) is (put_there kind place n text old new (ap length is ∙ long) w only)

-- the same at a place that is told otherwise
pub put_at : {T E : Type 0} (r : Result T E) (kind : ExtentKind) (at place n : ℕ) (text other : List ℕ) (old new : Option (List ℕ)) → at ≡ place → text ≡ other → length other ≡ n → OnOk r (Both (Writes at text) old new) → Both (ChangesOnly (range at (length text) ∷ [])) old new
    → OnOk r (Both (Puts kind place n other) old new)
put_at r kind at place n text other old new e is long wrote only =
    put_once r kind place n text other old new is long (subst (λ k. OnOk r (Both (Writes k text) old new)) e wrote) (subst (λ k. Both (ChangesOnly (range k (length text) ∷ [])) old new) e only)

pub chunk_fields_long : (count : ℕ) (pointer : Pointer) → length (hex_text 4 count ++ pointer_text pointer) ≡ 16
chunk_fields_long count pointer = let a = length-append (hex_text 4 count) (pointer_text pointer) in let c = length-hex_text 4 count in let p = length-pointer_text pointer in omega (arith, a, c, p)
