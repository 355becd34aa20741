-- What the header of a node says in a packed file.
use Rattle.std.proofs.Common.{◌≡◌, ℕ, zero, suc, refl, sym, ◌∙◌, ap, arith, List, [], ◌∷◌, ◌++◌, length, map, replicate, length-append, ◌+◌, ◌-◌, ◌^◌, ◌<◌, ◌≤◌, Bool, true, false}
use Rattle.std.specs.Prelude.{Option, Some, None, slice_get, ◌&&◌, nat_le, nat_lt, not, ◌==◌, bytes_eq, codes, option_map}
use Rattle.std.specs.List.{list_all}
use Rattle.std.proofs.lemmas.List.{length-replicate, length-map}
use Rattle.std.proofs.lemmas.Bool.Decides.{nat_tests}
use Rattle.adf_format.specs.Hex.{hex_value, hex_text}
use Rattle.adf_format.specs.Fields.{text_field}
use Rattle.adf_format.specs.Names.{is_label, is_name, is_printing, begins_with_space, ends_with_space, is_shape_of, is_rank_of, is_dimension}
use Rattle.adf_format.specs.Tree.{Node, IsNode}
use Rattle.adf_format.specs.Parts.{dimension_digits}
use Rattle.adf_format.specs.Placement.{TablePart}
use Rattle.adf_format.specs.LaysOut.{entry_count, chunk_pointer, fields_of}
use Rattle.adf_format.specs.Packed.{packed_table, packed_data}
use Rattle.adf_format.specs.Spelled.{IsInReach, AllWide, SaysNode}
use Rattle.adf_format.proofs.HexLaws.{hex_value-hex_text, length-hex_text}
use Rattle.packed_laws.specs.PackedForm.{table_at, chunks_at, table_place, chunk_place, packed_parts, packed_room, packed_dims, packed_record}

-- ---- tests

and_left : (a b : Bool) → (a && b) ≡ true → a ≡ true
and_left true b e = refl
and_left false b e = cc

and_right : (a b : Bool) → (a && b) ≡ true → b ≡ true
and_right true b e = e
and_right false b e = cc

le_of : (a b : ℕ) → nat_le a b ≡ true → a ≤ b
le_of a b e = grind (arith, nat_tests)

lt_of : (a b : ℕ) → nat_lt a b ≡ true → a < b
lt_of a b e = grind (arith, nat_tests)

none_there : {A P : Type 0} (x : A) → ◌≡◌ {A = Option A} None (Some x) → P
none_there x e = cc

pub same_there : {A : Type 0} (x y : A) → ◌≡◌ {A = Option A} (Some x) (Some y) → x ≡ y
same_there x y e = cc

-- ---- texts

label_short : (text : List ℕ) → is_label text ≡ true → length text ≤ 32
label_short text e =
    let a : Bool = nat_le (length text) 32 in
    let b : Bool = list_all is_printing text in
    let c : Bool = not (begins_with_space text) in
    let d : Bool = not (ends_with_space text) in
    le_of (length text) 32 (and_left a b (and_left (a && b) c (and_left (a && b && c) d e)))

pub name_short : (text : List ℕ) → is_name text ≡ true → length text ≤ 32
name_short text e =
    let a : Bool = is_label text in
    let b : Bool = nat_le 1 (length text) in
    let c : Bool = list_all (λ b. not (b == 47)) text in
    let d : Bool = not (bytes_eq text (codes ".")) in
    let f : Bool = not (bytes_eq text (codes "..")) in
    label_short text (and_left a b (and_left (a && b) c (and_left (a && b && c) d (and_left (a && b && c && d) f e))))

pub text_long : (text : List ℕ) → length text ≤ 32 → length (text_field 32 text) ≡ 32
text_long text short = length-append text (replicate (32 - length text) 32) ∙ ap (λ n. length text + n) (length-replicate (32 - length text) 32) ∙ omega (arith, short)

-- ---- dimensions

few_dims : (node : Node) (wide : Bool) → is_shape_of wide node.kind node.dims ≡ true → length node.dims ≤ 12
few_dims node wide e =
    let a : Bool = is_rank_of node.kind (length node.dims) in
    let b : Bool = nat_le (length node.dims) 12 in
    le_of (length node.dims) 12 (and_right a b (and_left (a && b) (list_all (is_dimension wide) node.dims) e))

all_dims : (node : Node) (wide : Bool) → is_shape_of wide node.kind node.dims ≡ true → list_all (is_dimension wide) node.dims ≡ true
all_dims node wide e = and_right (is_rank_of node.kind (length node.dims) && nat_le (length node.dims) 12) (list_all (is_dimension wide) node.dims) e

dim_fits : (wide : Bool) (d : ℕ) → is_dimension wide d ≡ true → d < 16 ^ dimension_digits wide
dim_fits false d e = let lt : d < 2 ^ 32 = lt_of d (2 ^ 32) (and_right (nat_le 1 d) (nat_lt d (2 ^ 32)) e) in omega (arith, lt)
dim_fits true d e = let lt : d < 2 ^ 64 = lt_of d (2 ^ 64) (and_right (nat_le 1 d) (nat_lt d (2 ^ 64)) e) in omega (arith, lt)

one_fits : (wide : Bool) (dims : List ℕ) (i d : ℕ) → list_all (is_dimension wide) dims ≡ true → slice_get dims i ≡ Some d → d < 16 ^ dimension_digits wide
one_fits wide [] i d all at = none_there d at
one_fits wide (x ∷ xs) zero d all at =
    dim_fits wide d (ap (is_dimension wide) (sym (same_there x d at)) ∙ and_left (is_dimension wide x) (list_all (is_dimension wide) xs) all)
one_fits wide (x ∷ xs) (suc i) d all at = one_fits wide xs i d (and_right (is_dimension wide x) (list_all (is_dimension wide) xs) all) at

dim_at : (f : ℕ → List ℕ) (dims : List ℕ) (rest : List (List ℕ)) (i d : ℕ) (text : List ℕ) → slice_get dims i ≡ Some d → slice_get (map f dims ++ rest) i ≡ Some text → text ≡ f d
dim_at f [] rest i d text at there = none_there d at
dim_at f (x ∷ xs) rest zero d text at there = sym (same_there (f x) text there) ∙ ap f (same_there x d at)
dim_at f (x ∷ xs) rest (suc i) d text at there = dim_at f xs rest i d text at there

wide_same : (w n : ℕ) (t : List ℕ) → length t ≡ w → AllWide w (replicate n t)
wide_same w zero t long i text at = none_there text at
wide_same w (suc n) t long zero text at = ap length (sym (same_there t text at)) ∙ long
wide_same w (suc n) t long (suc i) text at = wide_same w n t long i text at

wide_map : (w : ℕ) (f : ℕ → List ℕ) (dims : List ℕ) (rest : List (List ℕ)) → ((d : ℕ) → length (f d) ≡ w) → AllWide w rest → AllWide w (map f dims ++ rest)
wide_map w f [] rest long all i text at = all i text at
wide_map w f (x ∷ xs) rest long all zero text at = ap length (sym (same_there (f x) text at)) ∙ long x
wide_map w f (x ∷ xs) rest long all (suc i) text at = wide_map w f xs rest long all i text at

twelve : (wide : Bool) (dims : List ℕ) → length dims ≤ 12 → length (packed_dims wide dims) ≡ 12
twelve wide dims few =
    let f : ℕ → List ℕ = λ d. hex_text (dimension_digits wide) d in
    let zeros : List ℕ = replicate {A = ℕ} (dimension_digits wide) 48 in
    length-append (map f dims) (replicate (12 - length dims) zeros)
    ∙ ap (λ n. n + length (replicate (12 - length dims) zeros)) (length-map dims f)
    ∙ ap (λ n. length dims + n) (length-replicate (12 - length dims) zeros) ∙ omega (arith, few)

-- ---- parts

pub entries_are : (place : ℕ) (children : List ℕ) → entry_count (table_at place children) ≡ length children
entries_are place [] = refl
entries_are place (c ∷ cs) = refl

table_reach : (place : ℕ) (children : List ℕ) → place + packed_table children ≤ 2 ^ 44 → IsInReach (option_map (λ (t : TablePart). t.place) (table_at place children))
table_reach place [] near = tt
table_reach place (c ∷ cs) near = omega (arith, near)

chunk_reach : (place : ℕ) (bytes : Option (List ℕ)) → place + packed_data bytes ≤ 2 ^ 44 → IsInReach (chunk_pointer (chunks_at place bytes) None)
chunk_reach place None near = tt
chunk_reach place (Some bytes) near = omega (arith, near)

pub few_chunks : (place : ℕ) (bytes : Option (List ℕ)) → length (chunks_at place bytes) < 2
few_chunks place None = omega arith
few_chunks place (Some bytes) = omega arith

-- ---- the header

-- its record says what the node is, and where its parts stand
pub says : (wide : Bool) (place : ℕ) (node : Node) → IsNode wide node → length node.children ≤ 2 ^ 20 → place + packed_room wide node ≤ 2 ^ 44
    → SaysNode wide (packed_record wide node (packed_parts wide place node)) (fields_of node (packed_parts wide place node))
says wide place node is few near =
    let count : entry_count (table_at (table_place wide place) node.children) ≡ length node.children = entries_are (table_place wide place) node.children in
    let one : length (chunks_at (chunk_place wide place node) node.bytes) < 2 = few_chunks (chunk_place wide place node) node.bytes in
    let w : ℕ = dimension_digits wide in
    let f : ℕ → List ℕ = λ d. hex_text w d in
    let zeros : List ℕ = replicate {A = ℕ} w 48 in
    record {
      name = refl;
      long_name = text_long node.name (name_short node.name is.named);
      label = refl;
      long_label = text_long node.label (label_short node.label is.labelled);
      children = refl;
      few_children = omega (arith, few);
      entries = refl;
      few_entries = omega (arith, few, count);
      table = refl;
      table_in_reach = table_reach (table_place wide place) node.children (omega (arith, near));
      kind = refl;
      rank = refl;
      few_dims = few_dims node wide is.shaped;
      twelve = twelve wide node.dims (few_dims node wide is.shaped);
      long_dims = wide_map w f node.dims (replicate (12 - length node.dims) zeros) (λ d. length-hex_text w d) (wide_same w (12 - length node.dims) zeros (length-replicate {A = ℕ} w 48));
      dims = λ i d text at there. ap hex_value (dim_at f node.dims (replicate (12 - length node.dims) zeros) i d text at there)
          ∙ hex_value-hex_text w d (one_fits wide node.dims i d (all_dims node wide is.shaped) at);
      chunks = refl;
      few_chunks = omega (arith, one);
      chunk = refl;
      chunk_in_reach = chunk_reach (chunk_place wide place node) node.bytes (omega (arith, near));
    }
