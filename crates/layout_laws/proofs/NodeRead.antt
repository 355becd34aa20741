-- What is read of a node header that is spelled, and that it breaks none of its rules.
use Rattle.std.proofs.Common.{◌≡◌, ℕ, zero, suc, refl, sym, ◌∙◌, ap, subst, arith, List, [], ◌∷◌, ◌++◌, length, replicate, get_or, ◌+◌, ◌-◌, ◌*◌, ◌<◌, Bool, true, false, cond, not}
use Rattle.std.proofs.lemmas.Bool.Decides.{nat_tests}
use Rattle.std.proofs.lemmas.Option.{slice_get-get_or}
use Rattle.std.specs.Bool.{beq}
use Rattle.std.specs.Prelude.{Option, Some, None, is_some, unwrap_or, slice_get, nat_le, nat_lt, ◌&&◌, ◌==◌, codes, if◌then◌else◌}
use Rattle.std.specs.List.{list_all}
use Rattle.adf_format.specs.Hex.{is_hex}
use Rattle.adf_format.specs.Pointer.{is_pointer, is_pointer_value, is_blank, is_blank_value}
use Rattle.adf_format.specs.Fields.{field, number, text_field, trimmed, before_text}
use Rattle.adf_format.specs.declared.types.DataType.{DataType}
use Rattle.adf_format.specs.declared.types.DataType.TheVariants.{Mt, I4, I8, U4, U8, R4, R8, X4, X8, B1, C1, Lk}
use Rattle.adf_format.specs.Names.{is_name, is_label, is_printing, begins_with_space, ends_with_space, is_mt, is_shape_of, is_rank_of, is_dimension}
use Rattle.adf_format.specs.Parts.{NodeFields, SpellsNode, HasNumber, HasPointer, dimension_digits, chunk_count_at, type_word, type_of}
use Rattle.adf_format.specs.FirstFault.{text_rows, number_rows, pointer_rows, dimension_row, shape_rows, node_rows, type_or_mt, is_pointer_for}
use Rattle.adf_model.proofs.Basics.{and_parts, not_true}
use Rattle.adf_model.proofs.Walks.WalkNodes.{Kept}
use Rattle.layout_laws.proofs.Rows.{kept-append, kept_counted, both, holds_of}

-- ---- texts

spaces_gone : (k : ℕ) → trimmed (replicate k 32) ≡ []
spaces_gone zero = refl
spaces_gone (suc k) = ap (before_text 32) (spaces_gone k)

pub trimmed-padded : (text : List ℕ) (k : ℕ) → ends_with_space text ≡ false → trimmed (text ++ replicate k 32) ≡ text
trimmed-padded [] k e = spaces_gone k
trimmed-padded (b ∷ []) k e = ap (before_text b) (spaces_gone k) ∙ ap (λ t. cond t [] (b ∷ [])) e
trimmed-padded (b ∷ c ∷ text) k e = ap (before_text b) (trimmed-padded (c ∷ text) k e)

pub not_so : (b : Bool) → not b ≡ true → b ≡ false
not_so true e = absurd (not_true e)
not_so false e = refl

label_ends : (text : List ℕ) → is_label text ≡ true → ends_with_space text ≡ false
label_ends text e = not_so (ends_with_space text) (and_parts (nat_le (length text) 32 && list_all is_printing text && not (begins_with_space text)) (not (ends_with_space text)) e).1

name_is_label : (text : List ℕ) → is_name text ≡ true → is_label text ≡ true
name_is_label text e = (and_parts _ _ (and_parts _ _ (and_parts _ _ (and_parts _ _ e).0).0).0).0

-- a name or a label is read again from its field
pub label_again : (text : List ℕ) → is_label text ≡ true → trimmed (text_field 32 text) ≡ text
label_again text e = trimmed-padded text (32 - length text) (label_ends text e)

pub name_again : (text : List ℕ) → is_name text ≡ true → trimmed (text_field 32 text) ≡ text
name_again text e = label_again text (name_is_label text e)

-- ---- types

type_again : (kind : DataType) → type_of (text_field 32 (type_word kind)) ≡ Some kind
type_again Mt = refl
type_again I4 = refl
type_again I8 = refl
type_again U4 = refl
type_again U8 = refl
type_again R4 = refl
type_again R8 = refl
type_again X4 = refl
type_again X8 = refl
type_again B1 = refl
type_again C1 = refl
type_again Lk = refl

pub type_read : (bytes : List ℕ) (kind : DataType) → bytes ≡ text_field 32 (type_word kind) → type_of bytes ≡ Some kind
type_read bytes kind e = ap type_of e ∙ type_again kind

-- ---- numbers and pointers

pub number_read : (bytes : List ℕ) (o n v : ℕ) → HasNumber bytes o n v → number bytes o n ≡ v
number_read bytes o n v h = ap (λ (x : Option ℕ). unwrap_or x 0) h

hex_read : (bytes : List ℕ) (o n v : ℕ) → HasNumber bytes o n v → is_hex (field bytes o n) ≡ true
hex_read bytes o n v h = ap is_some h

-- nothing stands there
abbrev pub is_nothing : Option ℕ → Bool
is_nothing None = true
is_nothing (Some n) = false

pub beq_same : (a b : Bool) → a ≡ b → beq a b ≡ true
beq_same true b e = subst (λ c. beq true c ≡ true) e refl
beq_same false b e = subst (λ c. beq false c ≡ true) e refl

pointer_for : (bytes : List ℕ) (offset n : ℕ) (o : Option ℕ) → HasPointer bytes offset o → is_nothing o ≡ (n == 0) → is_pointer_for n (field bytes offset 12) ≡ true
pointer_for bytes offset n None h e = both (is_pointer (field bytes offset 12)) (beq (is_blank (field bytes offset 12)) (n == 0)) (ap is_pointer_value h) (beq_same (is_blank (field bytes offset 12)) (n == 0) (ap is_blank_value h ∙ e))
pointer_for bytes offset n (Some place) h e = both (is_pointer (field bytes offset 12)) (beq (is_blank (field bytes offset 12)) (n == 0)) (ap is_pointer_value h) (beq_same (is_blank (field bytes offset 12)) (n == 0) (ap is_blank_value h ∙ e))

-- ---- shapes

rank_beq : (mt : Bool) (rank : ℕ) → (if mt then rank == 0 else nat_le 1 rank) ≡ true → beq (rank == 0) mt ≡ true
rank_beq true rank e = beq_same (rank == 0) true e
rank_beq false rank e = beq_same (rank == 0) false (some rank e)
  where
    some : (n : ℕ) → nat_le 1 n ≡ true → (n == 0) ≡ false
    some n e = grind (arith, nat_tests)

pub each_of : {A : Type 0} (test : A → Bool) (xs : List A) (i : ℕ) (x : A) → list_all test xs ≡ true → slice_get xs i ≡ Some x → test x ≡ true
each_of test [] i x h e = cc
each_of {A = A} test (y ∷ ys) zero x h e = subst (λ z. test z ≡ true) (same y x e) (and_parts (test y) (list_all test ys) h).0
  where
    same : (p q : A) → ◌≡◌ {A = Option A} (Some p) (Some q) → p ≡ q
    same p q e = cc
each_of test (y ∷ ys) (suc i) x h e = each_of test ys i x (and_parts (test y) (list_all test ys) h).1 e

above_none : (d most : ℕ) → (nat_le 1 d && nat_lt d most) ≡ true → nat_lt 0 d ≡ true
above_none d most e = grind (arith, nat_tests)

dimension_some : (wide : Bool) (d : ℕ) → is_dimension wide d ≡ true → nat_lt 0 d ≡ true
dimension_some false d e = above_none d _ e
dimension_some true d e = above_none d _ e

dimension_read : (wide : Bool) (base : ℕ) (bytes : List ℕ) (i d : ℕ) → HasNumber bytes (130 + dimension_digits wide * i) (dimension_digits wide) d → is_dimension wide d ≡ true → (dimension_row wide base bytes i).kept ≡ true
unfolding dimension_row
dimension_read wide base bytes i d h e =
    both (is_hex (field bytes (130 + dimension_digits wide * i) (dimension_digits wide))) (nat_lt 0 (number bytes (130 + dimension_digits wide * i) (dimension_digits wide)))
    (hex_read bytes (130 + dimension_digits wide * i) (dimension_digits wide) d h)
    (subst (λ n. nat_lt 0 n ≡ true) (sym (number_read bytes (130 + dimension_digits wide * i) (dimension_digits wide) d h)) (dimension_some wide d e))

-- ---- the rows of a header

module _ (wide : Bool) (base : ℕ) (named : Bool) (bytes : List ℕ) (node : NodeFields) (s : SpellsNode wide bytes node) where
  texts : named ≡ true → is_name node.name ≡ true → is_label node.label ≡ true → Kept (text_rows wide base named bytes)
  unfolding text_rows
  texts n h k = (
    holds_of bytes 0 (codes "NoDe") s.start_tag,
    (
      holds_of bytes (chunk_count_at wide + 16) (codes "TaiL") s.end_tag,
      (
        both (is_name (trimmed (field bytes 4 32))) named (ap (λ f. is_name (trimmed f)) s.name ∙ ap is_name (name_again node.name h) ∙ h) n,
        (ap (λ f. is_label (trimmed f)) s.label ∙ ap is_label (label_again node.label k) ∙ k, tt),
      ),
    ),
  )

  numbers : Kept (number_rows wide base bytes)
  unfolding number_rows
  numbers = (hex_read bytes 68 8 node.children s.children, (hex_read bytes 76 8 node.entries s.entries, (hex_read bytes 128 2 (length node.dims) s.rank, (hex_read bytes (chunk_count_at wide) 4 node.chunks s.chunks, tt))))

  pointers : is_nothing node.table ≡ (node.entries == 0) → is_nothing node.chunk ≡ (node.chunks == 0) → Kept (pointer_rows wide base bytes)
  unfolding pointer_rows
  pointers h k = (
    pointer_for bytes 84 (number bytes 76 8) node.table s.table (h ∙ ap (λ n. n == 0) (sym (number_read bytes 76 8 node.entries s.entries))),
    (pointer_for bytes (chunk_count_at wide + 4) (number bytes (chunk_count_at wide) 4) node.chunk s.chunk (k ∙ ap (λ n. n == 0) (sym (number_read bytes (chunk_count_at wide) 4 node.chunks s.chunks))), tt),
  )

  rank : number bytes 128 2 ≡ length node.dims
  rank = number_read bytes 128 2 (length node.dims) s.rank

  kind_here : type_or_mt (field bytes 96 32) ≡ node.kind
  kind_here = ap (λ (o : Option DataType). unwrap_or o Mt) (type_read (field bytes 96 32) node.kind s.kind)

  one_dimension : list_all (is_dimension wide) node.dims ≡ true → (i : ℕ) → i < number bytes 128 2 → (dimension_row wide base bytes (0 + i)).kept ≡ true
  one_dimension all i lt =
      let at : slice_get node.dims i ≡ Some (get_or node.dims i 0) = slice_get-get_or node.dims i 0 (let r = rank in omega (arith, lt, r)) in
      subst (λ (j : ℕ). (dimension_row wide base bytes j).kept ≡ true) (front i) (dimension_read wide base bytes i (get_or node.dims i 0) (s.dims i (get_or node.dims i 0) at) (each_of (is_dimension wide) node.dims i (get_or node.dims i 0) all at))
    where
      front : (i : ℕ) → i ≡ 0 + i
      front i = omega arith

  shapes : is_shape_of wide node.kind node.dims ≡ true → Kept (shape_rows wide base bytes)
  unfolding shape_rows
  shapes h =
      let all = and_parts (is_rank_of node.kind (length node.dims) && nat_le (length node.dims) 12) (list_all (is_dimension wide) node.dims) h in
      let few = and_parts (is_rank_of node.kind (length node.dims)) (nat_le (length node.dims) 12) all.0 in (
        ap has_type_of (type_read (field bytes 96 32) node.kind s.kind),
        (
          both (nat_le (number bytes 128 2) 12) (beq (number bytes 128 2 == 0) (is_mt (type_or_mt (field bytes 96 32))))
              (ap (λ n. nat_le n 12) rank ∙ few.1)
              (ap (λ n. beq (n == 0) (is_mt (type_or_mt (field bytes 96 32)))) rank ∙ ap (λ k. beq (length node.dims == 0) (is_mt k)) kind_here ∙ rank_beq (is_mt node.kind) (length node.dims) few.0),
          kept_counted (dimension_row wide base bytes) 0 (number bytes 128 2) (one_dimension all.1),
        ),
      )
    where
      has_type_of : Option DataType → Bool
      has_type_of None = false
      has_type_of (Some kind) = true

  -- a header that is spelled breaks none of its rules
  pub header_unbroken : named ≡ true → is_name node.name ≡ true → is_label node.label ≡ true → is_shape_of wide node.kind node.dims ≡ true → is_nothing node.table ≡ (node.entries == 0) → is_nothing node.chunk ≡ (node.chunks == 0)
      → Kept (node_rows wide base named bytes)
  unfolding node_rows
  header_unbroken n h k shape t c =
      kept-append (text_rows wide base named bytes ++ number_rows wide base bytes ++ pointer_rows wide base bytes) (shape_rows wide base bytes)
      (kept-append (text_rows wide base named bytes ++ number_rows wide base bytes) (pointer_rows wide base bytes) (kept-append (text_rows wide base named bytes) (number_rows wide base bytes) (texts n h k) numbers) (pointers t c))
      (shapes shape)
