-- What is read is written again.
use Rattle.std.proofs.Common.{◌≡◌, ℕ, ◌+◌, ◌*◌, ◌≤◌, List, [], ◌∷◌, ◌++◌, length, map, replicate, refl, sym, ◌∙◌, ap, arith, Bool, true, false, cond, append-nil, append_assoc}
use Rattle.std.specs.Prelude.{Option, Some, None, ◌||◌, unwrap_or, codes}
use Rattle.std.specs.List.{flat_map, AllByRecursion}
use Rattle.adf_format.specs.declared.types.DataType.{DataType}
use Rattle.adf_format.specs.declared.types.DataType.TheVariants.{Mt, I4, I8, U4, U8, R4, R8, X4, X8, B1, C1, Lk}
use Rattle.adf_format.specs.declared.types.Format.{Format}
use Rattle.adf_format.specs.Hex.{hex_text}
use Rattle.adf_format.specs.Pointer.{Pointer, Blank, pointer, pointer_text, is_place_value, is_pointer_value}
use Rattle.adf_format.specs.Fields.{field, holds, number, text_field}
use Rattle.adf_format.specs.Checks.{Row}
use Rattle.adf_format.specs.FirstFault.{header_rows, free_table_rows, type_or_mt, count_up}
use Rattle.adf_format.specs.Parts.{NodeFields, SpellsNode, node_length, dimension_digits, chunk_count_at, type_word, type_of, format_letter}
use Rattle.adf_format.specs.Records.{pointer_in, header_record, header_text, free_table_record, free_table_text, node_record, node_text}
use Rattle.adf_format.specs.SoundPart.{format_in}
use Rattle.adf_format.proofs.RowLaws.{holds_tells, node_spelled, read_node}
use Rattle.adf_format.proofs.WalkLaws.{all_kept}
use Rattle.adf_format.specs.Case.{upper, letters_in}
use Rattle.adf_format.proofs.CaseLaws.{pointer_upper}
use Rattle.adf_format.specs.RecordFields.{header_fields, free_table_fields}
use Rattle.adf_records.specs.Laws.{HeaderIsWrittenAgain, FreeIsWrittenAgain, NodeIsWrittenAgain}
use Rattle.adf_records.proofs.Pieces.{joined, behind, behind-joined, Respells, at_end, kept_as_found, as_found, in_upper, kept_each, field_long, number_written, pointer_written}

-- ---- the node header

-- a type is known by its word
pub type_again : (kind : DataType) → type_of (text_field 32 (type_word kind)) ≡ Some kind
type_again Mt = refl
type_again I4 = refl
type_again I8 = refl
type_again U4 = refl
type_again U8 = refl
type_again R4 = refl
type_again R8 = refl
type_again X4 = refl
type_again X8 = refl
type_again B1 = refl
type_again C1 = refl
type_again Lk = refl

type_written : (text : List ℕ) (kind : DataType) → text ≡ text_field 32 (type_word kind) → text_field 32 (type_word (type_or_mt text)) ≡ text
type_written text kind e =
    let is : type_or_mt text ≡ kind = ap type_or_mt e ∙ ap (λ o. unwrap_or o Mt) (type_again kind) in
    ap (λ k. text_field 32 (type_word k)) is ∙ sym e

abbrev tail_fields : Bool → List (ℕ × Bool)
tail_fields wide = replicate 12 (dimension_digits wide, false) ++ (4, true) ∷ (12, true) ∷ (4, false) ∷ []

abbrev dimensions_in : Bool → List ℕ → List ℕ
dimensions_in wide bytes = flat_map (λ (d : List ℕ). d) (map (λ i. field bytes (130 + dimension_digits wide * i) (dimension_digits wide)) (count_up 12))

-- from the dimensions on
node_tail : (wide : Bool) (bytes : List ℕ) (n : NodeFields) → length bytes ≡ node_length wide → SpellsNode wide bytes n
    → Respells (tail_fields wide) bytes 130
    (dimensions_in wide bytes ++ (hex_text 4 (number bytes (chunk_count_at wide) 4) ++ (pointer_text (pointer_in bytes (chunk_count_at wide + 4)) ++ (codes "TaiL" ++ []))))
node_tail false bytes n long s =
    kept_each (λ i. 130 + 8 * i) 8 0 12 (λ i. omega arith)
    (in_upper (hex_text 4 (number bytes 226 4)) 226 4 (number_written bytes 226 4 n.chunks (omega (arith, long)) s.chunks)
    (in_upper (pointer_text (pointer_in bytes 230)) 230 12 (pointer_written bytes 230 n.chunk (omega (arith, long)) s.chunk)
    (as_found (codes "TaiL") 242 4 (sym s.end_tag) (at_end bytes 246))))
node_tail true bytes n long s =
    kept_each (λ i. 130 + 16 * i) 16 0 12 (λ i. omega arith)
    (in_upper (hex_text 4 (number bytes 322 4)) 322 4 (number_written bytes 322 4 n.chunks (omega (arith, long)) s.chunks)
    (in_upper (pointer_text (pointer_in bytes 326)) 326 12 (pointer_written bytes 326 n.chunk (omega (arith, long)) s.chunk)
    (as_found (codes "TaiL") 338 4 (sym s.end_tag) (at_end bytes 342))))

-- all before the dimensions
node_front : (wide : Bool) (bytes : List ℕ) (n : NodeFields) (fields : List (ℕ × Bool)) (rest : List ℕ) → 130 ≤ length bytes → SpellsNode wide bytes n → Respells fields bytes 130 rest
    → Respells ((4, false) ∷ (32, false) ∷ (32, false) ∷ (8, true) ∷ (8, true) ∷ (12, true) ∷ (32, false) ∷ (2, true) ∷ fields) bytes 0
    (codes "NoDe" ++ (field bytes 4 32 ++ (field bytes 36 32 ++ (hex_text 8 (number bytes 68 8) ++ (hex_text 8 (number bytes 76 8) ++ (pointer_text (pointer_in bytes 84)
    ++ (text_field 32 (type_word (type_or_mt (field bytes 96 32))) ++ (hex_text 2 (number bytes 128 2) ++ rest))))))))
node_front wide bytes n fields rest long s r =
    as_found (codes "NoDe") 0 4 (sym s.start_tag)
    (kept_as_found 4 32
    (kept_as_found 36 32
    (in_upper (hex_text 8 (number bytes 68 8)) 68 8 (number_written bytes 68 8 n.children (omega (arith, long)) s.children)
    (in_upper (hex_text 8 (number bytes 76 8)) 76 8 (number_written bytes 76 8 n.entries (omega (arith, long)) s.entries)
    (in_upper (pointer_text (pointer_in bytes 84)) 84 12 (pointer_written bytes 84 n.table (omega (arith, long)) s.table)
    (as_found (text_field 32 (type_word (type_or_mt (field bytes 96 32)))) 96 32 (type_written (field bytes 96 32) n.kind s.kind)
    (in_upper (hex_text 2 (number bytes 128 2)) 128 2 (number_written bytes 128 2 (length n.dims) (omega (arith, long)) s.rank) r)))))))

long_enough : (wide : Bool) (bytes : List ℕ) → length bytes ≡ node_length wide → 130 ≤ length bytes
long_enough false bytes e = omega (arith, e)
long_enough true bytes e = omega (arith, e)

pub node_written : NodeIsWrittenAgain
unfolding node_text node_record
node_written wide named bytes long e =
    let more : 130 ≤ length bytes = long_enough wide bytes long in
    let n : NodeFields = read_node wide bytes in
    let s : SpellsNode wide bytes n = node_spelled wide 0 named bytes (field_long bytes 4 32 (omega (arith, more))) (field_long bytes 36 32 (omega (arith, more))) e in
    behind-joined (codes "NoDe")
    (field bytes 4 32 ∷ field bytes 36 32 ∷ hex_text 8 (number bytes 68 8) ∷ hex_text 8 (number bytes 76 8) ∷ pointer_text (pointer_in bytes 84)
    ∷ text_field 32 (type_word (type_or_mt (field bytes 96 32))) ∷ hex_text 2 (number bytes 128 2) ∷ dimensions_in wide bytes ∷ hex_text 4 (number bytes (chunk_count_at wide) 4)
    ∷ pointer_text (pointer_in bytes (chunk_count_at wide + 4)) ∷ codes "TaiL" ∷ [])
    ∙ (node_front wide bytes n (tail_fields wide) _ more s (node_tail wide bytes n long s)).is

-- ---- pointers of kept rows

some_written : (bytes : List ℕ) (offset : ℕ) (p : Pointer) → offset + 12 ≤ length bytes → pointer (field bytes offset 12) ≡ Some p → pointer_text (pointer_in bytes offset) ≡ map upper (field bytes offset 12)
some_written bytes offset p h e = ap (λ o. pointer_text (unwrap_or o Blank)) e ∙ pointer_upper (field bytes offset 12) p (field_long bytes offset 12 h) e

place_written : (bytes : List ℕ) (offset : ℕ) → offset + 12 ≤ length bytes → is_place_value (pointer (field bytes offset 12)) ≡ true → pointer_text (pointer_in bytes offset) ≡ map upper (field bytes offset 12)
place_written bytes offset h e = by_value (pointer (field bytes offset 12)) refl e
  where
    by_value : (o : Option Pointer) → pointer (field bytes offset 12) ≡ o → is_place_value o ≡ true → pointer_text (pointer_in bytes offset) ≡ map upper (field bytes offset 12)
    by_value None i e = cc
    by_value (Some p) i e = some_written bytes offset p h i

kept_pointer_written : (bytes : List ℕ) (offset : ℕ) → offset + 12 ≤ length bytes → is_pointer_value (pointer (field bytes offset 12)) ≡ true → pointer_text (pointer_in bytes offset) ≡ map upper (field bytes offset 12)
kept_pointer_written bytes offset h e = by_value (pointer (field bytes offset 12)) refl e
  where
    by_value : (o : Option Pointer) → pointer (field bytes offset 12) ≡ o → is_pointer_value o ≡ true → pointer_text (pointer_in bytes offset) ≡ map upper (field bytes offset 12)
    by_value None i e = cc
    by_value (Some p) i e = some_written bytes offset p h i

abbrev Kept : List Row → Type 0
Kept rows = AllByRecursion (λ (r : Row). r.kept ≡ true) rows

-- ---- the free table

-- pieces that are joined before they are put, and a last one
pub two_lists : (text : List ℕ) (ps : List (List ℕ)) (last : List ℕ) → text ++ joined ps ++ last ≡ behind text (ps ++ last ∷ [])
two_lists text [] last = ap (λ t. t ++ last) (append-nil text)
two_lists text (p ∷ ps) last = ap (λ t. t ++ last) (sym (append_assoc text p (joined ps))) ∙ two_lists (text ++ p) ps last

pub free_written : FreeIsWrittenAgain
unfolding free_table_text free_table_record free_table_rows
free_written bytes long e =
    let k : Kept (free_table_rows 0 bytes) = all_kept (free_table_rows 0 bytes) e in
    let p1 = k.1.1 in
    let p2 = p1.1 in
    let p3 = p2.1 in
    let p4 = p3.1 in
    let p5 = p4.1 in
    let p6 = p5.1 in
    let r : Respells (letters_in free_table_fields) bytes 0
    (codes "fCbt" ++ (pointer_text (pointer_in bytes 4) ++ (pointer_text (pointer_in bytes 16) ++ (pointer_text (pointer_in bytes 28) ++ (pointer_text (pointer_in bytes 40)
    ++ (pointer_text (pointer_in bytes 52) ++ (pointer_text (pointer_in bytes 64) ++ (codes "Fcte" ++ []))))))))
    = as_found (codes "fCbt") 0 4 (sym (holds_tells bytes 0 (codes "fCbt") k.0))
    (in_upper (pointer_text (pointer_in bytes 4)) 4 12 (kept_pointer_written bytes 4 (omega (arith, long)) p1.0)
    (in_upper (pointer_text (pointer_in bytes 16)) 16 12 (kept_pointer_written bytes 16 (omega (arith, long)) p2.0)
    (in_upper (pointer_text (pointer_in bytes 28)) 28 12 (kept_pointer_written bytes 28 (omega (arith, long)) p3.0)
    (in_upper (pointer_text (pointer_in bytes 40)) 40 12 (kept_pointer_written bytes 40 (omega (arith, long)) p4.0)
    (in_upper (pointer_text (pointer_in bytes 52)) 52 12 (kept_pointer_written bytes 52 (omega (arith, long)) p5.0)
    (in_upper (pointer_text (pointer_in bytes 64)) 64 12 (kept_pointer_written bytes 64 (omega (arith, long)) p6.0)
    (as_found (codes "Fcte") 76 4 (sym (holds_tells bytes 76 (codes "Fcte") k.1.0)) (at_end bytes 80))))))))
    in
    two_lists (codes "fCbt") (pointer_text (pointer_in bytes 4) ∷ pointer_text (pointer_in bytes 16) ∷ pointer_text (pointer_in bytes 28) ∷ pointer_text (pointer_in bytes 40)
    ∷ pointer_text (pointer_in bytes 52) ∷ pointer_text (pointer_in bytes 64) ∷ []) (codes "Fcte")
    ∙ behind-joined (codes "fCbt") (pointer_text (pointer_in bytes 4) ∷ pointer_text (pointer_in bytes 16) ∷ pointer_text (pointer_in bytes 28) ∷ pointer_text (pointer_in bytes 40)
    ∷ pointer_text (pointer_in bytes 52) ∷ pointer_text (pointer_in bytes 64) ∷ codes "Fcte" ∷ [])
    ∙ r.is

-- ---- the file header

format_written : (bytes : List ℕ) → (holds bytes 100 (codes "L") || holds bytes 100 (codes "B")) ≡ true → format_letter (format_in bytes) ≡ field bytes 100 1
format_written bytes e = by_letter (holds bytes 100 (codes "L")) (holds bytes 100 (codes "B")) refl refl e
  where
    by_letter : (little big : Bool) → holds bytes 100 (codes "L") ≡ little → holds bytes 100 (codes "B") ≡ big → (little || big) ≡ true → format_letter (format_in bytes) ≡ field bytes 100 1
    by_letter little true i j e = ap (λ b. format_letter (cond b Format.Big Format.Little)) j ∙ sym (holds_tells bytes 100 (codes "B") j)
    by_letter true false i j e = ap (λ b. format_letter (cond b Format.Big Format.Little)) j ∙ sym (holds_tells bytes 100 (codes "L") i)
    by_letter false false i j e = cc

pub header_written : HeaderIsWrittenAgain
unfolding header_text header_record header_rows
header_written bytes long e =
    let k : Kept (header_rows bytes) = all_kept (header_rows bytes) e in
    let t1 = k.1 in
    let t2 = t1.1 in
    let t3 = t2.1 in
    let t4 = t3.1 in
    let t5 = t4.1 in
    let t6 = t5.1 in
    let format = t6.1 in
    let places = format.1.1.1.1.1.1.1.1.1.1.1.1.1 in
    let r : Respells (letters_in header_fields) bytes 0
    (field bytes 0 32 ++ (codes "AdF0" ++ (field bytes 36 28 ++ (codes "AdF1" ++ (field bytes 68 28 ++ (codes "AdF2" ++ (format_letter (format_in bytes) ++ (field bytes 101 1
    ++ (codes "AdF3" ++ (field bytes 106 24 ++ (codes "AdF4" ++ (pointer_text (pointer_in bytes 134) ++ (pointer_text (pointer_in bytes 146) ++ (pointer_text (pointer_in bytes 158)
    ++ (field bytes 170 12 ++ (codes "AdF5" ++ []))))))))))))))))
    = kept_as_found 0 32
    (as_found (codes "AdF0") 32 4 (sym (holds_tells bytes 32 (codes "AdF0") t1.0))
    (kept_as_found 36 28
    (as_found (codes "AdF1") 64 4 (sym (holds_tells bytes 64 (codes "AdF1") t2.0))
    (kept_as_found 68 28
    (as_found (codes "AdF2") 96 4 (sym (holds_tells bytes 96 (codes "AdF2") t3.0))
    (as_found (format_letter (format_in bytes)) 100 1 (format_written bytes format.0)
    (kept_as_found 101 1
    (as_found (codes "AdF3") 102 4 (sym (holds_tells bytes 102 (codes "AdF3") t4.0))
    (kept_as_found 106 24
    (as_found (codes "AdF4") 130 4 (sym (holds_tells bytes 130 (codes "AdF4") t5.0))
    (in_upper (pointer_text (pointer_in bytes 134)) 134 12 (place_written bytes 134 (omega (arith, long)) places.0)
    (in_upper (pointer_text (pointer_in bytes 146)) 146 12 (place_written bytes 146 (omega (arith, long)) places.1.0)
    (in_upper (pointer_text (pointer_in bytes 158)) 158 12 (place_written bytes 158 (omega (arith, long)) places.1.1.0)
    (kept_as_found 170 12
    (as_found (codes "AdF5") 182 4 (sym (holds_tells bytes 182 (codes "AdF5") t6.0)) (at_end bytes 186))))))))))))))))
    in
    behind-joined (field bytes 0 32) (codes "AdF0" ∷ field bytes 36 28 ∷ codes "AdF1" ∷ field bytes 68 28 ∷ codes "AdF2" ∷ format_letter (format_in bytes) ∷ field bytes 101 1
    ∷ codes "AdF3" ∷ field bytes 106 24 ∷ codes "AdF4" ∷ pointer_text (pointer_in bytes 134) ∷ pointer_text (pointer_in bytes 146) ∷ pointer_text (pointer_in bytes 158)
    ∷ field bytes 170 12 ∷ codes "AdF5" ∷ [])
    ∙ r.is
