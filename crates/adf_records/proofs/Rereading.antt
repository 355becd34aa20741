-- What is written is read again.
use Rattle.std.proofs.Common.{◌≡◌, ℕ, ◌+◌, ◌*◌, ◌^◌, ◌<◌, ◌≤◌, List, [], ◌∷◌, ◌++◌, length, take, drop, map, refl, sym, ◌∙◌, ap, subst, arith, Bool, true, false, cond}
use Rattle.std.specs.Prelude.{Option, Some, None, Ok, Err, unwrap_or, codes, bytes_eq}
use Rattle.std.specs.List.{flat_map, AllByRecursion}
use Rattle.std.proofs.lemmas.List.{take_all, take-append-drop, length-take-le, length-map}
use Rattle.adf_format.specs.declared.types.DataType.{DataType}
use Rattle.adf_format.specs.declared.types.DataType.TheVariants.{Mt, I4, I8, U4, U8, R4, R8, X4, X8, B1, C1, Lk}
use Rattle.adf_format.specs.declared.types.Format.{Format}
use Rattle.adf_format.specs.Hex.{hex_text, hex_value}
use Rattle.adf_format.specs.Pointer.{Blank, pointer, pointer_text}
use Rattle.adf_format.specs.Fields.{field, number, text_field}
use Rattle.adf_format.specs.Checks.{Fault}
use Rattle.adf_format.specs.FirstFault.{type_or_mt, count_up}
use Rattle.adf_format.specs.Parts.{dimension_digits, chunk_count_at, type_word, format_letter}
use Rattle.adf_format.specs.Records.{HeaderRecord, NodeRecord, pointer_in, header_record, header_text, free_table_record, free_table_text, node_record, node_text}
use Rattle.adf_format.specs.SoundPart.{format_in}
use Rattle.adf_format.proofs.HexLaws.{hex_value-hex_text, length-hex_text}
use Rattle.disk_ptr.specs.declared.DiskPtr.{DiskPtr}
use Rattle.disk_ptr.specs.View.{view, IsWritable}
use Rattle.disk_ptr.proofs.Spelling.{spelled_again}
use Rattle.adf_records.specs.declared.FileHeader.{FileHeader}
use Rattle.adf_records.specs.declared.FreeTable.{FreeTable}
use Rattle.adf_records.specs.declared.NodeHeader.{NodeHeader}
use Rattle.adf_records.specs.View.{fault, header_of, HasHeaderOffsets, pointers_of, HasFreeOffsets, record_of, HasOffsets, zeros_behind, IsNarrow}
use Rattle.adf_records.specs.Laws.{FitsHeader, FitsFree, FitsNode, HeaderIsReadAgain, FreeIsReadAgain, NodeIsReadAgain}
use Rattle.adf_records.proofs.Pieces.{joined, behind-joined, cut, cut_each, cut_behind, known, length-pointer_text}
use Rattle.adf_records.proofs.Respelling.{type_again, two_lists}

-- ---- fields

number_again : (text : List ℕ) (offset n v : ℕ) → field text offset n ≡ hex_text n v → v < 16 ^ n → number text offset n ≡ v
number_again text offset n v e h = ap (λ f. unwrap_or (hex_value f) 0) e ∙ ap (λ o. unwrap_or o 0) (hex_value-hex_text n v h)

pointer_again : (text : List ℕ) (offset : ℕ) (p : DiskPtr) → field text offset 12 ≡ pointer_text (view p) → IsWritable p → pointer_in text offset ≡ view p
pointer_again text offset p e w = ap (λ f. unwrap_or (pointer f) Blank) e ∙ ap (λ o. unwrap_or o Blank) (spelled_again p w)

length-word : (kind : DataType) → length (text_field 32 (type_word kind)) ≡ 32
length-word Mt = refl
length-word I4 = refl
length-word I8 = refl
length-word U4 = refl
length-word U8 = refl
length-word R4 = refl
length-word R8 = refl
length-word X4 = refl
length-word X8 = refl
length-word B1 = refl
length-word C1 = refl
length-word Lk = refl

cons_same : {A : Type 0} (x y : A) (xs ys : List A) → ◌≡◌ {A = List A} (x ∷ xs) (y ∷ ys) → (x ≡ y) × (xs ≡ ys)
cons_same x y xs ys e = (cc, cc)

-- ---- the node header

abbrev dims_of : NodeHeader → List (List ℕ)
dims_of n = map (take (dimension_digits n.wide)) n.dims

abbrev digits_of : Bool → NodeHeader → List (List ℕ)
digits_of wide n = map (take (dimension_digits wide)) n.dims

abbrev tail_of : Bool → NodeHeader → List (List ℕ)
tail_of wide n = flat_map (λ (d : List ℕ). d) (digits_of wide n) ∷ hex_text 4 n.chunks ∷ pointer_text (view n.chunk) ∷ codes "TaiL" ∷ []

abbrev pieces_of : Bool → NodeHeader → List (List ℕ)
pieces_of wide n =
    n.name ∷ n.label ∷ hex_text 8 n.children ∷ hex_text 8 n.entries ∷ pointer_text (view n.table) ∷ text_field 32 (type_word n.kind) ∷ hex_text 2 n.rank ∷ tail_of wide n

all_short : (w : ℕ) (ds : List (List ℕ)) → w ≤ 16 → AllByRecursion (λ (d : List ℕ). length d ≡ 16) ds → AllByRecursion (λ (d : List ℕ). length d ≡ w) (map (take w) ds)
all_short w [] h all = tt
all_short w (d ∷ ds) h all = (length-take-le w d (omega (arith, h, all.0)), all_short w ds h all.1)

-- what is read behind the rank
record Tail (wide : Bool) (text : List ℕ) (n : NodeHeader) : Type 0 where
  dims : map (λ i. field text (130 + dimension_digits wide * i) (dimension_digits wide)) (count_up 12) ≡ digits_of wide n
  chunks : number text (chunk_count_at wide) 4 ≡ n.chunks
  chunk : pointer_in text (chunk_count_at wide + 4) ≡ view n.chunk

each_dim : (text : List ℕ) (w : ℕ) (n : NodeHeader) (rest : List ℕ) → FitsNode n → w ≤ 16 → ((i : ℕ) → 130 + w * (i + 1) ≡ 130 + w * i + w) → 130 + w * 0 ≡ 130
    → drop 130 text ≡ flat_map (λ (d : List ℕ). d) (map (take w) n.dims) ++ rest
    → (map (λ i. field text (130 + w * i) w) (count_up 12) ≡ map (take w) n.dims) × (drop (130 + w * 12) text ≡ rest)
each_dim text w n rest f few step zero e =
    let short : AllByRecursion (λ (d : List ℕ). length d ≡ w) (map (take w) n.dims) = all_short w n.dims few f.digits in
    let long : length (map (take w) n.dims) ≡ 12 = length-map n.dims (take w) ∙ f.twelve in
    let from : drop (130 + w * 0) text ≡ flat_map (λ (d : List ℕ). d) (map (take w) n.dims) ++ rest = ap (λ o. drop o text) zero ∙ e in (
      ap (λ k. map (λ i. field text (130 + w * i) w) (count_up k)) (sym long) ∙ cut_each text rest (λ i. 130 + w * i) w (map (take w) n.dims) 0 step short from,
      ap (λ k. drop (130 + w * k) text) (sym long) ∙ ap (λ k. drop (130 + w * k) text) (front (length (map (take w) n.dims))) ∙ cut_behind text rest (λ i. 130 + w * i) w (map (take w) n.dims) 0 step short from,
    )
  where
    front : (k : ℕ) → k ≡ 0 + k
    front k = omega arith

node_tail_again : (wide : Bool) (text : List ℕ) (n : NodeHeader) → FitsNode n → drop 130 text ≡ joined (tail_of wide n) → Tail wide text n
node_tail_again false text n f e =
    let d = each_dim text 8 n (joined (hex_text 4 n.chunks ∷ pointer_text (view n.chunk) ∷ codes "TaiL" ∷ [])) f (omega arith) (λ i. omega arith) refl e in
    let a = cut text (hex_text 4 n.chunks) (joined (pointer_text (view n.chunk) ∷ codes "TaiL" ∷ [])) 226 4 d.1 (length-hex_text 4 n.chunks) in
    let b = cut text (pointer_text (view n.chunk)) (joined (codes "TaiL" ∷ [])) 230 12 a.rest_is (length-pointer_text n.chunk) in
    record { dims = d.0; chunks = number_again text 226 4 n.chunks a.piece_is f.chunks; chunk = pointer_again text 230 n.chunk b.piece_is f.chunk }
node_tail_again true text n f e =
    let d = each_dim text 16 n (joined (hex_text 4 n.chunks ∷ pointer_text (view n.chunk) ∷ codes "TaiL" ∷ [])) f (omega arith) (λ i. omega arith) refl e in
    let a = cut text (hex_text 4 n.chunks) (joined (pointer_text (view n.chunk) ∷ codes "TaiL" ∷ [])) 322 4 d.1 (length-hex_text 4 n.chunks) in
    let b = cut text (pointer_text (view n.chunk)) (joined (codes "TaiL" ∷ [])) 326 12 a.rest_is (length-pointer_text n.chunk) in
    record { dims = d.0; chunks = number_again text 322 4 n.chunks a.piece_is f.chunks; chunk = pointer_again text 326 n.chunk b.piece_is f.chunk }

node_text_again : (n : NodeHeader) → FitsNode n → node_record n.wide (node_text (record_of n)) ≡ record_of n
unfolding node_record node_text
node_text_again n f =
    let text : List ℕ = node_text (record_of n) in
    let rest = tail_of n.wide n in
    let e : drop 0 text ≡ codes "NoDe" ++ joined (pieces_of n.wide n) = behind-joined (codes "NoDe") (pieces_of n.wide n) in
    let tag = cut text (codes "NoDe") (joined (pieces_of n.wide n)) 0 4 e refl in
    let name = cut text n.name (joined (n.label ∷ hex_text 8 n.children ∷ hex_text 8 n.entries ∷ pointer_text (view n.table) ∷ text_field 32 (type_word n.kind) ∷ hex_text 2 n.rank ∷ rest)) 4 32 tag.rest_is f.name in
    let label = cut text n.label (joined (hex_text 8 n.children ∷ hex_text 8 n.entries ∷ pointer_text (view n.table) ∷ text_field 32 (type_word n.kind) ∷ hex_text 2 n.rank ∷ rest)) 36 32 name.rest_is f.label in
    let children = cut text (hex_text 8 n.children) (joined (hex_text 8 n.entries ∷ pointer_text (view n.table) ∷ text_field 32 (type_word n.kind) ∷ hex_text 2 n.rank ∷ rest)) 68 8 label.rest_is (length-hex_text 8 n.children) in
    let entries = cut text (hex_text 8 n.entries) (joined (pointer_text (view n.table) ∷ text_field 32 (type_word n.kind) ∷ hex_text 2 n.rank ∷ rest)) 76 8 children.rest_is (length-hex_text 8 n.entries) in
    let table = cut text (pointer_text (view n.table)) (joined (text_field 32 (type_word n.kind) ∷ hex_text 2 n.rank ∷ rest)) 84 12 entries.rest_is (length-pointer_text n.table) in
    let kind = cut text (text_field 32 (type_word n.kind)) (joined (hex_text 2 n.rank ∷ rest)) 96 32 table.rest_is (length-word n.kind) in
    let rank = cut text (hex_text 2 n.rank) (joined rest) 128 2 kind.rest_is (length-hex_text 2 n.rank) in
    let last = node_tail_again n.wide text n f rank.rest_is in
    let is_children = number_again text 68 8 n.children children.piece_is f.children in
    let is_entries = number_again text 76 8 n.entries entries.piece_is f.entries in
    let is_table = pointer_again text 84 n.table table.piece_is f.table in
    let is_kind : type_or_mt (field text 96 32) ≡ n.kind = ap type_or_mt kind.piece_is ∙ ap (λ o. unwrap_or o Mt) (type_again n.kind) in
    let is_rank = number_again text 128 2 n.rank rank.piece_is f.rank in
    λ i. record {
      name = name.piece_is i;
      label = label.piece_is i;
      children = is_children i;
      entries = is_entries i;
      table = is_table i;
      kind = is_kind i;
      rank = is_rank i;
      dims = last.dims i;
      chunks = last.chunks i;
      chunk = last.chunk i;
    }

-- dimensions are known by their digits
one_dim : (wide : Bool) (x y : List ℕ) → length x ≡ 16 → length y ≡ 16 → zeros_behind wide x → zeros_behind wide y → take (dimension_digits wide) x ≡ take (dimension_digits wide) y → x ≡ y
one_dim true x y h k z v e = sym (take_all 16 x (omega (arith, h))) ∙ e ∙ take_all 16 y (omega (arith, k))
one_dim false x y h k z v e = sym (take-append-drop 8 x) ∙ ap (λ t. t ++ drop 8 x) e ∙ ap (λ t. take 8 y ++ t) (z ∙ sym v) ∙ take-append-drop 8 y

same_dims : (wide : Bool) (xs ys : List (List ℕ)) → AllByRecursion (λ (d : List ℕ). length d ≡ 16) xs → AllByRecursion (λ (d : List ℕ). length d ≡ 16) ys
    → AllByRecursion (zeros_behind wide) xs → AllByRecursion (zeros_behind wide) ys → map (take (dimension_digits wide)) xs ≡ map (take (dimension_digits wide)) ys → xs ≡ ys
same_dims wide [] [] h k z v e = refl
same_dims wide [] (y ∷ ys) h k z v e = cc
same_dims wide (x ∷ xs) [] h k z v e = cc
same_dims wide (x ∷ xs) (y ∷ ys) h k z v e =
    let parts = cons_same (take (dimension_digits wide) x) (take (dimension_digits wide) y) (map (take (dimension_digits wide)) xs) (map (take (dimension_digits wide)) ys) e in
    let first : x ≡ y = one_dim wide x y h.0 k.0 z.0 v.0 parts.0 in
    let others : xs ≡ ys = same_dims wide xs ys h.1 k.1 z.1 v.1 parts.1 in
    ap (λ a. a ∷ xs) first ∙ ap (λ zs. y ∷ zs) others

same_node : (m n : NodeHeader) → FitsNode m → FitsNode n → IsNarrow m → IsNarrow n → HasOffsets m → m.wide ≡ n.wide → record_of m ≡ record_of n → m ≡ n
same_node m n g f z v h w e =
    let digits : map (take (dimension_digits n.wide)) m.dims ≡ map (take (dimension_digits n.wide)) n.dims = ap (λ b. map (take (dimension_digits b)) m.dims) (sym w) ∙ ap (λ (r : NodeRecord). r.dims) e in
    let narrow : AllByRecursion (zeros_behind n.wide) m.dims = subst (λ b. AllByRecursion (zeros_behind b) m.dims) w z in
    let table = known m.table n.table f.table h.0 (ap (λ (r : NodeRecord). r.table) e) in
    let chunk = known m.chunk n.chunk f.chunk h.1 (ap (λ (r : NodeRecord). r.chunk) e) in
    let dims = same_dims n.wide m.dims n.dims g.digits f.digits narrow v digits in
    λ i. record {
      wide = w i;
      name = (e i).name;
      label = (e i).label;
      children = (e i).children;
      entries = (e i).entries;
      table = table i;
      kind = (e i).kind;
      rank = (e i).rank;
      dims = dims i;
      chunks = (e i).chunks;
      chunk = chunk i;
    }

no_fault : (o : Option Fault) (b : Fault) {A : Type 0} → o ≡ None → o ≡ Some b → A
no_fault o b e f = absurd (none_some b (sym e ∙ f))
  where
    none_some : (b : Fault) → ◌≡◌ {A = Option Fault} None (Some b) → ⊥
    none_some b e = cc

pub node_read : NodeIsReadAgain
node_read n (Err b) f narrow sound says offsets zeros wide fits bad = no_fault _ (fault b) sound bad
node_read n (Ok m) f narrow sound says offsets zeros wide fits bad = ap (λ x. Ok x) (same_node m n fits f zeros narrow offsets wide (says ∙ node_text_again n f))

-- ---- the free table

free_text_again : (t : FreeTable) → FitsFree t → free_table_record (free_table_text (pointers_of t)) ≡ pointers_of t
unfolding free_table_record free_table_text
free_text_again t f =
    let text : List ℕ = free_table_text (pointers_of t) in
    let a : List ℕ = pointer_text (view t.small_first) in
    let b : List ℕ = pointer_text (view t.small_last) in
    let c : List ℕ = pointer_text (view t.medium_first) in
    let d : List ℕ = pointer_text (view t.medium_last) in
    let l : List ℕ = pointer_text (view t.large_first) in
    let m : List ℕ = pointer_text (view t.large_last) in
    let e : drop 0 text ≡ codes "fCbt" ++ joined (a ∷ b ∷ c ∷ d ∷ l ∷ m ∷ codes "Fcte" ∷ []) =
    two_lists (codes "fCbt") (a ∷ b ∷ c ∷ d ∷ l ∷ m ∷ []) (codes "Fcte") ∙ behind-joined (codes "fCbt") (a ∷ b ∷ c ∷ d ∷ l ∷ m ∷ codes "Fcte" ∷ []) in
    let tag = cut text (codes "fCbt") (joined (a ∷ b ∷ c ∷ d ∷ l ∷ m ∷ codes "Fcte" ∷ [])) 0 4 e refl in
    let p1 = cut text a (joined (b ∷ c ∷ d ∷ l ∷ m ∷ codes "Fcte" ∷ [])) 4 12 tag.rest_is (length-pointer_text t.small_first) in
    let p2 = cut text b (joined (c ∷ d ∷ l ∷ m ∷ codes "Fcte" ∷ [])) 16 12 p1.rest_is (length-pointer_text t.small_last) in
    let p3 = cut text c (joined (d ∷ l ∷ m ∷ codes "Fcte" ∷ [])) 28 12 p2.rest_is (length-pointer_text t.medium_first) in
    let p4 = cut text d (joined (l ∷ m ∷ codes "Fcte" ∷ [])) 40 12 p3.rest_is (length-pointer_text t.medium_last) in
    let p5 = cut text l (joined (m ∷ codes "Fcte" ∷ [])) 52 12 p4.rest_is (length-pointer_text t.large_first) in
    let p6 = cut text m (joined (codes "Fcte" ∷ [])) 64 12 p5.rest_is (length-pointer_text t.large_last) in
    let q1 = pointer_again text 4 t.small_first p1.piece_is f.small_first in
    let q2 = pointer_again text 16 t.small_last p2.piece_is f.small_last in
    let q3 = pointer_again text 28 t.medium_first p3.piece_is f.medium_first in
    let q4 = pointer_again text 40 t.medium_last p4.piece_is f.medium_last in
    let q5 = pointer_again text 52 t.large_first p5.piece_is f.large_first in
    let q6 = pointer_again text 64 t.large_last p6.piece_is f.large_last in
    λ i. q1 i ∷ q2 i ∷ q3 i ∷ q4 i ∷ q5 i ∷ q6 i ∷ []

same_free : (s t : FreeTable) → FitsFree t → HasFreeOffsets s → pointers_of s ≡ pointers_of t → s ≡ t
same_free s t f h e =
    let p1 = cons_same _ _ _ _ e in
    let p2 = cons_same _ _ _ _ p1.1 in
    let p3 = cons_same _ _ _ _ p2.1 in
    let p4 = cons_same _ _ _ _ p3.1 in
    let p5 = cons_same _ _ _ _ p4.1 in
    let p6 = cons_same _ _ _ _ p5.1 in
    let q1 = known s.small_first t.small_first f.small_first h.0 p1.0 in
    let q2 = known s.small_last t.small_last f.small_last h.1 p2.0 in
    let q3 = known s.medium_first t.medium_first f.medium_first h.2 p3.0 in
    let q4 = known s.medium_last t.medium_last f.medium_last h.3 p4.0 in
    let q5 = known s.large_first t.large_first f.large_first h.4 p5.0 in
    let q6 = known s.large_last t.large_last f.large_last h.5 p6.0 in
    λ i. record { small_first = q1 i; small_last = q2 i; medium_first = q3 i; medium_last = q4 i; large_first = q5 i; large_last = q6 i }

pub free_read : FreeIsReadAgain
free_read t (Err b) f sound says offsets bad = no_fault _ (fault b) sound bad
free_read t (Ok s) f sound says offsets bad = ap (λ x. Ok x) (same_free s t f offsets (says ∙ free_text_again t f))

-- ---- the file header

format_again : (text : List ℕ) (format : Format) → field text 100 1 ≡ format_letter format → format_in text ≡ format
format_again text Format.Little e = ap (λ f. cond (bytes_eq f (66 ∷ [])) Format.Big Format.Little) e
format_again text Format.Big e = ap (λ f. cond (bytes_eq f (66 ∷ [])) Format.Big Format.Little) e

length-letter : (format : Format) → length (format_letter format) ≡ 1
length-letter Format.Little = refl
length-letter Format.Big = refl

header_text_again : (h : FileHeader) → FitsHeader h → header_record (header_text (header_of h)) ≡ header_of h
unfolding header_record header_text
header_text_again h f =
    let text : List ℕ = header_text (header_of h) in
    let l5 : List (List ℕ) = pointer_text (view h.root) ∷ pointer_text (view h.end) ∷ pointer_text (view h.free_table) ∷ h.extra ∷ codes "AdF5" ∷ [] in
    let l4 : List (List ℕ) = h.sizes ∷ codes "AdF4" ∷ l5 in
    let l3 : List (List ℕ) = format_letter h.format ∷ (h.size_letter ∷ []) ∷ codes "AdF3" ∷ l4 in
    let l2 : List (List ℕ) = h.modified ∷ codes "AdF2" ∷ l3 in
    let l1 : List (List ℕ) = h.created ∷ codes "AdF1" ∷ l2 in
    let e : drop 0 text ≡ h.what ++ joined (codes "AdF0" ∷ l1) = behind-joined h.what (codes "AdF0" ∷ l1) in
    let what = cut text h.what (joined (codes "AdF0" ∷ l1)) 0 32 e f.what in
    let tag0 = cut text (codes "AdF0") (joined l1) 32 4 what.rest_is refl in
    let created = cut text h.created (joined (codes "AdF1" ∷ l2)) 36 28 tag0.rest_is f.created in
    let tag1 = cut text (codes "AdF1") (joined l2) 64 4 created.rest_is refl in
    let modified = cut text h.modified (joined (codes "AdF2" ∷ l3)) 68 28 tag1.rest_is f.modified in
    let tag2 = cut text (codes "AdF2") (joined l3) 96 4 modified.rest_is refl in
    let format = cut text (format_letter h.format) (joined ((h.size_letter ∷ []) ∷ codes "AdF3" ∷ l4)) 100 1 tag2.rest_is (length-letter h.format) in
    let letter = cut text (h.size_letter ∷ []) (joined (codes "AdF3" ∷ l4)) 101 1 format.rest_is refl in
    let tag3 = cut text (codes "AdF3") (joined l4) 102 4 letter.rest_is refl in
    let sizes = cut text h.sizes (joined (codes "AdF4" ∷ l5)) 106 24 tag3.rest_is f.sizes in
    let tag4 = cut text (codes "AdF4") (joined l5) 130 4 sizes.rest_is refl in
    let root = cut text (pointer_text (view h.root)) (joined (pointer_text (view h.end) ∷ pointer_text (view h.free_table) ∷ h.extra ∷ codes "AdF5" ∷ [])) 134 12 tag4.rest_is (length-pointer_text h.root) in
    let end = cut text (pointer_text (view h.end)) (joined (pointer_text (view h.free_table) ∷ h.extra ∷ codes "AdF5" ∷ [])) 146 12 root.rest_is (length-pointer_text h.end) in
    let free = cut text (pointer_text (view h.free_table)) (joined (h.extra ∷ codes "AdF5" ∷ [])) 158 12 end.rest_is (length-pointer_text h.free_table) in
    let extra = cut text h.extra (joined (codes "AdF5" ∷ [])) 170 12 free.rest_is f.extra in
    let is_format = format_again text h.format format.piece_is in
    let is_root = pointer_again text 134 h.root root.piece_is f.root in
    let is_end = pointer_again text 146 h.end end.piece_is f.end in
    let is_free = pointer_again text 158 h.free_table free.piece_is f.free_table in
    λ i. record {
      what = what.piece_is i;
      created = created.piece_is i;
      modified = modified.piece_is i;
      format = is_format i;
      size_letter = letter.piece_is i;
      sizes = sizes.piece_is i;
      root = is_root i;
      end = is_end i;
      free_table = is_free i;
      extra = extra.piece_is i;
    }

same_header : (g h : FileHeader) → FitsHeader h → HasHeaderOffsets g → header_of g ≡ header_of h → g ≡ h
same_header g h f o e =
    let letter = cons_same g.size_letter h.size_letter [] [] (ap (λ (r : HeaderRecord). r.size_letter) e) in
    let root = known g.root h.root f.root o.0 (ap (λ (r : HeaderRecord). r.root) e) in
    let end = known g.end h.end f.end o.1 (ap (λ (r : HeaderRecord). r.end) e) in
    let free = known g.free_table h.free_table f.free_table o.2 (ap (λ (r : HeaderRecord). r.free_table) e) in
    λ i. record {
      what = (e i).what;
      created = (e i).created;
      modified = (e i).modified;
      format = (e i).format;
      size_letter = letter.0 i;
      sizes = (e i).sizes;
      root = root i;
      end = end i;
      free_table = free i;
      extra = (e i).extra;
    }

pub header_read : HeaderIsReadAgain
header_read h (Err b) f sound says offsets bad = no_fault _ (fault b) sound bad
header_read h (Ok g) f sound says offsets bad = ap (λ x. Ok x) (same_header g h f offsets (says ∙ header_text_again h f))
