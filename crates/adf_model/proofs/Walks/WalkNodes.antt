-- A node that broke no rule when a walk met it is a node as a tree has them.
use Rattle.std.proofs.Common.{◌≡◌, ℕ, zero, suc, refl, sym, ◌∙◌, ap, subst, arith, List, [], ◌∷◌, ◌++◌, length, map, take, min, length-append, ◌+◌, ◌-◌, ◌*◌, ◌^◌, ◌<◌, ◌≤◌, Bool, true, false, not, cond}
use Rattle.std.proofs.lemmas.Bool.Decides.{nat_tests}
use Rattle.std.proofs.lemmas.List.{length-take}
use Rattle.std.specs.Bool.{beq}
use Rattle.std.specs.Prelude.{Option, Some, None, Ok, slice_get, option_map, unwrap_or, IfSome, nat_lt, nat_le, ◌==◌, ◌&&◌, ◌||◌, if◌then◌else◌}
use Rattle.std.specs.List.{list_all, filter_map, range_with_len, AllByRecursion}
use Rattle.adf_format.specs.declared.types.DataType.{DataType}
use Rattle.adf_format.specs.declared.types.DataType.TheVariants.{Lk}
use Rattle.adf_format.specs.Hex.{hex_value}
use Rattle.adf_format.specs.Pointer.{is_place, place_of}
use Rattle.adf_format.specs.Fields.{field, number, trimmed, text_at}
use Rattle.adf_format.specs.Names.{is_name, is_label, is_mt, is_lk, is_shape_of, is_rank_of, is_dimension, data_size}
use Rattle.adf_format.specs.Links.{is_link_text}
use Rattle.adf_format.specs.Parts.{node_length, dimension_digits, payload}
use Rattle.adf_format.specs.Tree.{Node, IsNode, IsLinkNode, node_at}
use Rattle.adf_format.specs.Checks.{Row, first_broken}
use Rattle.adf_format.specs.FirstFault.{NodeWalk, head_rows, row_of_length, header_rows, end_rows, end_in, is_wide, Visit, ChunkVisit, fits, visit_rows, node_rows, text_rows, number_rows, pointer_rows, shape_rows, dimension_row, entry_rows, count_row, chunk_rows, data_rows, is_named, type_or_mt, count_up, children_in, table_in, dims_in, chunks_in, chunk_length, payloads_in, payload_total, agrees, node_rows_at, count_row_at, one_chunk_rows}
use Rattle.adf_format.specs.SoundPart.{tree_of, data_when, children_among, node_of_visit, visit_number}
use Rattle.adf_format.proofs.FieldLaws.{inner_field, length-field}
use Rattle.adf_format.proofs.RowLaws.{kept_index, length-counted}
use Rattle.adf_format.proofs.TreeLaws.{at_in, node_at-tree_of}
use Rattle.adf_format.proofs.WalkLaws.{all_kept}
use Rattle.adf_model.proofs.Basics.{not_true, not_there, same_Some, and_parts}
use Rattle.adf_model.proofs.Walks.WalkRows.{Passed, walk_passes}
use Rattle.adf_model.proofs.Walks.WalkCounts.{number_small}
use Rattle.adf_format.proofs.NumberLaws.{left_part, right_part}

abbrev pub Kept : List Row → Type 0
Kept rows = AllByRecursion (λ (r : Row). r.kept ≡ true) rows

-- the rules of a node that say what it is
pub record VisitKept (image : List ℕ) (wide : Bool) (end : ℕ) (v : Visit) : Type 0 where
  pub inside : fits end v.place (node_length wide) ≡ true
  pub node : Kept (node_rows wide v.place (is_named image v) (field image v.place (node_length wide)))
  pub count : (count_row image v).kept ≡ true
  pub entries : Kept (entry_rows image (table_in image v.place) (children_in image v.place))
  pub used : ℕ
  pub chunks : Kept (chunk_rows image end used (chunks_in image wide v.place))
  pub payloads : Kept (data_rows image wide v.place)

split_rows : (a table entries chunk_table chunks payloads : List Row) (count : Row) → Kept (a ++ (count ∷ table) ++ entries ++ chunk_table ++ chunks ++ payloads)
    → Kept a × (count.kept ≡ true) × Kept entries × Kept chunks × Kept payloads
split_rows a table entries chunk_table chunks payloads count h =
    let h1 = left_part (a ++ (count ∷ table) ++ entries ++ chunk_table ++ chunks) payloads h in
    let h2 = left_part (a ++ (count ∷ table) ++ entries ++ chunk_table) chunks h1 in
    let h3 = left_part (a ++ (count ∷ table) ++ entries) chunk_table h2 in
    let h4 = left_part (a ++ (count ∷ table)) entries h3 in
    (left_part a (count ∷ table) h4, (right_part a (count ∷ table) h4).0, right_part (a ++ (count ∷ table)) entries h3, right_part (a ++ (count ∷ table) ++ entries ++ chunk_table) chunks h1, right_part (a ++ (count ∷ table) ++ entries ++ chunk_table ++ chunks) payloads h)

pub visit_kept : (image : List ℕ) (wide : Bool) (end : ℕ) (v : Visit) → Passed image wide end v → VisitKept image wide end v
unfolding node_rows_at
visit_kept image wide end v p =
    let all = all_kept (visit_rows image wide end p.0 v) p.1 in
    let parts = split_rows _ _ _ _ _ _ _ all.1.1.1 in
    record { inside = all.0; node = parts.0; count = parts.1; entries = parts.2; used = _; chunks = parts.3; payloads = parts.4 }

-- ---- a node by itself

at_most : (m n : ℕ) → nat_le m n ≡ true → m ≤ n
at_most m n e = grind (arith, nat_tests)

or_then : (a b : Bool) → (not a || b) ≡ true → a ≡ true → b ≡ true
or_then true b h e = h
or_then false b h e = absurd (not_true e)

-- what rules 15 to 28 say of a node, in its own words
pub record SaysNode (wide : Bool) (name label : List ℕ) (kind : DataType) (dims : List ℕ) (count : ℕ) (payloads children : List ℕ) : Type 0 where
  pub named : is_name name ≡ true
  pub labelled : is_label label ≡ true
  pub shaped : is_shape_of wide kind dims ≡ true
  pub empty : is_mt kind ≡ true → (count == 0) ≡ true
  pub linked : is_lk kind ≡ true → (count == 0) ≡ false
  pub enough : (count == 0) ≡ false → data_size kind dims ≤ length payloads
  pub link : is_lk kind ≡ true → ((length dims == 1) && nat_le (data_size kind dims) 4096 && is_link_text (take (data_size kind dims) payloads)) ≡ true
  pub childless : is_lk kind ≡ true → children ≡ []

module _ (wide : Bool) (name label : List ℕ) (kind : DataType) (dims : List ℕ) (count : ℕ) (payloads children : List ℕ) (says : SaysNode wide name label kind dims count payloads children) where
  abbrev node : Node
  node = record { name = name; label = label; kind = kind; dims = dims; bytes = data_when count (take (data_size kind dims) payloads); children = children }

  taken : data_size kind dims ≤ length payloads → length (take (data_size kind dims) payloads) ≡ data_size kind dims
  taken h = let e : length (take (data_size kind dims) payloads) ≡ min (data_size kind dims) (length payloads) = length-take (data_size kind dims) payloads in omega (arith, e, h)

  node_sized : IfSome (data_when count (take (data_size kind dims) payloads)) (λ (bytes : List ℕ). length bytes ≡ data_size kind dims)
  node_sized = by_count (count == 0) refl
    where
      by_count : (t : Bool) → (count == 0) ≡ t → IfSome (cond t None (Some (take (data_size kind dims) payloads))) (λ (bytes : List ℕ). length bytes ≡ data_size kind dims)
      by_count true e = tt
      by_count false e = taken (says.enough e)

  one_dimension : (dims : List ℕ) (n : ℕ) → (length dims == 1) ≡ true → n ≡ data_size Lk dims → dims ≡ n ∷ []
  one_dimension [] n e s = absurd (not_true e)
  one_dimension (d ∷ []) n e s = ap (λ k. k ∷ []) (single d n s)
    where
      single : (d n : ℕ) → n ≡ 1 * (d * 1) → d ≡ n
      single d n s = omega (arith, s)
  one_dimension (d ∷ c ∷ dims) n e s = absurd (two (length dims) e)
    where
      two : (n : ℕ) → (suc (suc n) == 1) ≡ true → ⊥
      two n e = grind (arith, nat_tests)

  node_link : kind ≡ Lk → IsLinkNode node
  node_link e =
      let lk : is_lk kind ≡ true = ap is_lk e in
      let some = says.linked lk in
      let row = and_parts ((length dims == 1) && nat_le (data_size kind dims) 4096) (is_link_text (take (data_size kind dims) payloads)) (says.link lk) in
      let shape = and_parts (length dims == 1) (nat_le (data_size kind dims) 4096) row.0 in
      let size = taken (says.enough some) in
      record {
        text = take (data_size kind dims) payloads;
        held = ap (λ t. cond t None (Some (take (data_size kind dims) payloads))) some;
        spelled = row.1;
        short = subst (λ n. n ≤ 4096) (sym size) (at_most (data_size kind dims) 4096 shape.1);
        sized = one_dimension dims (length (take (data_size kind dims) payloads)) shape.0 (size ∙ ap (λ k. data_size k dims) e);
        childless = says.childless lk;
      }

  pub node_sound : IsNode wide node
  node_sound = record {
    named = says.named;
    labelled = says.labelled;
    shaped = says.shaped;
    sized = node_sized;
    empty = λ e. ap (λ t. cond t None (Some (take (data_size kind dims) payloads))) (says.empty (ap is_mt e));
    link = node_link;
  }

-- ---- what the rows say

texts_kept : (wide : Bool) (base : ℕ) (named : Bool) (bytes : List ℕ) → Kept (text_rows wide base named bytes) → (is_name (trimmed (field bytes 4 32)) ≡ true) × (named ≡ true) × (is_label (trimmed (field bytes 36 32)) ≡ true)
unfolding text_rows
texts_kept wide base named bytes h = let r = and_parts _ _ h.1.1.0 in (r.0, r.1, h.1.1.1.0)

shapes_kept : (wide : Bool) (base : ℕ) (bytes : List ℕ) → Kept (shape_rows wide base bytes)
    → (nat_le (number bytes 128 2) 12 ≡ true) × (beq (number bytes 128 2 == 0) (is_mt (type_or_mt (field bytes 96 32))) ≡ true) × Kept (map (dimension_row wide base bytes) (count_up (number bytes 128 2)))
unfolding shape_rows
shapes_kept wide base bytes h = let r = and_parts _ _ h.1.0 in (r.0, r.1, h.1.1)

nodes_kept : (wide : Bool) (base : ℕ) (named : Bool) (bytes : List ℕ) → Kept (node_rows wide base named bytes) → Kept (text_rows wide base named bytes) × Kept (shape_rows wide base bytes)
unfolding node_rows
nodes_kept wide base named bytes h =
    let a = left_part (text_rows wide base named bytes ++ number_rows wide base bytes ++ pointer_rows wide base bytes) (shape_rows wide base bytes) h in
    let b = left_part (text_rows wide base named bytes ++ number_rows wide base bytes) (pointer_rows wide base bytes) a in
    (left_part (text_rows wide base named bytes) (number_rows wide base bytes) b, right_part (text_rows wide base named bytes ++ number_rows wide base bytes ++ pointer_rows wide base bytes) (shape_rows wide base bytes) h)

rank_kept : (mt none : Bool) (rank : ℕ) → (rank == 0) ≡ none → beq none mt ≡ true → (if mt then rank == 0 else nat_le 1 rank) ≡ true
rank_kept true true rank e h = e
rank_kept true false rank e h = absurd (not_true h)
rank_kept false true rank e h = absurd (not_true h)
rank_kept false false rank e h = some rank e
  where
    some : (n : ℕ) → (n == 0) ≡ false → nat_le 1 n ≡ true
    some n e = grind (arith, nat_tests)

all_counted : (test : ℕ → Bool) (f : ℕ → ℕ) (a n : ℕ) → ((i : ℕ) → i < n → test (f (a + i)) ≡ true) → list_all test (map f (range_with_len a n)) ≡ true
all_counted test f a zero each = refl
all_counted test f a (suc n) each =
    ap (λ b. b && list_all test (map f (range_with_len (a + 1) n))) (ap (λ k. test (f k)) (same a) ∙ each 0 (omega arith))
    ∙ all_counted test f (a + 1) n (λ i h. ap (λ k. test (f k)) (shift a i) ∙ each (suc i) (omega (arith, h)))
  where
    same : (a : ℕ) → a ≡ a + 0
    same a = omega arith

    shift : (a i : ℕ) → a + 1 + i ≡ a + suc i
    shift a i = omega arith

dimension_kept : (wide : Bool) (base : ℕ) (bytes : List ℕ) (i : ℕ) → (dimension_row wide base bytes i).kept ≡ true → nat_lt 0 (number bytes (130 + dimension_digits wide * i) (dimension_digits wide)) ≡ true
unfolding dimension_row
dimension_kept wide base bytes i h = (and_parts _ _ h).1

dimension_small : (wide : Bool) (bytes : List ℕ) (o : ℕ) → nat_lt 0 (number bytes o (dimension_digits wide)) ≡ true → is_dimension wide (number bytes o (dimension_digits wide)) ≡ true
dimension_small false bytes o e = within (number bytes o 8) (16 ^ 8) e (number_small bytes o 8)
  where
    within : (d most : ℕ) → nat_lt 0 d ≡ true → d < most → (nat_le 1 d && nat_lt d most) ≡ true
    within d most e h = grind (arith, nat_tests)
dimension_small true bytes o e = within (number bytes o 16) (16 ^ 16) e (number_small bytes o 16)
  where
    within : (d most : ℕ) → nat_lt 0 d ≡ true → d < most → (nat_le 1 d && nat_lt d most) ≡ true
    within d most e h = grind (arith, nat_tests)

-- a chunk that broke no rule holds as many bytes as its length says
chunk_long : (length_of place tail end : ℕ) → place + 21 ≤ tail + 4 → tail + 4 ≤ end + 1 → end < length_of → min (tail + 4 - place - 20) (length_of - (place + 16)) ≡ tail + 4 - place - 20
chunk_long n c tail end h k l = omega (arith, h, k, l)

pub payloads_long : (image : List ℕ) (end used : ℕ) (vs : List ChunkVisit) → end < length image → Kept (chunk_rows image end used vs) → length (payloads_in image vs) ≡ payload_total image vs
unfolding chunk_rows one_chunk_rows
payloads_long image end used [] h k = refl
payloads_long image end used (v ∷ vs) h k =
    let tail = place_of (field image (v.place + 4) 12) in
    let row = k.1.0 in
    let three = and_parts (is_place (field image (v.place + 4) 12) && nat_le (v.place + 21) (tail + 4) && nat_le (tail + 4) (end + 1)) (agrees v.listed tail) row in
    let two = and_parts (is_place (field image (v.place + 4) 12) && nat_le (v.place + 21) (tail + 4)) (nat_le (tail + 4) (end + 1)) three.0 in
    let one = and_parts (is_place (field image (v.place + 4) 12)) (nat_le (v.place + 21) (tail + 4)) two.0 in
    let whole = length-field image (v.place + 16) (chunk_length image v.place - 20) in
    let rest = payloads_long image end (used + chunk_length image v.place) vs h k.1.1.1.1 in
    length-append (payload image v.place (chunk_length image v.place)) (payloads_in image vs)
    ∙ ap (λ n. n + length (payloads_in image vs)) (whole ∙ chunk_long (length image) v.place tail end (at_most (v.place + 21) (tail + 4) one.1) (at_most (tail + 4) (end + 1) two.1) h)
    ∙ ap (λ n. (chunk_length image v.place - 20) + n) rest

datas_kept : (image : List ℕ) (wide : Bool) (p : ℕ) → Kept (data_rows image wide p)
    → ((not (is_mt (type_or_mt (field image (p + 96) 32))) || (length (chunks_in image wide p) == 0)) ≡ true)
    × ((not (is_lk (type_or_mt (field image (p + 96) 32))) || nat_lt 0 (length (chunks_in image wide p))) ≡ true)
    × (((length (chunks_in image wide p) == 0) || nat_le (data_size (type_or_mt (field image (p + 96) 32)) (dims_in image wide p)) (payload_total image (chunks_in image wide p))) ≡ true)
    × ((not (is_lk (type_or_mt (field image (p + 96) 32))) || (length (dims_in image wide p) == 1) && nat_le (data_size (type_or_mt (field image (p + 96) 32)) (dims_in image wide p)) 4096
    && is_link_text (take (data_size (type_or_mt (field image (p + 96) 32)) (dims_in image wide p)) (payloads_in image (chunks_in image wide p)))) ≡ true)
unfolding data_rows
datas_kept image wide p h = let r = and_parts _ _ h.0 in let s = and_parts _ _ r.0 in (s.0, s.1, r.1, h.1.0)

counts_kept : (image : List ℕ) (v : Visit) → (count_row image v).kept ≡ true → (not (is_lk (type_or_mt (field image (v.place + 96) 32))) || (children_in image v.place == 0)) ≡ true
unfolding count_row_at
counts_kept image v h = (and_parts _ _ h).1

-- ---- the node of a visit

module _ (image : List ℕ) (wide : Bool) (end : ℕ) (nodes : List Visit) (v : Visit) (kept : VisitKept image wide end v) (ends : end < length image) where
  abbrev p : ℕ
  p = v.place

  abbrev kind : DataType
  kind = type_or_mt (field image (v.place + 96) 32)

  abbrev header : List ℕ
  header = field image v.place (node_length wide)

  least_length : (w : Bool) → 246 ≤ node_length w
  least_length false = omega arith
  least_length true = omega arith

  part_of : (k n : ℕ) → k + n ≤ 246 → field header k n ≡ field image (p + k) n
  part_of k n h = inner_field image p (node_length wide) k n (let least = least_length wide in omega (arith, h, least))

  parts : Kept (text_rows wide p (is_named image v) header) × Kept (shape_rows wide p header)
  parts = nodes_kept wide p (is_named image v) header kept.node

  texts : (is_name (trimmed (field header 4 32)) ≡ true) × (is_named image v ≡ true) × (is_label (trimmed (field header 36 32)) ≡ true)
  texts = texts_kept wide p (is_named image v) header parts.0

  shapes : (nat_le (number header 128 2) 12 ≡ true) × (beq (number header 128 2 == 0) (is_mt (type_or_mt (field header 96 32))) ≡ true) × Kept (map (dimension_row wide p header) (count_up (number header 128 2)))
  shapes = shapes_kept wide p header parts.1

  same_kind : type_or_mt (field header 96 32) ≡ kind
  same_kind = ap type_or_mt (part_of 96 32 (omega arith))

  same_rank : number header 128 2 ≡ length (dims_in image wide p)
  same_rank = ap (λ bs. unwrap_or (hex_value bs) 0) (part_of 128 2 (omega arith)) ∙ sym (length-counted (λ i. number image (p + 130 + dimension_digits wide * i) (dimension_digits wide)) 0 (number image (p + 128) 2))

  ranked : is_rank_of kind (length (dims_in image wide p)) ≡ true
  ranked = subst (λ n. is_rank_of kind n ≡ true) same_rank (subst (λ k. is_rank_of k (number header 128 2) ≡ true) same_kind (rank_kept (is_mt (type_or_mt (field header 96 32))) (number header 128 2 == 0) (number header 128 2) refl shapes.1))

  few : nat_le (length (dims_in image wide p)) 12 ≡ true
  few = subst (λ n. nat_le n 12 ≡ true) same_rank shapes.0

  dimension_at : (w : Bool) (p i : ℕ) → i < 12 → field (field image p (node_length w)) (130 + dimension_digits w * i) (dimension_digits w) ≡ field image (p + 130 + dimension_digits w * i) (dimension_digits w)
  dimension_at false p i h = inner_field image p 246 (130 + 8 * i) 8 (omega (arith, h)) ∙ ap (λ o. field image o 8) (there p i)
    where
      there : (p i : ℕ) → p + (130 + 8 * i) ≡ p + 130 + 8 * i
      there p i = omega arith
  dimension_at true p i h = inner_field image p 342 (130 + 16 * i) 16 (omega (arith, h)) ∙ ap (λ o. field image o 16) (there p i)
    where
      there : (p i : ℕ) → p + (130 + 16 * i) ≡ p + 130 + 16 * i
      there p i = omega arith

  dimension : (i : ℕ) → i < number image (p + 128) 2 → is_dimension wide (number image (p + 130 + dimension_digits wide * (0 + i)) (dimension_digits wide)) ≡ true
  dimension i h =
      let rank = same_rank in
      let long = length-counted (λ i. number image (p + 130 + dimension_digits wide * i) (dimension_digits wide)) 0 (number image (p + 128) 2) in
      let most = at_most (number header 128 2) 12 shapes.0 in
      let lt : i < number header 128 2 = omega (arith, h, rank, long) in
      let row = kept_index (dimension_row wide p header) 0 (number header 128 2) i shapes.2 lt in
      let same = ap (λ bs. unwrap_or (hex_value bs) 0) (dimension_at wide p (0 + i) (omega (arith, lt, most))) in
      subst (λ d. is_dimension wide d ≡ true) same (dimension_small wide header (130 + dimension_digits wide * (0 + i)) (dimension_kept wide p header (0 + i) row))

  shaped : is_shape_of wide kind (dims_in image wide p) ≡ true
  shaped =
      ap (λ b. b && nat_le (length (dims_in image wide p)) 12 && list_all (is_dimension wide) (dims_in image wide p)) ranked ∙ ap (λ b. b && list_all (is_dimension wide) (dims_in image wide p)) few
      ∙ all_counted (is_dimension wide) (λ i. number image (p + 130 + dimension_digits wide * i) (dimension_digits wide)) 0 (number image (p + 128) 2) dimension

  abbrev count : ℕ
  count = length (chunks_in image wide p)

  enough : (count == 0) ≡ false → data_size kind (dims_in image wide p) ≤ length (payloads_in image (chunks_in image wide p))
  enough some =
      let row = (datas_kept image wide p kept.payloads).2 in
      let long = payloads_long image end kept.used (chunks_in image wide p) ends kept.chunks in
      subst (λ n. data_size kind (dims_in image wide p) ≤ n) (sym long)
      (at_most (data_size kind (dims_in image wide p)) (payload_total image (chunks_in image wide p)) (ap (λ b. b || nat_le (data_size kind (dims_in image wide p)) (payload_total image (chunks_in image wide p))) (sym some) ∙ row))

  not_none : (n : ℕ) → nat_lt 0 n ≡ true → (n == 0) ≡ false
  not_none n e = grind (arith, nat_tests)

  is_none : (n : ℕ) → (n == 0) ≡ true → n ≡ 0
  is_none n e = grind (arith, nat_tests)

  says : SaysNode wide (text_at image (p + 4) 32) (text_at image (p + 36) 32) kind (dims_in image wide p) count (payloads_in image (chunks_in image wide p)) (children_among image nodes v)
  says =
      let rows = datas_kept image wide p kept.payloads in
      record {
        named = subst (λ bs. is_name (trimmed bs) ≡ true) (part_of 4 32 (omega arith)) texts.0;
        labelled = subst (λ bs. is_label (trimmed bs) ≡ true) (part_of 36 32 (omega arith)) texts.2;
        shaped = shaped;
        empty = λ e. or_then (is_mt kind) (count == 0) rows.0 e;
        linked = λ e. not_none count (or_then (is_lk kind) (nat_lt 0 count) rows.1 e);
        enough = enough;
        link = λ e. or_then (is_lk kind) _ rows.3 e;
        childless = λ e. ap (λ n. filter_map (λ i. visit_number nodes (v.path ++ i ∷ [])) (count_up n)) (is_none (children_in image p) (or_then (is_lk kind) (children_in image p == 0) (counts_kept image v kept.count) e));
      }

  -- a node that a walk meets is one as trees have them
  pub visit_sound : IsNode wide (node_of_visit image wide nodes v)
  visit_sound = node_sound wide (text_at image (p + 4) 32) (text_at image (p + 36) 32) kind (dims_in image wide p) count (payloads_in image (chunks_in image wide p)) (children_among image nodes v) says

  -- and has the name of its entry
  pub visit_named : is_named image v ≡ true
  visit_named = texts.1

-- the rules of the head put the end within the image
pub end_inside : (image : List ℕ) → first_broken (head_rows image) ≡ None → end_in image < length image
unfolding head_rows end_rows
end_inside image e =
    let rows = right_part (row_of_length image ∷ header_rows (field image 0 186)) (end_rows image) (all_kept (head_rows image) e) in
    below (end_in image) (length image) (and_parts (nat_lt (end_in image) (length image)) (nat_le (265 + node_length (is_wide image)) (end_in image)) rows.0).0
  where
    below : (m n : ℕ) → nat_lt m n ≡ true → m < n
    below m n e = grind (arith, nat_tests)

-- each node of the tree that a walk finds is one as trees have them
pub walk_each : (image : List ℕ) (nodes : List Visit) → first_broken (head_rows image) ≡ None → NodeWalk image (Ok nodes) → (serial : ℕ) (node : Node) → node_at (tree_of image nodes) serial ≡ Some node → IsNode (is_wide image) node
walk_each image nodes head w serial node e = by_visit (slice_get nodes serial) refl
  where
    by_visit : (o : Option Visit) → slice_get nodes serial ≡ o → IsNode (is_wide image) node
    by_visit None f = absurd (not_there node (sym (node_at-tree_of image nodes serial ∙ ap (option_map (node_of_visit image (is_wide image) nodes)) f) ∙ e))
    by_visit (Some v) f =
        let kept = visit_kept image (is_wide image) (end_in image) v (walk_passes image nodes w v (at_in nodes serial v f)) in
        let same = same_Some (node_of_visit image (is_wide image) nodes v) node (sym (node_at-tree_of image nodes serial ∙ ap (option_map (node_of_visit image (is_wide image) nodes)) f) ∙ e) in
        subst (IsNode (is_wide image)) same (visit_sound image (is_wide image) (end_in image) nodes v kept (end_inside image head))
