-- A node and all below it are taken out: the entries behind its own move up, the count falls, and the parts are taken.
use Rattle.std.proofs.Common.{◌≡◌, ◌≢◌, ◌⊎◌, inl, inr, ℕ, zero, suc, refl, sym, ◌∙◌, ap, subst, arith, List, [], ◌∷◌, ◌++◌, length, length-append, map, get_or, take, drop, filter, ◌+◌, ◌-◌, ◌*◌, ◌^◌, ◌<◌, ◌≤◌, Bool, true, false, not, cond}
use Rattle.std.proofs.lemmas.Bool.Decides.{eqb_tells}
use Rattle.std.proofs.lemmas.List.{length-take, length-drop}
use Rattle.std.proofs.lemmas.Option.{slice_get_within}
use Rattle.std.proofs.Math.Seq.{map-set_same}
use Rattle.std.specs.Prelude.{Option, Some, None, slice_get, slice_set, is_some, option_map, IsTrue, ◌==◌, ◌||◌, if◌then◌else◌, bytes_eq}
use Rattle.std.specs.List.{flat_map, list_any}
use Rattle.adf_format.specs.declared.types.Extent.{Extent}
use Rattle.adf_format.specs.declared.types.ExtentKind.{ExtentKind}
use Rattle.adf_format.specs.Hex.{hex_text, hex_value}
use Rattle.adf_format.specs.Pointer.{pointer}
use Rattle.adf_format.specs.Fields.{field}
use Rattle.adf_format.specs.Tree.{Tree, Node, IsTree, IsAmong, is_among, is_within, node_at, children_of, name_at, AllDiffer, erased_from}
use Rattle.adf_format.specs.Tiles.{cover}
use Rattle.adf_format.specs.Parts.{SpellsNode, SpellsTable, SpellsEntry, node_length, table_length}
use Rattle.adf_format.specs.Placement.{Placement, NodeParts, TablePart, parts_of, extent, extents_of, node_extents, live_extents, head_extents, all_extents, table_extents, chunk_table_extents, chunk_extents}
use Rattle.adf_format.specs.LaysOut.{HoldsNode, HasTable, fields_of, entry_count}
use Rattle.adf_format.specs.Changes.{Writes, KeepsBut, AllApart, SameChildren}
use Rattle.adf_format.proofs.HeapSteps.{cover-append}
use Rattle.adf_format.proofs.HeapLaws.{in_range}
use Rattle.adf_format.proofs.HexLaws.{hex_value-hex_text, length-hex_text}
use Rattle.adf_format.proofs.BehindEnd.{long_chunk_table, long_chunks}
use Rattle.adf_format.proofs.FieldLaws.{field_beside, field_around, field_written, inner_field, length-field}
use Rattle.adf_format.proofs.FrameLaws.{field_kept, chunk_table_kept, chunks_kept, data_kept}
use Rattle.adf_model.proofs.Basics.{not_there, not_true, same_Some}
use Rattle.adf_model.proofs.Creation.CreatedNodes.{there_inside, among_get}
use Rattle.adf_model.proofs.Creation.CreatedParts.{counted, pointer_same}
use Rattle.adf_model.proofs.Trees.DifferLemmas.{bytes_eq_same, none_equal}
use Rattle.adf_model.proofs.Creation.PartsApart.{range_in, range_within, all_apart, cover_all, cover_part, cover_two}
use Rattle.tree_laws.specs.Holding.{Holds, ChangesIn, MeetsNothing}
use Rattle.tree_laws.proofs.Holding.Steps.{within, keeps_but, once, rebuilt}
use Rattle.tree_laws.proofs.Edits.LabelSet.{set_here, set_there}
use Rattle.tree_laws.proofs.Holding.OwnRanges.{out, two_written}

least : (wide : Bool) → 246 ≤ node_length wide
least false = omega arith
least true = omega arith

-- ---- lists from which some things are erased

none_either : {A : Type 0} (b : Bool) → ◌≡◌ {A = Option A} None (if b then None else None)
none_either true = refl
none_either false = refl

erased_get : {A : Type 0} (k : ℕ) (gone : ℕ → Bool) (xs : List (Option A)) (q : ℕ) → get_or (erased_from k gone xs) q None ≡ (if gone (k + q) then None else get_or xs q None)
erased_get k gone [] q = none_either (gone (k + q))
erased_get k gone (x ∷ xs) zero = ap (λ i. if gone i then None else x) (omega arith)
erased_get k gone (x ∷ xs) (suc q) = erased_get (suc k) gone xs q ∙ ap (λ i. if gone i then None else get_or xs q None) (omega arith)

erased_kept : {A : Type 0} (gone : ℕ → Bool) (xs : List (Option A)) (q : ℕ) → gone q ≡ false → get_or (erased_from 0 gone xs) q None ≡ get_or xs q None
erased_kept gone xs q e = erased_get 0 gone xs q ∙ ap (λ i. if gone i then None else get_or xs q None) (omega arith) ∙ ap (λ b. if b then None else get_or xs q None) e

erased_live : {A : Type 0} (gone : ℕ → Bool) (xs : List (Option A)) (q : ℕ) (a : A) → get_or (erased_from 0 gone xs) q None ≡ Some a → gone q ≡ false
erased_live gone xs q a e = by_gone (gone q) (sym (erased_get 0 gone xs q ∙ ap (λ i. if gone i then None else get_or xs q None) (omega arith)) ∙ e)
  where
    by_gone : (b : Bool) → (if b then None else get_or xs q None) ≡ Some a → b ≡ false
    by_gone true e = absurd (not_there a e)
    by_gone false e = refl

one_same : {A B : Type 0} (g : Bool) (x : Option A) (y : Option B) → is_some x ≡ is_some y → is_some (if g then None else x) ≡ is_some (if g then None else y)
one_same true x y e = refl
one_same false x y e = e

erased_same : {A B : Type 0} (k : ℕ) (gone : ℕ → Bool) (xs : List (Option A)) (ys : List (Option B)) → map is_some xs ≡ map is_some ys → map is_some (erased_from k gone xs) ≡ map is_some (erased_from k gone ys)
erased_same k gone [] [] e = refl
erased_same k gone [] (y ∷ ys) e = cc
erased_same k gone (x ∷ xs) [] e = cc
erased_same k gone (x ∷ xs) (y ∷ ys) e =
    ap (λ (b : Bool). b ∷ map is_some (erased_from (suc k) gone xs)) (one_same (gone k) x y (ap (λ (bs : List Bool). get_or bs 0 false) e))
    ∙ ap (λ bs. is_some (if gone k then None else y) ∷ bs) (erased_same (suc k) gone xs ys (ap (λ (bs : List Bool). drop 1 bs) e))

pub cover_erased : (wide : Bool) (k : ℕ) (gone : ℕ → Bool) (xs : List (Option NodeParts)) (b : ℕ)
    → cover (flat_map (extents_of wide) (erased_from k gone xs)) b + cover (flat_map (extents_of wide) (erased_from k (λ j. not (gone j)) xs)) b ≡ cover (flat_map (extents_of wide) xs) b
cover_erased wide k gone [] b = refl
cover_erased wide k gone (x ∷ xs) b =
    let ih = cover_erased wide (suc k) gone xs b in
    let a = cover-append (extents_of wide (if gone k then None else x)) (flat_map (extents_of wide) (erased_from (suc k) gone xs)) b in
    let c = cover-append (extents_of wide (if not (gone k) then None else x)) (flat_map (extents_of wide) (erased_from (suc k) (λ j. not (gone j)) xs)) b in
    let d = cover-append (extents_of wide x) (flat_map (extents_of wide) xs) b in
    let e = one (gone k) x in
    omega (arith, ih, a, c, d, e)
  where
    one : (g : Bool) (x : Option NodeParts) → cover (extents_of wide (if g then None else x)) b + cover (extents_of wide (if not g then None else x)) b ≡ cover (extents_of wide x) b
    one true x = omega arith
    one false x = omega arith

-- ---- the other children

-- where each name stands once, the others are those before and those behind
pub others_are : (f : ℕ → List ℕ) (xs : List ℕ) (i s : ℕ) → AllDiffer (map f xs) → slice_get xs i ≡ Some s → filter (λ c. not (c == s)) xs ≡ take i xs ++ drop (suc i) xs
others_are f [] i s d e = absurd (not_there s e)
others_are f (x ∷ xs) zero s d e = first (eqb_tells x s)
  where
    not_any : (b : Bool) → IsTrue (not b) → b ≡ false
    not_any true h = cc
    not_any false h = refl

    all_other : (ys : List ℕ) → ((c : ℕ) → IsAmong ys c → c ≢ s) → filter (λ c. not (c == s)) ys ≡ ys
    all_other [] h = refl
    all_other (y ∷ ys) h = by_test (eqb_tells y s) (all_other ys (λ c k. h c (later (y == c) (is_among ys c) k)))
      where
        later : (a b : Bool) → b ≡ true → (a || b) ≡ true
        later true b e = refl
        later false b e = e

        here : IsAmong (y ∷ ys) y
        here = self (eqb_tells y y)
          where
            self : (((y == y) ≡ true) × (y ≡ y)) ⊎ (((y == y) ≡ false) × (y ≢ y)) → ((y == y) || is_among ys y) ≡ true
            self (inl t) = ap (λ (b : Bool). b || is_among ys y) t.0
            self (inr t) = absurd (t.1 refl)

        by_test : (((y == s) ≡ true) × (y ≡ s)) ⊎ (((y == s) ≡ false) × (y ≢ s)) → filter (λ c. not (c == s)) ys ≡ ys → cond (not (y == s)) (y ∷ filter (λ c. not (c == s)) ys) (filter (λ c. not (c == s)) ys) ≡ y ∷ ys
        by_test (inl t) ih = absurd (h y here t.1)
        by_test (inr t) ih = ap (λ (b : Bool). cond (not b) (y ∷ filter (λ c. not (c == s)) ys) (filter (λ c. not (c == s)) ys)) t.0 ∙ ap (λ zs. y ∷ zs) ih

    x_is : x ≡ s
    x_is = same_Some x s e

    rest_other : (c : ℕ) → IsAmong xs c → c ≢ s
    rest_other c k same =
        let none : bytes_eq (f x) (f c) ≡ false = none_equal (f x) f xs (not_any (list_any (bytes_eq (f x)) (map f xs)) d.0) c k in
        not_true (sym none ∙ ap (λ (y : ℕ). bytes_eq (f y) (f c)) (x_is ∙ sym same) ∙ bytes_eq_same (f c))

    first : (((x == s) ≡ true) × (x ≡ s)) ⊎ (((x == s) ≡ false) × (x ≢ s)) → cond (not (x == s)) (x ∷ filter (λ c. not (c == s)) xs) (filter (λ c. not (c == s)) xs) ≡ xs
    first (inl t) = ap (λ (b : Bool). cond (not b) (x ∷ filter (λ c. not (c == s)) xs) (filter (λ c. not (c == s)) xs)) t.0 ∙ all_other xs rest_other
    first (inr t) = absurd (t.1 x_is)
others_are f (x ∷ xs) (suc i) s d e = first (eqb_tells x s) (others_are f xs i s d.1 e)
  where
    not_any : (b : Bool) → IsTrue (not b) → b ≡ false
    not_any true h = cc
    not_any false h = refl

    first : (((x == s) ≡ true) × (x ≡ s)) ⊎ (((x == s) ≡ false) × (x ≢ s)) → filter (λ c. not (c == s)) xs ≡ take i xs ++ drop (suc i) xs
        → cond (not (x == s)) (x ∷ filter (λ c. not (c == s)) xs) (filter (λ c. not (c == s)) xs) ≡ x ∷ (take i xs ++ drop (suc i) xs)
    first (inl t) ih = absurd (
        let none : bytes_eq (f x) (f s) ≡ false = none_equal (f x) f xs (not_any (list_any (bytes_eq (f x)) (map f xs)) d.0) s (among_get xs i s e) in
        not_true (sym none ∙ ap (λ (y : ℕ). bytes_eq (f y) (f s)) t.1 ∙ bytes_eq_same (f s)))
    first (inr t) ih = ap (λ (b : Bool). cond (not b) (x ∷ filter (λ c. not (c == s)) xs) (filter (λ c. not (c == s)) xs)) t.0 ∙ ap (λ zs. x ∷ zs) ih

-- what stands among them stood before the gap, or one behind
pub kept_at : (xs : List ℕ) (i j c : ℕ) → i < length xs → slice_get (take i xs ++ drop (suc i) xs) j ≡ Some c → ((j < i) × (slice_get xs j ≡ Some c)) ⊎ ((i ≤ j) × (slice_get xs (suc j) ≡ Some c))
kept_at [] i j c lt e = absurd (omega (arith, lt))
kept_at (x ∷ xs) zero j c lt e = inr (omega arith, e)
kept_at (x ∷ xs) (suc i) zero c lt e = inl (omega arith, e)
kept_at (x ∷ xs) (suc i) (suc j) c lt e = elim (kept_at xs i j c (omega (arith, lt)) e) [
  | inl h ↦ inl (let l = h.0 in omega (arith, l), h.1)
  | inr h ↦ inr (let l = h.0 in omega (arith, l), h.1)
]

module _ (old middle new : List ℕ) (tree : Tree) (p : Placement) (taken : List Extent) (s par i : ℕ) (parent : Node) (at : NodeParts) (t : TablePart) (h : Holds old tree p taken) (over : node_at tree par ≡ Some parent) (placed : parts_of p par ≡ Some at)
    (has : at.table ≡ Some t) (listed : slice_get parent.children i ≡ Some s) (par_stays : is_within tree s par ≡ false) (root_stays : is_within tree s 0 ≡ false) (few_dims : length parent.dims ≤ 12) (few : length parent.children < 16 ^ 8)
    (v : Writes (t.place + 16 + 44 * i) (field old (t.place + 16 + 44 * suc i) (44 * (length parent.children - suc i))) old middle) (w : Writes (at.header + 68) (hex_text 8 (length parent.children - 1)) middle new) where
  abbrev kept : List ℕ
  kept = filter (λ c. not (c == s)) parent.children

  abbrev now : Node
  now = record parent { children = kept }

  abbrev after : Tree
  after = record tree { nodes = erased_from 0 (is_within tree s) (slice_set tree.nodes par (Some now)) }

  abbrev q : Placement
  q = record p { parts = erased_from 0 (is_within tree s) p.parts }

  abbrev left : List Extent
  left = flat_map (extents_of tree.wide) (erased_from 0 (λ k. not (is_within tree s k)) p.parts)

  abbrev count : ℕ
  count = length parent.children

  abbrev text : List ℕ
  text = field old (t.place + 16 + 44 * suc i) (44 * (length parent.children - suc i))

  abbrev digits : List ℕ
  digits = hex_text 8 (length parent.children - 1)

  in_list : i < length parent.children
  in_list = slice_get_within parent.children i s listed

  kept_is : kept ≡ take i parent.children ++ drop (suc i) parent.children
  kept_is = others_are (name_at tree) parent.children i s (subst (λ xs. AllDiffer (map (name_at tree) xs)) (ap children_of over) (h.is_tree.siblings par)) listed

  kept_long : length kept ≡ length parent.children - 1
  kept_long =
      ap length kept_is ∙ length-append (take i parent.children) (drop (suc i) parent.children)
      ∙ (let a = length-take i parent.children in let b = length-drop (suc i) parent.children in let lt = in_list in omega (arith, a, b, lt))

  par_inside : par < length p.parts
  par_inside = there_inside p.parts par at placed

  abbrev rest : List Extent
  rest = chunk_table_extents at.chunk_table (length at.chunks) ++ chunk_extents at.chunks

  at_split : (b : ℕ) → cover (node_extents tree.wide at) b ≡ in_range at.header (node_length tree.wide) b + (in_range t.place (table_length t.entries) b + cover rest b)
  at_split b =
      let e = cover-append (extent ExtentKind.Node at.header (node_length tree.wide) ∷ table_extents at.table ++ chunk_table_extents at.chunk_table (length at.chunks)) (chunk_extents at.chunks) b in
      let f = cover-append (table_extents at.table) (chunk_table_extents at.chunk_table (length at.chunks)) b in
      let k = cover-append (chunk_table_extents at.chunk_table (length at.chunks)) (chunk_extents at.chunks) b in
      let g : cover (table_extents at.table) b ≡ in_range t.place (table_length t.entries) b + 0 = ap (λ (o : Option TablePart). cover (table_extents o) b) has in
      omega (arith, e, f, k, g)

  at_is : (b : ℕ) → cover (extents_of tree.wide (parts_of p par)) b ≡ cover (node_extents tree.wide at) b
  at_is b = ap (λ (o : Option NodeParts). cover (extents_of tree.wide o) b) placed

  at_live : (b : ℕ) → cover (node_extents tree.wide at) b ≤ cover (live_extents tree.wide p) b
  at_live b = let c = cover_part (extents_of tree.wide) p.parts par b par_inside in let y = at_is b in omega (arith, c, y)

  owned : (b : ℕ) → cover taken b + (cover head_extents b + cover (live_extents tree.wide p) b + cover p.heap.gaps b) ≤ 1
  owned = once old tree p taken h

  held : (b : ℕ) → 0 < cover (live_extents tree.wide p) b → b < length old
  held b some = within old tree p taken h b (let all = cover_all tree.wide p b in omega (arith, all, some))

  at_was : HoldsNode old tree p parent at
  at_was = h.nodes par parent at over placed

  table_was : HasTable old tree p parent (Some t)
  table_was = subst (λ (o : Option TablePart). HasTable old tree p parent o) has at_was.table

  table_ends : t.place + table_length t.entries ≤ length old
  table_ends =
      let k = range_in t.place (table_length t.entries) (t.place + table_length t.entries - 1) (omega arith) (omega arith) in
      let sp = at_split (t.place + table_length t.entries - 1) in
      let l = at_live (t.place + table_length t.entries - 1) in
      let lt = held (t.place + table_length t.entries - 1) (omega (arith, k, sp, l)) in
      omega (arith, lt)

  header_ends : at.header + node_length tree.wide ≤ length old
  header_ends =
      let m = least tree.wide in
      let k = range_in at.header (node_length tree.wide) (at.header + node_length tree.wide - 1) (omega (arith, m)) (omega (arith, m)) in
      let sp = at_split (at.header + node_length tree.wide - 1) in
      let l = at_live (at.header + node_length tree.wide - 1) in
      let lt = held (at.header + node_length tree.wide - 1) (omega (arith, k, sp, l)) in
      omega (arith, lt, m)

  text_long : length text ≡ 44 * (length parent.children - suc i)
  text_long =
      let e = length-field old (t.place + 16 + 44 * suc i) (44 * (length parent.children - suc i)) in
      let le = table_was.1 in let g = table_ends in let lt = in_list in omega (arith, e, le, g, lt)

  abbrev ranges : List Extent
  ranges = extent ExtentKind.SubNodes (t.place + 16 + 44 * i) (44 * (length parent.children - suc i)) ∷ extent ExtentKind.Node (at.header + 68) 8 ∷ []

  changes : ChangesIn ranges old new
  changes = two_written ExtentKind.SubNodes ExtentKind.Node (t.place + 16 + 44 * i) (44 * (length parent.children - suc i)) (at.header + 68) 8 text digits old middle new v text_long w (length-hex_text 8 (length parent.children - 1))

  in_own : (b : ℕ) → cover ranges b ≤ in_range at.header (node_length tree.wide) b + in_range t.place (table_length t.entries) b
  in_own b =
      let m = least tree.wide in
      let le = table_was.1 in let lt = in_list in
      let x = range_within t.place (table_length t.entries) (t.place + 16 + 44 * i) (44 * (length parent.children - suc i)) b (omega arith) (omega (arith, le, lt)) in
      let y = range_within at.header (node_length tree.wide) (at.header + 68) 8 b (omega arith) (omega (arith, m)) in
      omega (arith, x, y)

  longer : length old ≤ length middle
  longer = v.longer

  header_same : field middle at.header (node_length tree.wide) ≡ field old at.header (node_length tree.wide)
  header_same = field_kept (node_length tree.wide) at.header old middle (λ b low high.
      let k = range_in at.header (node_length tree.wide) b low high in
      let le = table_was.1 in let lt = in_list in
      let x = range_within t.place (table_length t.entries) (t.place + 16 + 44 * i) (44 * (length parent.children - suc i)) b (omega arith) (omega (arith, le, lt)) in
      let sp = at_split b in let l = at_live b in let one = owned b in let e = header_ends in
      v.others b (omega (arith, e, high)) (out (t.place + 16 + 44 * i) (44 * (length parent.children - suc i)) b (length text) text_long (omega (arith, k, x, sp, l, one))))

  table_same : field new t.place (table_length t.entries) ≡ field middle t.place (table_length t.entries)
  table_same = field_kept (table_length t.entries) t.place middle new (λ b low high.
      let k = range_in t.place (table_length t.entries) b low high in
      let m = least tree.wide in
      let y = range_within at.header (node_length tree.wide) (at.header + 68) 8 b (omega arith) (omega (arith, m)) in
      let sp = at_split b in let l = at_live b in let one = owned b in let e = table_ends in let g = longer in
      w.others b (omega (arith, e, g, high)) (out (at.header + 68) 8 b (length digits) (length-hex_text 8 (length parent.children - 1)) (omega (arith, k, y, sp, l, one))))

  spelled_was : SpellsNode tree.wide (field middle at.header (node_length tree.wide)) (fields_of parent at)
  spelled_was = subst (λ bytes. SpellsNode tree.wide bytes (fields_of parent at)) (sym header_same) at_was.header

  header_long : length (field middle at.header (node_length tree.wide)) ≡ node_length tree.wide
  header_long = let e = length-field middle at.header (node_length tree.wide) in let k = header_ends in let g = longer in omega (arith, e, k, g)

  counts : Writes 68 digits (field middle at.header (node_length tree.wide)) (field new at.header (node_length tree.wide))
  counts = field_around (at.header + 68) digits middle new w at.header 68 (node_length tree.wide) refl (let e = length-hex_text 8 (length parent.children - 1) in let m = least tree.wide in omega (arith, e, m))
      (let k = header_ends in let g = longer in omega (arith, k, g))

  stays : (o n : ℕ) → 76 ≤ o → o + n ≤ 96 → field (field new at.header (node_length tree.wide)) o n ≡ field (field middle at.header (node_length tree.wide)) o n
  stays o n low high = field_beside 68 digits (field middle at.header (node_length tree.wide)) (field new at.header (node_length tree.wide)) counts o n
      (let e = header_long in let m = least tree.wide in omega (arith, e, m, high)) (inr (let e = length-hex_text 8 (length parent.children - 1) in omega (arith, e, low)))

  parent_spelled : SpellsNode tree.wide (field new at.header (node_length tree.wide)) (record (fields_of parent at) { children = length kept; entries = entry_count at.table; table = option_map (λ (x : TablePart). x.place) at.table })
  parent_spelled = counted tree.wide (field middle at.header (node_length tree.wide)) (field new at.header (node_length tree.wide)) digits (fields_of parent at)
      (length kept) (entry_count at.table) (option_map (λ (x : TablePart). x.place) at.table) counts header_long (let e = length-hex_text 8 (length parent.children - 1) in omega (arith, e)) spelled_was few_dims
      (ap hex_value (ap (field (field new at.header (node_length tree.wide)) 68) (sym (length-hex_text 8 (length parent.children - 1))) ∙ counts.stands)
      ∙ hex_value-hex_text 8 (length parent.children - 1) (let f = few in omega (arith, f)) ∙ ap (λ (k : ℕ). Some k) (sym kept_long))
      (ap hex_value (stays 76 8 (omega arith) (omega arith)) ∙ spelled_was.entries)
      (pointer_same (field middle at.header (node_length tree.wide)) (field new at.header (node_length tree.wide)) 84 (option_map (λ (x : TablePart). x.place) at.table) (stays 84 12 (omega arith) (omega arith)) spelled_was.table)

  -- ---- the table

  -- fields before the entries that move, and behind them
  beside : (o n : ℕ) → (o + n ≤ 16 + 44 * i) ⊎ (16 + 44 * (length parent.children - 1) ≤ o) → o + n ≤ table_length t.entries → field (field middle t.place (table_length t.entries)) o n ≡ field (field old t.place (table_length t.entries)) o n
  beside o n far le =
      inner_field middle t.place (table_length t.entries) o n le
      ∙ field_beside (t.place + 16 + 44 * i) text old middle v (t.place + o) n (let g = table_ends in omega (arith, g, le)) (side far)
      ∙ sym (inner_field old t.place (table_length t.entries) o n le)
    where
      side : (o + n ≤ 16 + 44 * i) ⊎ (16 + 44 * (length parent.children - 1) ≤ o) → (t.place + o + n ≤ t.place + 16 + 44 * i) ⊎ (t.place + 16 + 44 * i + length text ≤ t.place + o)
      side (inl k) = inl (omega (arith, k))
      side (inr k) = inr (let e = text_long in let lt = in_list in omega (arith, k, e, lt))

  -- fields of the entries that move
  shifted : (o n : ℕ) → 16 + 44 * i ≤ o → o + n ≤ 16 + 44 * (length parent.children - 1) → field (field middle t.place (table_length t.entries)) o n ≡ field (field old t.place (table_length t.entries)) (o + 44) n
  shifted o n low high =
      let lt = in_list in
      let le = table_was.1 in
      inner_field middle t.place (table_length t.entries) o n (omega (arith, high, le, lt))
      ∙ ap (λ k. field middle k n) (omega (arith, low))
      ∙ field_written (t.place + 16 + 44 * i) text old middle v (o - (16 + 44 * i)) n (let e = text_long in omega (arith, e, low, high, lt))
      ∙ inner_field old (t.place + 16 + 44 * suc i) (44 * (length parent.children - suc i)) (o - (16 + 44 * i)) n (omega (arith, low, high, lt))
      ∙ ap (λ k. field old k n) (omega (arith, low))
      ∙ sym (inner_field old t.place (table_length t.entries) (o + 44) n (omega (arith, high, le, lt)))

  table_spelled : SpellsTable (field middle t.place (table_length t.entries)) t.place t.entries
  table_spelled = record {
    start_tag = beside 0 4 (inl (omega arith)) (omega arith) ∙ table_was.2.start_tag;
    end_pointer = ap pointer (beside 4 12 (inl (omega arith)) (omega arith)) ∙ table_was.2.end_pointer;
    end_tag = beside (table_length t.entries - 4) 4 (inr (let le = table_was.1 in let lt = in_list in omega (arith, le, lt))) (omega arith) ∙ table_was.2.end_tag;
  }

  -- ---- nodes

  par_now : node_at after par ≡ Some now
  par_now = erased_kept (is_within tree s) (slice_set tree.nodes par (Some now)) par par_stays ∙ set_here tree.nodes par (Some now) None (there_inside tree.nodes par parent over)

  node_was : (k : ℕ) (m : Node) → k ≢ par → node_at after k ≡ Some m → node_at tree k ≡ Some m
  node_was k m other e =
      let lives = erased_live (is_within tree s) (slice_set tree.nodes par (Some now)) k m e in
      sym (erased_kept (is_within tree s) (slice_set tree.nodes par (Some now)) k lives ∙ set_there tree.nodes par k (Some now) None other) ∙ e

  parts_was : (k : ℕ) (ms : NodeParts) → parts_of q k ≡ Some ms → parts_of p k ≡ Some ms
  parts_was k ms e = sym (erased_kept (is_within tree s) p.parts k (erased_live (is_within tree s) p.parts k ms e)) ∙ e

  same_or_not : (a b : ℕ) → (a ≡ b) ⊎ (a ≢ b)
  same_or_not a b = elim (eqb_tells a b) [ inl x ↦ inl x.1 | inr x ↦ inr x.1 ]

  name_was : (k : ℕ) (m : Node) → node_at after k ≡ Some m → (was : Node) × (node_at tree k ≡ Some was) × (was.name ≡ m.name)
  name_was k m e = elim (same_or_not k par) [
    | inl same ↦ (
        let is : now ≡ m = same_Some now m (sym par_now ∙ ap (node_at after) (sym same) ∙ e) in
        (parent, ap (node_at tree) same ∙ over, ap (λ (x : Node). x.name) is))
    | inr other ↦ (m, node_was k m other e, refl)
  ]

  same_children : (children : List ℕ) → SameChildren tree p after q children
  same_children children j c m ms e f g = let x = name_was c m f in (x.0, ms, x.1, parts_was c ms g, x.2, refl)

  table_now : HasTable new after q now (Some t)
  table_now = (
    table_was.0,
    (let e = kept_long in let le = table_was.1 in omega (arith, e, le)),
    subst (λ bytes. SpellsTable bytes t.place t.entries) (sym table_same) table_spelled,
    λ j child m ms e f g.
        let x = name_was child m f in
        let ps = parts_was child ms g in
        let le = table_was.1 in
        subst (λ bytes. SpellsEntry bytes j m.name ms.header) (sym table_same)
        (subst (λ (n : List ℕ). SpellsEntry (field middle t.place (table_length t.entries)) j n ms.header) x.2
        (elim (kept_at parent.children i j child in_list (ap (λ (xs : List ℕ). slice_get xs j) (sym kept_is) ∙ e)) [
          | inl k ↦ (
              let was = table_was.3 j child x.0 ms k.1 x.1 ps in
              let lt = k.0 in let all = in_list in
              record {
                named = beside (16 + 44 * j) 32 (inl (omega (arith, lt))) (omega (arith, lt, all, le)) ∙ was.named;
                points = ap pointer (beside (48 + 44 * j) 12 (inl (omega (arith, lt))) (omega (arith, lt, all, le))) ∙ was.points;
              }
              )
          | inr k ↦ (
              let was = table_was.3 (suc j) child x.0 ms k.1 x.1 ps in
              let lt = slice_get_within parent.children (suc j) child k.1 in
              let ge = k.0 in
              record {
                named = shifted (16 + 44 * j) 32 (omega (arith, ge)) (omega (arith, lt)) ∙ ap (λ o. field (field old t.place (table_length t.entries)) o 32) (omega arith) ∙ was.named;
                points = ap pointer (shifted (48 + 44 * j) 12 (omega (arith, ge)) (omega (arith, lt)) ∙ ap (λ o. field (field old t.place (table_length t.entries)) o 12) (omega arith)) ∙ was.points;
              }
              )
        ])),
  )

  -- ---- the parent

  keeps : KeepsBut ranges (length old - 1) old new
  keeps = keeps_but old tree p taken h ranges new changes

  far : (xs : List Extent) → ((b : ℕ) → cover xs b ≤ cover rest b) → (b : ℕ) → 0 < cover xs b → (b ≤ length old - 1) × (cover ranges b ≡ 0)
  far xs among b some =
      let a = among b in let sa = at_split b in let l = at_live b in let o = in_own b in let one = owned b in
      ((let lt = held b (omega (arith, a, sa, l, some)) in omega (arith, lt)), omega (arith, a, sa, l, o, one, some))

  rest_split : (b : ℕ) → cover rest b ≡ cover (chunk_table_extents at.chunk_table (length at.chunks)) b + cover (chunk_extents at.chunks) b
  rest_split b = cover-append (chunk_table_extents at.chunk_table (length at.chunks)) (chunk_extents at.chunks) b

  table_apart : AllApart ranges (length old - 1) (chunk_table_extents at.chunk_table (length at.chunks))
  table_apart = all_apart ranges (length old - 1) (chunk_table_extents at.chunk_table (length at.chunks)) (long_chunk_table at.chunk_table (length at.chunks))
      (far (chunk_table_extents at.chunk_table (length at.chunks)) (λ b. let e = rest_split b in omega (arith, e)))

  chunks_apart : AllApart ranges (length old - 1) (chunk_extents at.chunks)
  chunks_apart = all_apart ranges (length old - 1) (chunk_extents at.chunks) (long_chunks old at.chunks at_was.chunks) (far (chunk_extents at.chunks) (λ b. let e = rest_split b in omega (arith, e)))

  parent_held : HoldsNode new after q now at
  parent_held = record {
    header = parent_spelled;
    table = subst (λ (o : Option TablePart). HasTable new after q now o) (sym has) table_now;
    chunk_table = chunk_table_kept ranges (length old - 1) old new keeps at.chunks at.chunk_table table_apart at_was.chunk_table;
    chunks = chunks_kept ranges (length old - 1) old new keeps at.chunks chunks_apart at_was.chunks;
    bytes = data_kept ranges (length old - 1) old new keeps at.chunks parent.bytes chunks_apart at_was.bytes;
  }

  -- ---- the whole

  live_now : (b : ℕ) → cover (live_extents tree.wide q) b + cover left b ≡ cover (live_extents tree.wide p) b
  live_now b = cover_erased tree.wide 0 (is_within tree s) p.parts b

  pub nodes_left : IsTree after → Holds new after q (left ++ taken)
  nodes_left is = rebuilt ranges (par ∷ []) tree after p q taken (left ++ taken) old new h (record {
    is_tree = is;
    wide = refl;
    format = refl;
    same_nodes = erased_same 0 (is_within tree s) p.parts (slice_set tree.nodes par (Some now)) (h.same_nodes ∙ sym (map-set_same is_some tree.nodes par (Some now) None (sym (ap is_some over))));
    heap = refl;
    root = λ from e. (from, erased_kept (is_within tree s) p.parts 0 root_stays ∙ e, refl);
    changes = changes;
    apart = λ b some.
        let o = in_own b in let sa = at_split b in let l = at_live b in let one = owned b in
        let both = cover-append head_extents p.heap.gaps b in
        omega (arith, o, sa, l, one, both, some);
    owners = λ b.
        let a = cover-append (left ++ taken) (all_extents tree.wide q) b in
        let g = cover-append left taken b in
        let c = cover-append taken (all_extents tree.wide p) b in
        let d = cover_all tree.wide q b in
        let e = cover_all tree.wide p b in
        let l = live_now b in
        omega (arith, a, g, c, d, e, l);
    beyond = λ b le.
        let x = changes.longer in
        let none : cover (all_extents tree.wide p) b ≡ 0 = h.beyond b (omega (arith, x, le)) in
        let all = cover_all tree.wide p b in
        let l = live_now b in
        omega (arith, none, all, l);
    others = λ k m ms unheld e f. other k m ms (alone k false unheld) e f;
    those = λ k m ms among e f. that k m ms (alone k true among) e f;
  })
    where
      alone : (k : ℕ) (u : Bool) → is_among (par ∷ []) k ≡ u → ((u ≡ true) × (k ≡ par)) ⊎ ((u ≡ false) × (k ≢ par))
      alone k u e = elim (eqb_tells par k) [
        | inl x ↦ inl (sym e ∙ ap (λ (b : Bool). b || false) x.0, sym x.1)
        | inr x ↦ inr (sym e ∙ ap (λ (b : Bool). b || false) x.0, λ same. x.1 (sym same))
      ]

      other : (k : ℕ) (m : Node) (ms : NodeParts) → ((false ≡ true) × (k ≡ par)) ⊎ ((false ≡ false) × (k ≢ par)) → node_at after k ≡ Some m → parts_of q k ≡ Some ms
          → (node_at tree k ≡ Some m) × (parts_of p k ≡ Some ms) × MeetsNothing ranges (node_extents tree.wide ms) × SameChildren tree p after q m.children
      other k m ms (inl d) e f = cc
      other k m ms (inr d) e f =
          let ps = parts_was k ms f in (
            node_was k m d.1 e,
            ps,
            λ b some.
                let two = cover_two (extents_of tree.wide) p.parts par k b par_inside (there_inside p.parts k ms ps) d.1 in
                let its : cover (extents_of tree.wide (parts_of p k)) b ≡ cover (node_extents tree.wide ms) b = ap (λ (o : Option NodeParts). cover (extents_of tree.wide o) b) ps in
                let y = at_is b in let o = in_own b in let sa = at_split b in let one = owned b in
                omega (arith, two, its, y, o, sa, one, some),
            same_children m.children,
          )

      that : (k : ℕ) (m : Node) (ms : NodeParts) → ((true ≡ true) × (k ≡ par)) ⊎ ((true ≡ false) × (k ≢ par)) → node_at after k ≡ Some m → parts_of q k ≡ Some ms → HoldsNode new after q m ms
      that k m ms (inr d) e f = cc
      that k m ms (inl d) e f =
          let is_node : now ≡ m = same_Some now m (sym par_now ∙ ap (node_at after) (sym d.1) ∙ e) in
          let at_parts : at ≡ ms = same_Some at ms (sym placed ∙ ap (parts_of p) (sym d.1) ∙ parts_was k ms f) in
          subst (λ (x : Node). HoldsNode new after q x ms) is_node (subst (λ (x : NodeParts). HoldsNode new after q now x) at_parts parent_held)
