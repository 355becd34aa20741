-- The entries of a table behind one are moved up, and that one is written behind them: the file holds the tree with the node last in its list.
use Rattle.std.proofs.Common.{◌≡◌, ◌≢◌, ◌⊎◌, inl, inr, ℕ, suc, refl, sym, ◌∙◌, ap, subst, arith, List, [], ◌∷◌, ◌++◌, length, length-append, take, drop, filter, map, ◌+◌, ◌-◌, ◌*◌, ◌^◌, ◌<◌, ◌≤◌, true, false, not}
use Rattle.std.proofs.lemmas.Option.{slice_get_within}
use Rattle.std.specs.Prelude.{Option, Some, slice_get, ◌==◌}
use Rattle.std.specs.List.{Contains}
use Rattle.adf_format.specs.declared.types.Extent.{Extent}
use Rattle.adf_format.specs.declared.types.ExtentKind.{ExtentKind}
use Rattle.adf_format.specs.Pointer.{To}
use Rattle.adf_format.specs.Fields.{field, text_field}
use Rattle.adf_format.specs.Tree.{Tree, Node, IsTree, is_among, node_at, children_of, name_of, name_at, AllDiffer}
use Rattle.adf_format.specs.Tiles.{cover}
use Rattle.adf_format.specs.Parts.{SpellsNode, SpellsTable, SpellsEntry, node_length, table_length, dimension_digits}
use Rattle.adf_format.specs.Placement.{Placement, NodeParts, TablePart, parts_of, extent, extents_of, node_extents, live_extents}
use Rattle.adf_format.specs.LaysOut.{HoldsNode, HasTable, fields_of}
use Rattle.adf_format.specs.Changes.{Writes}
use Rattle.adf_format.specs.Records.{entry_text}
use Rattle.adf_format.proofs.HeapLaws.{in_range}
use Rattle.adf_format.proofs.FieldLaws.{field_left, field_whole, length-field}
use Rattle.adf_format.proofs.SpelledParts.{entry_long}
use Rattle.adf_model.specs.Edits.{moved, given_children}
use Rattle.adf_model.proofs.Basics.{not_true, same_Some}
use Rattle.adf_model.proofs.Creation.CreatedNodes.{there_inside}
use Rattle.adf_model.proofs.Creation.PartsApart.{range_within, cover_two}
use Rattle.tree_laws.specs.Holding.{Holds, ChangesIn, MeetsNothing}
use Rattle.tree_laws.specs.Leaving.{Leaves}
use Rattle.tree_laws.proofs.Holding.Steps.{once}
use Rattle.tree_laws.proofs.Edits.LabelSet.{written_in, one_among}
use Rattle.tree_laws.proofs.Deletes.NodesLeft.{others_are, kept_at}
use Rattle.tree_laws.proofs.Tables.TableReplaced.{node_too}
use Rattle.tree_laws.proofs.Holding.OwnRanges.{beside, data_extents, own_split, own_is, own_live, held, header_ends, table_ends}
use Rattle.tree_laws.proofs.Tables.ListClosed.{closed_table, entry_before, entry_behind, entry_last, entry_near}
use Rattle.tree_laws.proofs.Tables.ListsChanged.{name_short, others_long, one_more, was_named, node_again, lists_changed}
use Rattle.tree_laws.proofs.Leaving.ListsLeave.{list_extents, count_or_dims, data_within, lists_leave}
use Rattle.tree_laws.proofs.Moves.MovedNodes.{is_or_not, moved_name, moved_as_many, moved_other, moved_last}

module _ (old new : List ℕ) (tree : Tree) (p : Placement) (taken : List Extent) (s par i : ℕ) (up : Node) (from its : NodeParts) (t : TablePart) (h : Holds old tree p taken) (over : node_at tree par ≡ Some up) (from_at : parts_of p par ≡ Some from) (its_at : parts_of p s ≡ Some its)
    (has : from.table ≡ Some t) (listed : slice_get up.children i ≡ Some s)
    (v : Writes (t.place + 16 + 44 * i) (field old (t.place + 16 + 44 * suc i) (44 * (length up.children - suc i)) ++ entry_text (text_field 32 (name_at tree s)) (To its.header)) old new) where
  abbrev after : Tree
  after = moved tree par par s

  abbrev kept : List ℕ
  kept = filter (λ k. not (k == s)) up.children

  abbrev up_now : Node
  up_now = record up { children = kept ++ s ∷ [] }

  abbrev wide : ℕ
  wide = node_length tree.wide

  abbrev tall : ℕ
  tall = table_length t.entries

  -- ---- the nodes

  up_is : node_at after par ≡ Some up_now
  up_is = moved_last tree par s ∙ ap (λ (o : Option Node). given_children (filter (λ k. not (k == s)) (children_of o) ++ s ∷ []) o) over

  node : (n : Node) × (node_at tree s ≡ Some n)
  node = node_too tree p s its h.same_nodes its_at

  its_name : name_at tree s ≡ node.0.name
  its_name = ap name_of node.1

  short : length (name_at tree s) ≤ 32
  short = subst (λ (n : List ℕ). length n ≤ 32) (sym its_name) (name_short tree s node.0 h.is_tree node.1)

  in_list : i < length up.children
  in_list = slice_get_within up.children i s listed

  differ_names : AllDiffer (map (name_at tree) up.children)
  differ_names = subst (λ xs. AllDiffer (map (name_at tree) xs)) (ap children_of over) (h.is_tree.siblings par)

  kept_is : kept ≡ take i up.children ++ drop (suc i) up.children
  kept_is = others_are (name_at tree) up.children i s differ_names listed

  kept_long : length kept ≡ length up.children - 1
  kept_long = others_long (name_at tree) up.children i s differ_names listed

  as_many : length (kept ++ s ∷ []) ≡ length up.children
  as_many = let e = length-append kept (s ∷ []) in let f = kept_long in let lt = in_list in omega (arith, e, f, lt)

  up_was : HoldsNode old tree p up from
  up_was = h.nodes par up from over from_at

  t_was : HasTable old tree p up (Some t)
  t_was = subst (λ (o : Option TablePart). HasTable old tree p up o) has up_was.table

  near : its.header < 2 ^ 44
  near = entry_near (field old t.place tall) i node.0.name its.header (t_was.3 i s node.0 its listed node.1 its_at)

  -- ---- ranges

  three : (z : ℕ) → in_range from.header wide z + in_range t.place tall z + cover (data_extents from) z ≤ cover (live_extents tree.wide p) z
  three z = let e = own_live old tree p taken par from t h from_at has z in let f = own_split old tree p taken par from t h from_at has z in omega (arith, e, f)

  apart : (z : ℕ) → in_range from.header wide z + in_range t.place tall z + cover (data_extents from) z ≤ 1
  apart z = let e = three z in let one = once old tree p taken h z in omega (arith, e, one)

  t_ends : t.place + tall ≤ length old
  t_ends = table_ends old tree p taken par from t h from_at has

  abbrev shift : List ℕ
  shift = field old (t.place + 16 + 44 * suc i) (44 * (length up.children - suc i))

  abbrev entry : List ℕ
  entry = entry_text (text_field 32 (name_at tree s)) (To its.header)

  shift_long : length shift ≡ 44 * (length up.children - suc i)
  shift_long =
      let e = length-field old (t.place + 16 + 44 * suc i) (44 * (length up.children - suc i)) in
      let le = t_was.1 in let g = t_ends in let lt = in_list in omega (arith, e, le, g, lt)

  text_long : length (shift ++ entry) ≡ 44 * (length up.children - i)
  text_long = let e = length-append shift entry in let f = shift_long in let g = entry_long (name_at tree s) its.header short in let lt = in_list in omega (arith, e, f, g, lt)

  abbrev ranges : List Extent
  ranges = extent ExtentKind.SubNodes (t.place + 16 + 44 * i) (44 * (length up.children - i)) ∷ []

  changes : ChangesIn ranges old new
  changes = written_in ExtentKind.SubNodes (t.place + 16 + 44 * i) (44 * (length up.children - i)) (shift ++ entry) old new v text_long

  in_own : (z : ℕ) → cover ranges z ≤ in_range t.place tall z
  in_own z =
      let le = t_was.1 in let lt = in_list in
      let e = range_within t.place tall (t.place + 16 + 44 * i) (44 * (length up.children - i)) z (omega arith) (omega (arith, le, lt)) in
      omega (arith, e)

  -- ---- the header, which nothing meets, and the table

  header_same : field new from.header wide ≡ field old from.header wide
  header_same = beside (t.place + 16 + 44 * i) (shift ++ entry) old new v t.place tall (omega arith) (let e = text_long in let le = t_was.1 in let lt = in_list in omega (arith, e, le, lt)) from.header wide
      (header_ends old tree p taken par from t h from_at has) (λ z. let e = apart z in omega (arith, e))

  spelled : SpellsNode tree.wide (field new from.header wide) (fields_of up_now from)
  spelled = subst (λ (n : ℕ). SpellsNode tree.wide (field new from.header wide) (record (fields_of up from) { children = n })) (sym as_many)
      (subst (λ bytes. SpellsNode tree.wide bytes (fields_of up from)) (sym header_same) up_was.header)

  starts : field (shift ++ entry) 0 (44 * (length up.children - suc i)) ≡ shift
  starts = field_left shift entry 0 (44 * (length up.children - suc i)) (let e = shift_long in omega (arith, e)) ∙ field_whole shift (44 * (length up.children - suc i)) shift_long

  low : 44 * (length up.children - suc i) ≤ length (shift ++ entry)
  low = let e = text_long in omega (arith, e)

  high : length (shift ++ entry) ≤ 44 * (length up.children - i)
  high = let e = text_long in omega (arith, e)

  table_spelled : SpellsTable (field new t.place tall) t.place t.entries
  table_spelled = closed_table old new (shift ++ entry) t.place t.entries (length up.children) i in_list t_was.1 t_ends v starts low high t_was.2

  last : SpellsEntry (field new t.place tall) (length up.children - 1) (name_at tree s) its.header
  last = entry_last old new shift (name_at tree s) t.place t.entries (length up.children) i its.header in_list t_was.1 (let l = v.longer in let e = t_ends in omega (arith, l, e)) shift_long near short v table_spelled

  table_now : HasTable new after p up_now (Some t)
  table_now = (
    t_was.0,
    subst (λ n. n ≤ t.entries) (sym as_many) t_was.1,
    table_spelled,
    λ j child m ms e f g. elim (one_more kept s j child e) [
      | inl k ↦ (
          let was = was_named old tree after p taken h (moved_name tree par par s) child m ms f g in
          subst (λ (n : List ℕ). SpellsEntry (field new t.place tall) j n ms.header) was.2
          (elim (kept_at up.children i j child in_list (ap (λ (xs : List ℕ). slice_get xs j) (sym kept_is) ∙ k)) [
            | inl b ↦ entry_before old new (shift ++ entry) t.place t.entries (length up.children) i in_list t_was.1 t_ends v starts low high j ms.header was.0.name b.0 (t_was.3 j child was.0 ms b.1 was.1 g)
            | inr b ↦ entry_behind old new (shift ++ entry) t.place t.entries (length up.children) i in_list t_was.1 t_ends v starts low high j ms.header was.0.name b.0 (slice_get_within up.children (suc j) child b.1) (t_was.3 (suc j) child was.0 ms b.1 was.1 g)
          ])
          )
      | inr k ↦ (
          let named : name_at tree s ≡ m.name = sym (moved_name tree par par s s) ∙ ap (name_at after) (sym k.1) ∙ ap name_of f in
          let placed : its ≡ ms = same_Some its ms (sym its_at ∙ ap (parts_of p) (sym k.1) ∙ g) in
          subst (λ (n : ℕ). SpellsEntry (field new t.place tall) n m.name ms.header) (sym (k.0 ∙ kept_long))
          (subst (λ (q : NodeParts). SpellsEntry (field new t.place tall) (length up.children - 1) m.name q.header) placed (subst (λ (n : List ℕ). SpellsEntry (field new t.place tall) (length up.children - 1) n its.header) named last))
          )
    ],
  )

  -- ---- the whole

  alone : (k : ℕ) → is_among (par ∷ []) k ≡ false → k ≢ par
  alone k e = elim (one_among par k false e) [ inl d ↦ absurd (not_true d.0) | inr d ↦ d.1 ]

  meets_none : (k : ℕ) (ms : NodeParts) → k ≢ par → parts_of p k ≡ Some ms → MeetsNothing ranges (node_extents tree.wide ms)
  meets_none k ms differ at z some =
      let two = cover_two (extents_of tree.wide) p.parts par k z (there_inside p.parts par from from_at) (there_inside p.parts k ms at) differ in
      let its_own : cover (extents_of tree.wide (parts_of p k)) z ≡ cover (node_extents tree.wide ms) z = ap (λ (o : Option NodeParts). cover (extents_of tree.wide o) z) at in
      let e = own_is old tree p taken par from t h from_at has z in
      let g = own_split old tree p taken par from t h from_at has z in
      let one = once old tree p taken h z in let o = in_own z in
      omega (arith, two, its_own, e, g, one, o, some)

  -- ---- what it leaves

  last_data : (k : ℕ) (ms : NodeParts) (z : ℕ) → parts_of p k ≡ Some ms → 0 < cover (data_extents ms) z → cover ranges z ≡ 0
  last_data k ms z at some = elim (is_or_not k par) [
    | inl same ↦ (let is : cover (data_extents ms) z ≡ cover (data_extents from) z = ap (λ (q : NodeParts). cover (data_extents q) z) (same_Some ms from (sym at ∙ ap (parts_of p) same ∙ from_at)) in
        let e = apart z in let o = in_own z in omega (arith, is, e, o, some))
    | inr differ ↦ meets_none k ms differ at z (let e = data_within tree.wide ms z in omega (arith, e, some))
  ]

  last_dims : (k : ℕ) (ms : NodeParts) (z : ℕ) → parts_of p k ≡ Some ms → 0 < in_range (ms.header + 130) (12 * dimension_digits tree.wide) z → cover ranges z ≡ 0
  last_dims k ms z at some = elim (is_or_not k par) [
    | inl same ↦ (let is : ms.header ≡ from.header = ap (λ (q : NodeParts). q.header) (same_Some ms from (sym at ∙ ap (parts_of p) same ∙ from_at)) in
        let there : 0 < in_range (from.header + 130) (12 * dimension_digits tree.wide) z = subst (λ (n : ℕ). 0 < in_range (n + 130) (12 * dimension_digits tree.wide) z) is some in
        let e = apart z in let o = in_own z in let d = count_or_dims tree.wide from.header 8 z (omega arith) in omega (arith, e, o, d, there))
    | inr differ ↦ meets_none k ms differ at z (let e = count_or_dims tree.wide ms.header 8 z (omega arith) in omega (arith, e, some))
  ]

  last_lists : (except : List Extent) → ((e : Extent) → Contains (list_extents tree.wide from) e → Contains except e) → (k : ℕ) (ms : NodeParts) → parts_of p k ≡ Some ms
      → ((e : Extent) → Contains (list_extents tree.wide ms) e → Contains except e) ⊎ MeetsNothing ranges (node_extents tree.wide ms)
  last_lists except one k ms at = elim (is_or_not k par) [
    | inl same ↦ inl (subst (λ (q : NodeParts). (e : Extent) → Contains (list_extents tree.wide q) e → Contains except e) (same_Some from ms (sym from_at ∙ ap (parts_of p) (sym same) ∙ at)) one)
    | inr differ ↦ inr (meets_none k ms differ at)
  ]

  last_leaves : (except : List Extent) → ((e : Extent) → Contains (list_extents tree.wide from) e → Contains except e) → Leaves except [] tree.wide p p old new
  last_leaves except one = lists_leave ranges except tree p taken old new h changes (λ z. let e = three z in let f = in_own z in omega (arith, e, f)) last_data last_dims (last_lists except one)

  module _ (sound : IsTree after) where
    stay : (k : ℕ) → is_among (par ∷ []) k ≡ false → node_at after k ≡ node_at tree k
    stay k e = moved_other tree par par s k (alone k e) (alone k e)

    up_held : HoldsNode new after p up_now from
    up_held = node_again ranges (par ∷ []) tree after p taken old new h sound refl refl (moved_as_many tree par par s) (moved_name tree par par s) stay changes par up up_now from over from_at refl
        (λ z some. let e = three z in let f = in_own z in let g = apart z in (held old tree p taken par from t h from_at has z (omega (arith, e, some)), omega (arith, f, g, some)))
        spelled (subst (λ (o : Option TablePart). HasTable new after p up_now o) (sym has) table_now)

    that : (k : ℕ) (m : Node) (ms : NodeParts) → ((true ≡ true) × (k ≡ par)) ⊎ ((true ≡ false) × (k ≢ par)) → node_at after k ≡ Some m → parts_of p k ≡ Some ms → HoldsNode new after p m ms
    that k m ms (inr d) e f = cc
    that k m ms (inl d) e f =
        let is_node : up_now ≡ m = same_Some up_now m (sym up_is ∙ ap (node_at after) (sym d.1) ∙ e) in
        let at_parts : from ≡ ms = same_Some from ms (sym from_at ∙ ap (parts_of p) (sym d.1) ∙ f) in
        subst (λ (n : Node). HoldsNode new after p n ms) is_node (subst (λ (q : NodeParts). HoldsNode new after p up_now q) at_parts up_held)

    moved_to_end : Holds new after p taken
    moved_to_end = lists_changed ranges (par ∷ []) tree after p taken old new h sound refl refl (moved_as_many tree par par s) (moved_name tree par par s) stay changes
        (λ z. let e = three z in let f = in_own z in omega (arith, e, f)) (λ k ms free at. meets_none k ms (alone k free) at) (λ k m ms among e f. that k m ms (one_among par k true among) e f)

    pub both_last : (except : List Extent) → ((e : Extent) → Contains (list_extents tree.wide from) e → Contains except e) → Holds new after p taken × Leaves except [] tree.wide p p old new
    both_last except one = (moved_to_end, last_leaves except one)
