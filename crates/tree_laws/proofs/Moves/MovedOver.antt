-- An entry leaves one node's table, which is closed up, and joins another's as its last: the file holds the tree with the node moved.
use Rattle.std.proofs.Common.{◌≡◌, ◌≢◌, ◌⊎◌, inl, inr, ℕ, suc, refl, sym, ◌∙◌, ap, subst, arith, List, [], ◌∷◌, ◌++◌, length, length-append, take, drop, filter, map, ◌+◌, ◌-◌, ◌*◌, ◌^◌, ◌<◌, ◌≤◌, Bool, true, false, not}
use Rattle.std.proofs.lemmas.Option.{slice_get_within}
use Rattle.std.specs.Prelude.{Option, Some, slice_get, ◌==◌}
use Rattle.std.specs.List.{Contains}
use Rattle.adf_format.specs.declared.types.Extent.{Extent}
use Rattle.adf_format.specs.declared.types.ExtentKind.{ExtentKind}
use Rattle.adf_format.specs.Hex.{hex_text}
use Rattle.adf_format.specs.Pointer.{To}
use Rattle.adf_format.specs.Fields.{field, text_field}
use Rattle.adf_format.specs.Tree.{Tree, Node, IsTree, is_among, node_at, children_of, name_of, name_at, AllDiffer}
use Rattle.adf_format.specs.Tiles.{cover}
use Rattle.adf_format.specs.Parts.{SpellsNode, SpellsTable, SpellsEntry, node_length, table_length, dimension_digits}
use Rattle.adf_format.specs.Placement.{Placement, NodeParts, TablePart, parts_of, extent, extents_of, node_extents, live_extents}
use Rattle.adf_format.specs.LaysOut.{HoldsNode, HasTable, fields_of}
use Rattle.adf_format.specs.Changes.{Writes}
use Rattle.adf_format.specs.Records.{entry_text}
use Rattle.adf_format.proofs.HeapLaws.{in_range}
use Rattle.adf_format.proofs.HexLaws.{length-hex_text}
use Rattle.adf_format.proofs.FieldLaws.{field_whole, length-field}
use Rattle.adf_format.proofs.SpelledParts.{entry_long}
use Rattle.adf_format.proofs.WrittenParts.{entry_written}
use Rattle.adf_model.specs.Edits.{moved, given_children}
use Rattle.adf_model.proofs.Basics.{same_Some}
use Rattle.adf_model.proofs.Creation.CreatedNodes.{there_inside}
use Rattle.adf_model.proofs.Creation.PartsApart.{range_within, cover_two}
use Rattle.tree_laws.specs.Holding.{Holds, ChangesIn, MeetsNothing}
use Rattle.tree_laws.specs.Leaving.{Leaves}
use Rattle.tree_laws.proofs.Holding.Steps.{once}
use Rattle.tree_laws.proofs.Holding.NodeFields.{count_written}
use Rattle.tree_laws.proofs.Holding.OwnRanges.{two_written, least, beside, changes_joined, data_extents, own_split, own_is, held, header_ends, table_ends}
use Rattle.tree_laws.proofs.Deletes.NodesLeft.{others_are, kept_at}
use Rattle.tree_laws.proofs.Tables.TableReplaced.{few_dims, node_too}
use Rattle.tree_laws.proofs.Tables.ListClosed.{closed_table, entry_before, entry_behind, entry_near}
use Rattle.tree_laws.proofs.Tables.ListsChanged.{name_short, others_long, one_more, neither_of, one_of_both, was_named, node_again, lists_changed}
use Rattle.tree_laws.proofs.Leaving.ListsLeave.{list_extents, count_or_dims, data_within, lists_leave}
use Rattle.tree_laws.proofs.Moves.MovedNodes.{moved_name, moved_as_many, moved_other, moved_from, moved_to}

module _ (old a b c new : List ℕ) (tree : Tree) (p : Placement) (taken : List Extent) (s par to i : ℕ) (up target : Node) (from its other : NodeParts) (t u : TablePart) (h : Holds old tree p taken) (over : node_at tree par ≡ Some up) (under : node_at tree to ≡ Some target)
    (from_at : parts_of p par ≡ Some from) (its_at : parts_of p s ≡ Some its) (other_at : parts_of p to ≡ Some other) (has : from.table ≡ Some t) (too : other.table ≡ Some u) (listed : slice_get up.children i ≡ Some s) (differ : par ≢ to) (room : length target.children < u.entries)
    (v : Writes (t.place + 16 + 44 * i) (field old (t.place + 16 + 44 * suc i) (44 * (length up.children - suc i))) old a) (w : Writes (from.header + 68) (hex_text 8 (length up.children - 1)) a b)
    (x : Writes (u.place + 16 + 44 * length target.children) (entry_text (text_field 32 (name_at tree s)) (To its.header)) b c) (y : Writes (other.header + 68) (hex_text 8 (suc (length target.children))) c new) where
  abbrev after : Tree
  after = moved tree par to s

  abbrev kept : List ℕ
  kept = filter (λ k. not (k == s)) up.children

  abbrev up_now : Node
  up_now = record up { children = kept }

  abbrev target_now : Node
  target_now = record target { children = target.children ++ s ∷ [] }

  abbrev wide : ℕ
  wide = node_length tree.wide

  abbrev tall : ℕ
  tall = table_length t.entries

  abbrev long : ℕ
  long = table_length u.entries

  -- ---- the nodes

  up_is : node_at after par ≡ Some up_now
  up_is = moved_from tree par to s differ ∙ ap (λ (o : Option Node). given_children (filter (λ k. not (k == s)) (children_of o)) o) over

  target_is : node_at after to ≡ Some target_now
  target_is = moved_to tree par to s differ ∙ ap (λ (o : Option Node). given_children (children_of o ++ s ∷ []) o) under

  node : (n : Node) × (node_at tree s ≡ Some n)
  node = node_too tree p s its h.same_nodes its_at

  its_name : name_at tree s ≡ node.0.name
  its_name = ap name_of node.1

  short : length (name_at tree s) ≤ 32
  short = subst (λ (n : List ℕ). length n ≤ 32) (sym its_name) (name_short tree s node.0 h.is_tree node.1)

  in_list : i < length up.children
  in_list = slice_get_within up.children i s listed

  few_up : length up.children ≤ 2 ^ 20
  few_up = subst (λ (o : Option Node). length (children_of o) ≤ 2 ^ 20) over (h.is_tree.width par)

  few_target : length target.children ≤ 2 ^ 20
  few_target = subst (λ (o : Option Node). length (children_of o) ≤ 2 ^ 20) under (h.is_tree.width to)

  differ_names : AllDiffer (map (name_at tree) up.children)
  differ_names = subst (λ xs. AllDiffer (map (name_at tree) xs)) (ap children_of over) (h.is_tree.siblings par)

  kept_is : kept ≡ take i up.children ++ drop (suc i) up.children
  kept_is = others_are (name_at tree) up.children i s differ_names listed

  kept_long : length kept ≡ length up.children - 1
  kept_long = others_long (name_at tree) up.children i s differ_names listed

  -- ---- what they are before

  up_was : HoldsNode old tree p up from
  up_was = h.nodes par up from over from_at

  target_was : HoldsNode old tree p target other
  target_was = h.nodes to target other under other_at

  t_was : HasTable old tree p up (Some t)
  t_was = subst (λ (o : Option TablePart). HasTable old tree p up o) has up_was.table

  u_was : HasTable old tree p target (Some u)
  u_was = subst (λ (o : Option TablePart). HasTable old tree p target o) too target_was.table

  near : its.header < 2 ^ 44
  near = entry_near (field old t.place tall) i node.0.name its.header (t_was.3 i s node.0 its listed node.1 its_at)

  -- ---- ranges

  six : (z : ℕ) → in_range from.header wide z + in_range t.place tall z + cover (data_extents from) z + in_range other.header wide z + in_range u.place long z + cover (data_extents other) z ≤ cover (live_extents tree.wide p) z
  six z =
      let two = cover_two (extents_of tree.wide) p.parts par to z (there_inside p.parts par from from_at) (there_inside p.parts to other other_at) (λ e. differ (sym e)) in
      let e = own_is old tree p taken par from t h from_at has z in
      let f = own_is old tree p taken to other u h other_at too z in
      let g = own_split old tree p taken par from t h from_at has z in
      let k = own_split old tree p taken to other u h other_at too z in
      omega (arith, two, e, f, g, k)

  apart : (z : ℕ) → in_range from.header wide z + in_range t.place tall z + cover (data_extents from) z + in_range other.header wide z + in_range u.place long z + cover (data_extents other) z ≤ 1
  apart z = let e = six z in let one = once old tree p taken h z in omega (arith, e, one)

  from_ends : from.header + wide ≤ length old
  from_ends = header_ends old tree p taken par from t h from_at has

  t_ends : t.place + tall ≤ length old
  t_ends = table_ends old tree p taken par from t h from_at has

  other_ends : other.header + wide ≤ length old
  other_ends = header_ends old tree p taken to other u h other_at too

  u_ends : u.place + long ≤ length old
  u_ends = table_ends old tree p taken to other u h other_at too

  abbrev text : List ℕ
  text = field old (t.place + 16 + 44 * suc i) (44 * (length up.children - suc i))

  text_long : length text ≡ 44 * (length up.children - suc i)
  text_long =
      let e = length-field old (t.place + 16 + 44 * suc i) (44 * (length up.children - suc i)) in
      let le = t_was.1 in let g = t_ends in let lt = in_list in omega (arith, e, le, g, lt)

  -- each of the four writes leaves what its own part does not meet
  past_v : (q n : ℕ) → q + n ≤ length old → ((z : ℕ) → in_range t.place tall z + in_range q n z ≤ 1) → field a q n ≡ field old q n
  past_v q n fits one = beside (t.place + 16 + 44 * i) text old a v t.place tall (omega arith) (let e = text_long in let le = t_was.1 in let lt = in_list in omega (arith, e, le, lt)) q n fits one

  past_w : (q n : ℕ) → q + n ≤ length old → ((z : ℕ) → in_range from.header wide z + in_range q n z ≤ 1) → field b q n ≡ field a q n
  past_w q n fits one = beside (from.header + 68) (hex_text 8 (length up.children - 1)) a b w from.header wide (omega arith) (let e = length-hex_text 8 (length up.children - 1) in let m = least tree.wide in omega (arith, e, m)) q n (let l = v.longer in omega (arith, l, fits)) one

  past_x : (q n : ℕ) → q + n ≤ length old → ((z : ℕ) → in_range u.place long z + in_range q n z ≤ 1) → field c q n ≡ field b q n
  past_x q n fits one =
      beside (u.place + 16 + 44 * length target.children) (entry_text (text_field 32 (name_at tree s)) (To its.header)) b c x u.place long (omega arith) (let e = entry_long (name_at tree s) its.header short in omega (arith, e, room)) q n
      (let l = v.longer in let k = w.longer in omega (arith, l, k, fits)) one

  past_y : (q n : ℕ) → q + n ≤ length old → ((z : ℕ) → in_range other.header wide z + in_range q n z ≤ 1) → field new q n ≡ field c q n
  past_y q n fits one =
      beside (other.header + 68) (hex_text 8 (suc (length target.children))) c new y other.header wide (omega arith) (let e = length-hex_text 8 (suc (length target.children)) in let m = least tree.wide in omega (arith, e, m)) q n
      (let l = v.longer in let k = w.longer in let j = x.longer in omega (arith, l, k, j, fits)) one

  -- ---- the parent that is left

  from_before : field a from.header wide ≡ field old from.header wide
  from_before = past_v from.header wide from_ends (λ z. let e = apart z in omega (arith, e))

  from_behind : field new from.header wide ≡ field b from.header wide
  from_behind = past_y from.header wide from_ends (λ z. let e = apart z in omega (arith, e)) ∙ past_x from.header wide from_ends (λ z. let e = apart z in omega (arith, e))

  from_spelled : SpellsNode tree.wide (field new from.header wide) (fields_of up_now from)
  from_spelled = subst (λ (n : ℕ). SpellsNode tree.wide (field new from.header wide) (record (fields_of up from) { children = n })) (sym kept_long)
      (subst (λ bytes. SpellsNode tree.wide bytes (record (fields_of up from) { children = length up.children - 1 })) (sym from_behind)
      (count_written tree.wide a b from.header (length up.children - 1) (fields_of up from) w (let l = v.longer in let e = from_ends in omega (arith, l, e)) (let f = few_up in omega (arith, f)) (few_dims tree par up h.is_tree over)
      (subst (λ bytes. SpellsNode tree.wide bytes (fields_of up from)) (sym from_before) up_was.header)))

  t_behind : field new t.place tall ≡ field a t.place tall
  t_behind =
      past_y t.place tall t_ends (λ z. let e = apart z in omega (arith, e)) ∙ past_x t.place tall t_ends (λ z. let e = apart z in omega (arith, e))
      ∙ past_w t.place tall t_ends (λ z. let e = apart z in omega (arith, e))

  starts : field text 0 (44 * (length up.children - suc i)) ≡ text
  starts = field_whole text (44 * (length up.children - suc i)) text_long

  low : 44 * (length up.children - suc i) ≤ length text
  low = let e = text_long in omega (arith, e)

  high : length text ≤ 44 * (length up.children - i)
  high = let e = text_long in omega (arith, e)

  from_table : HasTable new after p up_now (Some t)
  from_table = (
    t_was.0,
    (let e = kept_long in let le = t_was.1 in omega (arith, e, le)),
    subst (λ bytes. SpellsTable bytes t.place t.entries) (sym t_behind) (closed_table old a text t.place t.entries (length up.children) i in_list t_was.1 t_ends v starts low high t_was.2),
    λ j child m ms e f g.
        let was = was_named old tree after p taken h (moved_name tree par to s) child m ms f g in
        subst (λ bytes. SpellsEntry bytes j m.name ms.header) (sym t_behind)
        (subst (λ (n : List ℕ). SpellsEntry (field a t.place tall) j n ms.header) was.2
        (elim (kept_at up.children i j child in_list (ap (λ (xs : List ℕ). slice_get xs j) (sym kept_is) ∙ e)) [
          | inl k ↦ entry_before old a text t.place t.entries (length up.children) i in_list t_was.1 t_ends v starts low high j ms.header was.0.name k.0 (t_was.3 j child was.0 ms k.1 was.1 g)
          | inr k ↦ entry_behind old a text t.place t.entries (length up.children) i in_list t_was.1 t_ends v starts low high j ms.header was.0.name k.0 (slice_get_within up.children (suc j) child k.1) (t_was.3 (suc j) child was.0 ms k.1 was.1 g)
        ])),
  )

  -- ---- the parent that is joined

  other_before : field c other.header wide ≡ field old other.header wide
  other_before =
      past_x other.header wide other_ends (λ z. let e = apart z in omega (arith, e)) ∙ past_w other.header wide other_ends (λ z. let e = apart z in omega (arith, e))
      ∙ past_v other.header wide other_ends (λ z. let e = apart z in omega (arith, e))

  other_spelled : SpellsNode tree.wide (field new other.header wide) (fields_of target_now other)
  other_spelled = subst (λ (n : ℕ). SpellsNode tree.wide (field new other.header wide) (record (fields_of target other) { children = n })) (let e = length-append target.children (s ∷ []) in omega (arith, e))
      (count_written tree.wide c new other.header (suc (length target.children)) (fields_of target other) y (let l = v.longer in let k = w.longer in let j = x.longer in let e = other_ends in omega (arith, l, k, j, e)) (let f = few_target in omega (arith, f))
      (few_dims tree to target h.is_tree under) (subst (λ bytes. SpellsNode tree.wide bytes (fields_of target other)) (sym other_before) target_was.header))

  u_before : field b u.place long ≡ field old u.place long
  u_before = past_w u.place long u_ends (λ z. let e = apart z in omega (arith, e)) ∙ past_v u.place long u_ends (λ z. let e = apart z in omega (arith, e))

  u_behind : field new u.place long ≡ field c u.place long
  u_behind = past_y u.place long u_ends (λ z. let e = apart z in omega (arith, e))

  other_table : HasTable new after p target_now (Some u)
  other_table =
      let made = entry_written u.place u.entries (length target.children) its.header (name_at tree s) b c room near short (let l = v.longer in let k = w.longer in let e = u_ends in omega (arith, l, k, e)) x
      (subst (λ bytes. SpellsTable bytes u.place u.entries) (sym u_before) u_was.2) in (
        u_was.0,
        (let e = length-append target.children (s ∷ []) in omega (arith, e, room)),
        subst (λ bytes. SpellsTable bytes u.place u.entries) (sym u_behind) made.0,
        λ j child m ms e f g.
            subst (λ bytes. SpellsEntry bytes j m.name ms.header) (sym u_behind)
            (elim (one_more target.children s j child e) [
              | inl k ↦ (
                  let was = was_named old tree after p taken h (moved_name tree par to s) child m ms f g in
                  let lt = slice_get_within target.children j child k in
                  made.2 j ms.header m.name (omega (arith, lt, room)) (λ same. omega (arith, lt, same))
                  (subst (λ bytes. SpellsEntry bytes j m.name ms.header) (sym u_before) (subst (λ (n : List ℕ). SpellsEntry (field old u.place long) j n ms.header) was.2 (u_was.3 j child was.0 ms k was.1 g)))
                  )
              | inr k ↦ (
                  let named : name_at tree s ≡ m.name = sym (moved_name tree par to s s) ∙ ap (name_at after) (sym k.1) ∙ ap name_of f in
                  let placed : its ≡ ms = same_Some its ms (sym its_at ∙ ap (parts_of p) (sym k.1) ∙ g) in
                  subst (λ (n : ℕ). SpellsEntry (field c u.place long) n m.name ms.header) (sym k.0)
                  (subst (λ (q : NodeParts). SpellsEntry (field c u.place long) (length target.children) m.name q.header) placed (subst (λ (n : List ℕ). SpellsEntry (field c u.place long) (length target.children) n its.header) named made.1))
                  )
            ]),
      )

  -- ---- the whole

  abbrev left : List Extent
  left = extent ExtentKind.SubNodes (t.place + 16 + 44 * i) (44 * (length up.children - suc i)) ∷ extent ExtentKind.Node (from.header + 68) 8 ∷ []

  abbrev joined : List Extent
  joined = extent ExtentKind.SubNodes (u.place + 16 + 44 * length target.children) 44 ∷ extent ExtentKind.Node (other.header + 68) 8 ∷ []

  changes : ChangesIn (left ++ joined) old new
  changes = changes_joined left joined old b new
      (two_written ExtentKind.SubNodes ExtentKind.Node (t.place + 16 + 44 * i) (44 * (length up.children - suc i)) (from.header + 68) 8 text (hex_text 8 (length up.children - 1)) old a b v text_long w (length-hex_text 8 (length up.children - 1)))
      (two_written ExtentKind.SubNodes ExtentKind.Node (u.place + 16 + 44 * length target.children) 44 (other.header + 68) 8 (entry_text (text_field 32 (name_at tree s)) (To its.header)) (hex_text 8 (suc (length target.children))) b c new
      x (entry_long (name_at tree s) its.header short) y (length-hex_text 8 (suc (length target.children))))

  in_each : (z : ℕ) → cover (left ++ joined) z ≤ in_range (from.header + 68) 8 z + in_range t.place tall z + in_range (other.header + 68) 8 z + in_range u.place long z
  in_each z =
      let le = t_was.1 in let lt = in_list in
      let e = range_within t.place tall (t.place + 16 + 44 * i) (44 * (length up.children - suc i)) z (omega arith) (omega (arith, le, lt)) in
      let g = range_within u.place long (u.place + 16 + 44 * length target.children) 44 z (omega arith) (omega (arith, room)) in
      omega (arith, e, g)

  in_header : (z : ℕ) → (in_range (from.header + 68) 8 z ≤ in_range from.header wide z) × (in_range (other.header + 68) 8 z ≤ in_range other.header wide z)
  in_header z =
      let m = least tree.wide in
      (range_within from.header wide (from.header + 68) 8 z (omega arith) (omega (arith, m)), range_within other.header wide (other.header + 68) 8 z (omega arith) (omega (arith, m)))

  in_own : (z : ℕ) → cover (left ++ joined) z ≤ in_range from.header wide z + in_range t.place tall z + in_range other.header wide z + in_range u.place long z
  in_own z = let e = in_each z in let f = (in_header z).0 in let g = (in_header z).1 in omega (arith, e, f, g)

  clear : (k : ℕ) (ms : NodeParts) → is_among (par ∷ to ∷ []) k ≡ false → parts_of p k ≡ Some ms → MeetsNothing (left ++ joined) (node_extents tree.wide ms)
  clear k ms free at z some =
      let d = neither_of par to k free in
      let first = cover_two (extents_of tree.wide) p.parts par k z (there_inside p.parts par from from_at) (there_inside p.parts k ms at) d.0 in
      let second = cover_two (extents_of tree.wide) p.parts to k z (there_inside p.parts to other other_at) (there_inside p.parts k ms at) d.1 in
      let its_own : cover (extents_of tree.wide (parts_of p k)) z ≡ cover (node_extents tree.wide ms) z = ap (λ (o : Option NodeParts). cover (extents_of tree.wide o) z) at in
      let e = own_is old tree p taken par from t h from_at has z in
      let f = own_is old tree p taken to other u h other_at too z in
      let g = own_split old tree p taken par from t h from_at has z in
      let j = own_split old tree p taken to other u h other_at too z in
      let one = once old tree p taken h z in let o = in_own z in
      omega (arith, first, second, its_own, e, f, g, j, one, o, some)

  -- ---- what it leaves

  over_data : (k : ℕ) (ms : NodeParts) (z : ℕ) → parts_of p k ≡ Some ms → 0 < cover (data_extents ms) z → cover (left ++ joined) z ≡ 0
  over_data k ms z at some = by_touch (is_among (par ∷ to ∷ []) k) refl
    where
      by_touch : (q : Bool) → is_among (par ∷ to ∷ []) k ≡ q → cover (left ++ joined) z ≡ 0
      by_touch false free = clear k ms free at z (let e = data_within tree.wide ms z in omega (arith, e, some))
      by_touch true among = elim (one_of_both par to k among) [
        | inl same ↦ (let is : cover (data_extents ms) z ≡ cover (data_extents from) z = ap (λ (q : NodeParts). cover (data_extents q) z) (same_Some ms from (sym at ∙ ap (parts_of p) same ∙ from_at)) in
            let e = apart z in let o = in_own z in omega (arith, is, e, o, some))
        | inr same ↦ (let is : cover (data_extents ms) z ≡ cover (data_extents other) z = ap (λ (q : NodeParts). cover (data_extents q) z) (same_Some ms other (sym at ∙ ap (parts_of p) same ∙ other_at)) in
            let e = apart z in let o = in_own z in omega (arith, is, e, o, some))
      ]

  over_dims : (k : ℕ) (ms : NodeParts) (z : ℕ) → parts_of p k ≡ Some ms → 0 < in_range (ms.header + 130) (12 * dimension_digits tree.wide) z → cover (left ++ joined) z ≡ 0
  over_dims k ms z at some = by_touch (is_among (par ∷ to ∷ []) k) refl
    where
      by_touch : (q : Bool) → is_among (par ∷ to ∷ []) k ≡ q → cover (left ++ joined) z ≡ 0
      by_touch false free = clear k ms free at z (let e = count_or_dims tree.wide ms.header 8 z (omega arith) in omega (arith, e, some))
      by_touch true among = elim (one_of_both par to k among) [
        | inl same ↦ (let is : ms.header ≡ from.header = ap (λ (q : NodeParts). q.header) (same_Some ms from (sym at ∙ ap (parts_of p) same ∙ from_at)) in
            let there : 0 < in_range (from.header + 130) (12 * dimension_digits tree.wide) z = subst (λ (n : ℕ). 0 < in_range (n + 130) (12 * dimension_digits tree.wide) z) is some in
            let e = apart z in let o = in_each z in let d = count_or_dims tree.wide from.header 8 z (omega arith) in let f = (in_header z).0 in let g = (in_header z).1 in omega (arith, e, o, d, there, f, g))
        | inr same ↦ (let is : ms.header ≡ other.header = ap (λ (q : NodeParts). q.header) (same_Some ms other (sym at ∙ ap (parts_of p) same ∙ other_at)) in
            let there : 0 < in_range (other.header + 130) (12 * dimension_digits tree.wide) z = subst (λ (n : ℕ). 0 < in_range (n + 130) (12 * dimension_digits tree.wide) z) is some in
            let e = apart z in let o = in_each z in let d = count_or_dims tree.wide other.header 8 z (omega arith) in let f = (in_header z).0 in let g = (in_header z).1 in omega (arith, e, o, d, there, f, g))
      ]

  over_lists : (except : List Extent) → ((e : Extent) → Contains (list_extents tree.wide from) e → Contains except e) → ((e : Extent) → Contains (list_extents tree.wide other) e → Contains except e)
      → (k : ℕ) (ms : NodeParts) → parts_of p k ≡ Some ms → ((e : Extent) → Contains (list_extents tree.wide ms) e → Contains except e) ⊎ MeetsNothing (left ++ joined) (node_extents tree.wide ms)
  over_lists except one two k ms at = by_touch (is_among (par ∷ to ∷ []) k) refl
    where
      by_touch : (q : Bool) → is_among (par ∷ to ∷ []) k ≡ q → ((e : Extent) → Contains (list_extents tree.wide ms) e → Contains except e) ⊎ MeetsNothing (left ++ joined) (node_extents tree.wide ms)
      by_touch false free = inr (clear k ms free at)
      by_touch true among = inl (elim (one_of_both par to k among) [
        | inl same ↦ subst (λ (q : NodeParts). (e : Extent) → Contains (list_extents tree.wide q) e → Contains except e) (same_Some from ms (sym from_at ∙ ap (parts_of p) (sym same) ∙ at)) one
        | inr same ↦ subst (λ (q : NodeParts). (e : Extent) → Contains (list_extents tree.wide q) e → Contains except e) (same_Some other ms (sym other_at ∙ ap (parts_of p) (sym same) ∙ at)) two
      ])

  over_leaves : (except : List Extent) → ((e : Extent) → Contains (list_extents tree.wide from) e → Contains except e) → ((e : Extent) → Contains (list_extents tree.wide other) e → Contains except e) → Leaves except [] tree.wide p p old new
  over_leaves except one two = lists_leave (left ++ joined) except tree p taken old new h changes (λ z. let e = six z in let f = in_own z in omega (arith, e, f)) over_data over_dims (over_lists except one two)

  module _ (sound : IsTree after) where
    stay : (k : ℕ) → is_among (par ∷ to ∷ []) k ≡ false → node_at after k ≡ node_at tree k
    stay k e = let d = neither_of par to k e in moved_other tree par to s k d.0 d.1

    from_held : HoldsNode new after p up_now from
    from_held = node_again (left ++ joined) (par ∷ to ∷ []) tree after p taken old new h sound refl refl (moved_as_many tree par to s) (moved_name tree par to s) stay changes par up up_now from over from_at refl
        (λ z some. let e = six z in let f = in_own z in let g = apart z in (held old tree p taken par from t h from_at has z (omega (arith, e, some)), omega (arith, f, g, some)))
        from_spelled (subst (λ (o : Option TablePart). HasTable new after p up_now o) (sym has) from_table)

    other_held : HoldsNode new after p target_now other
    other_held = node_again (left ++ joined) (par ∷ to ∷ []) tree after p taken old new h sound refl refl (moved_as_many tree par to s) (moved_name tree par to s) stay changes to target target_now other under other_at refl
        (λ z some. let e = six z in let f = in_own z in let g = apart z in (held old tree p taken par from t h from_at has z (omega (arith, e, some)), omega (arith, f, g, some)))
        other_spelled (subst (λ (o : Option TablePart). HasTable new after p target_now o) (sym too) other_table)

    that : (k : ℕ) (m : Node) (ms : NodeParts) → (k ≡ par) ⊎ (k ≡ to) → node_at after k ≡ Some m → parts_of p k ≡ Some ms → HoldsNode new after p m ms
    that k m ms (inl same) e f =
        let is_node : up_now ≡ m = same_Some up_now m (sym up_is ∙ ap (node_at after) (sym same) ∙ e) in
        let at_parts : from ≡ ms = same_Some from ms (sym from_at ∙ ap (parts_of p) (sym same) ∙ f) in
        subst (λ (n : Node). HoldsNode new after p n ms) is_node (subst (λ (q : NodeParts). HoldsNode new after p up_now q) at_parts from_held)
    that k m ms (inr same) e f =
        let is_node : target_now ≡ m = same_Some target_now m (sym target_is ∙ ap (node_at after) (sym same) ∙ e) in
        let at_parts : other ≡ ms = same_Some other ms (sym other_at ∙ ap (parts_of p) (sym same) ∙ f) in
        subst (λ (n : Node). HoldsNode new after p n ms) is_node (subst (λ (q : NodeParts). HoldsNode new after p target_now q) at_parts other_held)

    moved_over : Holds new after p taken
    moved_over = lists_changed (left ++ joined) (par ∷ to ∷ []) tree after p taken old new h sound refl refl (moved_as_many tree par to s) (moved_name tree par to s) stay changes
        (λ z. let e = six z in let f = in_own z in omega (arith, e, f)) clear (λ k m ms among e f. that k m ms (one_of_both par to k among) e f)

    pub both_over : (except : List Extent) → ((e : Extent) → Contains (list_extents tree.wide from) e → Contains except e) → ((e : Extent) → Contains (list_extents tree.wide other) e → Contains except e)
        → Holds new after p taken × Leaves except [] tree.wide p p old new
    both_over except one two = (moved_over, over_leaves except one two)
