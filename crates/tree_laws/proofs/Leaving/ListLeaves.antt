-- What a change of a node's list of children leaves: a deletion, and a node that joins.
use Rattle.std.proofs.Common.{◌≡◌, ◌≢◌, ◌⊎◌, inl, inr, ℕ, zero, suc, refl, sym, ◌∙◌, ap, subst, arith, List, [], ◌∷◌, ◌++◌, length, length-append, get_or, map, ◌+◌, ◌-◌, ◌*◌, ◌<◌, ◌≤◌, Bool, true, false, not}
use Rattle.std.proofs.lemmas.Bool.Decides.{eqb_tells}
use Rattle.std.proofs.lemmas.List.{length-set}
use Rattle.std.proofs.lemmas.Option.{slice_get_within}
use Rattle.std.proofs.lemmas.List.Elements.{Contains-append_left, Contains-append_right}
use Rattle.std.specs.Prelude.{Option, Some, None, IsSome, is_some, slice_get, slice_set, ◌==◌, ◌||◌, if◌then◌else◌, Ok}
use Rattle.std.specs.List.{flat_map, Contains}
use Rattle.adf_format.specs.declared.types.Extent.{Extent}
use Rattle.adf_format.specs.declared.types.ExtentKind.{ExtentKind}
use Rattle.adf_format.specs.Hex.{hex_text}
use Rattle.adf_format.specs.Pointer.{To, pointer_text}
use Rattle.adf_format.specs.Fields.{field, text_field}
use Rattle.adf_format.specs.Tree.{Tree, Node, IsAmong, is_among, node_at, is_live, children_of, children_at, parent_of, is_within, live_from, subtree, erased_from}
use Rattle.adf_format.specs.Tiles.{cover}
use Rattle.adf_format.specs.Parts.{node_length, table_length, dimension_digits}
use Rattle.adf_format.specs.Placement.{Placement, NodeParts, TablePart, extent, parts_of, extents_of, node_extents, live_extents, table_extents}
use Rattle.adf_format.specs.LaysOut.{HasTable}
use Rattle.adf_format.specs.Changes.{Writes}
use Rattle.adf_format.specs.HeapRule.{parts_or_none, data_extents}
use Rattle.adf_format.specs.Records.{entry_text}
use Rattle.adf_format.proofs.HeapLaws.{in_range}
use Rattle.adf_format.proofs.HexLaws.{length-hex_text}
use Rattle.adf_format.proofs.FieldLaws.{length-field}
use Rattle.adf_format.proofs.SpelledParts.{entry_long, length-pointer_text}
use Rattle.adf_model.specs.declared.tree.Edit.{Edit}
use Rattle.adf_model.specs.declared.tree.NodeId.{NodeId}
use Rattle.adf_model.specs.Edits.{apply}
use Rattle.adf_model.specs.Untouched.{of_parent, list_of}
use Rattle.adf_model.proofs.Basics.{not_true, not_there, same_Some, among_head, or_right}
use Rattle.adf_model.proofs.Creation.CreatedNodes.{there_inside}
use Rattle.adf_model.proofs.Creation.PartsApart.{range_out, range_within, cover_part, cover_two}
use Rattle.tree_laws.specs.Holding.{Holds, ChangesIn}
use Rattle.tree_laws.specs.Leaving.{Leaves}
use Rattle.tree_laws.specs.Tables.{ClosesUp}
use Rattle.tree_laws.specs.Plans.{plan_deleted}
use Rattle.tree_laws.specs.NodeJoin.{with_parts_of_new}
use Rattle.tree_laws.specs.LeavingSteps.{DeletionLeaves, JoinLeaves, TableJoinLeaves}
use Rattle.tree_laws.proofs.Holding.Steps.{once}
use Rattle.tree_laws.proofs.Edits.LabelSet.{written_in, set_here, set_there}
use Rattle.tree_laws.proofs.Holding.OwnRanges.{two_written}
use Rattle.tree_laws.proofs.Deletes.DeletedTree.{deleted_in_its_tree}
use Rattle.tree_laws.proofs.Data.DataSwitched.{own_parts}
use Rattle.tree_laws.proofs.Leaving.LeavesDirect.{covers, dims_byte, own_cases, data_in, sparing_leaves}
use Rattle.adf_model.proofs.Keeping.MoveKeeps.{among_live}
use Rattle.adf_model.proofs.Creation.PartExtents.{of_node}
use Rattle.tree_laws.proofs.Leaving.LeavingLaws.{head_byte}
use Rattle.tree_laws.proofs.Edits.EditsPlaced.{front_get}
use Rattle.tree_laws.proofs.Tables.TableReplaced.{some_at}

least : (wide : Bool) → 246 ≤ node_length wide
least false = omega arith
least true = omega arith

-- ---- of the parts of one node the counts in its header and its table are written

module _ (ranges except : List Extent) (tree : Tree) (p q : Placement) (taken : List Extent) (old new : List ℕ) (s : ℕ) (from : NodeParts) (h : Holds old tree p taken) (stands : parts_of p s ≡ Some from) (c : ChangesIn ranges old new)
    (in_list : (b : ℕ) → cover ranges b ≤ in_range (from.header + 68) 28 b + cover (table_extents from.table) b)
    (header_free : (e : Extent) → Contains (extent ExtentKind.Node from.header (node_length tree.wide) ∷ []) e → Contains except e) (table_free : (e : Extent) → Contains (table_extents from.table) e → Contains except e)
    (stays : (k : ℕ) (ms : NodeParts) (e : Extent) → parts_of p k ≡ Some ms → Contains (node_extents tree.wide ms) e → (Contains except e → ⊥) → Contains (live_extents tree.wide q) e)
    (headers : (k : ℕ) (ms to : NodeParts) → parts_of p k ≡ Some ms → parts_of q k ≡ Some to → to.header ≡ ms.header) (drawn : length p.parts ≤ length q.parts)
    (before : (k : ℕ) (to : NodeParts) → k < length p.parts → parts_of q k ≡ Some to → (x : NodeParts) × (parts_of p k ≡ Some x)) where
  inside : s < length p.parts
  inside = there_inside p.parts s from stands

  at_is : (b : ℕ) → cover (extents_of tree.wide (parts_of p s)) b ≡ cover (node_extents tree.wide from) b
  at_is b = ap (λ (o : Option NodeParts). cover (extents_of tree.wide o) b) stands

  own_live : (b : ℕ) → in_range from.header (node_length tree.wide) b + (cover (table_extents from.table) b + cover (data_extents from) b) ≤ cover (live_extents tree.wide p) b
  own_live b = let x = cover_part (extents_of tree.wide) p.parts s b inside in let y = at_is b in let sp = own_parts tree.wide from b in omega (arith, x, y, sp)

  in_header : (b : ℕ) → in_range (from.header + 68) 28 b ≤ in_range from.header (node_length tree.wide) b
  in_header b = let m = least tree.wide in range_within from.header (node_length tree.wide) (from.header + 68) 28 b (omega arith) (omega (arith, m))

  other_clear : (k : ℕ) (ms : NodeParts) (b : ℕ) → k ≢ s → parts_of p k ≡ Some ms → 0 < cover (node_extents tree.wide ms) b → cover ranges b ≡ 0
  other_clear k ms b differ at some =
      let two = cover_two (extents_of tree.wide) p.parts s k b inside (there_inside p.parts k ms at) differ in
      let its : cover (extents_of tree.wide (parts_of p k)) b ≡ cover (node_extents tree.wide ms) b = ap (λ (o : Option NodeParts). cover (extents_of tree.wide o) b) at in
      let y = at_is b in let sp = own_parts tree.wide from b in let one = once old tree p taken h b in let i = in_list b in let n = in_header b in
      omega (arith, two, its, y, sp, one, i, n, some)

  own_data : (e : Extent) → Contains (node_extents tree.wide from) e → (Contains except e → ⊥) → Contains (data_extents from) e
  own_data e own free = elim (own_cases tree.wide from e own) [
    | inl k ↦ absurd (free (header_free e k))
    | inr k ↦ elim k [ inl l ↦ absurd (free (table_free e l)) | inr l ↦ l ]
  ]

  pub list_left : Leaves except [] tree.wide p q old new
  list_left = sparing_leaves ranges except [] tree p q taken old new h c (record {
    head = λ b le none. let k = head_byte b le in let l = own_live b in let one = once old tree p taken h b in let i = in_list b in let n = in_header b in omega (arith, k, l, one, i, n);
    parts = λ k ms e at own free. (
      stays k ms e at own free,
      λ b some. elim (eqb_tells k s) [
        | inl t ↦ (
            let is : ms ≡ from = same_Some ms from (sym at ∙ ap (parts_of p) t.1 ∙ stands) in
            let part = own_data e (subst (λ (x : NodeParts). Contains (node_extents tree.wide x) e) is own) free in
            let x = covers (data_extents from) e b part some in
            let l = own_live b in let one = once old tree p taken h b in let i = in_list b in let n = in_header b in
            omega (arith, x, l, one, i, n))
        | inr t ↦ other_clear k ms b t.1 at (covers (node_extents tree.wide ms) e b own some)
      ],
    );
    dims = λ k ms to free at at_last. (
      headers k ms to at at_last,
      λ b low high. elim (eqb_tells k s) [
        | inl t ↦ (
            let is : ms ≡ from = same_Some ms from (sym at ∙ ap (parts_of p) t.1 ∙ stands) in
            let low_there : from.header + 130 ≤ b = subst (λ (x : NodeParts). x.header + 130 ≤ b) is low in
            let high_there : b < from.header + 130 + 12 * dimension_digits tree.wide = subst (λ (x : NodeParts). b < x.header + 130 + 12 * dimension_digits tree.wide) is high in
            let d = dims_byte tree.wide from b low_there high_there in
            let z = range_out (from.header + 68) 28 b (inr (omega (arith, low_there))) in
            let l = own_live b in let one = once old tree p taken h b in let i = in_list b in
            omega (arith, d, z, l, one, i))
        | inr t ↦ other_clear k ms b t.1 at (let i = dims_byte tree.wide ms b low high in let sp = own_parts tree.wide ms b in omega (arith, i, sp))
      ],
    );
    drawn = drawn;
    before = before;
  })

-- the list of a node in the words of what an edit touches
list_header : (wide : Bool) (p : Placement) (s : ℕ) (from : NodeParts) (e : Extent) → parts_of p s ≡ Some from → Contains (extent ExtentKind.Node from.header (node_length wide) ∷ []) e → Contains (list_of wide p s) e
list_header wide p s from e stands c =
    subst (λ (o : Option NodeParts). Contains (extent ExtentKind.Node (parts_or_none o).header (node_length wide) ∷ table_extents (parts_or_none o).table) e) (sym stands)
    (Contains-append_left (extent ExtentKind.Node from.header (node_length wide) ∷ []) (table_extents from.table) e c)

list_table : (wide : Bool) (p : Placement) (s : ℕ) (from : NodeParts) (e : Extent) → parts_of p s ≡ Some from → Contains (table_extents from.table) e → Contains (list_of wide p s) e
list_table wide p s from e stands c =
    subst (λ (o : Option NodeParts). Contains (extent ExtentKind.Node (parts_or_none o).header (node_length wide) ∷ table_extents (parts_or_none o).table) e) (sym stands)
    (Contains-append_right (extent ExtentKind.Node from.header (node_length wide) ∷ []) (table_extents from.table) e c)

-- the counts lie in the header, and a text in the table
counts_and_table : (header place_in m : ℕ) (o : Option TablePart) (t : TablePart) (b : ℕ) → o ≡ Some t → t.place ≤ place_in → place_in + m ≤ t.place + table_length t.entries
    → in_range place_in m b + (in_range (header + 68) 8 b + 0) ≤ in_range (header + 68) 28 b + cover (table_extents o) b
counts_and_table header place_in m o t b has low high =
    let x = range_within t.place (table_length t.entries) place_in m b low high in
    let y = range_within (header + 68) 28 (header + 68) 8 b (omega arith) (omega arith) in
    let g : cover (table_extents o) b ≡ in_range t.place (table_length t.entries) b + 0 = ap (λ (u : Option TablePart). cover (table_extents u) b) has in
    omega (arith, x, y, g)

-- ---- a deletion

none_either : {A : Type 0} (b : Bool) → ◌≡◌ {A = Option A} None (if b then None else None)
none_either true = refl
none_either false = refl

erased_get : (k : ℕ) (gone : ℕ → Bool) (xs : List (Option NodeParts)) (j : ℕ) → get_or (erased_from k gone xs) j None ≡ (if gone (k + j) then None else get_or xs j None)
erased_get k gone [] j = none_either (gone (k + j))
erased_get k gone (x ∷ xs) zero = ap (λ i. if gone i then None else x) (omega arith)
erased_get k gone (x ∷ xs) (suc j) = erased_get (suc k) gone xs j ∙ ap (λ i. if gone i then None else get_or xs j None) (omega arith)

pub erased_at : (gone : ℕ → Bool) (xs : List (Option NodeParts)) (j : ℕ) → get_or (erased_from 0 gone xs) j None ≡ (if gone j then None else get_or xs j None)
erased_at gone xs j = erased_get 0 gone xs j ∙ ap (λ i. if gone i then None else get_or xs j None) (omega arith)

pub erased_was : (gone : ℕ → Bool) (xs : List (Option NodeParts)) (j : ℕ) (a : NodeParts) → get_or (erased_from 0 gone xs) j None ≡ Some a → get_or xs j None ≡ Some a
erased_was gone xs j a e = by_gone (gone j) (sym (erased_at gone xs j) ∙ e)
  where
    by_gone : (b : Bool) → (if b then None else get_or xs j None) ≡ Some a → get_or xs j None ≡ Some a
    by_gone true e = absurd (not_there a e)
    by_gone false e = e

pub length-erased : (k : ℕ) (gone : ℕ → Bool) (xs : List (Option NodeParts)) → length (erased_from k gone xs) ≡ length xs
length-erased k gone [] = refl
length-erased k gone (x ∷ xs) = ap suc (length-erased (suc k) gone xs)

pub contains_flat : (f : ℕ → List Extent) (xs : List ℕ) (k : ℕ) (e : Extent) → IsAmong xs k → Contains (f k) e → Contains (flat_map f xs) e
contains_flat f [] k e h c = absurd (not_true h)
contains_flat f (x ∷ xs) k e h c = elim (eqb_tells x k) [
  | inl t ↦ Contains-append_left (f x) (flat_map f xs) e (subst (λ j. Contains (f j) e) (sym t.1) c)
  | inr t ↦ Contains-append_right (f x) (flat_map f xs) e (contains_flat f xs k e (later (x == k) (is_among xs k) t.0 h) c)
]
  where
    later : (a b : Bool) → a ≡ false → (a || b) ≡ true → b ≡ true
    later true b p q = cc
    later false b p q = q

pub live_too : (tree : Tree) (p : Placement) (s : ℕ) (from : NodeParts) → map is_some p.parts ≡ map is_some tree.nodes → parts_of p s ≡ Some from → is_live tree s ≡ true
live_too tree p s from same e = sym (some_at tree.nodes s) ∙ ap (λ xs. get_or xs s false) (sym same) ∙ some_at p.parts s ∙ ap is_some e

some_node : (o : Option Node) → is_some o ≡ true → (node : Node) × (o ≡ Some node)
some_node None e = absurd (not_true e)
some_node (Some node) e = (node, refl)

module _ (old middle new : List ℕ) (tree after : Tree) (p : Placement) (taken : List Extent) (node : NodeId) (par i : ℕ) (at : NodeParts) (t : TablePart) (h : Holds old tree p taken) (e : apply tree (Edit.Delete node) ≡ Ok after)
    (up : parent_of tree node.serial ≡ Some par) (listed : slice_get (children_at tree par) i ≡ Some node.serial) (placed : parts_of p par ≡ Some at) (has : at.table ≡ Some t) (w : ClosesUp at.header t.place (length (children_at tree par)) i old middle new) where
  abbrev text : List ℕ
  text = field old (t.place + 16 + 44 * (i + 1)) (44 * (length (children_at tree par) - suc i))

  abbrev ranges : List Extent
  ranges = extent ExtentKind.SubNodes (t.place + 16 + 44 * i) (length text) ∷ extent ExtentKind.Node (at.header + 68) 8 ∷ []

  abbrev except : List Extent
  except = list_of tree.wide p par ++ flat_map (λ serial. extents_of tree.wide (parts_of p serial)) (subtree tree node.serial)

  pub room : length (children_at tree par) ≤ t.entries
  room = by_node (some_node (node_at tree par) (live_too tree p par at h.same_nodes placed))
    where
      by_node : (n : Node) × (node_at tree par ≡ Some n) → length (children_at tree par) ≤ t.entries
      by_node n =
          let held = subst (λ (o : Option TablePart). HasTable old tree p n.0 o) has (h.nodes par n.0 at n.1 placed).table in
          subst (λ (o : Option Node). length (children_of o) ≤ t.entries) (sym n.1) held.1

  short : length text ≤ 44 * (length (children_at tree par) - suc i)
  short = let f = length-field old (t.place + 16 + 44 * (i + 1)) (44 * (length (children_at tree par) - suc i)) in omega (arith, f)

  in_table : (b : ℕ) → cover ranges b ≤ in_range (at.header + 68) 28 b + cover (table_extents at.table) b
  in_table b =
      let lt = slice_get_within (children_at tree par) i node.serial listed in
      let le = room in let l = short in
      counts_and_table at.header (t.place + 16 + 44 * i) (length text) at.table t b has (omega arith) (omega (arith, lt, le, l))

  pub stays : (k : ℕ) (ms : NodeParts) (x : Extent) → parts_of p k ≡ Some ms → Contains (node_extents tree.wide ms) x → (Contains except x → ⊥) → Contains (live_extents tree.wide (plan_deleted after p).placed) x
  stays k ms x there own free = by_within (is_within tree node.serial k) refl
    where
      live : is_live tree k ≡ true
      live = live_too tree p k ms h.same_nodes there

      by_within : (b : Bool) → is_within tree node.serial k ≡ b → Contains (live_extents tree.wide (plan_deleted after p).placed) x
      by_within true g = absurd (free (Contains-append_right (list_of tree.wide p par) (flat_map (λ serial. extents_of tree.wide (parts_of p serial)) (subtree tree node.serial)) x
          (contains_flat (λ serial. extents_of tree.wide (parts_of p serial)) (subtree tree node.serial) k x
          (subst (λ j. IsAmong (subtree tree node.serial) j) (zero_plus k) (among_live 0 (is_within tree node.serial) tree.nodes k live (ap (is_within tree node.serial) (zero_plus k) ∙ g)))
          (subst (λ (o : Option NodeParts). Contains (extents_of tree.wide o) x) (sym there) own))))
        where
          zero_plus : (k : ℕ) → 0 + k ≡ k
          zero_plus k = omega arith
      by_within false g =
          of_node tree.wide (erased_from 0 (λ j. not (is_live after j)) p.parts) k ms x
          (erased_at (λ j. not (is_live after j)) p.parts k ∙ ap (λ (b : Bool). if not b then None else get_or p.parts k None) ((deleted_in_its_tree tree after node h.is_tree e).2 k live g).0 ∙ there) own

  pub deletion_left : Leaves except [] tree.wide p (plan_deleted after p).placed old new
  deletion_left = list_left ranges except tree p (plan_deleted after p).placed taken old new par at h placed
      (two_written ExtentKind.SubNodes ExtentKind.Node (t.place + 16 + 44 * i) (length text) (at.header + 68) 8 text (hex_text 8 (length (children_at tree par) - 1)) old middle new w.entries refl w.counted (length-hex_text 8 (length (children_at tree par) - 1)))
      in_table
      (λ x c. Contains-append_left (list_of tree.wide p par) (flat_map (λ serial. extents_of tree.wide (parts_of p serial)) (subtree tree node.serial)) x (list_header tree.wide p par at x placed c))
      (λ x c. Contains-append_left (list_of tree.wide p par) (flat_map (λ serial. extents_of tree.wide (parts_of p serial)) (subtree tree node.serial)) x (list_table tree.wide p par at x placed c))
      stays
      (λ k ms to there at_last. ap (λ (x : NodeParts). x.header) (same_Some to ms (sym (erased_was (λ j. not (is_live after j)) p.parts k to at_last) ∙ there)))
      (let l = length-erased 0 (λ j. not (is_live after j)) p.parts in omega (arith, l))
      (λ k to lt at_last. (to, erased_was (λ j. not (is_live after j)) p.parts k to at_last))

pub deletion_leaves : DeletionLeaves
deletion_leaves old middle new tree after p taken node par i at t h e up listed placed has w =
    subst (λ o. Leaves (of_parent (list_of tree.wide p) o ++ flat_map (λ serial. extents_of tree.wide (parts_of p serial)) (subtree tree node.serial)) [] tree.wide p (plan_deleted after p).placed old new) (sym up)
    (deletion_left old middle new tree after p taken node par i at t h e up listed placed has w)

-- ---- a node joins

pub join_leaves : JoinLeaves
join_leaves old middle new tree p taken s child parent name from parts t h here stands has free short v w =
    list_left (extent ExtentKind.SubNodes (t.place + 16 + 44 * length parent.children) 44 ∷ extent ExtentKind.Node (from.header + 68) 8 ∷ []) (list_of tree.wide p s) tree p (with_parts_of_new p parts) taken old new s from h stands
    (two_written ExtentKind.SubNodes ExtentKind.Node (t.place + 16 + 44 * length parent.children) 44 (from.header + 68) 8 (entry_text (text_field 32 name) (To child)) (hex_text 8 (suc (length parent.children))) old middle new
    v (entry_long name child short) w (length-hex_text 8 (suc (length parent.children))))
    (λ b. counts_and_table from.header (t.place + 16 + 44 * length parent.children) 44 from.table t b has (omega arith) (omega (arith, free)))
    (λ x c. list_header tree.wide p s from x stands c) (λ x c. list_table tree.wide p s from x stands c)
    (λ k ms x there own no. of_node tree.wide (p.parts ++ Some parts ∷ []) k ms x (front_get p.parts (Some parts) k (there_inside p.parts k ms there) ∙ there) own)
    (λ k ms to there at_last. ap (λ (x : NodeParts). x.header) (same_Some to ms (sym at_last ∙ front_get p.parts (Some parts) k (there_inside p.parts k ms there) ∙ there)))
    (let l = length-append p.parts (Some parts ∷ []) in omega (arith, l))
    (λ k to lt at_last. (to, sym (front_get p.parts (Some parts) k lt) ∙ at_last))

module _ (old new : List ℕ) (tree : Tree) (p : Placement) (taken : List Extent) (s count table entries : ℕ) (from parts : NodeParts) (h : Holds old tree p taken) (stands : parts_of p s ≡ Some from)
    (w : Writes (from.header + 68) (hex_text 8 count ++ hex_text 8 entries ++ pointer_text (To table)) old new) where
  abbrev to : NodeParts
  to = record from { table = Some (record { place = table; entries = entries }) }

  abbrev q : Placement
  q = with_parts_of_new (record p { parts = slice_set p.parts s (Some (record from { table = Some (record { place = table; entries = entries }) })) }) parts

  fields_long : length (hex_text 8 count ++ hex_text 8 entries ++ pointer_text (To table)) ≡ 28
  fields_long =
      let a = length-append (hex_text 8 count ++ hex_text 8 entries) (pointer_text (To table)) in
      let b = length-append (hex_text 8 count) (hex_text 8 entries) in
      let c = length-hex_text 8 count in
      let d = length-hex_text 8 entries in
      let e = length-pointer_text (To table) in omega (arith, a, b, c, d, e)

  set_long : length (slice_set p.parts s (Some to)) ≡ length p.parts
  set_long = length-set p.parts s (Some to)

  at_front : (k : ℕ) → k < length p.parts → parts_of q k ≡ get_or (slice_set p.parts s (Some to)) k None
  at_front k lt = front_get (slice_set p.parts s (Some to)) (Some parts) k (let l = set_long in omega (arith, l, lt))

  -- a node keeps its parts, but for the table of the one
  now_at : (k : ℕ) (ms : NodeParts) → parts_of p k ≡ Some ms → ((k ≡ s) × (ms ≡ from) × (parts_of q k ≡ Some to)) ⊎ ((k ≢ s) × (parts_of q k ≡ Some ms))
  now_at k ms there = elim (eqb_tells k s) [
    | inl t ↦ inl (
      t.1,
      same_Some ms from (sym there ∙ ap (parts_of p) t.1 ∙ stands),
      at_front k (there_inside p.parts k ms there) ∙ ap (λ (j : ℕ). get_or (slice_set p.parts s (Some to)) j None) t.1 ∙ set_here p.parts s (Some to) None (there_inside p.parts s from stands),
    )
    | inr t ↦ inr (t.1, at_front k (there_inside p.parts k ms there) ∙ set_there p.parts s k (Some to) None t.1 ∙ there)
  ]

  stays_here : (k : ℕ) (ms : NodeParts) (x : Extent) → parts_of p k ≡ Some ms → Contains (node_extents tree.wide ms) x → (Contains (list_of tree.wide p s) x → ⊥) → Contains (live_extents tree.wide q) x
  stays_here k ms x there own free = elim (now_at k ms there) [
    | inr t ↦ of_node tree.wide q.parts k ms x t.1 own
    | inl t ↦ elim (own_cases tree.wide from x (subst (λ (y : NodeParts). Contains (node_extents tree.wide y) x) t.1 own)) [
      | inl m ↦ absurd (free (list_header tree.wide p s from x stands m))
      | inr m ↦ elim m [ inl l ↦ absurd (free (list_table tree.wide p s from x stands l)) | inr l ↦ of_node tree.wide q.parts k to x t.2 (data_in tree.wide to x l) ]
    ]
  ]

  pub table_left : Leaves (list_of tree.wide p s) [] tree.wide p q old new
  table_left = list_left (extent ExtentKind.Node (from.header + 68) 28 ∷ []) (list_of tree.wide p s) tree p q taken old new s from h stands
      (written_in ExtentKind.Node (from.header + 68) 28 (hex_text 8 count ++ hex_text 8 entries ++ pointer_text (To table)) old new w fields_long)
      (λ b. omega arith) (λ x c. list_header tree.wide p s from x stands c) (λ x c. list_table tree.wide p s from x stands c) stays_here
      (λ k ms then_k there at_last. elim (now_at k ms there) [
        | inl t ↦ ap (λ (x : NodeParts). x.header) (same_Some then_k to (sym at_last ∙ t.2)) ∙ ap (λ (x : NodeParts). x.header) (sym t.1)
        | inr t ↦ ap (λ (x : NodeParts). x.header) (same_Some then_k ms (sym at_last ∙ t.1))
      ])
      (let l = length-append (slice_set p.parts s (Some to)) (Some parts ∷ []) in let m = set_long in omega (arith, l, m))
      (λ k then_k lt at_last. elim (eqb_tells k s) [
        | inl t ↦ (from, ap (parts_of p) t.1 ∙ stands)
        | inr t ↦ (then_k, sym (at_front k lt ∙ set_there p.parts s k (Some to) None t.1) ∙ at_last)
      ])

pub table_join_leaves : TableJoinLeaves
table_join_leaves old new tree p taken s count table entries from parts h stands w = table_left old new tree p taken s count table entries from parts h stands w
