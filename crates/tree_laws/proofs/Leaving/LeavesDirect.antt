-- What a step leaves, by the ranges that it writes.
use Rattle.std.proofs.Common.{◌≡◌, ◌≢◌, ◌⊎◌, inl, inr, ℕ, zero, suc, refl, sym, ◌∙◌, ap, subst, arith, List, [], ◌∷◌, ◌++◌, length, get_or, ◌+◌, ◌*◌, ◌<◌, ◌≤◌, Bool, true, false}
use Rattle.std.proofs.lemmas.Bool.Decides.{leb_tells, eqb_tells}
use Rattle.std.proofs.lemmas.List.{length-set}
use Rattle.std.proofs.lemmas.List.Elements.{Contains-append_left, Contains-append_right, Contains-append_cases}
use Rattle.std.specs.Prelude.{Option, Some, None, slice_set}
use Rattle.std.specs.List.{Contains}
use Rattle.adf_format.specs.declared.types.Extent.{Extent}
use Rattle.adf_format.specs.declared.types.ExtentKind.{ExtentKind}
use Rattle.adf_format.specs.Fields.{field}
use Rattle.adf_format.specs.Tree.{Tree, Node}
use Rattle.adf_format.specs.Tiles.{cover, end_of}
use Rattle.adf_format.specs.Parts.{node_length, dimension_digits}
use Rattle.adf_format.specs.Placement.{Placement, NodeParts, ChunkPart, Heap, extent, parts_of, extents_of, node_extents, live_extents, head_extents, table_extents, chunk_table_extents, chunk_extents}
use Rattle.adf_format.specs.Changes.{heap_fields}
use Rattle.adf_format.specs.HeapRule.{parts_or_none, heap_give, data_extents, with_parts}
use Rattle.adf_format.proofs.HeapSteps.{cover-append}
use Rattle.adf_format.proofs.HeapLaws.{in_range}
use Rattle.adf_format.proofs.FrameLaws.{field_kept}
use Rattle.adf_format.proofs.LayoutLaws.{one_of}
use Rattle.adf_model.specs.Untouched.{data_of}
use Rattle.adf_model.proofs.Basics.{same_Some}
use Rattle.adf_model.proofs.Creation.CreatedNodes.{there_inside}
use Rattle.adf_model.proofs.Creation.PartsApart.{range_in, range_out, range_within, cover_all, cover_part, cover_two}
use Rattle.tree_laws.specs.Holding.{Holds, ChangesIn, MeetsNothing}
use Rattle.tree_laws.specs.Leaving.{Leaves}
use Rattle.tree_laws.specs.Gifts.{Gives}
use Rattle.tree_laws.specs.DataSwitch.{Switches, with_data}
use Rattle.tree_laws.specs.LeavingSteps.{SparesAll, LeavesBySparing, TakeLeaves, TakenLeaves, GiftsLeave, DataLeaves}
use Rattle.tree_laws.proofs.Holding.Steps.{within, once}
use Rattle.tree_laws.proofs.Edits.LabelSet.{set_here, set_there}
use Rattle.tree_laws.proofs.Leaving.LeavingLaws.{contains_cover, steps_leave, head_byte}
use Rattle.tree_laws.proofs.Holding.GiftsFolded.{given_one}
use Rattle.tree_laws.proofs.Data.DataSwitched.{own_parts}
use Rattle.adf_model.proofs.Creation.PartExtents.{node_of, of_node}

-- ---- bytes of extents

byte_in : (e : Extent) (b : ℕ) → 0 < cover (e ∷ []) b → (e.place ≤ b) × (b < end_of e)
byte_in e b some = elim (leb_tells e.place b) [
  | inl low ↦ elim (leb_tells (end_of e) b) [
    | inl past ↦ absurd (let z = range_out e.place e.length b (inr past.1) in omega (arith, z, some))
    | inr high ↦ (low.1, high.1)
  ]
  | inr early ↦ absurd (let z = range_out e.place e.length b (inl early.1) in omega (arith, z, some))
]

-- a byte of an extent of a list is one of the list
pub covers : (xs : List Extent) (e : Extent) (b : ℕ) → Contains xs e → 0 < cover (e ∷ []) b → 0 < cover xs b
covers xs e b c some = let i = byte_in e b some in contains_cover xs e b c i.0 i.1

fields_in_head : (b : ℕ) → cover heap_fields b ≤ cover head_extents b
fields_in_head b = let w = range_within 0 186 146 12 b (omega arith) (omega arith) in omega (arith, w)

dims_inside : (wide : Bool) → 130 + 12 * dimension_digits wide ≤ node_length wide
dims_inside false = omega arith
dims_inside true = omega arith

-- the dimensions lie in the header
pub dims_byte : (wide : Bool) (parts : NodeParts) (b : ℕ) → parts.header + 130 ≤ b → b < parts.header + 130 + 12 * dimension_digits wide → in_range parts.header (node_length wide) b ≡ 1
dims_byte wide parts b low high = let m = dims_inside wide in range_in parts.header (node_length wide) b (omega (arith, low)) (omega (arith, high, m))

-- ---- an extent of a node is its header, its table or one of its data

pub own_cases : (wide : Bool) (x : NodeParts) (e : Extent) → Contains (node_extents wide x) e → Contains (extent ExtentKind.Node x.header (node_length wide) ∷ []) e ⊎ (Contains (table_extents x.table) e ⊎ Contains (data_extents x) e)
own_cases wide x e c = elim (Contains-append_cases (extent ExtentKind.Node x.header (node_length wide) ∷ table_extents x.table ++ chunk_table_extents x.chunk_table (length x.chunks)) (chunk_extents x.chunks) e c) [
  | inr k ↦ inr (inr (Contains-append_right (chunk_table_extents x.chunk_table (length x.chunks)) (chunk_extents x.chunks) e k))
  | inl k ↦ elim (Contains-append_cases (extent ExtentKind.Node x.header (node_length wide) ∷ table_extents x.table) (chunk_table_extents x.chunk_table (length x.chunks)) e k) [
    | inr l ↦ inr (inr (Contains-append_left (chunk_table_extents x.chunk_table (length x.chunks)) (chunk_extents x.chunks) e l))
    | inl l ↦ elim (Contains-append_cases (extent ExtentKind.Node x.header (node_length wide) ∷ []) (table_extents x.table) e l) [ inl m ↦ inl m | inr m ↦ inr (inl m) ]
  ]
]

pub table_in : (wide : Bool) (x : NodeParts) (e : Extent) → Contains (table_extents x.table) e → Contains (node_extents wide x) e
table_in wide x e c = Contains-append_left (extent ExtentKind.Node x.header (node_length wide) ∷ table_extents x.table ++ chunk_table_extents x.chunk_table (length x.chunks)) (chunk_extents x.chunks) e
    (Contains-append_left (extent ExtentKind.Node x.header (node_length wide) ∷ table_extents x.table) (chunk_table_extents x.chunk_table (length x.chunks)) e
    (Contains-append_right (extent ExtentKind.Node x.header (node_length wide) ∷ []) (table_extents x.table) e c))

pub data_in : (wide : Bool) (x : NodeParts) (e : Extent) → Contains (data_extents x) e → Contains (node_extents wide x) e
data_in wide x e c = elim (Contains-append_cases (chunk_table_extents x.chunk_table (length x.chunks)) (chunk_extents x.chunks) e c) [
  | inr k ↦ Contains-append_right (extent ExtentKind.Node x.header (node_length wide) ∷ table_extents x.table ++ chunk_table_extents x.chunk_table (length x.chunks)) (chunk_extents x.chunks) e k
  | inl k ↦ Contains-append_left (extent ExtentKind.Node x.header (node_length wide) ∷ table_extents x.table ++ chunk_table_extents x.chunk_table (length x.chunks)) (chunk_extents x.chunks) e
      (Contains-append_right (extent ExtentKind.Node x.header (node_length wide) ∷ table_extents x.table) (chunk_table_extents x.chunk_table (length x.chunks)) e k)
]

-- ---- sparing

module _ (ranges except : List Extent) (shaped : List ℕ) (tree : Tree) (p q : Placement) (taken : List Extent) (old new : List ℕ) (h : Holds old tree p taken) (c : ChangesIn ranges old new) (s : SparesAll ranges except shaped tree.wide p q) where
  kept_there : (place n : ℕ) → ((b : ℕ) → place ≤ b → b < place + n → (0 < cover (live_extents tree.wide p) b) × (cover ranges b ≡ 0)) → field new place n ≡ field old place n
  kept_there place n apart = field_kept n place old new (λ b low high.
      let a = apart b low high in
      let all = cover_all tree.wide p b in
      let some = a.0 in
      c.others b (within old tree p taken h b (omega (arith, some, all))) a.1)

  pub sparing_leaves : Leaves except shaped tree.wide p q old new
  sparing_leaves = record {
    parts = λ e live free.
        let n = node_of tree.wide p.parts e live in
        let x = s.parts n.0 n.1 e n.2 n.3 free in (
          x.0,
          kept_there e.place e.length (λ b low high. (contains_cover (live_extents tree.wide p) e b live low high, x.1 b (let held = range_in e.place e.length b low high in omega (arith, held)))),
        );
    head = λ b le none. c.others b (within old tree p taken h b (let i = head_byte b le in let all = cover_all tree.wide p b in omega (arith, i, all))) (s.head b le none);
    dims = λ k from to free at then.
        let d = s.dims k from to free at then in
        ap (λ (n : ℕ). field new (n + 130) (12 * dimension_digits tree.wide)) d.0
        ∙ kept_there (from.header + 130) (12 * dimension_digits tree.wide) (λ b low high. (
          (let i = dims_byte tree.wide from b low high in let sp = own_parts tree.wide from b in let l = one_of tree.wide p.parts k b from at in omega (arith, i, sp, l)),
          d.1 b low high,
        ));
    drawn = s.drawn;
    before = s.before;
  }

pub leaves_by_sparing : LeavesBySparing
leaves_by_sparing ranges except shaped tree p q taken old new h c s = sparing_leaves ranges except shaped tree p q taken old new h c s

-- ---- no part moves, and none is written

module _ (ranges : List Extent) (old new : List ℕ) (tree : Tree) (p : Placement) (heap : Heap) (taken : List Extent) (h : Holds old tree p taken) (c : ChangesIn ranges old new)
    (head : (b : ℕ) → b ≤ 265 → cover heap_fields b ≡ 0 → cover ranges b ≡ 0) (apart : MeetsNothing ranges (live_extents tree.wide p)) where
  pub all_left : Leaves [] [] tree.wide p (record p { heap = heap }) old new
  all_left = sparing_leaves ranges [] [] tree p (record p { heap = heap }) taken old new h c (record {
    head = head;
    parts = λ k from e at own free. (
      of_node tree.wide p.parts k from e at own,
      λ b some. apart b (let x = covers (node_extents tree.wide from) e b own some in let l = one_of tree.wide p.parts k b from at in omega (arith, x, l)),
    );
    dims = λ k from to free at then. (
      ap (λ (x : NodeParts). x.header) (same_Some to from (sym then ∙ at)),
      λ b low high. apart b (let i = dims_byte tree.wide from b low high in let sp = own_parts tree.wide from b in let l = one_of tree.wide p.parts k b from at in omega (arith, i, sp, l)),
    );
    drawn = omega arith;
    before = λ k to lt e. (to, e);
  })

pub take_leaves : TakeLeaves
take_leaves old new tree p heap taken h c = all_left (heap_fields ++ p.heap.gaps) old new tree p heap taken h c
    (λ b le none. let i = head_byte b le in let one = once old tree p taken h b in let e = cover-append heap_fields p.heap.gaps b in omega (arith, i, one, e, none))
    (λ b some. let f = fields_in_head b in let one = once old tree p taken h b in let e = cover-append heap_fields p.heap.gaps b in omega (arith, f, one, e, some))

pub taken_leaves : TakenLeaves
taken_leaves ranges old new tree p taken h c inside = all_left ranges old new tree p p.heap taken h c
    (λ b le none. clear b (let i = head_byte b le in let one = once old tree p taken h b in omega (arith, i, one)))
    (λ b some. clear b (let one = once old tree p taken h b in omega (arith, one, some)))
  where
    clear : (b : ℕ) → cover taken b ≡ 0 → cover ranges b ≡ 0
    clear b none = decide (cover ranges b) (inside b)
      where
        decide : (n : ℕ) → (0 < n → 0 < cover taken b) → n ≡ 0
        decide zero k = refl
        decide (suc n) k = absurd (let some = k (omega arith) in omega (arith, some, none))

gift_leaves : (e : Extent) (old new : List ℕ) (tree : Tree) (p : Placement) (taken : List Extent) → Holds old tree p (e ∷ taken) → Gives e p.heap old new → Leaves [] [] tree.wide p (record p { heap = heap_give e.place e.length p.heap }) old new
gift_leaves e old new tree p taken h g = all_left (heap_fields ++ e ∷ p.heap.gaps) old new tree p (heap_give e.place e.length p.heap) (e ∷ taken) h g.changes
    (λ b le none. let i = head_byte b le in let one = once old tree p (e ∷ taken) h b in let x = cover-append heap_fields (e ∷ p.heap.gaps) b in omega (arith, i, one, x, none))
    (λ b some. let f = fields_in_head b in let one = once old tree p (e ∷ taken) h b in let x = cover-append heap_fields (e ∷ p.heap.gaps) b in omega (arith, f, one, x, some))

pub gifts_leave : GiftsLeave
gifts_leave [] old new tree p taken long h g = subst (λ image. Leaves [] [] tree.wide p p old image) (sym g) (record {
  parts = λ e live free. (live, refl);
  head = λ b le none. refl;
  dims = λ k from to free at then. ap (λ (x : NodeParts). field old (x.header + 130) (12 * dimension_digits tree.wide)) (same_Some to from (sym then ∙ at));
  drawn = omega arith;
  before = λ k to lt e. (to, e);
})
gifts_leave (e ∷ es) old new tree p taken long h g =
    steps_leave [] [] tree.wide p (record p { heap = heap_give e.place e.length p.heap }) _ old g.0 new (gift_leaves e old g.0 tree p (es ++ taken) h g.1)
    (gifts_leave es g.0 new tree (record p { heap = heap_give e.place e.length p.heap }) taken long.1 (given_one e old g.0 tree p (es ++ taken) long.0 h g.1) g.2)

-- ---- the data of a node

module _ (ranges : List Extent) (old new : List ℕ) (tree : Tree) (p : Placement) (taken kept : List Extent) (s : ℕ) (now : Node) (from : NodeParts) (chunks : List ChunkPart) (table : Option ℕ) (shaped : List ℕ) (h : Holds old tree p taken)
    (stands : parts_of p s ≡ Some from) (w : Switches ranges tree.wide now from chunks table taken kept old new)
    (dims : (Contains shaped s → ⊥) → (b : ℕ) → from.header + 130 ≤ b → b < from.header + 130 + 12 * dimension_digits tree.wide → cover ranges b ≡ 0) where
  abbrev to : NodeParts
  to = with_data from chunks table

  inside : s < length p.parts
  inside = there_inside p.parts s from stands

  at_is : (b : ℕ) → cover (extents_of tree.wide (parts_of p s)) b ≡ cover (node_extents tree.wide from) b
  at_is b = ap (λ (o : Option NodeParts). cover (extents_of tree.wide o) b) stands

  own_live : (b : ℕ) → in_range from.header (node_length tree.wide) b + (cover (table_extents from.table) b + cover (data_extents from) b) ≤ cover (live_extents tree.wide p) b
  own_live b = let c = cover_part (extents_of tree.wide) p.parts s b inside in let y = at_is b in let sp = own_parts tree.wide from b in omega (arith, c, y, sp)

  clear : (b : ℕ) → in_range from.header (node_length tree.wide) b + (cover (data_extents from) b + cover taken b) ≡ 0 → cover ranges b ≡ 0
  clear b none = decide (cover ranges b) (w.within b)
    where
      decide : (n : ℕ) → (0 < n → 0 < cover (extent ExtentKind.Node from.header (node_length tree.wide) ∷ data_extents from ++ taken) b) → n ≡ 0
      decide zero k = refl
      decide (suc n) k = absurd (let some = k (omega arith) in let e = cover-append (data_extents from) taken b in omega (arith, some, e, none))

  -- another node is not written
  other_clear : (k : ℕ) (ms : NodeParts) (b : ℕ) → k ≢ s → parts_of p k ≡ Some ms → 0 < cover (node_extents tree.wide ms) b → cover ranges b ≡ 0
  other_clear k ms b differ at some = clear b (
      let two = cover_two (extents_of tree.wide) p.parts s k b inside (there_inside p.parts k ms at) differ in
      let its : cover (extents_of tree.wide (parts_of p k)) b ≡ cover (node_extents tree.wide ms) b = ap (λ (o : Option NodeParts). cover (extents_of tree.wide o) b) at in
      let y = at_is b in let sp = own_parts tree.wide from b in let one = once old tree p taken h b in
      omega (arith, two, its, y, sp, one, some))

  own_part : (e : Extent) → Contains (node_extents tree.wide from) e → (Contains (data_of tree.wide p s) e → ⊥) → Contains (table_extents from.table) e
  own_part e own free = elim (own_cases tree.wide from e own) [
    | inl k ↦ absurd (free (subst (λ (o : Option NodeParts). Contains (extent ExtentKind.Node (parts_or_none o).header (node_length tree.wide) ∷ data_extents (parts_or_none o)) e) (sym stands)
        (Contains-append_left (extent ExtentKind.Node from.header (node_length tree.wide) ∷ []) (data_extents from) e k)))
    | inr k ↦ elim k [
      | inl l ↦ l
      | inr l ↦ absurd (free (subst (λ (o : Option NodeParts). Contains (extent ExtentKind.Node (parts_or_none o).header (node_length tree.wide) ∷ data_extents (parts_or_none o)) e) (sym stands)
          (Contains-append_right (extent ExtentKind.Node from.header (node_length tree.wide) ∷ []) (data_extents from) e l)))
    ]
  ]

  pub data_left : Leaves (data_of tree.wide p s) shaped tree.wide p (with_parts p s (with_data from chunks table)) old new
  data_left = sparing_leaves ranges (data_of tree.wide p s) shaped tree p (with_parts p s (with_data from chunks table)) taken old new h w.changes (record {
    head = λ b le none. clear b (let i = head_byte b le in let l = own_live b in let one = once old tree p taken h b in omega (arith, i, l, one));
    parts = λ k ms e at own free. elim (eqb_tells k s) [
      | inl t ↦ (
          let is : ms ≡ from = same_Some ms from (sym at ∙ ap (parts_of p) t.1 ∙ stands) in
          let part = own_part e (subst (λ (x : NodeParts). Contains (node_extents tree.wide x) e) is own) free in (
            of_node tree.wide (slice_set p.parts s (Some to)) s to e (set_here p.parts s (Some to) None inside) (table_in tree.wide to e part),
            λ b some. clear b (let x = covers (table_extents from.table) e b part some in let l = own_live b in let one = once old tree p taken h b in omega (arith, x, l, one)),
          ))
      | inr t ↦ (
        of_node tree.wide (slice_set p.parts s (Some to)) k ms e (set_there p.parts s k (Some to) None t.1 ∙ at) own,
        λ b some. other_clear k ms b t.1 at (covers (node_extents tree.wide ms) e b own some),
      )
    ];
    dims = λ k ms to_k free at then. elim (eqb_tells k s) [
      | inl t ↦ (
          let is : ms ≡ from = same_Some ms from (sym at ∙ ap (parts_of p) t.1 ∙ stands) in
          let now_is : to ≡ to_k = same_Some to to_k (sym (set_here p.parts s (Some to) None inside) ∙ ap (λ (j : ℕ). get_or (slice_set p.parts s (Some to)) j None) (sym t.1) ∙ then) in (
            sym (ap (λ (x : NodeParts). x.header) now_is) ∙ ap (λ (x : NodeParts). x.header) (sym is),
            subst (λ (x : NodeParts). (b : ℕ) → x.header + 130 ≤ b → b < x.header + 130 + 12 * dimension_digits tree.wide → cover ranges b ≡ 0) (sym is) (dims (λ m. free (subst (λ j. Contains shaped j) (sym t.1) m))),
          ))
      | inr t ↦ (
        ap (λ (x : NodeParts). x.header) (same_Some to_k ms (sym then ∙ set_there p.parts s k (Some to) None t.1 ∙ at)),
        λ b low high. other_clear k ms b t.1 at (let i = dims_byte tree.wide ms b low high in let sp = own_parts tree.wide ms b in omega (arith, i, sp)),
      )
    ];
    drawn = (let e = length-set p.parts s (Some to) in omega (arith, e));
    before = λ k ms lt e. elim (eqb_tells k s) [
      | inl t ↦ (from, ap (parts_of p) t.1 ∙ stands)
      | inr t ↦ (ms, sym (set_there p.parts s k (Some to) None t.1) ∙ e)
    ];
  })

pub data_leaves : DataLeaves
data_leaves ranges old new tree p taken kept s now from chunks table shaped h stands w dims = data_left ranges old new tree p taken kept s now from chunks table shaped h stands w dims
