-- The label of a node is written in its header: the file holds the tree with that label.
use Rattle.std.proofs.Common.{◌≡◌, ◌≢◌, ◌⊎◌, inl, inr, ℕ, zero, suc, refl, sym, ◌∙◌, ap, subst, arith, List, [], ◌∷◌, ◌++◌, length, get_or, ◌+◌, ◌-◌, ◌<◌, ◌≤◌, Bool, true, false}
use Rattle.std.proofs.lemmas.Bool.Decides.{leb_tells, eqb_tells}
use Rattle.std.proofs.Math.Seq.{map-set_same}
use Rattle.std.specs.Prelude.{Option, Some, None, slice_set, is_some, ◌||◌}
use Rattle.adf_format.specs.declared.types.Extent.{Extent}
use Rattle.adf_format.specs.declared.types.ExtentKind.{ExtentKind}
use Rattle.adf_format.specs.Fields.{text_field}
use Rattle.adf_format.specs.Tree.{Tree, Node, IsTree, node_at, is_among}
use Rattle.adf_format.specs.Tiles.{cover}
use Rattle.adf_format.specs.Parts.{node_length}
use Rattle.adf_format.specs.Placement.{Placement, NodeParts, parts_of, extent, extents_of, node_extents, live_extents, head_extents, all_extents, table_extents, chunk_table_extents, chunk_extents}
use Rattle.adf_format.specs.LaysOut.{HoldsNode, fields_of}
use Rattle.adf_format.specs.Changes.{Writes, AllApart, SameChildren}
use Rattle.adf_format.proofs.HeapSteps.{cover-append}
use Rattle.adf_format.proofs.HeapLaws.{in_range}
use Rattle.adf_format.proofs.BehindEnd.{long_node}
use Rattle.adf_model.specs.Edits.{with_node}
use Rattle.adf_model.proofs.Basics.{same_Some}
use Rattle.adf_model.proofs.Creation.CreatedNodes.{there_inside}
use Rattle.adf_model.proofs.Creation.CreatedParts.{padded_long}
use Rattle.adf_model.proofs.Creation.PartsApart.{range_in, range_within, all_apart, cover_all, cover_part, cover_two}
use Rattle.tree_laws.specs.Holding.{Holds, ChangesIn, MeetsNothing}
use Rattle.tree_laws.proofs.Holding.Steps.{within, keeps_but, once, rebuilt}
use Rattle.tree_laws.proofs.Holding.NodeFields.{label_written}
use Rattle.tree_laws.proofs.Holding.NodeKept.{header_changed}

pub set_here : {A : Type 0} (xs : List A) (s : ℕ) (x d : A) → s < length xs → get_or (slice_set xs s x) s d ≡ x
set_here [] s x d lt = absurd (omega (arith, lt))
set_here (y ∷ xs) zero x d lt = refl
set_here (y ∷ xs) (suc s) x d lt = set_here xs s x d (omega (arith, lt))

pub set_there : {A : Type 0} (xs : List A) (s k : ℕ) (x d : A) → k ≢ s → get_or (slice_set xs s x) k d ≡ get_or xs k d
set_there [] s k x d differ = refl
set_there (y ∷ xs) zero zero x d differ = absurd (differ refl)
set_there (y ∷ xs) zero (suc k) x d differ = refl
set_there (y ∷ xs) (suc s) zero x d differ = refl
set_there (y ∷ xs) (suc s) (suc k) x d differ = set_there xs s k x d (λ e. differ (ap suc e))

-- a write is a change in its own range
pub written_in : (kind : ExtentKind) (place n : ℕ) (text old new : List ℕ) → Writes place text old new → length text ≡ n → ChangesIn (extent kind place n ∷ []) old new
written_in kind place n text old new w long = record { longer = w.longer; others = λ b lt none. w.others b lt (out b none) }
  where
    out : (b : ℕ) → in_range place n b + 0 ≡ 0 → (b < place) ⊎ (place + length text ≤ b)
    out b none = elim (leb_tells place b) [
      | inr before ↦ inl before.1
      | inl from ↦ elim (leb_tells (place + length text) b) [
        | inl behind ↦ inr behind.1
        | inr inside ↦ absurd (let held = range_in place n b from.1 (let i = inside.1 in omega (arith, i, long)) in omega (arith, held, none))
      ]
    ]

pub one_among : (s k : ℕ) → (t : Bool) → is_among (s ∷ []) k ≡ t → ((t ≡ true) × (k ≡ s)) ⊎ ((t ≡ false) × (k ≢ s))
one_among s k t e = elim (eqb_tells s k) [
  | inl h ↦ inl (sym e ∙ ap (λ (b : Bool). b || false) h.0, sym h.1)
  | inr h ↦ inr (sym e ∙ ap (λ (b : Bool). b || false) h.0, λ same. h.1 (sym same))
]

module _ (old new : List ℕ) (tree : Tree) (p : Placement) (taken : List Extent) (s : ℕ) (node : Node) (parts : NodeParts) (label : List ℕ) (h : Holds old tree p taken) (here : node_at tree s ≡ Some node) (stands : parts_of p s ≡ Some parts) (short : length label ≤ 32)
    (few : length node.dims ≤ 12) (w : Writes (parts.header + 36) (text_field 32 label) old new) where
  abbrev now : Node
  now = record node { label = label }

  abbrev after : Tree
  after = with_node tree s now

  abbrev ranges : List Extent
  ranges = extent ExtentKind.Node (parts.header + 36) 32 ∷ []

  changes : ChangesIn ranges old new
  changes = written_in ExtentKind.Node (parts.header + 36) 32 (text_field 32 label) old new w (padded_long label short)

  least : (wide : Bool) → 246 ≤ node_length wide
  least false = omega arith
  least true = omega arith

  -- the label lies in the node's own header
  own : (b : ℕ) → cover ranges b ≤ in_range parts.header (node_length tree.wide) b
  own b = let r = range_within parts.header (node_length tree.wide) (parts.header + 36) 32 b (omega arith) (let m = least tree.wide in omega (arith, m)) in omega (arith, r)

  inside : s < length p.parts
  inside = there_inside p.parts s parts stands

  part : (b : ℕ) → cover (node_extents tree.wide parts) b ≤ cover (live_extents tree.wide p) b
  part b =
      let c = cover_part (extents_of tree.wide) p.parts s b inside in
      let same : cover (extents_of tree.wide (parts_of p s)) b ≡ cover (node_extents tree.wide parts) b = ap (λ (o : Option NodeParts). cover (extents_of tree.wide o) b) stands in
      omega (arith, c, same)

  abbrev rest : List Extent
  rest = table_extents parts.table ++ chunk_table_extents parts.chunk_table (length parts.chunks) ++ chunk_extents parts.chunks

  node_split : (b : ℕ) → cover (node_extents tree.wide parts) b ≡ in_range parts.header (node_length tree.wide) b + cover rest b
  node_split b = omega arith

  header_ends : parts.header + node_length tree.wide ≤ length old
  header_ends =
      let m = least tree.wide in
      let held = range_in parts.header (node_length tree.wide) (parts.header + node_length tree.wide - 1) (omega (arith, m)) (omega (arith, m)) in
      let sp = node_split (parts.header + node_length tree.wide - 1) in
      let pt = part (parts.header + node_length tree.wide - 1) in
      let all = cover_all tree.wide p (parts.header + node_length tree.wide - 1) in
      let lt = within old tree p taken h (parts.header + node_length tree.wide - 1) (omega (arith, held, sp, pt, all)) in
      omega (arith, lt, m)

  same_name : (k : ℕ) (m : Node) → node_at after k ≡ Some m → (was : Node) × (node_at tree k ≡ Some was) × (was.name ≡ m.name)
  same_name k m e = elim (eqb_tells k s) [
    | inl t ↦ (
        let is : now ≡ m = same_Some now m (sym (set_here tree.nodes s (Some now) None (there_inside tree.nodes s node here)) ∙ ap (node_at after) (sym t.1) ∙ e) in
        (node, ap (node_at tree) t.1 ∙ here, ap (λ (x : Node). x.name) is))
    | inr t ↦ (m, sym (set_there tree.nodes s k (Some now) None t.1) ∙ e, refl)
  ]

  same_children : (children : List ℕ) → SameChildren tree p after p children
  same_children children i child m at e f g = let r = same_name child m f in (r.0, at, r.1, g, r.2, refl)

  rest_apart : AllApart ranges (length old - 1) rest
  rest_apart = all_apart ranges (length old - 1) rest (long_node old tree p node parts (h.nodes s node parts here stands)).1 (λ b some.
      let sp = node_split b in
      let pt = part b in
      let o = own b in
      let one = once old tree p taken h b in
      let all = cover_all tree.wide p b in
      ((let lt = within old tree p taken h b (omega (arith, sp, pt, all, some)) in omega (arith, lt)), omega (arith, sp, pt, o, one, some)))

  its_node : HoldsNode new after p now parts
  its_node = header_changed ranges (length old - 1) old new (keeps_but old tree p taken h ranges new changes) tree after p p node now parts refl refl refl rest_apart (same_children node.children)
      (label_written tree.wide old new parts.header (fields_of node parts) label w header_ends short few (h.nodes s node parts here stands).header) (h.nodes s node parts here stands)

  pub label_set : IsTree after → Holds new after p taken
  label_set is = rebuilt ranges (s ∷ []) tree after p p taken taken old new h (record {
    is_tree = is;
    wide = refl;
    format = refl;
    same_nodes = h.same_nodes ∙ sym (map-set_same is_some tree.nodes s (Some now) None (sym (ap is_some here)));
    heap = refl;
    root = λ from e. (from, e, refl);
    changes = changes;
    apart = λ b some.
        let o = own b in
        let sp = node_split b in
        let pt = part b in
        let one = once old tree p taken h b in
        let both = cover-append head_extents p.heap.gaps b in
        omega (arith, o, sp, pt, one, both, some);
    owners = λ b. refl;
    beyond = λ b le.
        let none : cover (all_extents tree.wide p) b ≡ 0 = h.beyond b (let l = w.longer in omega (arith, l, le)) in
        let all = cover_all tree.wide p b in omega (arith, none, all);
    others = λ k m ms free e f. other k m ms (one_among s k false free) e f;
    those = λ k m ms held e f. that k m ms (one_among s k true held) e f;
  })
    where
      other : (k : ℕ) (m : Node) (ms : NodeParts) → ((false ≡ true) × (k ≡ s)) ⊎ ((false ≡ false) × (k ≢ s)) → node_at after k ≡ Some m → parts_of p k ≡ Some ms
          → (node_at tree k ≡ Some m) × (parts_of p k ≡ Some ms) × MeetsNothing ranges (node_extents tree.wide ms) × SameChildren tree p after p m.children
      other k m ms (inl c) e f = cc
      other k m ms (inr c) e f = (
        sym (set_there tree.nodes s k (Some now) None c.1) ∙ e,
        f,
        λ b some.
            let two = cover_two (extents_of tree.wide) p.parts s k b inside (there_inside p.parts k ms f) c.1 in
            let its : cover (extents_of tree.wide (parts_of p k)) b ≡ cover (node_extents tree.wide ms) b = ap (λ (o : Option NodeParts). cover (extents_of tree.wide o) b) f in
            let ours : cover (extents_of tree.wide (parts_of p s)) b ≡ cover (node_extents tree.wide parts) b = ap (λ (o : Option NodeParts). cover (extents_of tree.wide o) b) stands in
            let o = own b in
            let sp = node_split b in
            let one = once old tree p taken h b in
            omega (arith, two, its, ours, o, sp, one, some),
        same_children m.children,
      )

      that : (k : ℕ) (m : Node) (ms : NodeParts) → ((true ≡ true) × (k ≡ s)) ⊎ ((true ≡ false) × (k ≢ s)) → node_at after k ≡ Some m → parts_of p k ≡ Some ms → HoldsNode new after p m ms
      that k m ms (inr c) e f = cc
      that k m ms (inl c) e f =
          let is : now ≡ m = same_Some now m (sym (set_here tree.nodes s (Some now) None (there_inside tree.nodes s node here)) ∙ ap (node_at after) (sym c.1) ∙ e) in
          let at : parts ≡ ms = same_Some parts ms (sym stands ∙ ap (parts_of p) (sym c.1) ∙ f) in
          subst (λ (x : Node). HoldsNode new after p x ms) is (subst (λ (x : NodeParts). HoldsNode new after p now x) at its_node)
