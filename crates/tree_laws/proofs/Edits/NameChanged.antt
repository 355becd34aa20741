-- A name that is written in a node's header and in its parent's table: the file holds the tree with that name.
use Rattle.std.proofs.Common.{◌≡◌, ◌≢◌, ◌⊎◌, inl, inr, ℕ, zero, suc, refl, sym, ◌∙◌, ap, subst, arith, List, [], ◌∷◌, ◌++◌, length, map, ◌+◌, ◌-◌, ◌*◌, ◌^◌, ◌<◌, ◌≤◌, Bool, true, false, not}
use Rattle.std.proofs.lemmas.Bool.Decides.{eqb_tells}
use Rattle.std.proofs.lemmas.Option.{slice_get_within}
use Rattle.std.proofs.Math.Seq.{map-set_same}
use Rattle.std.specs.Prelude.{Option, Some, None, slice_get, is_some, IsTrue, ◌==◌, ◌||◌, bytes_eq}
use Rattle.std.specs.List.{list_any}
use Rattle.adf_format.specs.declared.types.Extent.{Extent}
use Rattle.adf_format.specs.declared.types.ExtentKind.{ExtentKind}
use Rattle.adf_format.specs.Fields.{field, text_field}
use Rattle.adf_format.specs.Pointer.{To}
use Rattle.adf_format.specs.Tree.{Tree, Node, IsTree, IsAmong, is_among, node_at, children_of, name_at, AllDiffer}
use Rattle.adf_format.specs.Tiles.{cover}
use Rattle.adf_format.specs.Parts.{SpellsNode, SpellsTable, SpellsEntry, node_length, table_length}
use Rattle.adf_format.specs.Placement.{Placement, NodeParts, TablePart, parts_of, extent, extents_of, node_extents, live_extents, head_extents, all_extents, table_extents, chunk_table_extents, chunk_extents}
use Rattle.adf_format.specs.LaysOut.{HoldsNode, HasTable, fields_of}
use Rattle.adf_format.specs.Changes.{Writes, KeepsBut, AllApart, SameChildren}
use Rattle.adf_format.specs.Records.{entry_text}
use Rattle.adf_format.proofs.HeapSteps.{cover-append}
use Rattle.adf_format.proofs.HeapLaws.{in_range}
use Rattle.adf_format.proofs.BehindEnd.{long_node, long_chunk_table, long_chunks}
use Rattle.adf_format.proofs.FrameLaws.{field_kept, chunk_table_kept, chunks_kept, data_kept}
use Rattle.adf_format.proofs.SpelledParts.{entry_long}
use Rattle.adf_format.proofs.WrittenParts.{entry_written}
use Rattle.adf_model.specs.Edits.{with_node}
use Rattle.adf_model.proofs.Basics.{not_there, not_true, same_Some}
use Rattle.adf_model.proofs.Creation.CreatedNodes.{there_inside, among_get}
use Rattle.adf_model.proofs.Creation.CreatedParts.{padded_long}
use Rattle.adf_model.proofs.Trees.DifferLemmas.{bytes_eq_same, none_equal}
use Rattle.adf_model.proofs.Creation.PartsApart.{range_in, range_within, all_apart, cover_all, cover_two}
use Rattle.tree_laws.specs.Holding.{Holds, ChangesIn, MeetsNothing}
use Rattle.tree_laws.proofs.Holding.Steps.{within, keeps_but, once, rebuilt}
use Rattle.tree_laws.proofs.Holding.NodeFields.{name_written}
use Rattle.tree_laws.proofs.Holding.NodeKept.{header_changed}
use Rattle.tree_laws.proofs.Edits.LabelSet.{set_here, set_there}
use Rattle.tree_laws.proofs.Holding.OwnRanges.{out, two_written}

least : (wide : Bool) → 246 ≤ node_length wide
least false = omega arith
least true = omega arith

-- children with different names stand once
one_place : (f : ℕ → List ℕ) (xs : List ℕ) (i j c : ℕ) → AllDiffer (map f xs) → slice_get xs i ≡ Some c → slice_get xs j ≡ Some c → i ≡ j
one_place f [] i j c d e g = absurd (not_there c e)
one_place f (x ∷ xs) zero zero c d e g = refl
one_place f (x ∷ xs) (suc i) (suc j) c d e g = ap suc (one_place f xs i j c d.1 e g)
one_place f (x ∷ xs) zero (suc j) c d e g = absurd (twice f x xs c d.0 (same_Some x c e) (among_get xs j c g))
  where
    not_any : (b : Bool) → IsTrue (not b) → b ≡ false
    not_any true h = cc
    not_any false h = refl

    twice : (f : ℕ → List ℕ) (x : ℕ) (xs : List ℕ) (c : ℕ) → IsTrue (not (list_any (bytes_eq (f x)) (map f xs))) → x ≡ c → IsAmong xs c → ⊥
    twice f x xs c d e h =
        let none : bytes_eq (f x) (f c) ≡ false = none_equal (f x) f xs (not_any (list_any (bytes_eq (f x)) (map f xs)) d) c h in
        not_true (sym none ∙ ap (λ (y : ℕ). bytes_eq (f y) (f c)) e ∙ bytes_eq_same (f c))
one_place f (x ∷ xs) (suc i) zero c d e g = absurd (twice f x xs c d.0 (same_Some x c g) (among_get xs i c e))
  where
    not_any : (b : Bool) → IsTrue (not b) → b ≡ false
    not_any true h = cc
    not_any false h = refl

    twice : (f : ℕ → List ℕ) (x : ℕ) (xs : List ℕ) (c : ℕ) → IsTrue (not (list_any (bytes_eq (f x)) (map f xs))) → x ≡ c → IsAmong xs c → ⊥
    twice f x xs c d e h =
        let none : bytes_eq (f x) (f c) ≡ false = none_equal (f x) f xs (not_any (list_any (bytes_eq (f x)) (map f xs)) d) c h in
        not_true (sym none ∙ ap (λ (y : ℕ). bytes_eq (f y) (f c)) e ∙ bytes_eq_same (f c))

module _ (old middle new : List ℕ) (tree : Tree) (p : Placement) (taken : List Extent) (s par i : ℕ) (node parent : Node) (its at : NodeParts) (t : TablePart) (name : List ℕ) (h : Holds old tree p taken) (here : node_at tree s ≡ Some node) (stands : parts_of p s ≡ Some its)
    (over : node_at tree par ≡ Some parent) (placed : parts_of p par ≡ Some at) (has : at.table ≡ Some t) (listed : slice_get parent.children i ≡ Some s) (differ : par ≢ s) (short : length name ≤ 32) (few : length node.dims ≤ 12) (near : its.header < 2 ^ 44)
    (v : Writes (its.header + 4) (text_field 32 name) old middle) (w : Writes (t.place + 16 + 44 * i) (entry_text (text_field 32 name) (To its.header)) middle new) where
  abbrev now : Node
  now = record node { name = name }

  abbrev after : Tree
  after = with_node tree s now

  abbrev ranges : List Extent
  ranges = extent ExtentKind.Node (its.header + 4) 32 ∷ extent ExtentKind.SubNodes (t.place + 16 + 44 * i) 44 ∷ []

  changes : ChangesIn ranges old new
  changes = two_written ExtentKind.Node ExtentKind.SubNodes (its.header + 4) 32 (t.place + 16 + 44 * i) 44 (text_field 32 name) (entry_text (text_field 32 name) (To its.header)) old middle new v (padded_long name short) w (entry_long name its.header short)

  inside : s < length p.parts
  inside = there_inside p.parts s its stands

  par_inside : par < length p.parts
  par_inside = there_inside p.parts par at placed

  abbrev own_rest : List Extent
  own_rest = table_extents its.table ++ chunk_table_extents its.chunk_table (length its.chunks) ++ chunk_extents its.chunks

  abbrev rest : List Extent
  rest = chunk_table_extents at.chunk_table (length at.chunks) ++ chunk_extents at.chunks

  its_split : (b : ℕ) → cover (node_extents tree.wide its) b ≡ in_range its.header (node_length tree.wide) b + cover own_rest b
  its_split b = omega arith

  at_split : (b : ℕ) → cover (node_extents tree.wide at) b ≡ in_range at.header (node_length tree.wide) b + (in_range t.place (table_length t.entries) b + cover rest b)
  at_split b =
      let e = cover-append (extent ExtentKind.Node at.header (node_length tree.wide) ∷ table_extents at.table ++ chunk_table_extents at.chunk_table (length at.chunks)) (chunk_extents at.chunks) b in
      let f = cover-append (table_extents at.table) (chunk_table_extents at.chunk_table (length at.chunks)) b in
      let k = cover-append (chunk_table_extents at.chunk_table (length at.chunks)) (chunk_extents at.chunks) b in
      let g : cover (table_extents at.table) b ≡ in_range t.place (table_length t.entries) b + 0 = ap (λ (o : Option TablePart). cover (table_extents o) b) has in
      omega (arith, e, f, k, g)

  its_is : (b : ℕ) → cover (extents_of tree.wide (parts_of p s)) b ≡ cover (node_extents tree.wide its) b
  its_is b = ap (λ (o : Option NodeParts). cover (extents_of tree.wide o) b) stands

  at_is : (b : ℕ) → cover (extents_of tree.wide (parts_of p par)) b ≡ cover (node_extents tree.wide at) b
  at_is b = ap (λ (o : Option NodeParts). cover (extents_of tree.wide o) b) placed

  both_live : (b : ℕ) → cover (node_extents tree.wide its) b + cover (node_extents tree.wide at) b ≤ cover (live_extents tree.wide p) b
  both_live b = let two = cover_two (extents_of tree.wide) p.parts s par b inside par_inside differ in let x = its_is b in let y = at_is b in omega (arith, two, x, y)

  owned : (b : ℕ) → cover taken b + (cover head_extents b + cover (live_extents tree.wide p) b + cover p.heap.gaps b) ≤ 1
  owned = once old tree p taken h

  held : (b : ℕ) → 0 < cover (live_extents tree.wide p) b → b < length old
  held b some = within old tree p taken h b (let all = cover_all tree.wide p b in omega (arith, all, some))

  at_was : HoldsNode old tree p parent at
  at_was = h.nodes par parent at over placed

  table_was : HasTable old tree p parent (Some t)
  table_was = subst (λ (o : Option TablePart). HasTable old tree p parent o) has at_was.table

  below : i < t.entries
  below = let lt : i < length parent.children = slice_get_within parent.children i s listed in let le = table_was.1 in omega (arith, lt, le)

  in_ranges : (b : ℕ) → cover ranges b ≤ in_range its.header (node_length tree.wide) b + in_range t.place (table_length t.entries) b
  in_ranges b =
      let m = least tree.wide in
      let lt = below in
      let x = range_within its.header (node_length tree.wide) (its.header + 4) 32 b (omega arith) (omega (arith, m)) in
      let y = range_within t.place (table_length t.entries) (t.place + 16 + 44 * i) 44 b (omega arith) (omega (arith, lt)) in
      omega (arith, x, y)

  header_ends : its.header + node_length tree.wide ≤ length old
  header_ends =
      let m = least tree.wide in
      let k = range_in its.header (node_length tree.wide) (its.header + node_length tree.wide - 1) (omega (arith, m)) (omega (arith, m)) in
      let sp = its_split (its.header + node_length tree.wide - 1) in
      let l = both_live (its.header + node_length tree.wide - 1) in
      let lt = held (its.header + node_length tree.wide - 1) (omega (arith, k, sp, l)) in
      omega (arith, lt, m)

  table_ends : t.place + table_length t.entries ≤ length old
  table_ends =
      let k = range_in t.place (table_length t.entries) (t.place + table_length t.entries - 1) (omega arith) (omega arith) in
      let sp = at_split (t.place + table_length t.entries - 1) in
      let l = both_live (t.place + table_length t.entries - 1) in
      let lt = held (t.place + table_length t.entries - 1) (omega (arith, k, sp, l)) in
      omega (arith, lt)

  -- the table is beside the header
  table_same : field middle t.place (table_length t.entries) ≡ field old t.place (table_length t.entries)
  table_same = field_kept (table_length t.entries) t.place old middle (λ b low high.
      let k = range_in t.place (table_length t.entries) b low high in
      let m = least tree.wide in
      let x = range_within its.header (node_length tree.wide) (its.header + 4) 32 b (omega arith) (omega (arith, m)) in
      let sp = its_split b in let sa = at_split b in let l = both_live b in let one = owned b in let e = table_ends in
      v.others b (omega (arith, e, high)) (out (its.header + 4) 32 b (length (text_field 32 name)) (padded_long name short) (omega (arith, k, x, sp, sa, l, one))))

  header_same : field new its.header (node_length tree.wide) ≡ field middle its.header (node_length tree.wide)
  header_same = field_kept (node_length tree.wide) its.header middle new (λ b low high.
      let k = range_in its.header (node_length tree.wide) b low high in
      let lt = below in
      let y = range_within t.place (table_length t.entries) (t.place + 16 + 44 * i) 44 b (omega arith) (omega (arith, lt)) in
      let sp = its_split b in let sa = at_split b in let l = both_live b in let one = owned b in let e = header_ends in let g = v.longer in
      w.others b (omega (arith, e, g, high)) (out (t.place + 16 + 44 * i) 44 b (length (entry_text (text_field 32 name) (To its.header))) (entry_long name its.header short) (omega (arith, k, y, sp, sa, l, one))))

  keeps : KeepsBut ranges (length old - 1) old new
  keeps = keeps_but old tree p taken h ranges new changes

  -- ---- nodes and their children

  here_now : node_at after s ≡ Some now
  here_now = set_here tree.nodes s (Some now) None (there_inside tree.nodes s node here)

  there_now : (k : ℕ) → k ≢ s → node_at after k ≡ node_at tree k
  there_now k other = set_there tree.nodes s k (Some now) None other

  same_but : (children : List ℕ) → ((j c : ℕ) → slice_get children j ≡ Some c → c ≢ s) → SameChildren tree p after p children
  same_but children none j c m ms e f g = (m, ms, sym (there_now c (none j c e)) ∙ f, g, refl, refl)

  not_child : (k : ℕ) (m : Node) → node_at tree k ≡ Some m → k ≢ par → (j c : ℕ) → slice_get m.children j ≡ Some c → c ≢ s
  not_child k m e other j c g same =
      other (h.is_tree.one_parent k par s
      (subst (λ xs. IsAmong xs s) (sym (ap children_of e)) (subst (λ x. IsAmong m.children x) same (among_get m.children j c g)))
      (subst (λ xs. IsAmong xs s) (sym (ap children_of over)) (among_get parent.children i s listed)))

  -- ---- the node itself

  own_apart : AllApart ranges (length old - 1) own_rest
  own_apart = all_apart ranges (length old - 1) own_rest (long_node old tree p node its (h.nodes s node its here stands)).1 (λ b some.
      let sp = its_split b in let sa = at_split b in let l = both_live b in let o = in_ranges b in let one = owned b in
      ((let lt = held b (omega (arith, sp, l, some)) in omega (arith, lt)), omega (arith, sp, sa, l, o, one, some)))

  its_node : HoldsNode new after p now its
  its_node = header_changed ranges (length old - 1) old new keeps tree after p p node now its refl refl refl own_apart (same_but node.children (not_child s node here (λ e. differ (sym e))))
      (subst (λ bytes. SpellsNode tree.wide bytes (fields_of now its)) (sym header_same) (name_written tree.wide old middle its.header (fields_of node its) name v header_ends short few (h.nodes s node its here stands).header))
      (h.nodes s node its here stands)

  -- ---- its parent

  far : (xs : List Extent) → ((b : ℕ) → cover xs b ≤ cover rest b) → (b : ℕ) → 0 < cover xs b → (b ≤ length old - 1) × (cover ranges b ≡ 0)
  far xs among b some =
      let a = among b in let sp = its_split b in let sa = at_split b in let l = both_live b in let o = in_ranges b in let one = owned b in
      ((let lt = held b (omega (arith, a, sa, l, some)) in omega (arith, lt)), omega (arith, a, sp, sa, l, o, one, some))

  rest_split : (b : ℕ) → cover rest b ≡ cover (chunk_table_extents at.chunk_table (length at.chunks)) b + cover (chunk_extents at.chunks) b
  rest_split b = cover-append (chunk_table_extents at.chunk_table (length at.chunks)) (chunk_extents at.chunks) b

  table_apart : AllApart ranges (length old - 1) (chunk_table_extents at.chunk_table (length at.chunks))
  table_apart = all_apart ranges (length old - 1) (chunk_table_extents at.chunk_table (length at.chunks)) (long_chunk_table at.chunk_table (length at.chunks))
      (far (chunk_table_extents at.chunk_table (length at.chunks)) (λ b. let e = rest_split b in omega (arith, e)))

  chunks_apart : AllApart ranges (length old - 1) (chunk_extents at.chunks)
  chunks_apart = all_apart ranges (length old - 1) (chunk_extents at.chunks) (long_chunks old at.chunks at_was.chunks) (far (chunk_extents at.chunks) (λ b. let e = rest_split b in omega (arith, e)))

  at_header_same : field new at.header (node_length tree.wide) ≡ field old at.header (node_length tree.wide)
  at_header_same = field_kept (node_length tree.wide) at.header old new (λ b low high.
      let k = range_in at.header (node_length tree.wide) b low high in
      let sp = its_split b in let sa = at_split b in let l = both_live b in let o = in_ranges b in let one = owned b in
      changes.others b (held b (omega (arith, k, sa, l))) (omega (arith, k, sp, sa, l, o, one)))

  same_or_not : (a b : ℕ) → (a ≡ b) ⊎ (a ≢ b)
  same_or_not a b = elim (eqb_tells a b) [ inl x ↦ inl x.1 | inr x ↦ inr x.1 ]

  table_now : HasTable new after p parent (Some t)
  table_now =
      let made = entry_written t.place t.entries i its.header name middle new below near short (let e = table_ends in let g = v.longer in omega (arith, e, g)) w (subst (λ bytes. SpellsTable bytes t.place t.entries) (sym table_same) table_was.2) in (
        table_was.0,
        table_was.1,
        made.0,
        λ j child m ms e f g. elim (same_or_not j i) [
          | inl same ↦ (
              let c_is : child ≡ s = same_Some child s (sym e ∙ ap (slice_get parent.children) same ∙ listed) in
              let m_is : now ≡ m = same_Some now m (sym here_now ∙ ap (node_at after) (sym c_is) ∙ f) in
              let ms_is : its ≡ ms = same_Some its ms (sym stands ∙ ap (parts_of p) (sym c_is) ∙ g) in
              subst (λ (k : ℕ). SpellsEntry (field new t.place (table_length t.entries)) k m.name ms.header) (sym same)
              (subst (λ (x : Node). SpellsEntry (field new t.place (table_length t.entries)) i x.name ms.header) m_is (subst (λ (x : NodeParts). SpellsEntry (field new t.place (table_length t.entries)) i name x.header) ms_is made.1))
              )
          | inr other ↦ (
              let c_not : child ≢ s = λ c_is. other (one_place (name_at tree) parent.children j i s (subst (λ xs. AllDiffer (map (name_at tree) xs)) (ap children_of over) (h.is_tree.siblings par)) (e ∙ ap (λ (x : ℕ). Some x) c_is) listed) in
              made.2 j ms.header m.name (let lt = slice_get_within parent.children j child e in let le = table_was.1 in omega (arith, lt, le)) other
              (subst (λ bytes. SpellsEntry bytes j m.name ms.header) (sym table_same) (table_was.3 j child m ms e (sym (there_now child c_not) ∙ f) g))
              )
        ],
      )

  at_node : HoldsNode new after p parent at
  at_node = record {
    header = subst (λ bytes. SpellsNode tree.wide bytes (fields_of parent at)) (sym at_header_same) at_was.header;
    table = subst (λ (o : Option TablePart). HasTable new after p parent o) (sym has) table_now;
    chunk_table = chunk_table_kept ranges (length old - 1) old new keeps at.chunks at.chunk_table table_apart at_was.chunk_table;
    chunks = chunks_kept ranges (length old - 1) old new keeps at.chunks chunks_apart at_was.chunks;
    bytes = data_kept ranges (length old - 1) old new keeps at.chunks parent.bytes chunks_apart at_was.bytes;
  }

  -- ---- the whole

  pub name_changed : IsTree after → Holds new after p taken
  name_changed is = rebuilt ranges (s ∷ par ∷ []) tree after p p taken taken old new h (record {
    is_tree = is;
    wide = refl;
    format = refl;
    same_nodes = h.same_nodes ∙ sym (map-set_same is_some tree.nodes s (Some now) None (sym (ap is_some here)));
    heap = refl;
    root = λ from e. (from, e, refl);
    changes = changes;
    apart = λ b some.
        let o = in_ranges b in let sp = its_split b in let sa = at_split b in let l = both_live b in let one = owned b in
        let both = cover-append head_extents p.heap.gaps b in
        omega (arith, o, sp, sa, l, one, both, some);
    owners = λ b. refl;
    beyond = λ b le.
        let x = changes.longer in
        let none : cover (all_extents tree.wide p) b ≡ 0 = h.beyond b (omega (arith, x, le)) in
        let all = cover_all tree.wide p b in omega (arith, none, all);
    others = λ k m ms unheld e f. other k m ms (apart_from k unheld) e f;
    those = λ k m ms among e f. that k m ms (one_of_two k among) e f;
  })
    where
      apart_from : (k : ℕ) → is_among (s ∷ par ∷ []) k ≡ false → (k ≢ s) × (k ≢ par)
      apart_from k e = (λ same. first (eqb_tells s k) same, λ same. second (eqb_tells par k) same)
        where
          first : (((s == k) ≡ true) × (s ≡ k)) ⊎ (((s == k) ≡ false) × (s ≢ k)) → k ≡ s → ⊥
          first (inl x) same = both (s == k) (par == k) x.0 e
            where
              both : (a b : Bool) → a ≡ true → (a || (b || false)) ≡ false → ⊥
              both true b p q = cc
              both false b p q = cc
          first (inr x) same = x.1 (sym same)

          second : (((par == k) ≡ true) × (par ≡ k)) ⊎ (((par == k) ≡ false) × (par ≢ k)) → k ≡ par → ⊥
          second (inl x) same = both (s == k) (par == k) x.0 e
            where
              both : (a b : Bool) → b ≡ true → (a || (b || false)) ≡ false → ⊥
              both true b p q = cc
              both false true p q = cc
              both false false p q = cc
          second (inr x) same = x.1 (sym same)

      one_of_two : (k : ℕ) → is_among (s ∷ par ∷ []) k ≡ true → (k ≡ s) ⊎ (k ≡ par)
      one_of_two k e = elim (eqb_tells s k) [
        | inl x ↦ inl (sym x.1)
        | inr x ↦ elim (eqb_tells par k) [ inl u ↦ inr (sym u.1) | inr u ↦ absurd (neither (s == k) (par == k) x.0 u.0 e) ]
      ]
        where
          neither : (a b : Bool) → a ≡ false → b ≡ false → (a || (b || false)) ≡ true → ⊥
          neither true b p q r = cc
          neither false true p q r = cc
          neither false false p q r = cc

      other : (k : ℕ) (m : Node) (ms : NodeParts) → (k ≢ s) × (k ≢ par) → node_at after k ≡ Some m → parts_of p k ≡ Some ms
          → (node_at tree k ≡ Some m) × (parts_of p k ≡ Some ms) × MeetsNothing ranges (node_extents tree.wide ms) × SameChildren tree p after p m.children
      other k m ms d e f =
          let at_tree : node_at tree k ≡ Some m = sym (there_now k d.0) ∙ e in (
            at_tree,
            f,
            λ b some.
                let two = cover_two (extents_of tree.wide) p.parts s k b inside (there_inside p.parts k ms f) d.0 in
                let too = cover_two (extents_of tree.wide) p.parts par k b par_inside (there_inside p.parts k ms f) d.1 in
                let its_own : cover (extents_of tree.wide (parts_of p k)) b ≡ cover (node_extents tree.wide ms) b = ap (λ (o : Option NodeParts). cover (extents_of tree.wide o) b) f in
                let x = its_is b in let y = at_is b in let o = in_ranges b in let sp = its_split b in let sa = at_split b in let one = owned b in
                omega (arith, two, too, its_own, x, y, o, sp, sa, one, some),
            same_but m.children (not_child k m at_tree d.1),
          )

      that : (k : ℕ) (m : Node) (ms : NodeParts) → (k ≡ s) ⊎ (k ≡ par) → node_at after k ≡ Some m → parts_of p k ≡ Some ms → HoldsNode new after p m ms
      that k m ms (inl same) e f =
          let is_node : now ≡ m = same_Some now m (sym here_now ∙ ap (node_at after) (sym same) ∙ e) in
          let at_parts : its ≡ ms = same_Some its ms (sym stands ∙ ap (parts_of p) (sym same) ∙ f) in
          subst (λ (x : Node). HoldsNode new after p x ms) is_node (subst (λ (x : NodeParts). HoldsNode new after p now x) at_parts its_node)
      that k m ms (inr same) e f =
          let is_node : parent ≡ m = same_Some parent m (sym (there_now par differ ∙ over) ∙ ap (node_at after) (sym same) ∙ e) in
          let at_parts : at ≡ ms = same_Some at ms (sym placed ∙ ap (parts_of p) (sym same) ∙ f) in
          subst (λ (x : Node). HoldsNode new after p x ms) is_node (subst (λ (x : NodeParts). HoldsNode new after p parent x) at_parts at_node)
