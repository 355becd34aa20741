-- Lists of children change, and with them the headers and the tables of some nodes: each part stays where it is, and all other nodes as they are.
use Rattle.std.proofs.Common.{◌≡◌, ◌≢◌, ◌⊎◌, inl, inr, ℕ, zero, suc, refl, sym, ◌∙◌, ap, subst, arith, List, [], ◌∷◌, ◌++◌, length, length-append, map, take, drop, filter, not, ◌+◌, ◌-◌, ◌<◌, ◌≤◌, Bool, true, false}
use Rattle.std.proofs.lemmas.Bool.Decides.{eqb_tells}
use Rattle.std.proofs.lemmas.List.{length-take, length-drop}
use Rattle.std.proofs.lemmas.Option.{slice_get_within}
use Rattle.std.specs.Prelude.{Some, slice_get, is_some, ◌==◌, ◌||◌}
use Rattle.adf_format.specs.declared.types.Extent.{Extent}
use Rattle.adf_format.specs.Fields.{field}
use Rattle.adf_format.specs.Tree.{Tree, Node, IsTree, is_among, node_at, name_of, name_at, AllDiffer}
use Rattle.adf_format.specs.Tiles.{cover}
use Rattle.adf_format.specs.Parts.{SpellsNode, node_length}
use Rattle.adf_format.specs.Placement.{Placement, NodeParts, parts_of, node_extents, live_extents, head_extents, all_extents, chunk_table_extents, chunk_extents}
use Rattle.adf_format.specs.LaysOut.{HoldsNode, HasTable, HasData, fields_of}
use Rattle.adf_format.specs.Changes.{KeepsBut, AllApart, SameChildren}
use Rattle.adf_format.proofs.HeapSteps.{cover-append}
use Rattle.adf_format.proofs.BehindEnd.{long_chunk_table, long_chunks}
use Rattle.adf_format.proofs.FrameLaws.{chunk_table_kept, chunks_kept, data_kept}
use Rattle.adf_model.proofs.Basics.{not_there, same_Some, or_none, or_parts, not_true}
use Rattle.adf_model.proofs.Creation.ShortTexts.{short_label, label_of_name}
use Rattle.adf_model.proofs.Creation.PartsApart.{all_apart, cover_all}
use Rattle.tree_laws.specs.Holding.{Holds, ChangesIn, MeetsNothing}
use Rattle.tree_laws.proofs.Holding.Steps.{keeps_but, once, rebuilt}
use Rattle.tree_laws.proofs.Deletes.NodesLeft.{others_are}
use Rattle.tree_laws.proofs.Tables.TableReplaced.{node_too}
use Rattle.tree_laws.proofs.Holding.OwnRanges.{data_extents}

-- ---- small facts

pub name_short : (tree : Tree) (k : ℕ) (node : Node) → IsTree tree → node_at tree k ≡ Some node → length node.name ≤ 32
name_short tree k node is e = short_label node.name (label_of_name node.name (is.each k node e).named)

-- where each name stands once, one child less is left without one
pub others_long : (f : ℕ → List ℕ) (xs : List ℕ) (i s : ℕ) → AllDiffer (map f xs) → slice_get xs i ≡ Some s → length (filter (λ c. not (c == s)) xs) ≡ length xs - 1
others_long f xs i s differ e =
    ap length (others_are f xs i s differ e) ∙ length-append (take i xs) (drop (suc i) xs)
    ∙ (let a = length-take i xs in let b = length-drop (suc i) xs in let lt = slice_get_within xs i s e in omega (arith, a, b, lt))

-- what stands in a list with one more stood there before, or is the one more
pub one_more : (xs : List ℕ) (s j c : ℕ) → slice_get (xs ++ s ∷ []) j ≡ Some c → (slice_get xs j ≡ Some c) ⊎ ((j ≡ length xs) × (c ≡ s))
one_more [] s zero c e = inr (refl, sym (same_Some s c e))
one_more [] s (suc j) c e = absurd (not_there c e)
one_more (x ∷ xs) s zero c e = inl e
one_more (x ∷ xs) s (suc j) c e = elim (one_more xs s j c e) [ inl h ↦ inl h | inr h ↦ inr (ap suc h.0, h.1) ]

differs : (a k : ℕ) → (a == k) ≡ false → k ≢ a
differs a k e same = elim (eqb_tells a k) [ inl t ↦ not_true (sym e ∙ t.0) | inr t ↦ t.1 (sym same) ]

pub neither_of : (a b k : ℕ) → is_among (a ∷ b ∷ []) k ≡ false → (k ≢ a) × (k ≢ b)
neither_of a b k e =
    let one = or_none (a == k) ((b == k) || false) e in
    let two = or_none (b == k) false one.1 in
    (differs a k one.0, differs b k two.0)

is_that : (a k : ℕ) → (a == k) ≡ true → k ≡ a
is_that a k e = elim (eqb_tells a k) [ inl t ↦ sym t.1 | inr t ↦ absurd (not_true (sym t.0 ∙ e)) ]

pub one_of_both : (a b k : ℕ) → is_among (a ∷ b ∷ []) k ≡ true → (k ≡ a) ⊎ (k ≡ b)
one_of_both a b k e = elim (or_parts (a == k) ((b == k) || false) e) [
  | inl t ↦ inl (is_that a k t)
  | inr t ↦ elim (or_parts (b == k) false t) [ inl u ↦ inr (is_that b k u) | inr u ↦ absurd (not_true u) ]
]

-- ---- names and headers of children stay

module _ (old : List ℕ) (tree after : Tree) (p : Placement) (taken : List Extent) (h : Holds old tree p taken) (names : (k : ℕ) → name_at after k ≡ name_at tree k) where
  pub was_named : (k : ℕ) (now : Node) (parts : NodeParts) → node_at after k ≡ Some now → parts_of p k ≡ Some parts → (was : Node) × (node_at tree k ≡ Some was) × (was.name ≡ now.name)
  was_named k now parts e placed =
      let was = node_too tree p k parts h.same_nodes placed in
      (was.0, was.1, ap name_of (sym was.1) ∙ sym (names k) ∙ ap name_of e)

  pub same_children : (children : List ℕ) → SameChildren tree p after p children
  same_children children j c now parts e f g = let was = was_named c now parts f g in (was.0, parts, was.1, g, was.2, refl)

-- ---- the nodes

module _ (ranges : List Extent) (touched : List ℕ) (tree after : Tree) (p : Placement) (taken : List Extent) (old new : List ℕ) (h : Holds old tree p taken) (sound : IsTree after) (wide : after.wide ≡ tree.wide) (format : after.format ≡ tree.format)
    (same_nodes : map is_some after.nodes ≡ map is_some tree.nodes) (names : (k : ℕ) → name_at after k ≡ name_at tree k) (stay : (k : ℕ) → is_among touched k ≡ false → node_at after k ≡ node_at tree k) (changes : ChangesIn ranges old new) where
  keeps : KeepsBut ranges (length old - 1) old new
  keeps = keeps_but old tree p taken h ranges new changes

  -- a node whose header and table stand, and whose data nothing meets
  pub node_again : (k : ℕ) (node now : Node) (at : NodeParts) → node_at tree k ≡ Some node → parts_of p k ≡ Some at → now.bytes ≡ node.bytes → ((b : ℕ) → 0 < cover (data_extents at) b → (b < length old) × (cover ranges b ≡ 0))
      → SpellsNode tree.wide (field new at.header (node_length tree.wide)) (fields_of now at) → HasTable new after p now at.table → HoldsNode new after p now at
  node_again k node now at here placed bytes far spelled table = record {
    header = subst (λ (w : Bool). SpellsNode w (field new at.header (node_length w)) (fields_of now at)) (sym wide) spelled;
    table = table;
    chunk_table = chunk_table_kept ranges (length old - 1) old new keeps at.chunks at.chunk_table table_apart was.chunk_table;
    chunks = chunks_kept ranges (length old - 1) old new keeps at.chunks chunks_apart was.chunks;
    bytes = data_kept ranges (length old - 1) old new keeps at.chunks now.bytes chunks_apart (subst (λ b. HasData old at.chunks b) (sym bytes) was.bytes);
  }
    where
      was : HoldsNode old tree p node at
      was = h.nodes k node at here placed

      data_split : (b : ℕ) → cover (data_extents at) b ≡ cover (chunk_table_extents at.chunk_table (length at.chunks)) b + cover (chunk_extents at.chunks) b
      data_split b = cover-append (chunk_table_extents at.chunk_table (length at.chunks)) (chunk_extents at.chunks) b

      near : (b : ℕ) → 0 < cover (data_extents at) b → (b ≤ length old - 1) × (cover ranges b ≡ 0)
      near b some = let f = far b some in ((let lt = f.0 in omega (arith, lt)), f.1)

      table_apart : AllApart ranges (length old - 1) (chunk_table_extents at.chunk_table (length at.chunks))
      table_apart = all_apart ranges (length old - 1) (chunk_table_extents at.chunk_table (length at.chunks)) (long_chunk_table at.chunk_table (length at.chunks)) (λ b some. near b (let e = data_split b in omega (arith, e, some)))

      chunks_apart : AllApart ranges (length old - 1) (chunk_extents at.chunks)
      chunks_apart = all_apart ranges (length old - 1) (chunk_extents at.chunks) (long_chunks old at.chunks was.chunks) (λ b some. near b (let e = data_split b in omega (arith, e, some)))

  -- what is written lies in parts of nodes, and in none of an untouched one
  pub lists_changed : ((b : ℕ) → cover ranges b ≤ cover (live_extents tree.wide p) b)
      → ((k : ℕ) (parts : NodeParts) → is_among touched k ≡ false → parts_of p k ≡ Some parts → MeetsNothing ranges (node_extents tree.wide parts))
      → ((k : ℕ) (node : Node) (parts : NodeParts) → is_among touched k ≡ true → node_at after k ≡ Some node → parts_of p k ≡ Some parts → HoldsNode new after p node parts) → Holds new after p taken
  lists_changed inside clear those = rebuilt ranges touched tree after p p taken taken old new h (record {
    is_tree = sound;
    wide = wide;
    format = format;
    same_nodes = h.same_nodes ∙ sym same_nodes;
    heap = refl;
    root = λ from e. (from, e, refl);
    changes = changes;
    apart = λ b some.
        let i = inside b in let one = once old tree p taken h b in let both = cover-append head_extents p.heap.gaps b in
        omega (arith, i, one, both, some);
    owners = λ b. ap (λ (w : Bool). cover (taken ++ all_extents w p) b) wide;
    beyond = λ b le. subst (λ (w : Bool). cover (live_extents w p) b ≡ 0) (sym wide) (
        let x = changes.longer in
        let none : cover (all_extents tree.wide p) b ≡ 0 = h.beyond b (omega (arith, x, le)) in
        let all = cover_all tree.wide p b in
        omega (arith, none, all));
    others = λ k node parts free e f. (sym (stay k free) ∙ e, f, clear k parts free f, same_children old tree after p taken h names node.children);
    those = those;
  })
