-- A file with bytes behind its childless root that nothing names is not sound.
use Rattle.std.proofs.Common.{◌≡◌, ℕ, zero, suc, ◌+◌, ◌<◌, ◌≤◌, Bool, true, false, cond, List, [], ◌∷◌, ◌++◌, length, take, drop, replicate, filter, refl, sym, ◌∙◌, ap, subst, arith, inl, inr, lit≤}
use Rattle.std.proofs.lemmas.Bool.Decides.{nat_tests}
use Rattle.std.specs.Prelude.{Option, Some, None, IsSome, is_some, slice_index_or, codes, ◌==◌, ◌&&◌, if◌then◌else◌}
use Rattle.std.specs.List.{flat_map}
use Rattle.adf_format.specs.declared.types.Extent.{Extent}
use Rattle.adf_format.specs.Pointer.{Pointer, Blank, To, pointer, place_value}
use Rattle.adf_format.specs.Fields.{field}
use Rattle.adf_format.specs.Tree.{Tree, Node, node_at, children_at, children_of, IsAmong, is_live, lineage, IsTree}
use Rattle.adf_format.specs.Tiles.{cover, is_free}
use Rattle.adf_format.specs.Parts.{SpellsNode, HasPointer, node_length}
use Rattle.adf_format.specs.Placement.{Placement, NodeParts, TablePart, ChunkPart, parts_of, extents_of, live_extents, head_extents}
use Rattle.adf_format.specs.LaysOut.{LaysOut, HoldsNode, HasTable, HasChunkTable, IsSound, fields_of, entry_count, first_place, count_of, HasSameRanges}
use Rattle.adf_format.specs.Records.{header_text, free_table_text, node_text}
use Rattle.adf_format.specs.Fresh.{fresh_text}
use Rattle.adf_format.proofs.Images.{fresh}
use Rattle.adf_format.proofs.HeapSteps.{cover-append}
use Rattle.adf_format.proofs.SameLayout.{end_recorded, wide_recorded}
use Rattle.adf_format.proofs.LayoutLaws.{live_parts, unused_byte}
use Rattle.adf_model.proofs.Basics.{not_true, not_there, same_Some}
use Rattle.adf_model.proofs.Trees.SubtreeLemmas.{lineage_child}
use Rattle.adf_model.proofs.Trees.AncestorLemmas.{root_or_child, live_with_child}

-- the fresh file with its end moved, and 246 bytes `A` behind the root
abbrev stray : List ℕ
stray = take 146 fresh ++ codes "0000000002F5" ++ drop 158 fresh ++ replicate 246 65

-- ---- a childless root stands alone

alone : (tree : Tree) → IsTree tree → children_at tree 0 ≡ [] → (n q : ℕ) → IsSome (node_at tree q) → length (lineage tree q) ≤ n → q ≡ 0
alone tree is none zero q live le = elim (root_or_child tree is q live) [
  | inl e ↦ e
  | inr c ↦ absurd (let long : length (lineage tree q) ≡ suc (length (lineage tree c.0)) = ap length (lineage_child tree is c.0 q c.1) in omega (arith, long, le))
]
alone tree is none (suc n) q live le = elim (root_or_child tree is q live) [
  | inl e ↦ e
  | inr c ↦ (let long : length (lineage tree q) ≡ suc (length (lineage tree c.0)) = ap length (lineage_child tree is c.0 q c.1) in
      let parent : c.0 ≡ 0 = alone tree is none n c.0 (live_with_child tree c.0 q c.1) (omega (arith, long, le)) in
      absurd (not_true (subst (λ xs. IsAmong xs q) (ap (children_at tree) parent ∙ none) c.1)))
]

none_covers : (wide : Bool) (xs : List (Option NodeParts)) (b : ℕ) → ((k : ℕ) → is_some (slice_index_or xs k None) ≡ false) → cover (flat_map (extents_of wide) xs) b ≡ 0
none_covers wide [] b none = refl
none_covers wide (None ∷ xs) b none = none_covers wide xs b (λ k. none (suc k))
none_covers wide (Some parts ∷ xs) b none = absurd (not_true (sym (none 0)))

-- ---- the parts of the root

abbrev lone : NodeParts
lone = record { header = 266; table = None; chunks = []; chunk_table = None }

lone_parts : (a : NodeParts) → a.header ≡ 266 → a.table ≡ None → a.chunks ≡ [] → a.chunk_table ≡ None → a ≡ lone
lone_parts a h t c u =
    ap {B = NodeParts} (λ x. record { header = x; table = a.table; chunks = a.chunks; chunk_table = a.chunk_table }) h
    ∙ ap {B = NodeParts} (λ x. record { header = 266; table = x; chunks = a.chunks; chunk_table = a.chunk_table }) t
    ∙ ap {B = NodeParts} (λ x. record { header = 266; table = None; chunks = x; chunk_table = a.chunk_table }) c
    ∙ ap {B = NodeParts} (λ x. record { header = 266; table = None; chunks = []; chunk_table = x }) u

no_length : {A : Type 0} (xs : List A) → length xs ≡ 0 → xs ≡ []
no_length [] e = refl
no_length (x ∷ xs) e = absurd (omega (arith, e))

no_table : (image : List ℕ) (tree : Tree) (p : Placement) (node : Node) (table : Option TablePart) → HasTable image tree p node table → entry_count table ≡ 0 → table ≡ None
no_table image tree p node None h e = refl
no_table image tree p node (Some t) h e = absurd (let some : 0 < t.entries = h.0 in omega (arith, some, e))

no_chunk_table : (image : List ℕ) (chunks : List ChunkPart) (table : Option ℕ) → HasChunkTable image chunks table → length chunks ≡ 0 → table ≡ None
no_chunk_table image chunks None h e = refl
no_chunk_table image chunks (Some t) h e = absurd (let two : 2 ≤ length chunks = h.0 in omega (arith, two, e))

same_number : (a b : ℕ) → ◌≡◌ {A = Option ℕ} (Some a) (Some b) → a ≡ b
same_number a b e = same_Some a b e

-- ---- no free chunk

no_list : (bytes : List ℕ) (offset : ℕ) (fs : List Extent) → pointer (field bytes offset 12) ≡ Some Blank → HasPointer bytes offset (first_place fs) → fs ≡ []
no_list bytes offset [] blank h = refl
no_list bytes offset (f ∷ fs) blank h = absurd (apart (pointer (field bytes offset 12)) blank h)
  where
    apart : (o : Option Pointer) → o ≡ Some Blank → o ≡ Some (To f.place) → ⊥
    apart o e f = cc

no_ranges : (xs : List Extent) → HasSameRanges [] xs → xs ≡ []
no_ranges [] same = refl
no_ranges (x ∷ xs) same = absurd (counted (same x.place x.length))
  where
    here : ((x.place == x.place) && (x.length == x.length)) ≡ true
    here = grind (arith, nat_tests)

    counted : 0 ≡ (if (x.place == x.place) && (x.length == x.length) then 1 else 0) + count_of x.place x.length xs → ⊥
    counted e = not_zero ((x.place == x.place) && (x.length == x.length)) here e
      where
        not_zero : (t : Bool) → t ≡ true → 0 ≡ cond t 1 0 + count_of x.place x.length xs → ⊥
        not_zero true h e = omega (arith, e)
        not_zero false h e = not_true h

-- ---- the file

module _ (tree : Tree) (p : Placement) (l : LaysOut stray tree p) where
  last : 757 ≡ p.heap.end
  last = end_recorded stray tree p l

  narrow : false ≡ tree.wide
  narrow = wide_recorded stray tree p l

  root : NodeParts
  root = l.header.0

  first : root.header ≡ 266
  unfolding root
  first = sym (ap {B = ℕ} place_value l.header.2.root_pointer)

  held : (node : Node) → node_at tree 0 ≡ Some node → HoldsNode stray tree p node root
  unfolding root
  held node e = l.nodes 0 node l.header.0 e l.header.1

  says : (node : Node) → node_at tree 0 ≡ Some node → SpellsNode false (field stray 266 246) (fields_of node root)
  says node e = subst (λ (h : ℕ). SpellsNode false (field stray h 246) (fields_of node root)) first (subst (λ (w : Bool). SpellsNode w (field stray root.header (node_length w)) (fields_of node root)) (sym narrow) (held node e).header)

  childless : (node : Node) → node_at tree 0 ≡ Some node → node.children ≡ []
  childless node e = no_length node.children (sym (same_number 0 (length node.children) (says node e).children))

  root_is : (node : Node) → node_at tree 0 ≡ Some node → root ≡ lone
  root_is node e =
      let none : length root.chunks ≡ 0 = sym (same_number 0 (length root.chunks) (says node e).chunks) in
      lone_parts root first
      (no_table stray tree p node root.table (held node e).table (sym (same_number 0 (entry_count root.table) (says node e).entries)))
      (no_length root.chunks none)
      (no_chunk_table stray root.chunks root.chunk_table (held node e).chunk_table none)

  others_dead : (node : Node) → node_at tree 0 ≡ Some node → (k : ℕ) → is_some (parts_of p (suc k)) ≡ false
  others_dead node e k = live_parts stray tree p l (suc k) ∙ by_case (is_live tree (suc k)) refl
    where
      by_case : (t : Bool) → is_live tree (suc k) ≡ t → is_live tree (suc k) ≡ false
      by_case true h = absurd (let zero_is : suc k ≡ 0 = alone tree l.is_tree (ap children_of e ∙ childless node e) (length (lineage tree (suc k))) (suc k) h (omega arith) in omega (arith, zero_is))
      by_case false h = h

  no_live : (node : Node) → node_at tree 0 ≡ Some node → cover (live_extents tree.wide p) 512 ≡ 0
  unfolding root
  no_live node e = subst (λ (w : Bool). cover (live_extents w p) 512 ≡ 0) narrow (by_parts p.parts l.header.1 (others_dead node e))
    where
      by_parts : (xs : List (Option NodeParts)) → slice_index_or xs 0 None ≡ Some l.header.0 → ((k : ℕ) → is_some (slice_index_or xs (suc k) None) ≡ false) → cover (flat_map (extents_of false) xs) 512 ≡ 0
      by_parts [] h none = absurd (not_there l.header.0 h)
      by_parts (x ∷ xs) h none =
          cover-append (extents_of false x) (flat_map (extents_of false) xs) 512
          ∙ ap (λ n. n + cover (flat_map (extents_of false) xs) 512) (ap (λ (o : Option NodeParts). cover (extents_of false o) 512) (h ∙ ap Some (root_is node e)))
          ∙ ap (λ n. 0 + n) (none_covers false xs 512 none)

  no_free : cover (filter is_free p.heap.gaps) 512 ≡ 0
  no_free = ap (λ (xs : List Extent). cover xs 512) (no_ranges (filter is_free p.heap.gaps) (subst (λ (ys : List Extent). HasSameRanges ys (filter is_free p.heap.gaps)) empty l.threads.all))
    where
      small : l.threads.small ≡ []
      small = no_list (field stray 186 80) 4 l.threads.small refl (l.threads.table.lists 0 _ refl).0

      medium : l.threads.medium ≡ []
      medium = no_list (field stray 186 80) 28 l.threads.medium refl (l.threads.table.lists 1 _ refl).0

      large : l.threads.large ≡ []
      large = no_list (field stray 186 80) 52 l.threads.large refl (l.threads.table.lists 2 _ refl).0

      empty : l.threads.small ++ l.threads.medium ++ l.threads.large ≡ []
      empty = ap (λ xs. xs ++ l.threads.medium ++ l.threads.large) small ∙ ap (λ xs. [] ++ xs ++ l.threads.large) medium ∙ large

  refused : ⊥
  refused = by_root (node_at tree 0) refl
    where
      not_z : ◌≡◌ {A = List ℕ} (65 ∷ []) (122 ∷ []) → ⊥
      not_z e = cc

      by_root : (o : Option Node) → node_at tree 0 ≡ o → ⊥
      by_root None e = not_true (sym (ap is_some e) ∙ l.is_tree.root)
      by_root (Some node) e = not_z (unused_byte stray tree p l 512 (subst (λ n. 512 ≤ n) last (lit≤ tt)) (cover-append head_extents (live_extents tree.wide p) 512 ∙ ap (λ n. 0 + n) (no_live node e)) no_free)

stray_is : take 146 (fresh_text false) ++ codes "0000000002F5" ++ drop 158 (fresh_text false) ++ replicate 246 65 ≡ stray
unfolding fresh_text header_text free_table_text node_text
stray_is = refl

pub stray_refused : IsSound (take 146 (fresh_text false) ++ codes "0000000002F5" ++ drop 158 (fresh_text false) ++ replicate 246 65) → ⊥
stray_refused sound =
    let there : IsSound stray = subst (λ (image : List ℕ). IsSound image) stray_is sound in
    refused there.0 there.1 there.2
