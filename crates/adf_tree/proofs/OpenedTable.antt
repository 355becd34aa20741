-- The nodes of a verdict, as the table of the tree that the bytes lay out.
use Rattle.std.proofs.Common.{◌≡◌, ◌≢◌, ◌⊎◌, inl, inr, ℕ, zero, suc, refl, sym, ◌∙◌, ap, subst, arith, List, [], ◌∷◌, length, ◌+◌, ◌-◌, ◌<◌, ◌≤◌, Bool, true, false, cond}
use Rattle.std.proofs.lemmas.Bool.Decides.{leb_tells, eqb_tells}
use Rattle.std.proofs.lemmas.List.{length-map}
use Rattle.std.specs.Prelude.{Option, Some, None, is_some, slice_get, slice_index_or, ◌==◌, ◌||◌}
use Rattle.adf_format.specs.Tree.{Tree, Node, IsNumbered, IsAmong, is_among, is_live, node_at, next_serial, children_at, parent_of, depth_of, lineage, climb, families, tree_order, renumbered_node}
use Rattle.adf_format.specs.Placement.{Placement, NodeParts, parts_of}
use Rattle.adf_format.specs.LaysOut.{LaysOut}
use Rattle.adf_format.specs.HeapRule.{parts_or_none}
use Rattle.adf_format.specs.Verdict.{NodePlace, ListsNodes}
use Rattle.adf_format.proofs.LayoutLaws.{live_parts}
use Rattle.adf_model.proofs.Basics.{not_true, same_Some}
use Rattle.adf_model.proofs.Trees.SubtreeLemmas.{root_has_none}
use Rattle.adf_model.proofs.Trees.AncestorLemmas.{parent_tells}
use Rattle.adf_model.proofs.Creation.CreatedNodes.{among_get, there_inside}
use Rattle.adf_model.proofs.Trees.Renumbered.{live_listed, index_map}
use Rattle.tree_edits.specs.declared.rows.Row.{Row}
use Rattle.tree_edits.specs.Rows.{SaysRow, IsRowOf, IsTable}
use Rattle.adf_tree.specs.Opening.{opened_row, opened_from}

there : {A : Type 0} (o : Option A) → is_some o ≡ true → (a : A) × (o ≡ Some a)
there None h = absurd (not_true h)
there (Some a) h = (a, refl)

gone : {A : Type 0} (o : Option A) → (is_some o ≡ true → ⊥) → o ≡ None
gone None h = refl
gone (Some a) h = absurd (h refl)

got : {A : Type 0} (xs : List A) (k : ℕ) → k < length xs → (a : A) × (slice_get xs k ≡ Some a)
got [] k lt = absurd (omega (arith, lt))
got (x ∷ xs) zero lt = (x, refl)
got (x ∷ xs) (suc k) lt = got xs k (omega (arith, lt))

-- a number in a list stands somewhere in it
among_at : (xs : List ℕ) (c : ℕ) → IsAmong xs c → (i : ℕ) × (slice_get xs i ≡ Some c)
among_at [] c h = absurd (not_true h)
among_at (x ∷ xs) c h = by_case (eqb_tells x c) h (among_at xs c)
  where
    by_case : (((x == c) ≡ true) × (x ≡ c)) ⊎ (((x == c) ≡ false) × (x ≢ c)) → ((x == c) || is_among xs c) ≡ true → (IsAmong xs c → (i : ℕ) × (slice_get xs i ≡ Some c)) → (i : ℕ) × (slice_get (x ∷ xs) i ≡ Some c)
    by_case (inl t) h rest = (zero, ap (λ (v : ℕ). Some v) t.1)
    by_case (inr t) h rest = let r = rest (sym (ap (λ (b : Bool). b || is_among xs c) t.0) ∙ h) in (suc r.0, r.1)

-- ---- the rows of an opening

count_rows : (k : ℕ) (nodes : List NodePlace) → length (opened_from k nodes) ≡ length nodes
count_rows k [] = refl
count_rows k (n ∷ nodes) = ap suc (count_rows (suc k) nodes)

row_in : (k s : ℕ) (nodes : List NodePlace) (n : NodePlace) → slice_get nodes s ≡ Some n → slice_index_or (opened_from k nodes) s None ≡ Some (opened_row (k + s) n)
row_in k s [] n e = cc
row_in k zero (m ∷ nodes) n e = ap (λ (x : NodePlace). Some (opened_row k x)) (same_Some m n e) ∙ ap (λ (j : ℕ). Some (opened_row j n)) (omega arith)
row_in k (suc s) (m ∷ nodes) n e = row_in (suc k) s nodes n e ∙ ap (λ (j : ℕ). Some (opened_row j n)) (omega arith)

row_past : (k s : ℕ) (nodes : List NodePlace) → length nodes ≤ s → slice_index_or (opened_from k nodes) s None ≡ None
row_past k s [] le = refl
row_past k zero (n ∷ nodes) le = absurd (omega (arith, le))
row_past k (suc s) (n ∷ nodes) le = row_past (suc k) s nodes (omega (arith, le))

-- ---- the tree

module _ (image : List ℕ) (tree : Tree) (p : Placement) (nodes : List NodePlace) (l : LaysOut image tree p) (numbers : IsNumbered tree) (listed : ListsNodes tree p nodes) where
  order_long : length (tree_order tree) ≡ next_serial tree
  order_long = sym (length-map (tree_order tree) (λ (s : ℕ). renumbered_node (tree_order tree) (node_at tree s))) ∙ ap (λ (t : Tree). length t.nodes) numbers

  some_new : (order : List ℕ) (o : Option Node) → is_some o ≡ true → is_some (renumbered_node order o) ≡ true
  some_new order None h = h
  some_new order (Some n) h = refl

  all_live : (k : ℕ) → k < next_serial tree → is_live tree k ≡ true
  all_live k lt =
      let s = got (tree_order tree) k (let e = order_long in omega (arith, e, lt)) in
      ap (λ (t : Tree). is_live t k) (sym numbers)
      ∙ ap is_some (index_map (λ (s : ℕ). renumbered_node (tree_order tree) (node_at tree s)) (tree_order tree) k s.0 s.1)
      ∙ some_new (tree_order tree) (node_at tree s.0) (live_listed tree l.is_tree s.0 (among_get (tree_order tree) k s.0 s.1))

  -- every node but the root has a parent
  has_parent : (k : ℕ) → k ≢ 0 → is_live tree k ≡ true → (q : ℕ) × (parent_of tree k ≡ Some q)
  unfolding lineage
  has_parent k other live = by_parent (parent_of tree k) refl (l.is_tree.reached k live)
    where
      alone : (k : ℕ) → k ≢ 0 → IsAmong (k ∷ []) 0 → ⊥
      alone k other h = only (eqb_tells k 0) h
        where
          only : (((k == 0) ≡ true) × (k ≡ 0)) ⊎ (((k == 0) ≡ false) × (k ≢ 0)) → ((k == 0) || false) ≡ true → ⊥
          only (inl t) h = other t.1
          only (inr t) h = not_true (sym (ap (λ (b : Bool). b || false) t.0) ∙ h)

      by_parent : (o : Option ℕ) → parent_of tree k ≡ o → IsAmong (k ∷ climb 255 (families tree) (parent_of tree k)) 0 → (q : ℕ) × (o ≡ Some q)
      by_parent (Some q) e h = (q, refl)
      by_parent None e h = absurd (alone k other (subst (λ (x : Option ℕ). IsAmong (k ∷ climb 255 (families tree) x) 0) e h))

  root_depth : depth_of tree 0 ≡ 0
  unfolding lineage
  root_depth = ap (λ (o : Option ℕ). length (0 ∷ climb 255 (families tree) o) - 1) (root_has_none tree l.is_tree)

  says_row : (k : ℕ) (n : NodePlace) → slice_get nodes k ≡ Some n → k < next_serial tree → SaysRow tree p k (opened_row k n)
  says_row k n e lt = by_root (eqb_tells k 0)
    where
      live : is_live tree k ≡ true
      live = all_live k lt

      place_is : n.place ≡ (parts_or_none (parts_of p k)).header
      place_is = let parts = there (parts_of p k) (live_parts image tree p l k ∙ live) in listed.places k n parts.0 e parts.1 ∙ sym (ap (λ (o : Option NodeParts). (parts_or_none o).header) parts.1)

      by_root : (((k == 0) ≡ true) × (k ≡ 0)) ⊎ (((k == 0) ≡ false) × (k ≢ 0)) → SaysRow tree p k (opened_row k n)
      by_root (inl t) =
          let r = listed.root n (ap (slice_get nodes) (sym t.1) ∙ e) in
          record {
            live = live;
            place = place_is;
            parent = ap (λ (b : Bool). cond b None (Some n.parent)) t.0 ∙ sym (ap (parent_of tree) t.1 ∙ root_has_none tree l.is_tree);
            depth = r.2 ∙ sym (ap (depth_of tree) t.1 ∙ root_depth);
          }
      by_root (inr t) =
          let q = has_parent k t.1 live in
          let i = among_at (children_at tree q.0) k (parent_tells tree l.is_tree k q.0 q.1) in
          let r = listed.others q.0 i.0 k n i.1 e in
          record {
            live = live;
            place = place_is;
            parent = ap (λ (b : Bool). cond b None (Some n.parent)) t.0 ∙ ap (λ (x : ℕ). Some x) r.0 ∙ sym q.1;
            depth = r.2;
          }

  row_of : (k : ℕ) (o : Option Row) → slice_index_or (opened_from 0 nodes) k None ≡ o → IsRowOf tree p k o → IsRowOf tree p k (slice_index_or (opened_from 0 nodes) k None)
  row_of k o e h = subst (IsRowOf tree p k) (sym e) h

  each_row : (k : ℕ) → IsRowOf tree p k (slice_index_or (opened_from 0 nodes) k None)
  each_row k = elim (leb_tells (next_serial tree) k) [
    | inl past ↦ row_of k None (row_past 0 k nodes (let c = listed.count in let g = past.1 in omega (arith, c, g)))
        (gone (node_at tree k) (λ h. let some = there (node_at tree k) h in let lt : k < next_serial tree = there_inside tree.nodes k some.0 some.1 in let g = past.1 in omega (arith, lt, g)))
    | inr lt ↦ (
        let n = got nodes k (let c = listed.count in let g = lt.1 in omega (arith, c, g)) in
        row_of k (Some (opened_row k n.0)) (row_in 0 k nodes n.0 n.1 ∙ ap (λ (j : ℕ). Some (opened_row j n.0)) (omega arith)) (says_row k n.0 n.1 lt.1))
  ]

  pub opened_table : IsTable tree p (opened_from 0 nodes)
  opened_table = record { count = count_rows 0 nodes ∙ listed.count; each = each_row }
