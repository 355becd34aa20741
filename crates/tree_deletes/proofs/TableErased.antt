-- The table of nodes once the rows of a subtree are none.
use Rattle.std.proofs.Common.{◌≡◌, inl, inr, ℕ, suc, refl, sym, ◌∙◌, ap, subst, arith, List, [], ◌∷◌, ◌+◌, Bool, true, false, not, Option, None, Some}
use Rattle.std.proofs.lemmas.Bool.Decides.{eqb_tells}
use Rattle.std.specs.Prelude.{is_some, slice_index_or, ◌==◌, ◌||◌, if◌then◌else◌}
use Rattle.adf_format.specs.Tree.{Tree, Node, IsTree, IsAmong, is_among, node_at, is_live, parent_of, is_within, live_from, subtree, erased_from}
use Rattle.adf_format.specs.HeapRule.{parts_or_none}
use Rattle.adf_format.specs.Placement.{Placement, NodeParts, Heap, parts_of}
use Rattle.adf_model.specs.declared.tree.Edit.{Edit}
use Rattle.adf_model.specs.declared.tree.NodeId.{NodeId}
use Rattle.adf_model.specs.Edits.{apply}
use Rattle.adf_model.proofs.Basics.{not_true, false_of, same_Some}
use Rattle.adf_model.proofs.Trees.AncestorLemmas.{live_with_child, parent_tells}
use Rattle.adf_model.proofs.Keeping.MoveKeeps.{among_live}
use Rattle.std.specs.Prelude.{Ok}
use Rattle.tree_laws.proofs.Deletes.DeletedTree.{deleted_in_its_tree, deleted_above_it}
use Rattle.tree_laws.proofs.Deletes.SubtreeWalked.{within_lives}
use Rattle.tree_laws.proofs.Leaving.ListLeaves.{erased_at}
use Rattle.tree_edits.specs.declared.rows.Row.{Row}
use Rattle.tree_edits.specs.Rows.{IsRowOf, IsTable}
use Rattle.tree_deletes.specs.Erased.{without_rows}
use Rattle.tree_deletes.proofs.Erasing.{row_kept, row_gone, count_kept}

passed_test : (k : ℕ) (test : ℕ → Bool) (nodes : List (Option Node)) (q : ℕ) → IsAmong (live_from k test nodes) q → test q ≡ true
passed_test k test [] q h = absurd (not_true h)
passed_test k test (None ∷ nodes) q h = passed_test (suc k) test nodes q h
passed_test k test (Some n ∷ nodes) q h = by_test (test k) refl h (passed_test (suc k) test nodes q)
  where
    by_test : (b : Bool) → test k ≡ b → IsAmong (if b then k ∷ live_from (suc k) test nodes else live_from (suc k) test nodes) q → (IsAmong (live_from (suc k) test nodes) q → test q ≡ true) → test q ≡ true
    by_test false e h ih = ih h
    by_test true e h ih = elim (eqb_tells k q) [ inl t ↦ ap test (sym t.1) ∙ e | inr t ↦ ih (later (k == q) (is_among (live_from (suc k) test nodes) q) t.0 h) ]
      where
        later : (a b : Bool) → a ≡ false → (a || b) ≡ true → b ≡ true
        later true b p q = cc
        later false b p q = q

module _ (tree after : Tree) (node : NodeId) (parent : ℕ) (is : IsTree tree) (applied : apply tree (Edit.Delete node) ≡ Ok after) (above : parent_of tree node.serial ≡ Some parent) (live : is_live tree node.serial ≡ true) where
  abbrev inside : ℕ → Bool
  inside k = is_within tree node.serial k

  among_in : (k : ℕ) → inside k ≡ true → IsAmong (subtree tree node.serial) k
  among_in k e = subst (λ j. IsAmong (subtree tree node.serial) j) (zero_plus k) (among_live 0 (is_within tree node.serial) tree.nodes k (within_lives tree is node.serial k live e) (ap (is_within tree node.serial) (zero_plus k) ∙ e))
    where
      zero_plus : (k : ℕ) → 0 + k ≡ k
      zero_plus k = omega arith

  among_out : (k : ℕ) → inside k ≡ false → is_among (subtree tree node.serial) k ≡ false
  among_out k e = false_of (is_among (subtree tree node.serial) k) (λ h. not_true (sym e ∙ passed_test 0 (is_within tree node.serial) tree.nodes k h))

  module _ (p : Placement) (heap : Heap) (rows : List (Option Row)) (t : IsTable tree p rows) where
    abbrev q : Placement
    q = record { parts = erased_from 0 (λ k. not (is_live after k)) p.parts; heap = heap }

    kept_row : (k : ℕ) → inside k ≡ false → (o : Option Row) → IsRowOf tree p k o → IsRowOf after q k o
    kept_row k out None gone = by_live (is_live after k) refl
      where
        by_live : (b : Bool) → is_live after k ≡ b → node_at after k ≡ None
        by_live false e = none (node_at after k) e
          where
            none : (o : Option Node) → is_some o ≡ false → o ≡ None
            none None e = refl
            none (Some n) e = cc
        by_live true e = elim (eqb_tells parent k) [
          | inl s ↦ absurd (not_true (sym (ap is_some gone) ∙ subst (λ j. is_live tree j ≡ true) s.1 parent_live))
          | inr s ↦ (deleted_in_its_tree tree after node is applied).3 k (λ f. s.1 (same_some f)) out ∙ gone
        ]
          where
            parent_live : is_live tree parent ≡ true
            parent_live = live_with_child tree parent node.serial (parent_tells tree is node.serial parent above)

            same_some : parent_of tree node.serial ≡ Some k → parent ≡ k
            same_some f = same_Some parent k (sym above ∙ f)
    kept_row k out (Some row) h =
        let a = (deleted_in_its_tree tree after node is applied).2 k h.live out in
        let b = (deleted_above_it tree after node parent is applied above).5 k h.live out in
        record {
          live = a.0;
          place = h.place ∙ sym (ap (λ (o : Option NodeParts). (parts_or_none o).header) (erased_at (λ j. not (is_live after j)) p.parts k ∙ ap (λ (x : Bool). if not x then None else parts_of p k) a.0));
          parent = h.parent ∙ sym b.0;
          depth = h.depth ∙ sym b.1;
        }

    abbrev erased : List (Option Row)
    erased = without_rows rows (subtree tree node.serial)

    pub table_erased : IsTable after q erased
    table_erased = record {
      count = count_kept rows (subtree tree node.serial) ∙ t.count ∙ sym (deleted_in_its_tree tree after node is applied).0;
      each = λ k. by_place k (inside k) refl;
    }
      where
        by_place : (k : ℕ) (b : Bool) → inside k ≡ b → IsRowOf after q k (slice_index_or erased k None)
        by_place k true e = subst (IsRowOf after q k) (sym (row_gone rows (subtree tree node.serial) k (among_in k e))) ((deleted_in_its_tree tree after node is applied).1 k e)
        by_place k false e = subst (IsRowOf after q k) (sym (row_kept rows (subtree tree node.serial) k (among_out k e))) (kept_row k e (slice_index_or rows k None) (t.each k))
