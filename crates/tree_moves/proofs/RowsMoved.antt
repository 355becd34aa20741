-- The rows that shift are the table of the tree with a node that has moved.
use Rattle.std.proofs.Common.{◌≡◌, ◌≢◌, inl, inr, ℕ, refl, sym, ◌∙◌, ap, subst, arith, List, ◌+◌, Bool, true, false, Option, None, Some}
use Rattle.std.proofs.lemmas.Bool.Decides.{eqb_tells}
use Rattle.std.specs.Prelude.{is_some, option_map, if◌then◌else◌}
use Rattle.adf_format.specs.Tree.{Tree, IsTree, node_at, depth_of, is_within}
use Rattle.adf_format.specs.Placement.{Placement}
use Rattle.adf_format.specs.HeapRule.{parts_at}
use Rattle.adf_model.proofs.Trees.AncestorLemmas.{within_itself}
use Rattle.tree_laws.specs.Moving.{IsMoved}
use Rattle.tree_edits.specs.declared.rows.Row.{Row}
use Rattle.tree_edits.specs.Rows.{SaysRow, IsRowOf, IsTable, row_of}
use Rattle.tree_edits.proofs.Tables.{says}
use Rattle.tree_moves.specs.Below.{is_below, deeper_row, shifted_row, Shifts}
use Rattle.tree_moves.proofs.BelowTree.{below_is}

gone : {A : Type 0} (o : Option A) → is_some o ≡ false → o ≡ None
gone None e = refl
gone (Some a) e = cc

module _ (tree after : Tree) (p q : Placement) (from s to : ℕ) (is : IsTree tree) (m : IsMoved tree after from s to) (rows new : List (Option Row)) (t : IsTable tree p rows) (row : Row) (found : row_of rows s ≡ Some row) (deep : ℕ) (deep_is : deep ≡ depth_of tree to + 1)
    (headers : (k : ℕ) → (parts_at q k).header ≡ (parts_at p k).header) (x : Shifts rows new s row.depth to deep row) where
  its : SaysRow tree p s row
  its = says tree p s (row_of rows s) row found (t.each s)

  top : SaysRow after q s (record row { parent = Some to; depth = deep })
  top = record {
    live = m.live s ∙ its.live;
    place = its.place ∙ sym (headers s);
    parent = sym m.parent;
    depth = let sum = m.shifted s its.live (within_itself tree is s its.live) in omega (arith, sum, deep_is);
  }

  module _ (k : ℕ) (differ : k ≢ s) where
    dead : (b : Bool) → node_at tree k ≡ None → IsRowOf after q k (if b then option_map (deeper_row row.depth deep) None else None)
    dead b none = by_test b
      where
        gone_too : node_at after k ≡ None
        gone_too = gone (node_at after k) (m.live k ∙ ap is_some none)

        by_test : (b : Bool) → IsRowOf after q k (if b then option_map (deeper_row row.depth deep) None else None)
        by_test true = gone_too
        by_test false = gone_too

    live : (r : Row) → row_of rows k ≡ Some r → SaysRow tree p k r → IsRowOf after q k (if is_below rows s row.depth k then option_map (deeper_row row.depth deep) (Some r) else Some r)
    live r at h = subst (λ b. IsRowOf after q k (if b then option_map (deeper_row row.depth deep) (Some r) else Some r)) (sym (below_is tree is p rows t k r at s row.depth its.depth)) (by_test (is_within tree s k) refl)
      where
        by_test : (b : Bool) → is_within tree s k ≡ b → IsRowOf after q k (if b then option_map (deeper_row row.depth deep) (Some r) else Some r)
        by_test true w = record {
          live = m.live k ∙ h.live;
          place = h.place ∙ sym (headers k);
          parent = h.parent ∙ sym (m.parents k differ);
          depth = let sum = m.shifted k h.live w in let le = m.below k h.live w in let d = its.depth in let e = h.depth in omega (arith, sum, le, d, e, deep_is);
        }
        by_test false w = record {
          live = m.live k ∙ h.live;
          place = h.place ∙ sym (headers k);
          parent = h.parent ∙ sym (m.parents k differ);
          depth = h.depth ∙ sym (m.depths k h.live w);
        }

    other : IsRowOf after q k (shifted_row rows s row.depth deep k)
    other = by_row (row_of rows k) refl (t.each k)
      where
        by_row : (o : Option Row) → row_of rows k ≡ o → IsRowOf tree p k o → IsRowOf after q k (shifted_row rows s row.depth deep k)
        by_row None e h = subst (λ (o : Option Row). IsRowOf after q k (if is_below rows s row.depth k then option_map (deeper_row row.depth deep) o else o)) (sym e) (dead (is_below rows s row.depth k) h)
        by_row (Some r) e h = subst (λ (o : Option Row). IsRowOf after q k (if is_below rows s row.depth k then option_map (deeper_row row.depth deep) o else o)) (sym e) (live r e h)

  pub table_moved : IsTable after q new
  table_moved = record {
    count = x.count ∙ t.count ∙ sym m.serials;
    each = λ k. subst (IsRowOf after q k) (sym (x.each k)) (elim (eqb_tells k s) [
      | inl same ↦ subst (λ b. IsRowOf after q k (if b then Some (record row { parent = Some to; depth = deep }) else shifted_row rows s row.depth deep k)) (sym same.0)
          (subst (λ j. IsRowOf after q j (Some (record row { parent = Some to; depth = deep }))) (sym same.1) top)
      | inr differ ↦ subst (λ b. IsRowOf after q k (if b then Some (record row { parent = Some to; depth = deep }) else shifted_row rows s row.depth deep k)) (sym differ.0) (other k differ.1)
    ]);
  }
