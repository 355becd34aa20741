-- What the table of nodes says.
use Rattle.std.proofs.Common.{◌≡◌, ℕ, refl, sym, ◌∙◌, ap, subst, List, length, ◌-◌, true, false}
use Rattle.std.proofs.lemmas.List.{length-set}
use Rattle.std.specs.Prelude.{Option, Some, None, is_some, slice_index_or}
use Rattle.adf_format.specs.Tree.{Tree, Node, node_at, parent_from, lineage, climb, families, children_of}
use Rattle.adf_format.specs.Placement.{Placement, NodeParts, parts_of}
use Rattle.adf_format.specs.LaysOut.{LaysOut}
use Rattle.adf_format.specs.HeapRule.{parts_or_none}
use Rattle.adf_format.proofs.LayoutLaws.{live_parts}
use Rattle.adf_model.specs.Edits.{with_node}
use Rattle.adf_model.proofs.Basics.{not_true}
use Rattle.std.proofs.Math.Seq.{map-set_same}
use Rattle.adf_model.proofs.Keeping.Keeps.{at-set}
use Rattle.tree_edits.specs.declared.rows.Row.{Row}
use Rattle.tree_edits.specs.Rows.{SaysRow, IsRowOf, IsTable}

pub there : {A : Type 0} (o : Option A) → is_some o ≡ true → (a : A) × (o ≡ Some a)
there None h = absurd (not_true h)
there (Some a) h = (a, refl)

pub says : (tree : Tree) (p : Placement) (serial : ℕ) (o : Option Row) (row : Row) → o ≡ Some row → IsRowOf tree p serial o → SaysRow tree p serial row
says tree p serial o row e h = subst (IsRowOf tree p serial) e h

pub says_none : (tree : Tree) (p : Placement) (serial : ℕ) (o : Option Row) → o ≡ None → IsRowOf tree p serial o → node_at tree serial ≡ None
says_none tree p serial o e h = subst (IsRowOf tree p serial) e h

-- the node and the parts of a row
pub node_of_row : (tree : Tree) (p : Placement) (serial : ℕ) (row : Row) → SaysRow tree p serial row → (node : Node) × (node_at tree serial ≡ Some node)
node_of_row tree p serial row s = there (node_at tree serial) s.live

pub parts_of_row : (image : List ℕ) (tree : Tree) (p : Placement) (serial : ℕ) (row : Row) → LaysOut image tree p → SaysRow tree p serial row → (parts : NodeParts) × (parts_of p serial ≡ Some parts) × (parts.header ≡ row.place)
parts_of_row image tree p serial row l s =
    let parts = there (parts_of p serial) (live_parts image tree p l serial ∙ s.live) in
    (parts.0, parts.1, sym (s.place ∙ ap (λ (o : Option NodeParts). (parts_or_none o).header) parts.1))

-- the table stays where a node gets another label, or another name
module _ (tree : Tree) (p : Placement) (s : ℕ) (old new : Node) (here : node_at tree s ≡ Some old) (same : new.children ≡ old.children) where
  live_stays : (k : ℕ) → is_some (node_at (with_node tree s new) k) ≡ is_some (node_at tree k)
  live_stays k = at-set is_some tree.nodes s k (Some new) (ap is_some (sym here))

  families_stay : families (with_node tree s new) ≡ families tree
  families_stay = map-set_same children_of tree.nodes s (Some new) None (same ∙ ap children_of (sym here))

  lineage_stays : (k : ℕ) → lineage (with_node tree s new) k ≡ lineage tree k
  unfolding lineage
  lineage_stays k = ap (λ fs. climb 256 fs (Some k)) families_stay

  gone : (o : Option Node) → is_some o ≡ false → o ≡ None
  gone None e = refl
  gone (Some n) e = cc

  row_stays : (k : ℕ) (o : Option Row) → IsRowOf tree p k o → IsRowOf (with_node tree s new) p k o
  row_stays k None h = gone (node_at (with_node tree s new) k) (live_stays k ∙ ap is_some h)
  row_stays k (Some row) h = record {
    live = live_stays k ∙ h.live;
    place = h.place;
    parent = h.parent ∙ sym (ap (λ fs. parent_from 0 fs k) families_stay);
    depth = h.depth ∙ sym (ap (λ (l : List ℕ). length l - 1) (lineage_stays k));
  }

  pub table_stays : (rows : List (Option Row)) → IsTable tree p rows → IsTable (with_node tree s new) p rows
  table_stays rows t = record { count = t.count ∙ sym (length-set tree.nodes s (Some new)); each = λ k. row_stays k (slice_index_or rows k None) (t.each k) }
