-- An edit of the data of one node, done of each tree that is meant: the table of nodes stays, and memory says what the bytes do.
use Rattle.std.proofs.Common.{◌≡◌, inl, inr, ℕ, refl, sym, ◌∙◌, ap, subst, List, length, Option, None, Some}
use Rattle.std.proofs.lemmas.Bool.Decides.{eqb_tells}
use Rattle.std.specs.Prelude.{Result, Ok, Err, slice_index_or}
use Rattle.adf_format.specs.HeapRule.{LimitReached, Placed, place_edit, data_at, data_of_node, parts_at, parts_or_none}
use Rattle.adf_format.specs.Placement.{Placement, NodeParts, ChunkPart, Heap, parts_of}
use Rattle.adf_format.specs.Tree.{Tree, Node, node_at}
use Rattle.adf_model.specs.declared.tree.Edit.{Edit}
use Rattle.adf_model.specs.Edits.{with_node}
use Rattle.adf_model.specs.NodeData.{released_spot}
use Rattle.adf_model.proofs.Creation.CreatedNodes.{there_inside}
use Rattle.file_heap.specs.Heap.{FreeSpace, IsThreaded}
use Rattle.tree_laws.specs.DataSwitch.{with_data}
use Rattle.tree_laws.specs.Spared.{IsEditWhole}
use Rattle.tree_laws.proofs.Edits.LabelSet.{set_here, set_there}
use Rattle.tree_edits.specs.declared.memory.Core.{Core}
use Rattle.tree_edits.specs.declared.rows.Row.{Row}
use Rattle.tree_edits.specs.Rows.{Means, IsRowOf, IsTable}
use Rattle.tree_edits.specs.Edits.{memory_of, Follows}
use Rattle.tree_edits.proofs.Tables.{table_stays}
use Rattle.data_edit_laws.specs.Settled.{settled}
use Rattle.data_edit_laws.proofs.Placed.{sized_place, sized_full, released_place}
use Rattle.data_edits.specs.Becomes.{spot_after}

-- ---- where the rule of the heap puts the data in the file

same_place : (a b : NodeParts × Heap) → ◌≡◌ {A = Result (NodeParts × Heap) LimitReached} (Ok a) (Ok b) → a ≡ b
same_place a b e = cc

module _ (limit : ℕ) (tree after : Tree) (p : Placement) (s : ℕ) (from : NodeParts) (stands : parts_of p s ≡ Some from) where
  pub place_by : (wanted : Option (List ℕ)) → data_at after s ≡ wanted → (to : NodeParts) (later : Heap) → spot_after limit wanted (from, p.heap) ≡ Ok (to, later)
      → place_edit limit tree after (Placed.Data s) p ≡ Ok (settled p s from to.chunks to.chunk_table later)
  place_by None are to later e =
      released_place limit tree after p s from stands are
      ∙ ap (λ (x : NodeParts × Heap). Ok (settled p s from x.0.chunks x.0.chunk_table x.1)) (same_place (released_spot (from, p.heap)) (to, later) e)
  place_by (Some bytes) are to later e = sized_place limit tree after p s from stands bytes (length bytes) are refl to later e

  pub full_by : (wanted : Option (List ℕ)) → data_at after s ≡ wanted → (full : LimitReached) → spot_after limit wanted (from, p.heap) ≡ Err full → place_edit limit tree after (Placed.Data s) p ≡ Err full
  full_by None are full e = cc
  full_by (Some bytes) are full e = sized_full limit tree after p s from stands bytes (length bytes) are refl full e

-- the data of a node that is set
pub data_set : (tree : Tree) (s : ℕ) (node now : Node) → node_at tree s ≡ Some node → data_at (with_node tree s now) s ≡ now.bytes
data_set tree s node now here = ap data_of_node (set_here tree.nodes s (Some now) None (there_inside tree.nodes s node here))

-- ---- the table of nodes

-- it says the places of headers alone
row_moves : (tree : Tree) (p q : Placement) (k : ℕ) → (parts_at q k).header ≡ (parts_at p k).header → (o : Option Row) → IsRowOf tree p k o → IsRowOf tree q k o
row_moves tree p q k same None h = h
row_moves tree p q k same (Some row) h = record { live = h.live; place = h.place ∙ sym same; parent = h.parent; depth = h.depth }

table_moves : (tree : Tree) (p q : Placement) (rows : List (Option Row)) → ((k : ℕ) → (parts_at q k).header ≡ (parts_at p k).header) → IsTable tree p rows → IsTable tree q rows
table_moves tree p q rows same t = record { count = t.count; each = λ k. row_moves tree p q k (same k) (slice_index_or rows k None) (t.each k) }

headers_stay : (p : Placement) (s : ℕ) (from : NodeParts) (chunks : List ChunkPart) (table : Option ℕ) (later : Heap) → parts_of p s ≡ Some from → (k : ℕ) → (parts_at (settled p s from chunks table later) k).header ≡ (parts_at p k).header
headers_stay p s from chunks table later stands k = elim (eqb_tells k s) [
  | inl same ↦ (
      ap (λ (j : ℕ). (parts_at (settled p s from chunks table later) j).header) same.1
      ∙ ap (λ (o : Option NodeParts). (parts_or_none o).header) (set_here p.parts s (Some (with_data from chunks table)) None (there_inside p.parts s from stands))
      ∙ sym (ap (λ (o : Option NodeParts). (parts_or_none o).header) stands)
      ∙ sym (ap (λ (j : ℕ). (parts_at p j).header) same.1))
  | inr other ↦ ap (λ (o : Option NodeParts). (parts_or_none o).header) (set_there p.parts s k (Some (with_data from chunks table)) None other.1)
]

-- ---- done

pub follows : (core is : Core) (edit : Edit) (image new : List ℕ) (tree : Tree) (p : Placement) (s : ℕ) (node now : Node) (from : NodeParts) (chunks : List ChunkPart) (table : Option ℕ) (later : FreeSpace)
    → Means image tree p (memory_of core) → node_at tree s ≡ Some node → parts_of p s ≡ Some from → now.children ≡ node.children
    → IsEditWhole core.heap.limit core.writable edit tree p (with_node tree s now) (settled p s from chunks table later.heap) image new
    → is.wide ≡ core.wide → is.rows.items ≡ core.rows.items → is.heap.work ≡ later → IsThreaded later new
    → Follows core.heap.limit core.writable edit tree p (memory_of is) image new
follows core is edit image new tree p s node now from chunks table later m here stands list whole wide rows heap threads = record {
  after = with_node tree s now;
  placement = settled p s from chunks table later.heap;
  whole = whole;
  means = record {
    laid_out = whole.laid_out;
    wide = m.wide ∙ sym wide;
    table = subst (IsTable (with_node tree s now) (settled p s from chunks table later.heap)) (sym rows)
        (table_moves (with_node tree s now) p (settled p s from chunks table later.heap) core.rows.items (headers_stay p s from chunks table later.heap stands)
        (table_stays tree p s node now here list core.rows.items m.table));
    heap = ap (λ (f : FreeSpace). f.heap) (sym heap);
    threads = subst (λ (f : FreeSpace). IsThreaded f new) (sym heap) threads;
  };
}
