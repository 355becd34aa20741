-- The edits of shape and data, whole, from all that was written.
use Rattle.std.proofs.Common.{◌≡◌, ℕ, refl, sym, ◌∙◌, ap, subst, arith, List, [], ◌∷◌, length, ◌+◌, ◌*◌, ◌<◌, ◌≤◌, Bool}
use Rattle.std.specs.Prelude.{Option, Some, None, Ok}
use Rattle.adf_format.specs.declared.types.Extent.{Extent}
use Rattle.adf_format.specs.HeapRule.{data_extents, place_edit}
use Rattle.adf_format.specs.LaysOut.{LaysOut}
use Rattle.adf_format.specs.Parts.{node_length, dimension_digits, chunk_count_at}
use Rattle.adf_format.specs.Placement.{Placement, NodeParts, ChunkPart, Heap, parts_of}
use Rattle.adf_format.specs.Tiles.{cover}
use Rattle.adf_format.specs.Tree.{Tree, Node, IsTree, node_at}
use Rattle.adf_format.proofs.HeapLaws.{in_range}
use Rattle.adf_format.proofs.HeapSteps.{cover-append}
use Rattle.adf_model.specs.declared.tree.Edit.{Edit}
use Rattle.adf_model.specs.Edits.{file_step, with_node, with_shape, with_part}
use Rattle.adf_model.specs.NodeData.{grown_range}
use Rattle.adf_model.specs.Placing.{placed_as}
use Rattle.adf_model.specs.Shapes.{dims_of}
use Rattle.adf_model.specs.Untouched.{touched_extents, data_of, rank_of}
use Rattle.adf_model.proofs.Basics.{same_Some}
use Rattle.adf_model.proofs.Creation.CreatedNodes.{there_inside}
use Rattle.adf_model.proofs.Creation.PartsApart.{range_within}
use Rattle.tree_laws.specs.DataSwitch.{with_data}
use Rattle.tree_laws.specs.Holding.{Holds}
use Rattle.tree_laws.specs.Spared.{AreSpared, KeepsPlaces, IsEditWhole}
use Rattle.tree_laws.specs.WholeData.{data_ranges, shape_ranges}
use Rattle.tree_laws.proofs.Data.DataApplied.{set_dims_applies, put_all_applies, put_part_applies}
use Rattle.tree_laws.proofs.Data.DataFields.{fits}
use Rattle.tree_laws.proofs.Edits.LabelSet.{set_here}
use Rattle.tree_laws.proofs.Groups.GroupsGrow.{step_reaches}
use Rattle.tree_laws.proofs.Whole.Ends.{mid_ends}
use Rattle.tree_laws.proofs.Whole.Sets.{spared_data, spared_shape}
use Rattle.data_edit_laws.specs.Settled.{Settles, SetDimsSettles, PutAllSettles, PutPartSettles, settled}
use Rattle.data_edit_laws.proofs.Placed.{places_kept}
use Rattle.data_edit_laws.proofs.Settled.{settled_holds}

-- ---- the ranges of the edits lie in the header and in the data

data_own : (wide : Bool) (from : NodeParts) (b : ℕ) → 0 < cover (data_ranges wide from) b → 0 < in_range from.header (node_length wide) b + cover (data_extents from) b
data_own wide from b some =
    let y = range_within from.header (node_length wide) (from.header + chunk_count_at wide) 16 b (omega arith) (omega arith) in omega (arith, y, some)

shape_own : (wide : Bool) (from : NodeParts) (rank : ℕ) → rank ≤ 12 → (b : ℕ) → 0 < cover (shape_ranges wide from rank) b → 0 < in_range from.header (node_length wide) b + cover (data_extents from) b
shape_own wide from rank few b some =
    let f = fits wide rank few in
    let x = range_within from.header (node_length wide) (from.header + 96) (34 + rank * dimension_digits wide) b (omega arith) (omega (arith, f)) in
    let y = range_within from.header (node_length wide) (from.header + chunk_count_at wide) 16 b (omega arith) (omega arith) in
    omega (arith, x, y, some)

-- ---- one edit

module _ (limit : ℕ) (writable : Bool) (edit : Edit) (s : ℕ) (old new : List ℕ) (tree after : Tree) (p : Placement) (later : Heap) (node now : Node) (from : NodeParts) (chunks : List ChunkPart) (table : Option ℕ)
    (l : LaysOut old tree p) (made : file_step writable tree edit ≡ Ok after) (here : node_at tree s ≡ Some node) (at : parts_of p s ≡ Some from)
    (touched_is : touched_extents tree p edit ≡ data_of tree.wide p s) (now_is : with_node tree s now ≡ after) (sound : IsTree (with_node tree s now)) (name_is : now.name ≡ node.name) (list_is : now.children ≡ node.children) where
  abbrev q : Placement
  q = settled p s from chunks table later

  pub settles_whole : (mine : List Extent) → ((b : ℕ) → 0 < cover mine b → 0 < in_range from.header (node_length tree.wide) b + cover (data_extents from) b) → ((b : ℕ) → cover (data_extents from) b ≤ cover mine b)
      → place_edit limit tree after (placed_as edit) p ≡ Ok q → Settles mine tree.wide now from chunks table p.heap later old new → AreSpared mine (touched_extents tree p edit) tree ((edit, after) ∷ []) p q
      → IsEditWhole limit writable edit tree p after q old new
  settles_whole mine own all placed w spared =
      mid_ends limit writable edit tree after p q mine old new l made placed (record {
        holds = subst (λ (t : Tree). Holds new t q []) now_is (settled_holds mine old new tree p s node now from chunks table later l here at name_is list_is sound w own);
        changes = w.changes;
        within = λ b some.
            let share = w.share b in
            let x = cover-append (data_extents (with_data from chunks table)) later.gaps b in
            let y = cover-append (data_extents from) p.heap.gaps b in
            let z = cover-append p.heap.gaps (grown_range p.heap later ∷ mine) b in
            let a = all b in
            omega (arith, share, x, y, z, a, some);
        grows = w.rise;
      })
      spared
      (subst (λ xs. KeepsPlaces xs tree.wide p q) (sym touched_is) (places_kept tree.wide p later s from chunks table at))

-- ---- the three edits

pub set_dims_settles : SetDimsSettles
set_dims_settles at shape limit writable old new tree after p node from chunks table later l made here stands placed w =
    let step = step_reaches writable tree after (Edit.SetDims at shape) made in
    let f = set_dims_applies tree after at shape l.is_tree step.1 in
    let same : f.0 ≡ node = same_Some f.0 node (sym f.1 ∙ here) in
    let now_is : with_node tree at.serial (with_shape node shape) ≡ after = sym (ap (λ (n : Node). with_node tree at.serial (with_shape n shape)) same) ∙ sym f.2 in
    let sound : IsTree (with_node tree at.serial (with_shape node shape)) = subst (λ (n : Node). IsTree (with_node tree at.serial (with_shape n shape))) same f.3 in
    let rank : rank_of (node_at after at.serial) ≡ length (dims_of shape) = ap (λ (t : Tree). rank_of (node_at t at.serial)) (sym now_is) ∙ ap rank_of (set_here tree.nodes at.serial (Some (with_shape node shape)) None (there_inside tree.nodes at.serial node here)) in
    settles_whole limit writable (Edit.SetDims at shape) at.serial old new tree after p later node (with_shape node shape) from chunks table l made here stands refl now_is sound refl refl
    (shape_ranges tree.wide from (length (dims_of shape))) (shape_own tree.wide from (length (dims_of shape)) f.4) (λ b. omega arith) placed w
    (spared_shape limit writable (Edit.SetDims at shape) at.serial old old old new tree after p later [] [] [] node (with_shape node shape) from chunks table l made here stands refl now_is sound refl refl
    (length (dims_of shape)) f.4 (omega (arith, rank)) (0, omega arith, refl))

pub put_all_settles : PutAllSettles
put_all_settles at bytes limit writable old new tree after p node from chunks table later l made here stands placed w =
    let step = step_reaches writable tree after (Edit.PutAll at bytes) made in
    let f = put_all_applies tree after at bytes l.is_tree step.0 step.1 in
    let same : f.0 ≡ node = same_Some f.0 node (sym f.1 ∙ here) in
    let now_is : with_node tree at.serial (record node { bytes = Some bytes }) ≡ after = sym (ap (λ (n : Node). with_node tree at.serial (record n { bytes = Some bytes })) same) ∙ sym f.2 in
    let sound : IsTree (with_node tree at.serial (record node { bytes = Some bytes })) = subst (λ (n : Node). IsTree (with_node tree at.serial (record n { bytes = Some bytes }))) same f.3 in
    settles_whole limit writable (Edit.PutAll at bytes) at.serial old new tree after p later node (record node { bytes = Some bytes }) from chunks table l made here stands refl now_is sound refl refl
    (data_ranges tree.wide from) (data_own tree.wide from) (λ b. omega arith) placed w
    (spared_data limit writable (Edit.PutAll at bytes) at.serial old old old new tree after p later [] [] [] node (record node { bytes = Some bytes }) from chunks table l made here stands refl now_is sound refl refl)

pub put_part_settles : PutPartSettles
put_part_settles at selection bytes limit writable old new tree after p node from chunks table later l made here stands placed w =
    let step = step_reaches writable tree after (Edit.PutPart at selection bytes) made in
    let f = put_part_applies tree after at selection bytes l.is_tree step.0 step.1 in
    let same : f.0 ≡ node = same_Some f.0 node (sym f.1 ∙ here) in
    let now_is : with_node tree at.serial (with_part node selection bytes) ≡ after = sym (ap (λ (n : Node). with_node tree at.serial (with_part n selection bytes)) same) ∙ sym f.2 in
    let sound : IsTree (with_node tree at.serial (with_part node selection bytes)) = subst (λ (n : Node). IsTree (with_node tree at.serial (with_part n selection bytes))) same f.3 in
    settles_whole limit writable (Edit.PutPart at selection bytes) at.serial old new tree after p later node (with_part node selection bytes) from chunks table l made here stands refl now_is sound refl refl
    (data_ranges tree.wide from) (data_own tree.wide from) (λ b. omega arith) placed w
    (spared_data limit writable (Edit.PutPart at selection bytes) at.serial old old old new tree after p later [] [] [] node (with_part node selection bytes) from chunks table l made here stands refl now_is sound refl refl)
