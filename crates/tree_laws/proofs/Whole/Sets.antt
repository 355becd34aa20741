-- The shape and the data of a node are set, whole.
use Rattle.std.proofs.Common.{◌≡◌, ◌⊎◌, inl, inr, ℕ, refl, sym, ◌∙◌, ap, subst, arith, List, [], ◌∷◌, ◌++◌, length, get_or, ◌+◌, ◌*◌, ◌<◌, ◌≤◌, Bool, true, false}
use Rattle.std.proofs.lemmas.Bool.Decides.{eqb_tells}
use Rattle.std.proofs.lemmas.List.{length-set}
use Rattle.std.proofs.lemmas.List.Elements.{Contains-append_left, Contains-append_right, Contains-append_cases}
use Rattle.std.specs.Prelude.{Option, Some, None, Ok, slice_set}
use Rattle.std.specs.List.{Contains, AllByRecursion}
use Rattle.adf_format.specs.declared.types.Extent.{Extent}
use Rattle.adf_format.specs.declared.types.ExtentKind.{ExtentKind}
use Rattle.adf_format.specs.HeapBytes.{ChangesOnly}
use Rattle.adf_format.specs.Tree.{Tree, Node, IsTree, node_at}
use Rattle.adf_format.specs.Tiles.{cover}
use Rattle.adf_format.specs.Parts.{node_length, dimension_digits, chunk_count_at}
use Rattle.adf_format.specs.Placement.{Placement, NodeParts, ChunkPart, Heap, extent, parts_of, node_extents, live_extents, chunk_table_extents, chunk_extents}
use Rattle.adf_format.specs.LaysOut.{LaysOut}
use Rattle.adf_format.specs.HeapRule.{data_extents, with_parts, after_gives, place_edit, parts_or_none}
use Rattle.adf_format.proofs.HeapSteps.{cover-append}
use Rattle.adf_model.specs.declared.tree.Edit.{Edit}
use Rattle.adf_model.specs.Edits.{file_step, with_node, with_shape, with_part}
use Rattle.adf_model.specs.Placing.{placed_as}
use Rattle.adf_model.specs.Shapes.{dims_of}
use Rattle.adf_model.specs.Untouched.{touched_extents, data_of, group_shaped, most_dims, rank_of}
use Rattle.adf_model.proofs.Basics.{same_Some}
use Rattle.adf_model.proofs.Creation.PartExtents.{node_of, of_node, none_in}
use Rattle.adf_model.proofs.Creation.CreatedNodes.{there_inside}
use Rattle.tree_laws.specs.DataSwitch.{Switches, with_data}
use Rattle.tree_laws.specs.Holding.{Holds}
use Rattle.tree_laws.specs.MidEdit.{IsMidEdit, GivesAll}
use Rattle.tree_laws.specs.Spared.{AreSpared, KeepsPlaces, IsEditWhole}
use Rattle.tree_laws.specs.WholeData.{data_ranges, shape_ranges, SetDimsIsWhole, PutAllIsWhole, PutPartIsWhole}
use Rattle.tree_laws.proofs.Data.DataApplied.{set_dims_applies, put_all_applies, put_part_applies}
use Rattle.tree_laws.proofs.Data.DataSwitched.{data_switches}
use Rattle.tree_laws.proofs.Edits.LabelSet.{set_here, set_there}
use Rattle.tree_laws.proofs.Groups.GroupsGrow.{step_reaches}
use Rattle.tree_laws.proofs.Leaving.ListsLeave.{list_or_data, data_in_node, list_extents, only_one}
use Rattle.tree_laws.proofs.Whole.Mid.{mid_switches, mid_gives}
use Rattle.tree_laws.proofs.Whole.Ends.{mid_ends}
use Rattle.tree_laws.proofs.Whole.Spares.{one_spared, both_spared, each_spared, header_spared, shape_spared, part_spared, header_of}

-- a part of the data is no header and no table of children
data_kind : (from : NodeParts) (e : Extent) → Contains (data_extents from) e → (e.kind ≡ ExtentKind.ChunkTable) ⊎ (e.kind ≡ ExtentKind.DataChunk)
data_kind from e c = elim (Contains-append_cases (chunk_table_extents from.chunk_table (length from.chunks)) (chunk_extents from.chunks) e c) [
  | inl table ↦ inl (by_table from.chunk_table table)
  | inr one ↦ inr (by_chunk from.chunks one)
]
  where
    by_table : (o : Option ℕ) → Contains (chunk_table_extents o (length from.chunks)) e → e.kind ≡ ExtentKind.ChunkTable
    by_table None k = absurd (none_in e k)
    by_table (Some place) k = sym (ap (λ (x : Extent). x.kind) (only_one _ e k))

    by_chunk : (cs : List ChunkPart) → Contains (chunk_extents cs) e → e.kind ≡ ExtentKind.DataChunk
    by_chunk [] k = absurd (none_in e k)
    by_chunk (x ∷ cs) k = elim (Contains-append_cases (extent ExtentKind.DataChunk x.place x.length ∷ []) (chunk_extents cs) e k) [
      | inl here ↦ sym (ap (λ (y : Extent). y.kind) (only_one _ e here))
      | inr later ↦ by_chunk cs later
    ]

no_header : (from : NodeParts) (e : Extent) → Contains (data_extents from) e → e.kind ≡ ExtentKind.Node → ⊥
no_header from e c k = elim (data_kind from e c) [ inl t ↦ table (sym t ∙ k) | inr t ↦ chunk (sym t ∙ k) ]
  where
    table : ExtentKind.ChunkTable ≡ ExtentKind.Node → ⊥
    table x = cc

    chunk : ExtentKind.DataChunk ≡ ExtentKind.Node → ⊥
    chunk x = cc

no_list : (from : NodeParts) (e : Extent) → Contains (data_extents from) e → e.kind ≡ ExtentKind.SubNodes → ⊥
no_list from e c k = elim (data_kind from e c) [ inl t ↦ table (sym t ∙ k) | inr t ↦ chunk (sym t ∙ k) ]
  where
    table : ExtentKind.ChunkTable ≡ ExtentKind.SubNodes → ⊥
    table x = cc

    chunk : ExtentKind.DataChunk ≡ ExtentKind.SubNodes → ⊥
    chunk x = cc

-- what a change of data may touch
data_is : (wide : Bool) (p : Placement) (s : ℕ) (from : NodeParts) → parts_of p s ≡ Some from → data_of wide p s ≡ header_of wide from ∷ data_extents from
data_is wide p s from at = ap (λ (o : Option NodeParts). header_of wide (parts_or_none o) ∷ data_extents (parts_or_none o)) at

has_header : (wide : Bool) (p : Placement) (s : ℕ) (from : NodeParts) → parts_of p s ≡ Some from → Contains (data_of wide p s) (header_of wide from)
has_header wide p s from at = subst (λ xs. Contains xs (header_of wide from)) (sym (data_is wide p s from at)) (0, omega arith, refl)

has_data : (wide : Bool) (p : Placement) (s : ℕ) (from : NodeParts) → parts_of p s ≡ Some from → (e : Extent) → Contains (data_extents from) e → Contains (data_of wide p s) e
has_data wide p s from at e c = subst (λ xs. Contains xs e) (sym (data_is wide p s from at)) (Contains-append_right (header_of wide from ∷ []) (data_extents from) e c)

-- other data keep all parts but the header's and the data's
data_places : (wide : Bool) (p : Placement) (heap : Heap) (s : ℕ) (from : NodeParts) (chunks : List ChunkPart) (table : Option ℕ) → parts_of p s ≡ Some from
    → KeepsPlaces (data_of wide p s) wide p (record (with_parts p s (with_data from chunks table)) { heap = heap })
data_places wide p heap s from chunks table at = record {
  parts = λ e live free. let n = node_of wide p.parts e live in on e free n.0 n.1 n.2 n.3;
  headers = λ k a b there now. (same_list k a b there now).0;
  drawn = (let e = length-set p.parts s (Some (with_data from chunks table)) in omega (arith, e));
  before = λ k b lt now. elim (eqb_tells k s) [
    | inl same ↦ (from, ap (parts_of p) same.1 ∙ at)
    | inr other ↦ (b, sym (set_there p.parts s k (Some (with_data from chunks table)) None other.1) ∙ now)
  ];
  tables = λ k a b there now. inl (same_list k a b there now).1;
}
  where
    here : get_or (slice_set p.parts s (Some (with_data from chunks table))) s None ≡ Some (with_data from chunks table)
    here = set_here p.parts s (Some (with_data from chunks table)) None (there_inside p.parts s from at)

    same_list : (k : ℕ) (a b : NodeParts) → parts_of p k ≡ Some a → get_or (slice_set p.parts s (Some (with_data from chunks table))) k None ≡ Some b → (b.header ≡ a.header) × (b.table ≡ a.table)
    same_list k a b there now = elim (eqb_tells k s) [
      | inl same ↦ (
          let is : a ≡ from = same_Some a from (sym there ∙ ap (parts_of p) same.1 ∙ at) in
          let now_is : with_data from chunks table ≡ b = same_Some (with_data from chunks table) b (sym here ∙ sym (ap (λ (j : ℕ). get_or (slice_set p.parts s (Some (with_data from chunks table))) j None) same.1) ∙ now) in (
            sym (ap (λ (x : NodeParts). x.header) now_is) ∙ sym (ap (λ (x : NodeParts). x.header) is),
            sym (ap (λ (x : NodeParts). x.table) now_is) ∙ sym (ap (λ (x : NodeParts). x.table) is),
          ))
      | inr other ↦ (
          let is : b ≡ a = same_Some b a (sym now ∙ set_there p.parts s k (Some (with_data from chunks table)) None other.1 ∙ there) in
          (ap (λ (x : NodeParts). x.header) is, ap (λ (x : NodeParts). x.table) is))
    ]

    own_table : (e : Extent) → (Contains (data_of wide p s) e → ⊥) → Contains (list_extents wide from) e → Contains (node_extents wide (with_data from chunks table)) e
    own_table e free c =
        Contains-append_left (list_extents wide from ++ chunk_table_extents table (length chunks)) (chunk_extents chunks) e
        (Contains-append_left (list_extents wide from) (chunk_table_extents table (length chunks)) e c)

    on : (e : Extent) → (Contains (data_of wide p s) e → ⊥) → (k : ℕ) (ms : NodeParts) → parts_of p k ≡ Some ms → Contains (node_extents wide ms) e → Contains (live_extents wide (with_parts p s (with_data from chunks table))) e
    on e free k ms there own = elim (eqb_tells k s) [
      | inl same ↦ (
          let is : ms ≡ from = same_Some ms from (sym there ∙ ap (parts_of p) same.1 ∙ at) in
          elim (list_or_data wide from e (subst (λ (x : NodeParts). Contains (node_extents wide x) e) is own)) [
            | inl list ↦ of_node wide (slice_set p.parts s (Some (with_data from chunks table))) s (with_data from chunks table) e here (own_table e free list)
            | inr data' ↦ absurd (free (has_data wide p s from at e data'))
          ])
      | inr other ↦ of_node wide (slice_set p.parts s (Some (with_data from chunks table))) k ms e (set_there p.parts s k (Some (with_data from chunks table)) None other.1 ∙ there) own
    ]

module _ (limit : ℕ) (writable : Bool) (edit : Edit) (s : ℕ) (old a written new : List ℕ) (tree after : Tree) (p : Placement) (heap : Heap) (taken given ranges : List Extent) (node now : Node) (from : NodeParts) (chunks : List ChunkPart) (table : Option ℕ)
    (l : LaysOut old tree p) (made : file_step writable tree edit ≡ Ok after) (here : node_at tree s ≡ Some node) (at : parts_of p s ≡ Some from)
    (touched_is : touched_extents tree p edit ≡ data_of tree.wide p s) (now_is : with_node tree s now ≡ after) (sound : IsTree (with_node tree s now)) (name_is : now.name ≡ node.name) (list_is : now.children ≡ node.children) where
  abbrev done : List (Edit × Tree)
  done = (edit, after) ∷ []

  abbrev touched : List Extent
  touched = touched_extents tree p edit

  abbrev r : Placement
  r = with_parts (record p { heap = heap }) s (with_data from chunks table)

  abbrev q : Placement
  q = after_gives r given

  touched_header : Contains touched (header_of tree.wide from)
  touched_header = subst (λ xs. Contains xs (header_of tree.wide from)) (sym touched_is) (has_header tree.wide p s from at)

  touched_data : (e : Extent) → Contains (data_extents from) e → Contains touched e
  touched_data e c = subst (λ xs. Contains xs e) (sym touched_is) (has_data tree.wide p s from at e c)

  pub spared_data : AreSpared (data_ranges tree.wide from) touched tree done p q
  spared_data =
      both_spared touched tree done p q (extent ExtentKind.Node (from.header + chunk_count_at tree.wide) 16 ∷ []) (data_extents from)
      (one_spared touched tree done p q ExtentKind.Node (from.header + chunk_count_at tree.wide) 16 (λ b low high.
      header_spared touched tree done p q old l s from at (chunk_count_at tree.wide) 16 b (inr (behind tree.wide)) (fits tree.wide) touched_header low high))
      (each_spared touched tree done p q (data_extents from) (λ x b c low high.
      part_spared touched tree done p q old l s from at x b (no_header from x c) (data_in_node tree.wide from x c) (touched_data x c)
      (λ to t there has still same. no_list from x c (ap (λ (e : Extent). e.kind) same)) low high))
    where
      behind : (wide : Bool) → 130 + 12 * dimension_digits wide ≤ chunk_count_at wide
      behind false = omega arith
      behind true = omega arith

      fits : (wide : Bool) → chunk_count_at wide + 16 ≤ node_length wide
      fits false = omega arith
      fits true = omega arith

  -- with the type, the rank and so many dimensions
  pub spared_shape : (rank : ℕ) → rank ≤ 12 → rank ≤ most_dims tree done s → Contains (group_shaped done) s → AreSpared (shape_ranges tree.wide from rank) touched tree done p q
  spared_shape rank few most shaped =
      both_spared touched tree done p q (extent ExtentKind.Node (from.header + 96) (34 + rank * dimension_digits tree.wide) ∷ []) (data_ranges tree.wide from)
      (one_spared touched tree done p q ExtentKind.Node (from.header + 96) (34 + rank * dimension_digits tree.wide) (λ b low high.
      shape_spared touched tree done p q old l s from at rank b most few shaped touched_header (omega (arith, low)) (omega (arith, high))))
      spared_data

  pub set_whole : (mine : List Extent) → place_edit limit tree after (placed_as edit) p ≡ Ok q → IsMidEdit mine p old tree (record p { heap = heap }) taken a
      → Switches ranges tree.wide now from chunks table taken (given ++ []) a written → ChangesOnly ranges a written → ((b : ℕ) → 0 < cover ranges b → 0 < cover (taken ++ mine) b)
      → ((b : ℕ) → cover (data_extents from) b ≤ cover mine b)
      → AllByRecursion (λ (e : Extent). 0 < e.length) given → GivesAll given heap written new → AreSpared mine touched tree done p q → IsEditWhole limit writable edit tree p after q old new
  set_whole mine placed u x only inside own long g spared =
      mid_ends limit writable edit tree after p q mine old new l made placed
      (mid_gives mine p old after r given [] written new long
      (mid_switches mine p old tree after (record p { heap = heap }) r taken (given ++ []) ranges a written u
      (subst (λ (t : Tree). Holds written t r (given ++ [])) now_is (data_switches ranges a written tree (record p { heap = heap }) taken (given ++ []) s node now from chunks table u.holds here at name_is list_is x sound)) refl only inside
      (λ k some.
      let o = x.owners k in
      let c = cover-append (given ++ []) (data_extents (with_data from chunks table)) k in
      let d = cover-append taken (data_extents from) k in
      let e = cover-append taken mine k in
      let f = own k in omega (arith, o, c, d, e, f, some))) g)
      spared
      (subst (λ xs. KeepsPlaces xs tree.wide p q) (sym touched_is) (data_places tree.wide p q.heap s from chunks table at))

-- ---- the three edits

pub set_dims_is_whole : SetDimsIsWhole
set_dims_is_whole at shape limit writable old a written new tree after p heap taken given ranges node from chunks table l made here stands placed u x only inside long g =
    let step = step_reaches writable tree after (Edit.SetDims at shape) made in
    let f = set_dims_applies tree after at shape l.is_tree step.1 in
    let same : f.0 ≡ node = same_Some f.0 node (sym f.1 ∙ here) in
    let now_is : with_node tree at.serial (with_shape node shape) ≡ after = sym (ap (λ (n : Node). with_node tree at.serial (with_shape n shape)) same) ∙ sym f.2 in
    let sound : IsTree (with_node tree at.serial (with_shape node shape)) = subst (λ (n : Node). IsTree (with_node tree at.serial (with_shape n shape))) same f.3 in
    let rank : rank_of (node_at after at.serial) ≡ length (dims_of shape) = ap (λ (t : Tree). rank_of (node_at t at.serial)) (sym now_is) ∙ ap rank_of (set_here tree.nodes at.serial (Some (with_shape node shape)) None (there_inside tree.nodes at.serial node here)) in
    set_whole limit writable (Edit.SetDims at shape) at.serial old a written new tree after p heap taken given ranges node (with_shape node shape) from chunks table l made here stands refl now_is sound refl refl
    (shape_ranges tree.wide from (length (dims_of shape))) placed u x only inside (λ b. omega arith) long g
    (spared_shape limit writable (Edit.SetDims at shape) at.serial old a written new tree after p heap taken given ranges node (with_shape node shape) from chunks table l made here stands refl now_is sound refl refl
    (length (dims_of shape)) f.4 (omega (arith, rank)) (0, omega arith, refl))

pub put_all_is_whole : PutAllIsWhole
put_all_is_whole at bytes limit writable old a written new tree after p heap taken given ranges node from chunks table l made here stands placed u x only inside long g =
    let step = step_reaches writable tree after (Edit.PutAll at bytes) made in
    let f = put_all_applies tree after at bytes l.is_tree step.0 step.1 in
    let same : f.0 ≡ node = same_Some f.0 node (sym f.1 ∙ here) in
    let now_is : with_node tree at.serial (record node { bytes = Some bytes }) ≡ after = sym (ap (λ (n : Node). with_node tree at.serial (record n { bytes = Some bytes })) same) ∙ sym f.2 in
    let sound : IsTree (with_node tree at.serial (record node { bytes = Some bytes })) = subst (λ (n : Node). IsTree (with_node tree at.serial (record n { bytes = Some bytes }))) same f.3 in
    set_whole limit writable (Edit.PutAll at bytes) at.serial old a written new tree after p heap taken given ranges node (record node { bytes = Some bytes }) from chunks table l made here stands refl now_is sound refl refl
    (data_ranges tree.wide from) placed u x only inside (λ b. omega arith) long g
    (spared_data limit writable (Edit.PutAll at bytes) at.serial old a written new tree after p heap taken given ranges node (record node { bytes = Some bytes }) from chunks table l made here stands refl now_is sound refl refl)

pub put_part_is_whole : PutPartIsWhole
put_part_is_whole at selection bytes limit writable old a written new tree after p heap taken given ranges node from chunks table l made here stands placed u x only inside long g =
    let step = step_reaches writable tree after (Edit.PutPart at selection bytes) made in
    let f = put_part_applies tree after at selection bytes l.is_tree step.0 step.1 in
    let same : f.0 ≡ node = same_Some f.0 node (sym f.1 ∙ here) in
    let now_is : with_node tree at.serial (with_part node selection bytes) ≡ after = sym (ap (λ (n : Node). with_node tree at.serial (with_part n selection bytes)) same) ∙ sym f.2 in
    let sound : IsTree (with_node tree at.serial (with_part node selection bytes)) = subst (λ (n : Node). IsTree (with_node tree at.serial (with_part n selection bytes))) same f.3 in
    set_whole limit writable (Edit.PutPart at selection bytes) at.serial old a written new tree after p heap taken given ranges node (with_part node selection bytes) from chunks table l made here stands refl now_is sound refl refl
    (data_ranges tree.wide from) placed u x only inside (λ b. omega arith) long g
    (spared_data limit writable (Edit.PutPart at selection bytes) at.serial old a written new tree after p heap taken given ranges node (with_part node selection bytes) from chunks table l made here stands refl now_is sound refl refl)
