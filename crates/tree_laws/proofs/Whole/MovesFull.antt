-- A node is moved where the table of its new parent was full, whole.
use Rattle.std.proofs.Common.{◌≡◌, ◌≢◌, ℕ, suc, refl, ◌∙◌, ap, arith, List, [], ◌∷◌, ◌++◌, length, ◌+◌, ◌-◌, ◌*◌, ◌<◌, ◌≤◌, Bool}
use Rattle.std.proofs.lemmas.Option.{slice_get_within}
use Rattle.std.specs.Prelude.{Some, None, Ok, slice_get}
use Rattle.std.specs.List.{Contains}
use Rattle.adf_format.specs.declared.types.Extent.{Extent}
use Rattle.adf_format.specs.declared.types.ExtentKind.{ExtentKind}
use Rattle.adf_format.specs.Fields.{field, text_field}
use Rattle.adf_format.specs.Hex.{hex_text}
use Rattle.adf_format.specs.Pointer.{To}
use Rattle.adf_format.specs.Records.{entry_text}
use Rattle.adf_format.specs.HeapBytes.{ChangesOnly}
use Rattle.adf_format.specs.Tree.{Tree, children_at, name_at, parent_of}
use Rattle.adf_format.specs.Parts.{table_length}
use Rattle.adf_format.specs.Placement.{Placement, NodeParts, TablePart, Heap, extent, parts_of, table_extents}
use Rattle.adf_format.specs.LaysOut.{LaysOut, entry_count}
use Rattle.adf_format.specs.HeapRule.{Placed, heap_take, grown_entries, after_gives, place_edit}
use Rattle.adf_format.proofs.HeapSteps.{cover-append}
use Rattle.adf_model.specs.declared.tree.Edit.{Edit}
use Rattle.adf_model.specs.declared.tree.NodeId.{NodeId}
use Rattle.adf_model.specs.Edits.{IsReached, apply, file_step}
use Rattle.adf_model.specs.Untouched.{touched_extents}
use Rattle.tree_laws.specs.Holding.{Holds}
use Rattle.tree_laws.specs.MidEdit.{IsMidEdit, Puts, GivesAll}
use Rattle.tree_laws.specs.Moving.{IsReplaced, with_longer}
use Rattle.tree_laws.specs.Plans.{end_of_plan}
use Rattle.tree_laws.specs.Spared.{AreSpared, IsEditWhole}
use Rattle.tree_laws.specs.WholeEdits.{closing_ranges, longer_ranges, with_longer_table, MoveIsWholeFull}
use Rattle.tree_laws.proofs.Holding.Steps.{from_layout}
use Rattle.tree_laws.proofs.Edits.Plans.{plans_others}
use Rattle.tree_laws.proofs.Groups.GroupsGrow.{step_reaches}
use Rattle.tree_laws.proofs.Moves.MovesWhole.{moves_over_longer}
use Rattle.tree_laws.proofs.Moves.PlanMove.{plans_move}
use Rattle.tree_laws.proofs.Whole.Mid.{mid_switches, mid_gives}
use Rattle.tree_laws.proofs.Whole.Ends.{mid_ends}
use Rattle.tree_laws.proofs.Whole.Texts.{puts_two}
use Rattle.tree_laws.proofs.Whole.Spares.{both_spared, header_of, list_part}
use Rattle.tree_laws.proofs.Whole.Joins.{any_heap, tables_longer, more_places, fields_spared, entry_spared, old_table_spared, list_has_header, list_has_table}
use Rattle.tree_laws.proofs.Whole.Moves.{only_joined, table_in_list, in_first, in_second, has_fit}
use Rattle.tree_laws.proofs.Whole.Creates.{more_entries}
use Rattle.tree_laws.proofs.Edits.LabelSet.{set_here}
use Rattle.tree_laws.proofs.Data.DataSwitched.{long_list}
use Rattle.tree_laws.proofs.Leaving.PartsKept.{table_parts}
use Rattle.adf_model.proofs.Creation.CreatedNodes.{there_inside}
use Rattle.adf_model.proofs.Creation.PartsApart.{range_within}

module _ (limit : ℕ) (writable : Bool) (old start grown a b c middle new : List ℕ) (tree after : Tree) (p : Placement) (heap : Heap) (kind : ExtentKind) (node to : NodeId) (parent i table : ℕ) (from its other : NodeParts) (t : TablePart)
    (l : LaysOut old tree p) (made : file_step writable tree (Edit.Move node to) ≡ Ok after) (above : parent_of tree node.serial ≡ Some parent) (differ : parent ≢ to.serial) (listed : slice_get (children_at tree parent) i ≡ Some node.serial)
    (from_at : parts_of p parent ≡ Some from) (has : from.table ≡ Some t) (its_at : parts_of p node.serial ≡ Some its) (other_at : parts_of p to.serial ≡ Some other) (full : entry_count other.table ≡ length (children_at tree to.serial))
    (takes : heap_take limit (table_length (grown_entries (length (children_at tree to.serial)))) p.heap ≡ Ok (table, heap))
    (m : IsMidEdit (closing_ranges from t (length (children_at tree parent)) i ++ longer_ranges other) p old tree (record p { heap = heap }) (extent kind table (table_length (grown_entries (length (children_at tree to.serial)))) ∷ []) start)
    (r : IsReplaced start grown other (length (children_at tree to.serial)) table (grown_entries (length (children_at tree to.serial)))) (only : ChangesOnly (extent ExtentKind.Node (other.header + 68) 28 ∷ []) start grown)
    (v : Puts ExtentKind.SubNodes (t.place + 16 + 44 * i) (44 * (length (children_at tree parent) - suc i)) (field grown (t.place + 16 + 44 * (i + 1)) (44 * (length (children_at tree parent) - suc i))) grown a)
    (w : Puts ExtentKind.Node (from.header + 68) 8 (hex_text 8 (length (children_at tree parent) - 1)) a b)
    (x : Puts ExtentKind.SubNodes (table + 16 + 44 * length (children_at tree to.serial)) 44 (entry_text (text_field 32 (name_at tree node.serial)) (To its.header)) b c)
    (y : Puts ExtentKind.Node (other.header + 68) 8 (hex_text 8 (suc (length (children_at tree to.serial)))) c middle) (g : GivesAll (table_extents other.table) heap middle new) where
  abbrev edit : Edit
  edit = Edit.Move node to

  abbrev done : List (Edit × Tree)
  done = (edit, after) ∷ []

  abbrev touched : List Extent
  touched = touched_extents tree p edit

  abbrev count : ℕ
  count = length (children_at tree to.serial)

  abbrev entries : ℕ
  entries = grown_entries count

  abbrev closing : List Extent
  closing = closing_ranges from t (length (children_at tree parent)) i

  abbrev ranges : List Extent
  ranges = closing ++ longer_ranges other

  abbrev taken : List Extent
  taken = extent kind table (table_length entries) ∷ []

  abbrev s : Placement
  s = with_longer (record p { heap = heap }) to.serial other table entries

  abbrev q : Placement
  q = after_gives s (table_extents other.table)

  h : Holds old tree p []
  h = from_layout old tree p l

  applied : apply tree edit ≡ Ok after
  applied = let z = step_reaches writable tree after edit made in z.1

  reached : IsReached tree edit
  reached = let z = step_reaches writable tree after edit made in z.0

  placed : place_edit limit tree after (Placed.Move to.serial) p ≡ Ok q
  placed = (plans_others limit tree after p).2 to.serial ∙ ap end_of_plan ((plans_move limit tree after p to.serial other other_at).1 full table heap takes)

  held : Holds middle after s (table_extents other.table ++ [])
  held = moves_over_longer kind start grown a b c middle tree after (record p { heap = heap }) [] node to parent i table entries from its other t m.holds applied reached above differ listed from_at has its_at other_at r
      (record { entries = v.writes; counted = w.writes }) x.writes y.writes

  abbrev first : List Extent
  first = extent ExtentKind.Node (other.header + 68) 28 ∷ []

  abbrev second : List Extent
  second = extent ExtentKind.SubNodes (t.place + 16 + 44 * i) (44 * (length (children_at tree parent) - suc i)) ∷ extent ExtentKind.Node (from.header + 68) 8 ∷ []

  abbrev third : List Extent
  third = extent ExtentKind.SubNodes (table + 16 + 44 * count) 44 ∷ extent ExtentKind.Node (other.header + 68) 8 ∷ []

  joined : IsMidEdit ranges p old after s (table_extents other.table ++ []) middle
  joined =
      mid_switches ranges p old tree after (record p { heap = heap }) s taken (table_extents other.table ++ []) (first ++ second ++ third) start middle m held refl
      (only_joined (first ++ second) third start b middle (only_joined first second start grown b only (puts_two v w)) (puts_two x y))
      (λ k some.
      let e = cover-append closing (longer_ranges other) k in
      let z = range_within table (table_length entries) (table + 16 + 44 * count) 44 k (omega arith) (let n = r.room in omega (arith, n)) in
      let n = range_within (other.header + 68) 28 (other.header + 68) 8 k (omega arith) (omega arith) in
      omega (arith, some, e, z, n))
      (λ k some. let e = cover-append closing (longer_ranges other) k in let z = cover-append (table_extents other.table) [] k in omega (arith, some, e, z))

  ended : IsMidEdit ranges p old after q [] new
  ended = mid_gives ranges p old after s (table_extents other.table) [] middle new (long_list other.table) joined g

  in_list : i < length (children_at tree parent)
  in_list = slice_get_within (children_at tree parent) i node.serial listed

  fits : length (children_at tree parent) ≤ t.entries
  fits = has_fit old tree p parent from t h from_at has

  spared : AreSpared ranges touched tree done p q
  spared =
      both_spared touched tree done p q closing (longer_ranges other)
      (both_spared touched tree done p q (extent ExtentKind.Node (from.header + 68) 8 ∷ []) (extent ExtentKind.SubNodes (t.place + 16 + 44 * i) (44 * (length (children_at tree parent) - suc i)) ∷ [])
      (fields_spared tree p q old l parent from from_at edit after touched first_header 8 (omega arith))
      (entry_spared tree p q old l parent from from_at edit after touched first_header t i (length (children_at tree parent) - suc i) has
      (in_first tree p node to parent above (list_part t) (list_has_table tree.wide p parent from from_at (list_part t) (table_in_list from t has)))
      (let lt = in_list in omega (arith, lt)) (let lt = in_list in let f = fits in omega (arith, lt, f))))
      (both_spared touched tree done p q first (table_extents other.table)
      (fields_spared tree p q old l to.serial other other_at edit after touched second_header 28 (omega arith))
      (old_table_spared tree p q old l to.serial other other_at edit after touched second_header table entries (with_longer_table other table entries)
      (set_here p.parts to.serial (Some (with_longer_table other table entries)) None (there_inside p.parts to.serial other other_at)) refl
      (λ u too. let e = ap entry_count too in let n = more_entries count in omega (arith, e, n, full))
      (λ e z. in_second tree p node to parent above e (list_has_table tree.wide p to.serial other other_at e z))))
    where
      first_header : Contains touched (header_of tree.wide from)
      first_header = in_first tree p node to parent above (header_of tree.wide from) (list_has_header tree.wide p parent from from_at)

      second_header : Contains touched (header_of tree.wide other)
      second_header = in_second tree p node to parent above (header_of tree.wide other) (list_has_header tree.wide p to.serial other other_at)

  pub move_whole_full : IsEditWhole limit writable edit tree p after q old new
  move_whole_full = mid_ends limit writable edit tree after p q ranges old new l made placed ended spared
      (more_places (table_extents other.table) touched tree.wide p q (λ e z. in_second tree p node to parent above e (list_has_table tree.wide p to.serial other other_at e z))
      (tables_longer p to.serial other table entries q.heap other_at (let n = more_entries count in omega (arith, n, full))) (any_heap (table_extents other.table) tree.wide p (with_longer p to.serial other table entries) q.heap (table_parts tree.wide p to.serial other (Some (record { place = table; entries = entries })) other_at)))

pub move_is_whole_full : MoveIsWholeFull
move_is_whole_full limit writable old start grown a b c middle new tree after p heap kind node to parent i table from its other t l made above differ listed from_at has its_at other_at full takes m r only v w x y g =
    move_whole_full limit writable old start grown a b c middle new tree after p heap kind node to parent i table from its other t l made above differ listed from_at has its_at other_at full takes m r only v w x y g
