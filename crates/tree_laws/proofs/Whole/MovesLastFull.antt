-- A node is moved to the end of its own list, whose table was full, whole.
use Rattle.std.proofs.Common.{◌≡◌, ℕ, suc, refl, ◌∙◌, ap, arith, List, [], ◌∷◌, ◌++◌, length, ◌+◌, ◌-◌, ◌*◌, ◌<◌, Bool}
use Rattle.std.proofs.lemmas.Option.{slice_get_within}
use Rattle.std.specs.Prelude.{Some, None, Ok, slice_get}
use Rattle.std.specs.List.{Contains}
use Rattle.adf_format.specs.declared.types.Extent.{Extent}
use Rattle.adf_format.specs.declared.types.ExtentKind.{ExtentKind}
use Rattle.adf_format.specs.Fields.{field, text_field}
use Rattle.adf_format.specs.Pointer.{To}
use Rattle.adf_format.specs.Records.{entry_text}
use Rattle.adf_format.specs.HeapBytes.{ChangesOnly}
use Rattle.adf_format.specs.Tree.{Tree, children_at, name_at, parent_of}
use Rattle.adf_format.specs.Parts.{table_length}
use Rattle.adf_format.specs.Placement.{Placement, NodeParts, Heap, extent, parts_of, table_extents}
use Rattle.adf_format.specs.LaysOut.{LaysOut, entry_count}
use Rattle.adf_format.specs.HeapRule.{Placed, heap_take, grown_entries, after_gives, place_edit}
use Rattle.adf_format.proofs.HeapSteps.{cover-append}
use Rattle.adf_model.specs.declared.tree.Edit.{Edit}
use Rattle.adf_model.specs.declared.tree.NodeId.{NodeId}
use Rattle.adf_model.specs.Edits.{apply, file_step}
use Rattle.adf_model.specs.Untouched.{touched_extents}
use Rattle.tree_laws.specs.Holding.{Holds}
use Rattle.tree_laws.specs.MidEdit.{IsMidEdit, Puts, GivesAll}
use Rattle.tree_laws.specs.Moving.{IsReplaced, with_longer}
use Rattle.tree_laws.specs.Plans.{end_of_plan}
use Rattle.tree_laws.specs.Spared.{AreSpared, IsEditWhole}
use Rattle.tree_laws.specs.WholeEdits.{longer_ranges, with_longer_table, MoveLastIsWholeFull}
use Rattle.tree_laws.proofs.Holding.Steps.{from_layout}
use Rattle.tree_laws.proofs.Edits.Plans.{plans_others}
use Rattle.tree_laws.proofs.Groups.GroupsGrow.{step_reaches}
use Rattle.tree_laws.proofs.Moves.MovesWhole.{moves_last_longer}
use Rattle.tree_laws.proofs.Moves.PlanMove.{plans_move}
use Rattle.tree_laws.proofs.Whole.Mid.{mid_switches, mid_gives}
use Rattle.tree_laws.proofs.Whole.Ends.{mid_ends}
use Rattle.tree_laws.proofs.Whole.Spares.{both_spared, header_of}
use Rattle.tree_laws.proofs.Whole.Joins.{any_heap, tables_longer, more_places, fields_spared, old_table_spared, list_has_header, list_has_table}
use Rattle.tree_laws.proofs.Whole.Moves.{only_joined, in_second}
use Rattle.tree_laws.proofs.Whole.Creates.{more_entries}
use Rattle.tree_laws.proofs.Edits.LabelSet.{set_here}
use Rattle.tree_laws.proofs.Data.DataSwitched.{long_list}
use Rattle.tree_laws.proofs.Leaving.PartsKept.{table_parts}
use Rattle.adf_model.proofs.Creation.CreatedNodes.{there_inside}
use Rattle.adf_model.proofs.Creation.PartsApart.{range_within}

module _ (limit : ℕ) (writable : Bool) (old start grown middle new : List ℕ) (tree after : Tree) (p : Placement) (heap : Heap) (kind : ExtentKind) (node to : NodeId) (i table : ℕ) (from its : NodeParts)
    (l : LaysOut old tree p) (made : file_step writable tree (Edit.Move node to) ≡ Ok after) (above : parent_of tree node.serial ≡ Some to.serial) (listed : slice_get (children_at tree to.serial) i ≡ Some node.serial)
    (from_at : parts_of p to.serial ≡ Some from) (its_at : parts_of p node.serial ≡ Some its) (full : entry_count from.table ≡ length (children_at tree to.serial))
    (takes : heap_take limit (table_length (grown_entries (length (children_at tree to.serial)))) p.heap ≡ Ok (table, heap))
    (m : IsMidEdit (longer_ranges from) p old tree (record p { heap = heap }) (extent kind table (table_length (grown_entries (length (children_at tree to.serial)))) ∷ []) start)
    (r : IsReplaced start grown from (length (children_at tree to.serial)) table (grown_entries (length (children_at tree to.serial)))) (only : ChangesOnly (extent ExtentKind.Node (from.header + 68) 28 ∷ []) start grown)
    (v : Puts ExtentKind.SubNodes (table + 16 + 44 * i) (44 * (length (children_at tree to.serial) - i)) (field grown (table + 16 + 44 * (i + 1)) (44 * (length (children_at tree to.serial) - suc i)) ++ entry_text (text_field 32 (name_at tree node.serial)) (To its.header)) grown middle)
    (g : GivesAll (table_extents from.table) heap middle new) where
  abbrev edit : Edit
  edit = Edit.Move node to

  abbrev done : List (Edit × Tree)
  done = (edit, after) ∷ []

  abbrev touched : List Extent
  touched = touched_extents tree p edit

  abbrev count : ℕ
  count = length (children_at tree to.serial)

  abbrev entries : ℕ
  entries = grown_entries count

  abbrev ranges : List Extent
  ranges = longer_ranges from

  abbrev s : Placement
  s = with_longer (record p { heap = heap }) to.serial from table entries

  abbrev q : Placement
  q = after_gives s (table_extents from.table)

  h : Holds old tree p []
  h = from_layout old tree p l

  applied : apply tree edit ≡ Ok after
  applied = let z = step_reaches writable tree after edit made in z.1

  placed : place_edit limit tree after (Placed.Move to.serial) p ≡ Ok q
  placed = (plans_others limit tree after p).2 to.serial ∙ ap end_of_plan ((plans_move limit tree after p to.serial from from_at).1 full table heap takes)

  held : Holds middle after s (table_extents from.table ++ [])
  held = moves_last_longer kind start grown middle tree after (record p { heap = heap }) [] node to i table entries from its m.holds applied above listed from_at its_at r v.writes

  in_list : i < count
  in_list = slice_get_within (children_at tree to.serial) i node.serial listed

  joined : IsMidEdit ranges p old after s (table_extents from.table ++ []) middle
  joined =
      mid_switches ranges p old tree after (record p { heap = heap }) s (extent kind table (table_length entries) ∷ []) (table_extents from.table ++ []) (extent ExtentKind.Node (from.header + 68) 28 ∷ extent ExtentKind.SubNodes (table + 16 + 44 * i) (44 * (count - i)) ∷ []) start middle m held refl
      (only_joined (extent ExtentKind.Node (from.header + 68) 28 ∷ []) (extent ExtentKind.SubNodes (table + 16 + 44 * i) (44 * (count - i)) ∷ []) start grown middle only v.only)
      (λ k some.
      let z = range_within table (table_length entries) (table + 16 + 44 * i) (44 * (count - i)) k (omega arith) (let n = r.room in let lt = in_list in omega (arith, n, lt)) in omega (arith, some, z))
      (λ k some. let z = cover-append (table_extents from.table) [] k in omega (arith, some, z))

  ended : IsMidEdit ranges p old after q [] new
  ended = mid_gives ranges p old after s (table_extents from.table) [] middle new (long_list from.table) joined g

  spared : AreSpared ranges touched tree done p q
  spared =
      both_spared touched tree done p q (extent ExtentKind.Node (from.header + 68) 28 ∷ []) (table_extents from.table)
      (fields_spared tree p q old l to.serial from from_at edit after touched has_header 28 (omega arith))
      (old_table_spared tree p q old l to.serial from from_at edit after touched has_header table entries (with_longer_table from table entries)
      (set_here p.parts to.serial (Some (with_longer_table from table entries)) None (there_inside p.parts to.serial from from_at)) refl
      (λ u too. let e = ap entry_count too in let n = more_entries count in omega (arith, e, n, full))
      (λ e z. in_second tree p node to to.serial above e (list_has_table tree.wide p to.serial from from_at e z)))
    where
      has_header : Contains touched (header_of tree.wide from)
      has_header = in_second tree p node to to.serial above (header_of tree.wide from) (list_has_header tree.wide p to.serial from from_at)

  pub move_last_whole : IsEditWhole limit writable edit tree p after q old new
  move_last_whole = mid_ends limit writable edit tree after p q ranges old new l made placed ended spared
      (more_places (table_extents from.table) touched tree.wide p q (λ e z. in_second tree p node to to.serial above e (list_has_table tree.wide p to.serial from from_at e z))
      (tables_longer p to.serial from table entries q.heap from_at (let n = more_entries count in omega (arith, n, full))) (any_heap (table_extents from.table) tree.wide p (with_longer p to.serial from table entries) q.heap (table_parts tree.wide p to.serial from (Some (record { place = table; entries = entries })) from_at)))

pub move_last_is_whole_full : MoveLastIsWholeFull
move_last_is_whole_full limit writable old start grown middle new tree after p heap kind node to i table from its l made above listed from_at its_at full takes m r only v g =
    move_last_whole limit writable old start grown middle new tree after p heap kind node to i table from its l made above listed from_at its_at full takes m r only v g
