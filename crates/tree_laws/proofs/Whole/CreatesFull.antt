-- A node without data is created in a parent whose table is full, whole.
use Rattle.std.proofs.Common.{◌≡◌, ℕ, suc, refl, sym, ◌∙◌, ap, subst, arith, List, [], ◌∷◌, ◌++◌, length, ◌+◌, ◌-◌, ◌^◌, ◌<◌, ◌≤◌, Bool}
use Rattle.std.specs.Prelude.{Option, Some, None, Ok, slice_set}
use Rattle.adf_format.specs.declared.types.Extent.{Extent}
use Rattle.adf_format.specs.declared.types.ExtentKind.{ExtentKind}
use Rattle.adf_format.specs.Fields.{field, text_field}
use Rattle.adf_format.specs.Hex.{hex_text}
use Rattle.adf_format.specs.Pointer.{To, pointer_text}
use Rattle.adf_format.specs.Records.{SubNodes, node_text, entry_text}
use Rattle.adf_format.specs.Spelled.{framed_text}
use Rattle.adf_format.specs.Tree.{Tree, Node, node_at, children_of, children_at}
use Rattle.adf_format.specs.Parts.{node_length, table_length}
use Rattle.adf_format.specs.Placement.{Placement, NodeParts, Heap, extent, parts_of, table_extents}
use Rattle.adf_format.specs.LaysOut.{LaysOut, entry_count}
use Rattle.adf_format.specs.HeapRule.{Placed, heap_take, grown_entries, no_parts, with_new_parts, after_gives, place_edit}
use Rattle.adf_format.proofs.HeapSteps.{cover-append}
use Rattle.adf_model.specs.declared.tree.Edit.{Edit}
use Rattle.adf_model.specs.declared.tree.NodeId.{NodeId}
use Rattle.adf_model.specs.Creation.{empty_node, used_entries, unused_entries}
use Rattle.adf_model.specs.Edits.{file_step}
use Rattle.adf_model.specs.Untouched.{touched_extents}
use Rattle.adf_format.specs.Changes.{Writes}
use Rattle.adf_model.proofs.Creation.CreatedNodes.{there_inside, at_set}
use Rattle.tree_laws.specs.Holding.{Holds}
use Rattle.tree_laws.specs.MidEdit.{IsMidEdit, Puts, GivesAll}
use Rattle.tree_laws.specs.Spared.{AreSpared, IsEditWhole}
use Rattle.tree_laws.specs.WholeEdits.{longer_ranges, with_longer_table, CreateIsWholeFull}
use Rattle.tree_laws.proofs.Holding.Steps.{from_layout}
use Rattle.tree_laws.proofs.Data.DataSwitched.{long_list}
use Rattle.tree_laws.proofs.Edits.EntryJoined.{tables_join}
use Rattle.tree_laws.proofs.Edits.EditsPlaced.{as_many}
use Rattle.tree_laws.proofs.Edits.PlanNew.{plans_create}
use Rattle.tree_laws.proofs.Groups.GroupsGrow.{step_reaches}
use Rattle.tree_laws.proofs.Tables.TableReplaced.{few_dims, node_too}
use Rattle.tree_laws.proofs.Whole.Mid.{mid_switches, mid_gives}
use Rattle.tree_laws.proofs.Whole.Ends.{mid_ends}
use Rattle.tree_laws.proofs.Whole.Spares.{both_spared}
use Rattle.tree_laws.proofs.Whole.Joins.{tables_longer_more, table_and_more, more_places, fields_spared, old_table_spared, list_has_header, list_has_table}
use Rattle.tree_laws.proofs.Whole.Creates.{agrees, more_entries, few_entries, new_placed_full, front_in, placed_by, grown, short_text, sound, short}

module _ (limit : ℕ) (writable : Bool) (old a middle new : List ℕ) (tree after : Tree) (p : Placement) (between heap : Heap) (kind other : ExtentKind) (at : NodeId) (name label : List ℕ) (header table entries : ℕ) (from : NodeParts)
    (l : LaysOut old tree p) (made : file_step writable tree (Edit.Create at name label) ≡ Ok after) (full : entry_count from.table ≡ length (children_at tree at.serial)) (many : entries ≡ grown_entries (length (children_at tree at.serial)))
    (takes : heap_take limit (node_length tree.wide) p.heap ≡ Ok (header, between)) (near : header < 2 ^ 44) (takes_table : heap_take limit (table_length entries) between ≡ Ok (table, heap)) (far : table + table_length entries ≤ 2 ^ 44)
    (u : IsMidEdit (longer_ranges from) p old tree (record p { heap = heap }) (extent other table (table_length entries) ∷ extent kind header (node_length tree.wide) ∷ []) a)
    (text : field a header (node_length tree.wide) ≡ node_text (empty_node tree.wide name label)) (stands : parts_of p at.serial ≡ Some from)
    (list : field a table (table_length entries) ≡ framed_text SubNodes table (used_entries a from.table (length (children_at tree at.serial)) ++ entry_text (text_field 32 name) (To header) ++ unused_entries (entries - suc (length (children_at tree at.serial)))))
    (w : Puts ExtentKind.Node (from.header + 68) 28 (hex_text 8 (suc (length (children_at tree at.serial))) ++ hex_text 8 entries ++ pointer_text (To table)) a middle) (g : GivesAll (table_extents from.table) heap middle new) where
  abbrev edit : Edit
  edit = Edit.Create at name label

  abbrev done : List (Edit × Tree)
  done = (edit, after) ∷ []

  abbrev touched : List Extent
  touched = touched_extents tree p edit

  abbrev count : ℕ
  count = length (children_at tree at.serial)

  abbrev r : Placement
  r = with_new_parts (record { parts = slice_set p.parts at.serial (Some (with_longer_table from table entries)); heap = heap }) header

  abbrev q : Placement
  q = after_gives r (table_extents from.table)

  abbrev ranges : List Extent
  ranges = longer_ranges from

  h : Holds old tree p []
  h = from_layout old tree p l

  parent : (up : Node) × (node_at tree at.serial ≡ Some up)
  parent = node_too tree p at.serial from h.same_nodes stands

  same_count : count ≡ length parent.0.children
  same_count = ap (λ (o : Option Node). length (children_of o)) parent.1

  width : count ≤ 2 ^ 20
  width = h.is_tree.width at.serial

  placed : place_edit limit tree after (Placed.Create at.serial) p ≡ Ok q
  placed =
      plans_create limit tree after p at name label (as_many tree p h.same_nodes) (let s = step_reaches writable tree after edit made in s.1)
      ∙ new_placed_full limit tree p at.serial from stands header table between heap takes (subst (λ n. heap_take limit (table_length n) between ≡ Ok (table, heap)) many takes_table) (agrees (entry_count from.table) count full)
      ∙ ap (λ n. placed_by (after_gives (with_new_parts (record { parts = slice_set p.parts at.serial (Some (with_longer_table from table n)); heap = heap }) header) (table_extents from.table))) (sym many)

  held : Holds middle after r (table_extents from.table ++ [])
  held = subst (λ (x : Tree). Holds middle x r (table_extents from.table ++ [])) (grown writable tree after at name label h.is_tree made)
      (tables_join a middle tree (record p { heap = heap }) [] kind other at.serial header table entries parent.0 name label from u.holds parent.1 stands
      (let e = same_count in let m = width in omega (arith, e, m)) (few_dims tree at.serial parent.0 h.is_tree parent.1)
      (subst (λ n. suc (length parent.0.children) ≤ n) (sym many) (let e = same_count in let m = more_entries count in omega (arith, e, m))) (subst (λ n. n < 16 ^ 8) (sym many) (few_entries count width))
      (short writable tree after at name label h.is_tree made) (short_text writable tree after at name label h.is_tree made) near far text
      (subst (λ n. field a table (table_length entries) ≡ framed_text SubNodes table (used_entries a from.table n ++ entry_text (text_field 32 name) (To header) ++ unused_entries (entries - suc n))) same_count list)
      (subst (λ n. Writes (from.header + 68) (hex_text 8 (suc n) ++ hex_text 8 entries ++ pointer_text (To table)) a middle) same_count w.writes)
      (sound writable tree after at name label h.is_tree made))

  joined : IsMidEdit ranges p old after r (table_extents from.table ++ []) middle
  joined = mid_switches ranges p old tree after (record p { heap = heap }) r (extent other table (table_length entries) ∷ extent kind header (node_length tree.wide) ∷ []) (table_extents from.table ++ []) (extent ExtentKind.Node (from.header + 68) 28 ∷ []) a middle u held refl w.only
      (λ k some. omega (arith, some)) (λ k some. let s = cover-append (table_extents from.table) [] k in omega (arith, some, s))

  ended : IsMidEdit ranges p old after q [] new
  ended = mid_gives ranges p old after r (table_extents from.table) [] middle new (long_list from.table) joined g

  spared : AreSpared ranges touched tree done p q
  spared = both_spared touched tree done p q (extent ExtentKind.Node (from.header + 68) 28 ∷ []) (table_extents from.table)
      (fields_spared tree p q old l at.serial from stands edit after touched (list_has_header tree.wide p at.serial from stands) 28 (omega arith))
      (old_table_spared tree p q old l at.serial from stands edit after touched (list_has_header tree.wide p at.serial from stands) table entries (with_longer_table from table entries)
      (at_set p.parts at.serial (Some (with_longer_table from table entries)) (Some (record no_parts { header = header })) None (there_inside p.parts at.serial from stands)) refl
      (λ t has. let e = ap entry_count has in let m = more_entries count in omega (arith, e, m, full, many)) (list_has_table tree.wide p at.serial from stands))

  pub create_whole_full : IsEditWhole limit writable edit tree p after q old new
  create_whole_full = mid_ends limit writable edit tree after p q ranges old new l made placed ended spared
      (more_places (table_extents from.table ++ []) touched tree.wide p q (λ e c. list_has_table tree.wide p at.serial from stands e (front_in (table_extents from.table) e c))
      (tables_longer_more p at.serial from table entries (Some (record no_parts { header = header })) q.heap stands (let m = more_entries count in omega (arith, m, full, many))) (table_and_more tree.wide p at.serial from (Some (record { place = table; entries = entries })) (Some (record no_parts { header = header })) q.heap stands))

pub create_is_whole_full : CreateIsWholeFull
create_is_whole_full limit writable old a middle new tree after p between heap kind other at name label header table entries from l made full many takes near takes_table far u text stands list w g =
    create_whole_full limit writable old a middle new tree after p between heap kind other at name label header table entries from l made full many takes near takes_table far u text stands list w g
