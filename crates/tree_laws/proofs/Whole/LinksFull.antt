-- A link joins a parent whose table is full, whole.
use Rattle.std.proofs.Common.{◌≡◌, ℕ, suc, refl, sym, ◌∙◌, ap, subst, arith, List, [], ◌∷◌, ◌++◌, length, ◌+◌, ◌-◌, ◌^◌, ◌<◌, ◌≤◌, Bool, true, if◌then◌else◌}
use Rattle.std.proofs.lemmas.List.{length-set}
use Rattle.std.specs.Prelude.{Option, Some, None, Result, Ok, slice_set, ◌==◌}
use Rattle.adf_format.specs.declared.types.Extent.{Extent}
use Rattle.adf_format.specs.declared.types.ExtentKind.{ExtentKind}
use Rattle.adf_format.specs.Fields.{field, text_field}
use Rattle.adf_format.specs.Hex.{hex_text}
use Rattle.adf_format.specs.Pointer.{To, pointer_text}
use Rattle.adf_format.specs.Records.{SubNodes, entry_text}
use Rattle.adf_format.specs.Spelled.{framed_text}
use Rattle.adf_format.specs.Tree.{Tree, Node, IsTree, node_at, children_of, children_at}
use Rattle.adf_format.specs.Tiles.{cover}
use Rattle.adf_format.specs.Parts.{node_length, table_length}
use Rattle.adf_format.specs.Placement.{Placement, NodeParts, Heap, extent, parts_of, table_extents, node_extents}
use Rattle.adf_format.specs.LaysOut.{LaysOut, entry_count}
use Rattle.adf_format.specs.HeapRule.{Placed, LimitReached, Taken, heap_take, take_bytes, grown_entries, with_table, with_parts, no_parts, parts_at, parts_or_none, with_new_parts, after_gives, place_edit, ◌>>=◌, chunk_length_for}
use Rattle.adf_format.proofs.HeapSteps.{cover-append}
use Rattle.adf_model.specs.declared.tree.Edit.{Edit}
use Rattle.adf_model.specs.declared.tree.NodeId.{NodeId}
use Rattle.adf_model.specs.Creation.{used_entries, unused_entries}
use Rattle.adf_model.specs.Edits.{apply, file_step, with_new, new_link, IsReached}
use Rattle.adf_model.specs.Untouched.{touched_extents}
use Rattle.adf_format.specs.Changes.{Writes}
use Rattle.adf_model.proofs.Creation.CreatedNodes.{there_inside, at_new, at_set}
use Rattle.tree_laws.specs.Holding.{Holds}
use Rattle.tree_laws.specs.MidEdit.{IsMidEdit, Puts, GivesAll}
use Rattle.tree_laws.specs.Spared.{AreSpared, IsEditWhole}
use Rattle.tree_laws.specs.WholeEdits.{longer_ranges, with_longer_table, LinkIsWholeFull}
use Rattle.tree_laws.proofs.Holding.Steps.{from_layout}
use Rattle.tree_laws.proofs.Data.DataSwitched.{long_list}
use Rattle.tree_laws.proofs.Edits.EditsPlaced.{front_get, set_front, as_many, is_grown, sound, held, put, goes_on, begins}
use Rattle.tree_laws.proofs.Groups.GroupsGrow.{step_reaches}
use Rattle.tree_laws.proofs.Tables.ListsChanged.{name_short}
use Rattle.tree_laws.proofs.Tables.TableReplaced.{node_too}
use Rattle.tree_laws.proofs.Whole.Mid.{mid_switches, mid_gives}
use Rattle.tree_laws.proofs.Whole.Ends.{mid_ends}
use Rattle.tree_laws.proofs.Whole.Spares.{both_spared}
use Rattle.tree_laws.proofs.Whole.Joins.{tables_longer_more, table_and_more, more_places, fields_spared, old_table_spared, list_has_header, list_has_table}
use Rattle.adf_format.specs.Links.{link_text}
use Rattle.tree_laws.specs.EditsPlaced.{LinkStands}
use Rattle.tree_laws.specs.NodeJoin.{with_parts_of_new, link_parts}
use Rattle.tree_laws.proofs.Holding.GiftsFolded.{taken_in_any_order}
use Rattle.tree_laws.proofs.Edits.NodeWithTable.{node_joins_table}
use Rattle.tree_laws.proofs.Whole.Creates.{agrees, more_entries, few_entries, front_in}

module _ (limit : ℕ) (writable : Bool) (old a middle new : List ℕ) (tree after : Tree) (p : Placement) (between again heap : Heap) (hk tk ck : ExtentKind) (at : NodeId) (name file path : List ℕ) (header table place entries : ℕ) (from : NodeParts)
    (l : LaysOut old tree p) (made : file_step writable tree (Edit.Link at name file path) ≡ Ok after) (full : entry_count from.table ≡ length (children_at tree at.serial)) (many : entries ≡ grown_entries (length (children_at tree at.serial)))
    (takes : heap_take limit (node_length tree.wide) p.heap ≡ Ok (header, between)) (takes_table : heap_take limit (table_length entries) between ≡ Ok (table, again)) (takes_chunk : heap_take limit (chunk_length_for (length (link_text file path))) again ≡ Ok (place, heap))
    (far : table + table_length entries ≤ 2 ^ 44)
    (u : IsMidEdit (longer_ranges from) p old tree (record p { heap = heap }) (extent ck place (chunk_length_for (length (link_text file path))) ∷ extent tk table (table_length entries) ∷ extent hk header (node_length tree.wide) ∷ []) a)
    (there : LinkStands a tree name (link_text file path) header place) (stands : parts_of p at.serial ≡ Some from)
    (list : field a table (table_length entries) ≡ framed_text SubNodes table (used_entries a from.table (length (children_at tree at.serial)) ++ entry_text (text_field 32 name) (To header) ++ unused_entries (entries - suc (length (children_at tree at.serial)))))
    (w : Puts ExtentKind.Node (from.header + 68) 28 (hex_text 8 (suc (length (children_at tree at.serial))) ++ hex_text 8 entries ++ pointer_text (To table)) a middle) (g : GivesAll (table_extents from.table) heap middle new) where
  abbrev edit : Edit
  edit = Edit.Link at name file path

  abbrev done : List (Edit × Tree)
  done = (edit, after) ∷ []

  abbrev touched : List Extent
  touched = touched_extents tree p edit

  abbrev count : ℕ
  count = length (children_at tree at.serial)

  abbrev ranges : List Extent
  ranges = longer_ranges from

  h : Holds old tree p []
  h = from_layout old tree p l

  reached : IsReached tree edit
  reached = let s = step_reaches writable tree after edit made in s.0

  applied : apply tree edit ≡ Ok after
  applied = let s = step_reaches writable tree after edit made in s.1

  parent : (up : Node) × (node_at tree at.serial ≡ Some up)
  parent = node_too tree p at.serial from h.same_nodes stands

  same_count : count ≡ length parent.0.children
  same_count = ap (λ (o : Option Node). length (children_of o)) parent.1

  width : count ≤ 2 ^ 20
  width = h.is_tree.width at.serial

  abbrev child : Node
  child = new_link name (link_text file path)

  grown_is : with_new tree at.serial child ≡ after
  grown_is = is_grown limit tree after at name file path h.is_tree reached applied

  is_sound : IsTree (with_new tree at.serial child)
  is_sound = sound limit tree after at name file path h.is_tree reached applied

  short : length name ≤ 32
  short = name_short (with_new tree at.serial child) (length tree.nodes) child is_sound (at_new tree.nodes at.serial (length tree.nodes) _ (Some child) None refl)

  abbrev its : NodeParts
  its = link_parts header place (chunk_length_for (length (link_text file path)))

  abbrev longer : NodeParts
  longer = with_longer_table from table entries

  abbrev r : Placement
  r = with_parts_of_new (record { parts = slice_set p.parts at.serial (Some (with_longer_table from table entries)); heap = heap }) (link_parts header place (chunk_length_for (length (link_text file path))))

  abbrev q : Placement
  q = after_gives r (table_extents from.table)

  abbrev taken : List Extent
  taken = extent ck place (chunk_length_for (length (link_text file path))) ∷ extent tk table (table_length entries) ∷ extent hk header (node_length tree.wide) ∷ []

  abbrev with_header : Placement
  with_header = with_new_parts (record p { heap = between }) header

  at_grown : parts_of with_header at.serial ≡ Some from
  at_grown = front_get p.parts (Some (record no_parts { header = header })) at.serial (there_inside p.parts at.serial from stands) ∙ stands

  is_full : (entry_count (parts_at with_header at.serial).table == count) ≡ true
  is_full = ap (λ (o : Option NodeParts). entry_count (parts_or_none o).table == count) at_grown ∙ agrees (entry_count from.table) count full

  placed : place_edit limit tree after (Placed.Link at.serial) p ≡ Ok q
  placed =
      ap (begins limit tree after at name file path h.is_tree reached applied p) takes
      ∙ ap (λ (b : Bool). (if b then (take_bytes limit (table_length (grown_entries count)) with_header >>= λ (x : Taken). Ok (with_table x.1 at.serial (grown_entries count) x.0)) else Ok (record { placed = with_header; given = [] })) >>= goes_on limit tree after at name file path h.is_tree reached applied) is_full
      ∙ ap (λ (n : ℕ). (take_bytes limit (table_length n) with_header >>= λ (x : Taken). Ok (with_table x.1 at.serial n x.0)) >>= goes_on limit tree after at name file path h.is_tree reached applied) (sym many)
      ∙ ap (λ (z : Result (ℕ × Heap) LimitReached). ((z >>= λ (t : ℕ × Heap). Ok (t.0, record with_header { heap = t.1 })) >>= λ (x : Taken). Ok (with_table x.1 at.serial entries x.0)) >>= goes_on limit tree after at name file path h.is_tree reached applied) takes_table
      ∙ ap (λ (o : Option NodeParts). goes_on limit tree after at name file path h.is_tree reached applied (record { placed = with_parts (record with_header { heap = again }) at.serial (with_longer_table (parts_or_none o) table entries); given = table_extents (parts_or_none o).table })) at_grown
      ∙ put limit tree after at name file path h.is_tree reached applied (with_parts (record with_header { heap = again }) at.serial longer) (table_extents from.table) (slice_set p.parts at.serial (Some longer)) header place heap
      (set_front p.parts at.serial (Some (record no_parts { header = header })) (Some longer) (there_inside p.parts at.serial from stands))
      (length-set p.parts at.serial (Some longer) ∙ as_many tree p h.same_nodes) takes_chunk

  owners : (b : ℕ) → cover ([] ++ node_extents tree.wide its) b ≡ cover (extent ck place (chunk_length_for (length (link_text file path))) ∷ extent hk header (node_length tree.wide) ∷ []) b
  owners b = omega arith

  link_held : Holds middle after r (table_extents from.table ++ [])
  link_held = subst (λ (x : Tree). Holds middle x r (table_extents from.table ++ [])) grown_is
      (node_joins_table a middle tree (record p { heap = heap }) (extent ck place (chunk_length_for (length (link_text file path))) ∷ extent hk header (node_length tree.wide) ∷ []) [] tk at.serial table entries parent.0 child from its
      (taken_in_any_order a tree (record p { heap = heap }) taken (extent tk table (table_length entries) ∷ extent ck place (chunk_length_for (length (link_text file path))) ∷ extent hk header (node_length tree.wide) ∷ []) (λ b. omega arith) u.holds)
      parent.1 stands (let e = same_count in let m = width in omega (arith, e, m)) (subst (λ n. suc (length parent.0.children) ≤ n) (sym many) (let e = same_count in let m = more_entries count in omega (arith, e, m)))
      (subst (λ n. n < 16 ^ 8) (sym many) (few_entries count width)) short there.near.0 far refl (held limit tree after at name file path h.is_tree reached applied a (record p { heap = heap }) header place short there) owners
      (subst (λ n. field a table (table_length entries) ≡ framed_text SubNodes table (used_entries a from.table n ++ entry_text (text_field 32 name) (To header) ++ unused_entries (entries - suc n))) same_count list)
      (subst (λ n. Writes (from.header + 68) (hex_text 8 (suc n) ++ hex_text 8 entries ++ pointer_text (To table)) a middle) same_count w.writes) is_sound)

  joined : IsMidEdit ranges p old after r (table_extents from.table ++ []) middle
  joined = mid_switches ranges p old tree after (record p { heap = heap }) r taken (table_extents from.table ++ []) (extent ExtentKind.Node (from.header + 68) 28 ∷ []) a middle u link_held refl w.only
      (λ k some. omega (arith, some)) (λ k some. let s = cover-append (table_extents from.table) [] k in omega (arith, some, s))

  ended : IsMidEdit ranges p old after q [] new
  ended = mid_gives ranges p old after r (table_extents from.table) [] middle new (long_list from.table) joined g

  spared : AreSpared ranges touched tree done p q
  spared = both_spared touched tree done p q (extent ExtentKind.Node (from.header + 68) 28 ∷ []) (table_extents from.table)
      (fields_spared tree p q old l at.serial from stands edit after touched (list_has_header tree.wide p at.serial from stands) 28 (omega arith))
      (old_table_spared tree p q old l at.serial from stands edit after touched (list_has_header tree.wide p at.serial from stands) table entries longer
      (at_set p.parts at.serial (Some longer) (Some its) None (there_inside p.parts at.serial from stands)) refl
      (λ t has. let e = ap entry_count has in let m = more_entries count in omega (arith, e, m, full, many)) (list_has_table tree.wide p at.serial from stands))

  pub link_whole_full : IsEditWhole limit writable edit tree p after q old new
  link_whole_full = mid_ends limit writable edit tree after p q ranges old new l made placed ended spared
      (more_places (table_extents from.table ++ []) touched tree.wide p q (λ e c. list_has_table tree.wide p at.serial from stands e (front_in (table_extents from.table) e c))
      (tables_longer_more p at.serial from table entries (Some its) q.heap stands (let m = more_entries count in omega (arith, m, full, many))) (table_and_more tree.wide p at.serial from (Some (record { place = table; entries = entries })) (Some its) q.heap stands))

pub link_is_whole_full : LinkIsWholeFull
link_is_whole_full limit writable old a middle new tree after p between again heap hk tk ck at name file path header table place entries from l made full many takes takes_table takes_chunk far u there stands list w g =
    link_whole_full limit writable old a middle new tree after p between again heap hk tk ck at name file path header table place entries from l made full many takes takes_table takes_chunk far u there stands list w g
