-- A link joins a parent with an unused entry, whole.
use Rattle.std.proofs.Common.{◌≡◌, ℕ, suc, refl, sym, ◌∙◌, ap, subst, arith, List, [], ◌∷◌, ◌++◌, length, ◌+◌, ◌*◌, ◌^◌, ◌<◌, ◌≤◌, Bool, false, if◌then◌else◌}
use Rattle.std.specs.Prelude.{Option, Some, None, Ok, ◌==◌}
use Rattle.std.specs.List.{Contains}
use Rattle.adf_format.specs.declared.types.Extent.{Extent}
use Rattle.adf_format.specs.declared.types.ExtentKind.{ExtentKind}
use Rattle.adf_format.specs.Fields.{text_field}
use Rattle.adf_format.specs.Hex.{hex_text}
use Rattle.adf_format.specs.Pointer.{To}
use Rattle.adf_format.specs.Records.{entry_text}
use Rattle.adf_format.specs.Tree.{Tree, Node, IsTree, node_at, children_of, children_at}
use Rattle.adf_format.specs.Tiles.{cover}
use Rattle.adf_format.specs.Parts.{node_length, table_length}
use Rattle.adf_format.specs.Placement.{Placement, NodeParts, TablePart, Heap, extent, parts_of, table_extents, node_extents}
use Rattle.adf_format.specs.LaysOut.{LaysOut, entry_count}
use Rattle.adf_format.specs.HeapRule.{Placed, Taken, heap_take, take_bytes, grown_entries, with_table, no_parts, parts_at, parts_or_none, with_new_parts, place_edit, ◌>>=◌, chunk_length_for}
use Rattle.adf_model.specs.declared.tree.Edit.{Edit}
use Rattle.adf_model.specs.declared.tree.NodeId.{NodeId}
use Rattle.adf_model.specs.Edits.{apply, file_step, with_new, new_link, IsReached}
use Rattle.adf_model.specs.Untouched.{touched_extents, most_children}
use Rattle.adf_format.specs.Changes.{Writes}
use Rattle.adf_model.proofs.Creation.PartExtents.{none_in}
use Rattle.adf_model.proofs.Creation.CreatedNodes.{there_inside, at_new}
use Rattle.tree_laws.specs.Holding.{Holds}
use Rattle.tree_laws.specs.MidEdit.{IsMidEdit, Puts}
use Rattle.tree_laws.specs.Spared.{AreSpared, IsEditWhole}
use Rattle.tree_laws.specs.WholeEdits.{entry_ranges, LinkIsWhole}
use Rattle.tree_laws.proofs.Holding.Steps.{from_layout}
use Rattle.tree_laws.proofs.Edits.EditsPlaced.{front_get, as_many, is_grown, sound, held, put, goes_on, begins}
use Rattle.tree_laws.proofs.Groups.GroupsGrow.{step_reaches}
use Rattle.tree_laws.proofs.Tables.ListsChanged.{name_short}
use Rattle.tree_laws.proofs.Tables.TableReplaced.{node_too}
use Rattle.tree_laws.proofs.Whole.Mid.{mid_switches}
use Rattle.tree_laws.proofs.Whole.Ends.{mid_ends}
use Rattle.tree_laws.proofs.Whole.Texts.{puts_two}
use Rattle.tree_laws.proofs.Whole.Spares.{both_spared, list_part}
use Rattle.tree_laws.proofs.Whole.Joins.{tables_more, one_more_part, more_places, fields_spared, entry_spared, one_child_more, list_has_header, list_has_table}
use Rattle.adf_format.specs.Links.{link_text}
use Rattle.tree_laws.specs.EditsPlaced.{LinkStands}
use Rattle.tree_laws.specs.NodeJoin.{with_parts_of_new, link_parts}
use Rattle.tree_laws.proofs.Edits.NodeJoined.{node_joins}
use Rattle.tree_laws.proofs.Whole.Creates.{differs}

module _ (limit : ℕ) (writable : Bool) (old a middle new : List ℕ) (tree after : Tree) (p : Placement) (between heap : Heap) (hk ck : ExtentKind) (at : NodeId) (name file path : List ℕ) (header place : ℕ) (from : NodeParts) (t : TablePart)
    (l : LaysOut old tree p) (made : file_step writable tree (Edit.Link at name file path) ≡ Ok after) (takes : heap_take limit (node_length tree.wide) p.heap ≡ Ok (header, between)) (takes_chunk : heap_take limit (chunk_length_for (length (link_text file path))) between ≡ Ok (place, heap))
    (u : IsMidEdit (entry_ranges from t (length (children_at tree at.serial))) p old tree (record p { heap = heap }) (extent ck place (chunk_length_for (length (link_text file path))) ∷ extent hk header (node_length tree.wide) ∷ []) a)
    (there : LinkStands a tree name (link_text file path) header place) (stands : parts_of p at.serial ≡ Some from) (has : from.table ≡ Some t) (room : length (children_at tree at.serial) < t.entries)
    (v : Puts ExtentKind.SubNodes (t.place + 16 + 44 * length (children_at tree at.serial)) 44 (entry_text (text_field 32 name) (To header)) a middle)
    (w : Puts ExtentKind.Node (from.header + 68) 8 (hex_text 8 (suc (length (children_at tree at.serial)))) middle new) where
  abbrev edit : Edit
  edit = Edit.Link at name file path

  abbrev done : List (Edit × Tree)
  done = (edit, after) ∷ []

  abbrev touched : List Extent
  touched = touched_extents tree p edit

  abbrev count : ℕ
  count = length (children_at tree at.serial)

  abbrev ranges : List Extent
  ranges = entry_ranges from t count

  h : Holds old tree p []
  h = from_layout old tree p l

  reached : IsReached tree edit
  reached = let s = step_reaches writable tree after edit made in s.0

  applied : apply tree edit ≡ Ok after
  applied = let s = step_reaches writable tree after edit made in s.1

  parent : (up : Node) × (node_at tree at.serial ≡ Some up)
  parent = node_too tree p at.serial from h.same_nodes stands

  same_count : count ≡ length parent.0.children
  same_count = ap (λ (o : Option Node). length (children_of o)) parent.1

  width : count ≤ 2 ^ 20
  width = h.is_tree.width at.serial

  abbrev child : Node
  child = new_link name (link_text file path)

  grown_is : with_new tree at.serial child ≡ after
  grown_is = is_grown limit tree after at name file path h.is_tree reached applied

  is_sound : IsTree (with_new tree at.serial child)
  is_sound = sound limit tree after at name file path h.is_tree reached applied

  short : length name ≤ 32
  short = name_short (with_new tree at.serial child) (length tree.nodes) child is_sound (at_new tree.nodes at.serial (length tree.nodes) _ (Some child) None refl)

  abbrev its : NodeParts
  its = link_parts header place (chunk_length_for (length (link_text file path)))

  abbrev q : Placement
  q = with_parts_of_new (record p { heap = heap }) (link_parts header place (chunk_length_for (length (link_text file path))))

  abbrev taken : List Extent
  taken = extent ck place (chunk_length_for (length (link_text file path))) ∷ extent hk header (node_length tree.wide) ∷ []

  has_room : (entry_count (parts_at (with_new_parts (record p { heap = between }) header) at.serial).table == count) ≡ false
  has_room =
      ap (λ (o : Option NodeParts). entry_count (parts_or_none o).table == count) (front_get p.parts (Some (record no_parts { header = header })) at.serial (there_inside p.parts at.serial from stands) ∙ stands)
      ∙ ap (λ (o : Option TablePart). entry_count o == count) has ∙ differs t.entries count room

  placed : place_edit limit tree after (Placed.Link at.serial) p ≡ Ok q
  placed =
      ap (begins limit tree after at name file path h.is_tree reached applied p) takes
      ∙ ap (λ (b : Bool). (if b then (take_bytes limit (table_length (grown_entries count)) (with_new_parts (record p { heap = between }) header) >>= λ (x : Taken). Ok (with_table x.1 at.serial (grown_entries count) x.0)) else Ok (record { placed = (with_new_parts (record p { heap = between }) header); given = [] })) >>= goes_on limit tree after at name file path h.is_tree reached applied) has_room
      ∙ put limit tree after at name file path h.is_tree reached applied (with_new_parts (record p { heap = between }) header) [] p.parts header place heap refl (as_many tree p h.same_nodes) takes_chunk

  owners : (b : ℕ) → cover ([] ++ node_extents tree.wide its) b ≡ cover taken b
  owners b = omega arith

  link_held : Holds new after q []
  link_held = subst (λ (x : Tree). Holds new x q []) grown_is
      (node_joins a middle new tree (record p { heap = heap }) taken [] at.serial parent.0 child from its t u.holds parent.1 stands has (subst (λ n. n < t.entries) same_count room)
      (let e = same_count in let m = width in omega (arith, e, m)) short there.near.0 refl (held limit tree after at name file path h.is_tree reached applied a (record p { heap = heap }) header place short there) owners
      (subst (λ n. Writes (t.place + 16 + 44 * n) (entry_text (text_field 32 name) (To header)) a middle) same_count v.writes) (subst (λ n. Writes (from.header + 68) (hex_text 8 (suc n)) middle new) same_count w.writes) is_sound)

  most : count + 1 ≤ most_children tree done at.serial
  most =
      let more = one_child_more tree at.serial child parent.0 parent.1 in
      let same = ap (λ (r : Tree). length (children_at r at.serial)) grown_is in omega (arith, more, same)

  spared : AreSpared ranges touched tree done p q
  spared = both_spared touched tree done p q (extent ExtentKind.Node (from.header + 68) 8 ∷ []) (extent ExtentKind.SubNodes (t.place + 16 + 44 * count) 44 ∷ [])
      (fields_spared tree p q old l at.serial from stands edit after touched (list_has_header tree.wide p at.serial from stands) 8 (omega arith))
      (entry_spared tree p q old l at.serial from stands edit after touched (list_has_header tree.wide p at.serial from stands) t count 1 has
      (list_has_table tree.wide p at.serial from stands (list_part t) (subst (λ (o : Option TablePart). Contains (table_extents o) (list_part t)) (sym has) (0, omega arith, refl))) most (omega (arith, room)))

  joined : IsMidEdit ranges p old after q [] new
  joined = mid_switches ranges p old tree after (record p { heap = heap }) q taken [] (extent ExtentKind.SubNodes (t.place + 16 + 44 * count) 44 ∷ extent ExtentKind.Node (from.header + 68) 8 ∷ []) a new u link_held refl (puts_two v w)
      (λ k some. omega (arith, some)) (λ k some. absurd (omega (arith, some)))

  pub link_whole : IsEditWhole limit writable edit tree p after q old new
  link_whole = mid_ends limit writable edit tree after p q ranges old new l made placed joined spared
      (more_places [] touched tree.wide p q (λ e c. absurd (none_in e c)) (tables_more p (Some its) heap) (one_more_part tree.wide p (Some its) heap))

pub link_is_whole : LinkIsWhole
link_is_whole limit writable old a middle new tree after p between heap hk ck at name file path header place from t l made takes takes_chunk u there stands has room v w =
    link_whole limit writable old a middle new tree after p between heap hk ck at name file path header place from t l made takes takes_chunk u there stands has room v w
