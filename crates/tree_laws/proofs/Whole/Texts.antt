-- Labels and names, whole.
use Rattle.std.proofs.Common.{◌≡◌, ◌≢◌, inl, ℕ, suc, refl, sym, ◌∙◌, ap, subst, arith, List, [], ◌∷◌, length, ◌+◌, ◌*◌, ◌<◌, ◌≤◌, Bool, true, false, not}
use Rattle.std.proofs.lemmas.Option.{slice_get_within}
use Rattle.std.specs.Prelude.{Option, Some, None, Ok, slice_get}
use Rattle.std.specs.List.{Contains}
use Rattle.adf_format.specs.declared.types.Extent.{Extent}
use Rattle.adf_format.specs.declared.types.ExtentKind.{ExtentKind}
use Rattle.adf_format.specs.Fields.{field, text_field}
use Rattle.adf_format.specs.Pointer.{To}
use Rattle.adf_format.specs.Names.{is_label, is_name}
use Rattle.adf_format.specs.Records.{entry_text}
use Rattle.adf_format.specs.Tree.{Tree, Node, IsTree, IsAmong, node_at, children_of, children_at, parent_of, is_within}
use Rattle.adf_format.specs.Parts.{node_length, table_length}
use Rattle.adf_format.specs.Placement.{Placement, NodeParts, TablePart, parts_of, extent, table_extents}
use Rattle.adf_format.specs.LaysOut.{LaysOut, HasTable}
use Rattle.adf_format.specs.HeapRule.{parts_or_none}
use Rattle.adf_format.proofs.ReachedLaws.{more_changes, later_changes}
use Rattle.adf_model.specs.declared.error.AdfError.{AdfError}
use Rattle.adf_model.specs.declared.tree.Edit.{Edit}
use Rattle.adf_model.specs.declared.tree.NodeId.{NodeId}
use Rattle.adf_model.specs.Edits.{with_node, has_named, other_children, file_step}
use Rattle.adf_model.specs.Untouched.{touched_extents, header_extent, table_of, of_parent}
use Rattle.adf_model.proofs.Basics.{not_true, same_Some, same_Ok, passed, found, not_false}
use Rattle.adf_model.proofs.Keeping.EditsKeep.{apply_keeps}
use Rattle.adf_model.proofs.Trees.AncestorLemmas.{within_itself, parent_outside}
use Rattle.adf_model.proofs.Creation.CreatedNodes.{among_get, there_inside}
use Rattle.tree_laws.specs.Holding.{Holds}
use Rattle.tree_laws.specs.MidEdit.{Puts, IsMidEdit}
use Rattle.adf_format.specs.HeapBytes.{ChangesOnly}
use Rattle.tree_laws.specs.Spared.{AreSpared, KeepsPlaces, IsEditWhole}
use Rattle.tree_laws.specs.WholeEdits.{LabelIsWhole, RenameIsWhole}
use Rattle.tree_laws.proofs.Holding.Steps.{from_layout}
use Rattle.tree_laws.proofs.Edits.LabelSet.{label_set, set_here}
use Rattle.tree_laws.proofs.Edits.LabelDone.{short_label}
use Rattle.tree_laws.proofs.Edits.NameChanged.{name_changed}
use Rattle.tree_laws.proofs.Groups.GroupsGrow.{step_reaches}
use Rattle.tree_laws.proofs.Tables.ListClosed.{entry_near}
use Rattle.tree_laws.proofs.Tables.ListsChanged.{name_short}
use Rattle.tree_laws.proofs.Tables.TableReplaced.{few_dims, node_too}
use Rattle.tree_laws.proofs.Whole.Mid.{mid_begins, mid_switches}
use Rattle.tree_laws.proofs.Whole.Spares.{one_spared, both_spared, header_spared, entries_spared, header_of, list_part}
use Rattle.tree_laws.proofs.Whole.Ends.{mid_ends}

-- where no part moves, all places are kept
pub same_places : (touched : List Extent) (wide : Bool) (p : Placement) → KeepsPlaces touched wide p p
same_places touched wide p = record {
  parts = λ e live free. live;
  headers = λ serial from to at then. ap (λ (x : NodeParts). x.header) (same_Some to from (sym then ∙ at));
  drawn = omega arith;
  before = λ serial to lt there. (to, there);
  tables = λ serial from to at then. inl (ap (λ (x : NodeParts). x.table) (same_Some to from (sym then ∙ at)));
}

least : (wide : Bool) → 246 ≤ node_length wide
least false = omega arith
least true = omega arith

-- two texts change their ranges alone
pub puts_two : {k m : ExtentKind} {a n b r : ℕ} {s u old middle new : List ℕ} → Puts k a n s old middle → Puts m b r u middle new → ChangesOnly (extent k a n ∷ extent m b r ∷ []) old new
puts_two {k = k} {m = m} {a = a} {n = n} {b = b} {r = r} {old = old} {middle = middle} {new = new} v w = later_changes (extent k a n ∷ extent m b r ∷ []) old middle new
    (more_changes (extent k a n ∷ []) (extent k a n ∷ extent m b r ∷ []) old middle (λ c none. omega (arith, none)) v.only)
    (more_changes (extent m b r ∷ []) (extent k a n ∷ extent m b r ∷ []) middle new (λ c none. omega (arith, none)) w.only)

pub label_is_whole : LabelIsWhole
label_is_whole limit writable old new tree after p node label its l made stands w =
    let step = step_reaches writable tree after (Edit.SetLabel node label) made in
    let at = found (node_at tree node.serial) AdfError.NoSuchNode _ after step.1 in
    let all = passed ((not (is_label label), AdfError.BadLabel) ∷ []) (Ok (with_node tree node.serial (record at.0 { label = label }))) after at.2 in
    let is : IsTree after = apply_keeps tree after (Edit.SetLabel node label) l.is_tree step.0 step.1 in
    let now : with_node tree node.serial (record at.0 { label = label }) ≡ after = same_Ok all.1 in
    let held : Holds new after p [] =
    subst (λ (t : Tree). Holds new t p []) now
    (label_set old new tree p [] node.serial at.0 its label (from_layout old tree p l) at.1 stands (short_label label (not_false _ all.0.0)) (few_dims tree node.serial at.0 l.is_tree at.1) w.writes (subst IsTree (sym now) is)) in
    let ranges : List Extent = extent ExtentKind.Node (its.header + 36) 32 ∷ [] in
    let begun : IsMidEdit ranges p old tree p [] old = mid_begins ranges tree p old l in
    let ended : IsMidEdit ranges p old after p [] new = mid_switches ranges p old tree after p p [] [] ranges old new begun held refl w.only (λ k some. some) (λ k some. absurd (omega (arith, some))) in
    mid_ends limit writable (Edit.SetLabel node label) tree after p p ranges old new l made refl ended
    (one_spared (touched_extents tree p (Edit.SetLabel node label)) tree ((Edit.SetLabel node label, after) ∷ []) p p ExtentKind.Node (its.header + 36) 32 (λ b low high.
    header_spared (touched_extents tree p (Edit.SetLabel node label)) tree ((Edit.SetLabel node label, after) ∷ []) p p old l node.serial its stands 36 32 b (inl (omega arith)) (let m = least tree.wide in omega (arith, m))
    (subst (λ (o : Option NodeParts). Contains (header_of tree.wide (parts_or_none o) ∷ []) (header_of tree.wide its)) (sym stands) (0, omega arith, refl)) low high))
    (same_places (touched_extents tree p (Edit.SetLabel node label)) tree.wide p)

module _ (limit : ℕ) (writable : Bool) (old middle new : List ℕ) (tree after : Tree) (p : Placement) (node : NodeId) (name : List ℕ) (parent i : ℕ) (its at : NodeParts) (t : TablePart)
    (l : LaysOut old tree p) (made : file_step writable tree (Edit.Rename node name) ≡ Ok after) (above : parent_of tree node.serial ≡ Some parent) (listed : slice_get (children_at tree parent) i ≡ Some node.serial)
    (its_at : parts_of p node.serial ≡ Some its) (at_at : parts_of p parent ≡ Some at) (has : at.table ≡ Some t)
    (v : Puts ExtentKind.Node (its.header + 4) 32 (text_field 32 name) old middle) (w : Puts ExtentKind.SubNodes (t.place + 16 + 44 * i) 44 (entry_text (text_field 32 name) (To its.header)) middle new) where
  abbrev the_edit : Edit
  the_edit = Edit.Rename node name

  abbrev done : List (Edit × Tree)
  done = (the_edit, after) ∷ []

  abbrev touched : List Extent
  touched = touched_extents tree p the_edit

  abbrev ranges : List Extent
  ranges = extent ExtentKind.Node (its.header + 4) 32 ∷ extent ExtentKind.SubNodes (t.place + 16 + 44 * i) 44 ∷ []

  h : Holds old tree p []
  h = from_layout old tree p l

  over : (up : Node) × (node_at tree parent ≡ Some up)
  over = node_too tree p parent at h.same_nodes at_at

  in_list : slice_get over.0.children i ≡ Some node.serial
  in_list = subst (λ (o : Option Node). slice_get (children_of o) i ≡ Some node.serial) over.1 listed

  child : IsAmong (children_at tree parent) node.serial
  child = among_get (children_at tree parent) i node.serial listed

  differ : parent ≢ node.serial
  differ same = not_true (sym (parent_outside tree h.is_tree parent node.serial child) ∙ ap (is_within tree node.serial) same ∙ within_itself tree h.is_tree node.serial (let live = h.is_tree.live parent node.serial child in live.0))

  table : HasTable old tree p over.0 (Some t)
  table = subst (λ (o : Option TablePart). HasTable old tree p over.0 o) has (h.nodes parent over.0 at over.1 at_at).table

  count : i < length (children_at tree parent)
  count = slice_get_within (children_at tree parent) i node.serial listed

  fits : length (children_at tree parent) ≤ t.entries
  fits = let many = table.1 in let same = ap (λ (o : Option Node). length (children_of o)) over.1 in omega (arith, many, same)

  touched_is : touched ≡ header_of tree.wide its ∷ list_part t ∷ []
  touched_is =
      ap (λ o. header_extent tree.wide p node.serial ∷ of_parent (table_of p) o) above
      ∙ ap (λ (o : Option NodeParts). header_of tree.wide (parts_or_none o) ∷ table_of p parent) its_at
      ∙ ap (λ (o : Option NodeParts). header_of tree.wide its ∷ table_extents (parts_or_none o).table) at_at
      ∙ ap (λ (o : Option TablePart). header_of tree.wide its ∷ table_extents o) has

  has_header : Contains touched (header_of tree.wide its)
  has_header = subst (λ xs. Contains xs (header_of tree.wide its)) (sym touched_is) (0, omega arith, refl)

  has_table : Contains touched (list_part t)
  has_table = subst (λ xs. Contains xs (list_part t)) (sym touched_is) (1, omega arith, refl)

  spared : AreSpared ranges touched tree done p p
  spared =
      both_spared touched tree done p p (extent ExtentKind.Node (its.header + 4) 32 ∷ []) (extent ExtentKind.SubNodes (t.place + 16 + 44 * i) 44 ∷ [])
      (one_spared touched tree done p p ExtentKind.Node (its.header + 4) 32 (λ b low high.
      header_spared touched tree done p p old l node.serial its its_at 4 32 b (inl (omega arith)) (let m = least tree.wide in omega (arith, m)) has_header low high))
      (one_spared touched tree done p p ExtentKind.SubNodes (t.place + 16 + 44 * i) 44 (λ b low high.
      entries_spared touched tree done p p old l parent at at_at t (suc i) b has (let c = count in omega (arith, c)) (let c = count in let f = fits in omega (arith, c, f)) has_table (omega (arith, low)) (omega (arith, high))))

  joined : IsMidEdit ranges p old tree p [] old → Holds new after p [] → IsMidEdit ranges p old after p [] new
  joined begun held = mid_switches ranges p old tree after p p [] [] ranges old new begun held refl (puts_two v w) (λ k some. some) (λ k some. absurd (omega (arith, some)))

  pub rename_whole : IsEditWhole limit writable the_edit tree p after p old new
  rename_whole =
      let step = step_reaches writable tree after the_edit made in
      let up = found (parent_of tree node.serial) AdfError.NotAChild _ after step.1 in
      let all = passed ((not (is_name name), AdfError.BadName) ∷ (has_named tree (other_children tree up.0 node.serial) name, AdfError.Duplicate) ∷ []) _ after up.2 in
      let here = found (node_at tree node.serial) AdfError.NoSuchNode _ after all.1 in
      let now : with_node tree node.serial (record here.0 { name = name }) ≡ after = same_Ok here.2 in
      let is : IsTree after = apply_keeps tree after the_edit h.is_tree step.0 step.1 in
      let sound : IsTree (with_node tree node.serial (record here.0 { name = name })) = subst IsTree (sym now) is in
      let short : length name ≤ 32 = name_short (with_node tree node.serial (record here.0 { name = name })) node.serial (record here.0 { name = name }) sound (set_here tree.nodes node.serial (Some (record here.0 { name = name })) None (there_inside tree.nodes node.serial here.0 here.1)) in
      let near = entry_near (field old t.place (table_length t.entries)) i here.0.name its.header (table.3 i node.serial here.0 its in_list here.1 its_at) in
      let held : Holds new after p [] = subst (λ (r : Tree). Holds new r p []) now
      (name_changed old middle new tree p [] node.serial parent i here.0 over.0 its at t name h here.1 its_at over.1 at_at has in_list differ short (few_dims tree node.serial here.0 h.is_tree here.1) near v.writes w.writes sound) in
      mid_ends limit writable the_edit tree after p p ranges old new l made refl (joined (mid_begins ranges tree p old l) held) spared (same_places touched tree.wide p)

pub rename_is_whole : RenameIsWhole
rename_is_whole limit writable old middle new tree after p node name parent i its at t l made above listed its_at at_at has v w =
    rename_whole limit writable old middle new tree after p node name parent i its at t l made above listed its_at at_at has v w
