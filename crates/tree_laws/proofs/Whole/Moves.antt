-- A node is moved where its new parent has an unused entry, whole.
use Rattle.std.proofs.Common.{◌≡◌, ◌≢◌, ℕ, suc, refl, sym, ◌∙◌, ap, subst, arith, List, [], ◌∷◌, ◌++◌, length, length-append, ◌+◌, ◌-◌, ◌*◌, ◌<◌, ◌≤◌, Bool, false}
use Rattle.std.proofs.lemmas.Option.{slice_get_within}
use Rattle.std.proofs.lemmas.List.Elements.{Contains-append_left, Contains-append_right}
use Rattle.std.specs.Prelude.{Option, Some, Ok, slice_get}
use Rattle.std.specs.List.{Contains}
use Rattle.adf_format.specs.declared.types.Extent.{Extent}
use Rattle.adf_format.specs.declared.types.ExtentKind.{ExtentKind}
use Rattle.adf_format.specs.Fields.{field, text_field}
use Rattle.adf_format.specs.Hex.{hex_text}
use Rattle.adf_format.specs.Pointer.{To}
use Rattle.adf_format.specs.Records.{entry_text}
use Rattle.adf_format.specs.HeapBytes.{ChangesOnly}
use Rattle.adf_format.specs.Tree.{Tree, Node, IsTree, is_among, children_of, children_at, name_at, parent_of}
use Rattle.adf_format.specs.Placement.{Placement, NodeParts, TablePart, extent, parts_of, table_extents}
use Rattle.adf_format.specs.LaysOut.{LaysOut, HasTable, entry_count}
use Rattle.adf_format.specs.HeapRule.{Placed, place_edit}
use Rattle.adf_format.proofs.ReachedLaws.{more_changes, later_changes}
use Rattle.adf_format.proofs.HeapSteps.{cover-append}
use Rattle.adf_model.specs.declared.tree.Edit.{Edit}
use Rattle.adf_model.specs.declared.tree.NodeId.{NodeId}
use Rattle.adf_model.specs.Edits.{IsReached, apply, file_step, other_children}
use Rattle.adf_model.specs.Untouched.{touched_extents, list_of, of_parent}
use Rattle.adf_model.proofs.Basics.{false_of}
use Rattle.adf_model.proofs.Creation.CreatedNodes.{among_get}
use Rattle.tree_laws.specs.Holding.{Holds}
use Rattle.tree_laws.specs.MidEdit.{IsMidEdit, Puts}
use Rattle.tree_laws.specs.Plans.{end_of_plan}
use Rattle.tree_laws.specs.Spared.{AreSpared, IsEditWhole}
use Rattle.tree_laws.specs.WholeEdits.{closing_ranges, entry_ranges, MoveIsWhole, MoveLastIsWhole}
use Rattle.tree_laws.proofs.Holding.Steps.{from_layout}
use Rattle.tree_laws.proofs.Edits.Plans.{plans_others}
use Rattle.tree_laws.proofs.Groups.GroupsGrow.{step_reaches}
use Rattle.tree_laws.proofs.Moves.MovedNodes.{others_of_none}
use Rattle.tree_laws.proofs.Moves.MovedTree.{moved_in_its_tree}
use Rattle.tree_laws.proofs.Moves.MovesWhole.{moves_over, moves_last}
use Rattle.tree_laws.proofs.Moves.PlanMove.{plans_move}
use Rattle.tree_laws.proofs.Tables.TableReplaced.{node_too}
use Rattle.tree_laws.proofs.Whole.Mid.{mid_begins, mid_switches}
use Rattle.tree_laws.proofs.Whole.Ends.{mid_ends}
use Rattle.tree_laws.proofs.Whole.Texts.{puts_two, same_places}
use Rattle.tree_laws.proofs.Whole.Spares.{both_spared, header_of, list_part}
use Rattle.tree_laws.proofs.Whole.Joins.{fields_spared, entry_spared, list_has_header, list_has_table}

-- changes one after another
pub only_joined : (xs ys : List Extent) (a b c : List ℕ) → ChangesOnly xs a b → ChangesOnly ys b c → ChangesOnly (xs ++ ys) a c
only_joined xs ys a b c v w = later_changes (xs ++ ys) a b c
    (more_changes xs (xs ++ ys) a b (λ k none. let s = cover-append xs ys k in omega (arith, s, none)) v)
    (more_changes ys (xs ++ ys) b c (λ k none. let s = cover-append xs ys k in omega (arith, s, none)) w)

pub table_in_list : (from : NodeParts) (t : TablePart) → from.table ≡ Some t → Contains (table_extents from.table) (list_part t)
table_in_list from t has = subst (λ (o : Option TablePart). Contains (table_extents o) (list_part t)) (sym has) (0, omega arith, refl)

-- what a move may touch
pub touched_moved : (tree : Tree) (p : Placement) (node to : NodeId) (parent : ℕ) → parent_of tree node.serial ≡ Some parent → touched_extents tree p (Edit.Move node to) ≡ list_of tree.wide p parent ++ list_of tree.wide p to.serial
touched_moved tree p node to parent above = ap (λ o. of_parent (list_of tree.wide p) o ++ list_of tree.wide p to.serial) above

pub in_first : (tree : Tree) (p : Placement) (node to : NodeId) (parent : ℕ) → parent_of tree node.serial ≡ Some parent → (e : Extent) → Contains (list_of tree.wide p parent) e → Contains (touched_extents tree p (Edit.Move node to)) e
in_first tree p node to parent above e c = subst (λ xs. Contains xs e) (sym (touched_moved tree p node to parent above)) (Contains-append_left (list_of tree.wide p parent) (list_of tree.wide p to.serial) e c)

pub in_second : (tree : Tree) (p : Placement) (node to : NodeId) (parent : ℕ) → parent_of tree node.serial ≡ Some parent → (e : Extent) → Contains (list_of tree.wide p to.serial) e → Contains (touched_extents tree p (Edit.Move node to)) e
in_second tree p node to parent above e c = subst (λ xs. Contains xs e) (sym (touched_moved tree p node to parent above)) (Contains-append_right (list_of tree.wide p parent) (list_of tree.wide p to.serial) e c)

-- a table has room for its children
pub has_fit : (old : List ℕ) (tree : Tree) (p : Placement) (k : ℕ) (from : NodeParts) (t : TablePart) → Holds old tree p [] → parts_of p k ≡ Some from → from.table ≡ Some t → length (children_at tree k) ≤ t.entries
has_fit old tree p k from t h at has =
    let n = node_too tree p k from h.same_nodes at in
    let table : HasTable old tree p n.0 (Some t) = subst (λ (o : Option TablePart). HasTable old tree p n.0 o) has (h.nodes k n.0 from n.1 at).table in
    let many = table.1 in let same = ap (λ (o : Option Node). length (children_of o)) n.1 in omega (arith, many, same)

-- the new parent has one child more
pub moved_count : (tree after : Tree) (node to : NodeId) (parent i : ℕ) → IsTree tree → IsReached tree (Edit.Move node to) → apply tree (Edit.Move node to) ≡ Ok after → parent_of tree node.serial ≡ Some parent → parent ≢ to.serial
    → slice_get (children_at tree parent) i ≡ Some node.serial → length (children_at after to.serial) ≡ length (children_at tree to.serial) + 1
moved_count tree after node to parent i is reached e above differ listed =
    let m = moved_in_its_tree tree after node to parent is reached e above in
    ap length m.joined ∙ length-append (other_children tree to.serial node.serial) (node.serial ∷ []) ∙ ap (λ xs. length xs + 1) (others_of_none (children_at tree to.serial) node.serial absent)
  where
    absent : is_among (children_at tree to.serial) node.serial ≡ false
    absent = false_of (is_among (children_at tree to.serial) node.serial) (λ t. differ (is.one_parent parent to.serial node.serial (among_get (children_at tree parent) i node.serial listed) t))

module _ (limit : ℕ) (writable : Bool) (old a b c new : List ℕ) (tree after : Tree) (p : Placement) (node to : NodeId) (parent i : ℕ) (from its other : NodeParts) (t u : TablePart)
    (l : LaysOut old tree p) (made : file_step writable tree (Edit.Move node to) ≡ Ok after) (above : parent_of tree node.serial ≡ Some parent) (differ : parent ≢ to.serial) (listed : slice_get (children_at tree parent) i ≡ Some node.serial)
    (from_at : parts_of p parent ≡ Some from) (has : from.table ≡ Some t) (its_at : parts_of p node.serial ≡ Some its) (other_at : parts_of p to.serial ≡ Some other) (too : other.table ≡ Some u) (room : length (children_at tree to.serial) < u.entries)
    (v : Puts ExtentKind.SubNodes (t.place + 16 + 44 * i) (44 * (length (children_at tree parent) - suc i)) (field old (t.place + 16 + 44 * (i + 1)) (44 * (length (children_at tree parent) - suc i))) old a)
    (w : Puts ExtentKind.Node (from.header + 68) 8 (hex_text 8 (length (children_at tree parent) - 1)) a b)
    (x : Puts ExtentKind.SubNodes (u.place + 16 + 44 * length (children_at tree to.serial)) 44 (entry_text (text_field 32 (name_at tree node.serial)) (To its.header)) b c)
    (y : Puts ExtentKind.Node (other.header + 68) 8 (hex_text 8 (suc (length (children_at tree to.serial)))) c new) where
  abbrev edit : Edit
  edit = Edit.Move node to

  abbrev done : List (Edit × Tree)
  done = (edit, after) ∷ []

  abbrev touched : List Extent
  touched = touched_extents tree p edit

  abbrev ranges : List Extent
  ranges = closing_ranges from t (length (children_at tree parent)) i ++ entry_ranges other u (length (children_at tree to.serial))

  h : Holds old tree p []
  h = from_layout old tree p l

  applied : apply tree edit ≡ Ok after
  applied = let s = step_reaches writable tree after edit made in s.1

  reached : IsReached tree edit
  reached = let s = step_reaches writable tree after edit made in s.0

  placed : place_edit limit tree after (Placed.Move to.serial) p ≡ Ok p
  placed = (plans_others limit tree after p).2 to.serial ∙ ap end_of_plan ((plans_move limit tree after p to.serial other other_at).0 (λ e. let n = ap entry_count too in absurd (omega (arith, e, n, room))))

  held : Holds new after p []
  held = moves_over old a b c new tree after p [] node to parent i from its other t u h applied reached above differ listed from_at has its_at other_at too room (record { entries = v.writes; counted = w.writes }) x.writes y.writes

  in_list : i < length (children_at tree parent)
  in_list = slice_get_within (children_at tree parent) i node.serial listed

  fits : length (children_at tree parent) ≤ t.entries
  fits = has_fit old tree p parent from t h from_at has

  spared : AreSpared ranges touched tree done p p
  spared =
      both_spared touched tree done p p (closing_ranges from t (length (children_at tree parent)) i) (entry_ranges other u (length (children_at tree to.serial)))
      (both_spared touched tree done p p (extent ExtentKind.Node (from.header + 68) 8 ∷ []) (extent ExtentKind.SubNodes (t.place + 16 + 44 * i) (44 * (length (children_at tree parent) - suc i)) ∷ [])
      (fields_spared tree p p old l parent from from_at edit after touched first_header 8 (omega arith))
      (entry_spared tree p p old l parent from from_at edit after touched first_header t i (length (children_at tree parent) - suc i) has
      (in_first tree p node to parent above (list_part t) (list_has_table tree.wide p parent from from_at (list_part t) (table_in_list from t has)))
      (let lt = in_list in omega (arith, lt)) (let lt = in_list in let f = fits in omega (arith, lt, f))))
      (both_spared touched tree done p p (extent ExtentKind.Node (other.header + 68) 8 ∷ []) (extent ExtentKind.SubNodes (u.place + 16 + 44 * length (children_at tree to.serial)) 44 ∷ [])
      (fields_spared tree p p old l to.serial other other_at edit after touched second_header 8 (omega arith))
      (entry_spared tree p p old l to.serial other other_at edit after touched second_header u (length (children_at tree to.serial)) 1 too
      (in_second tree p node to parent above (list_part u) (list_has_table tree.wide p to.serial other other_at (list_part u) (table_in_list other u too)))
      (let m = moved_count tree after node to parent i h.is_tree reached applied above differ listed in omega (arith, m)) (omega (arith, room))))
    where
      first_header : Contains touched (header_of tree.wide from)
      first_header = in_first tree p node to parent above (header_of tree.wide from) (list_has_header tree.wide p parent from from_at)

      second_header : Contains touched (header_of tree.wide other)
      second_header = in_second tree p node to parent above (header_of tree.wide other) (list_has_header tree.wide p to.serial other other_at)

  joined : IsMidEdit ranges p old after p [] new
  joined =
      mid_switches ranges p old tree after p p [] []
      ((extent ExtentKind.SubNodes (t.place + 16 + 44 * i) (44 * (length (children_at tree parent) - suc i)) ∷ extent ExtentKind.Node (from.header + 68) 8 ∷ [])
      ++ extent ExtentKind.SubNodes (u.place + 16 + 44 * length (children_at tree to.serial)) 44 ∷ extent ExtentKind.Node (other.header + 68) 8 ∷ []) old new (mid_begins ranges tree p old l) held refl
      (only_joined (extent ExtentKind.SubNodes (t.place + 16 + 44 * i) (44 * (length (children_at tree parent) - suc i)) ∷ extent ExtentKind.Node (from.header + 68) 8 ∷ [])
      (extent ExtentKind.SubNodes (u.place + 16 + 44 * length (children_at tree to.serial)) 44 ∷ extent ExtentKind.Node (other.header + 68) 8 ∷ []) old b new (puts_two v w) (puts_two x y))
      (λ k some. omega (arith, some)) (λ k some. absurd (omega (arith, some)))

  pub move_whole : IsEditWhole limit writable edit tree p after p old new
  move_whole = mid_ends limit writable edit tree after p p ranges old new l made placed joined spared (same_places touched tree.wide p)

pub move_is_whole : MoveIsWhole
move_is_whole limit writable old a b c new tree after p node to parent i from its other t u l made above differ listed from_at has its_at other_at too room v w x y =
    move_whole limit writable old a b c new tree after p node to parent i from its other t u l made above differ listed from_at has its_at other_at too room v w x y

-- ---- to the end of its own list

pub move_last_is_whole : MoveLastIsWhole
move_last_is_whole limit writable old new tree after p node to i from its t l made above listed from_at its_at has room v =
    let h : Holds old tree p [] = from_layout old tree p l in
    let s = step_reaches writable tree after (Edit.Move node to) made in
    let held : Holds new after p [] = moves_last old new tree after p [] node to i from its t h s.1 above listed from_at its_at has v.writes in
    let lt = slice_get_within (children_at tree to.serial) i node.serial listed in
    let count : ℕ = length (children_at tree to.serial) in
    let ranges : List Extent = extent ExtentKind.SubNodes (t.place + 16 + 44 * i) (44 * (length (children_at tree to.serial) - i)) ∷ [] in
    mid_ends limit writable (Edit.Move node to) tree after p p ranges old new l made
    ((plans_others limit tree after p).2 to.serial ∙ ap end_of_plan ((plans_move limit tree after p to.serial from from_at).0 (λ e. let n = ap entry_count has in absurd (omega (arith, e, n, room)))))
    (mid_switches ranges p old tree after p p [] [] ranges old new (mid_begins ranges tree p old l) held refl v.only (λ k some. some) (λ k some. absurd (omega (arith, some))))
    (entry_spared tree p p old l to.serial from from_at (Edit.Move node to) after (touched_extents tree p (Edit.Move node to))
    (in_second tree p node to to.serial above (header_of tree.wide from) (list_has_header tree.wide p to.serial from from_at)) t i (length (children_at tree to.serial) - i) has
    (in_second tree p node to to.serial above (list_part t) (list_has_table tree.wide p to.serial from from_at (list_part t) (table_in_list from t has)))
    (omega (arith, lt)) (omega (arith, lt, room)))
    (same_places (touched_extents tree p (Edit.Move node to)) tree.wide p)
