-- A node without data is created, whole.
use Rattle.std.proofs.Common.{◌≡◌, ◌≢◌, inl, inr, ℕ, suc, refl, sym, ◌∙◌, ap, subst, arith, List, [], ◌∷◌, ◌++◌, length, ◌+◌, ◌*◌, ◌^◌, ◌/◌, ◌<◌, ◌≤◌, max, Bool, true, false, if◌then◌else◌}
use Rattle.std.proofs.lemmas.Bool.Decides.{nat_tests}
use Rattle.std.specs.Prelude.{Option, Some, None, Result, Ok, slice_set, ◌==◌}
use Rattle.std.specs.List.{Contains}
use Rattle.adf_format.specs.declared.types.Extent.{Extent}
use Rattle.adf_format.specs.declared.types.ExtentKind.{ExtentKind}
use Rattle.adf_format.specs.Fields.{field, text_field}
use Rattle.adf_format.specs.Hex.{hex_text}
use Rattle.adf_format.specs.Pointer.{To}
use Rattle.adf_format.specs.Records.{node_text, entry_text}
use Rattle.adf_format.specs.Tree.{Tree, Node, IsTree, node_at, children_of, children_at}
use Rattle.adf_format.specs.Parts.{node_length, table_length}
use Rattle.adf_format.specs.Placement.{Placement, NodeParts, TablePart, Heap, extent, parts_of, table_extents}
use Rattle.adf_format.specs.LaysOut.{LaysOut, entry_count}
use Rattle.adf_format.specs.HeapRule.{Placed, LimitReached, Taken, GrownTable, heap_take, take_bytes, grow_table, grown_entries, with_table, with_parts, no_parts, parts_or_none, with_new_parts, after_gives, place_edit, ◌>>=◌}
use Rattle.adf_model.specs.declared.tree.Edit.{Edit}
use Rattle.adf_model.specs.declared.tree.NodeId.{NodeId}
use Rattle.adf_model.specs.Creation.{empty_node}
use Rattle.adf_model.specs.Edits.{file_step, with_new, new_node, create_tests}
use Rattle.adf_model.specs.Untouched.{touched_extents, most_children}
use Rattle.adf_model.proofs.Basics.{same_Ok, passed, not_false}
use Rattle.std.proofs.lemmas.List.Elements.{Contains-append_cases}
use Rattle.adf_format.specs.Changes.{Writes}
use Rattle.adf_model.proofs.Creation.PartExtents.{none_in}
use Rattle.adf_model.proofs.Creation.CreatedNodes.{there_inside, at_new}
use Rattle.adf_model.proofs.Keeping.EditsKeep.{apply_keeps}
use Rattle.tree_laws.specs.Holding.{Holds}
use Rattle.tree_laws.specs.MidEdit.{IsMidEdit, Puts}
use Rattle.tree_laws.specs.Plans.{Plan, plan_new, end_of_plan}
use Rattle.tree_laws.specs.Spared.{AreSpared, IsEditWhole}
use Rattle.tree_laws.specs.WholeEdits.{entry_ranges, with_longer_table, CreateIsWhole}
use Rattle.tree_laws.proofs.Holding.Steps.{from_layout}
use Rattle.tree_laws.proofs.Edits.LabelDone.{short_label}
use Rattle.tree_laws.proofs.Edits.EntryJoined.{entry_joins}
use Rattle.tree_laws.proofs.Edits.EditsPlaced.{front_get, set_front, as_many}
use Rattle.tree_laws.proofs.Edits.PlanNew.{plans_create}
use Rattle.tree_laws.proofs.Groups.GroupsGrow.{step_reaches}
use Rattle.tree_laws.proofs.Tables.ListsChanged.{name_short}
use Rattle.tree_laws.proofs.Tables.TableReplaced.{few_dims, node_too}
use Rattle.tree_laws.proofs.Whole.Mid.{mid_switches}
use Rattle.tree_laws.proofs.Whole.Ends.{mid_ends}
use Rattle.tree_laws.proofs.Whole.Texts.{puts_two}
use Rattle.tree_laws.proofs.Whole.Spares.{both_spared, list_part}
use Rattle.tree_laws.proofs.Whole.Joins.{tables_more, one_more_part, more_places, fields_spared, entry_spared, one_child_more, list_has_header, list_has_table}

-- ---- tables

pub differs : (a b : ℕ) → b < a → (a == b) ≡ false
differs a b lt = grind (arith, nat_tests)

pub agrees : (a b : ℕ) → a ≡ b → (a == b) ≡ true
agrees a b e = grind (arith, nat_tests)

pub more_entries : (c : ℕ) → suc c ≤ max 8 (c + c / 2)
more_entries c = omega arith

pub few_entries : (c : ℕ) → c ≤ 2 ^ 20 → max 8 (c + c / 2) < 16 ^ 8
few_entries c le = omega (arith, le)

-- ---- where the rule of the heap puts a new node

abbrev plan_on : GrownTable → Result Plan LimitReached
plan_on g = Ok (record { placed = g.placed; given = g.given })

module _ (limit : ℕ) (tree : Tree) (p : Placement) (s : ℕ) (from : NodeParts) (stands : parts_of p s ≡ Some from) where
  abbrev with_header : Heap → ℕ → Placement
  with_header heap header = with_new_parts (record p { heap = heap }) header

  abbrev tables : Placement → Bool → Result GrownTable LimitReached
  tables q full = if full then (take_bytes limit (table_length (grown_entries (length (children_at tree s)))) q >>= λ (t : Taken). Ok (with_table t.1 s (grown_entries (length (children_at tree s))) t.0)) else Ok (record { placed = q; given = [] })

  its_parts : (heap : Heap) (header : ℕ) → parts_of (with_header heap header) s ≡ Some from
  its_parts heap header = front_get p.parts (Some (record no_parts { header = header })) s (there_inside p.parts s from stands) ∙ stands

  by_header : (header : ℕ) (heap : Heap) → heap_take limit (node_length tree.wide) p.heap ≡ Ok (header, heap) → end_of_plan (plan_new limit tree s p) ≡ end_of_plan (grow_table limit tree s (with_header heap header) >>= plan_on)
  by_header header heap takes =
      ap (λ (r : Result (ℕ × Heap) LimitReached). end_of_plan ((r >>= λ (t : ℕ × Heap). Ok (t.0, record p { heap = t.1 })) >>= λ (h : Taken). (grow_table limit tree s (with_new_parts h.1 h.0) >>= plan_on))) takes

  pub new_placed : (header : ℕ) (heap : Heap) → heap_take limit (node_length tree.wide) p.heap ≡ Ok (header, heap) → entry_count from.table ≢ length (children_at tree s) → (entry_count from.table == length (children_at tree s)) ≡ false
      → end_of_plan (plan_new limit tree s p) ≡ Ok (with_header heap header)
  new_placed header heap takes differ room =
      by_header header heap takes
      ∙ ap (λ (o : Option NodeParts). end_of_plan (tables (with_header heap header) (entry_count (parts_or_none o).table == length (children_at tree s)) >>= plan_on)) (its_parts heap header)
      ∙ ap (λ (b : Bool). end_of_plan (tables (with_header heap header) b >>= plan_on)) room

  pub new_placed_full : (header table : ℕ) (between heap : Heap) → heap_take limit (node_length tree.wide) p.heap ≡ Ok (header, between) → heap_take limit (table_length (grown_entries (length (children_at tree s)))) between ≡ Ok (table, heap)
      → (entry_count from.table == length (children_at tree s)) ≡ true
      → end_of_plan (plan_new limit tree s p)
      ≡ Ok (after_gives (with_new_parts (record { parts = slice_set p.parts s (Some (with_longer_table from table (grown_entries (length (children_at tree s))))); heap = heap }) header) (table_extents from.table))
  new_placed_full header table between heap takes takes_table full =
      by_header header between takes
      ∙ ap (λ (o : Option NodeParts). end_of_plan (tables (with_header between header) (entry_count (parts_or_none o).table == length (children_at tree s)) >>= plan_on)) (its_parts between header)
      ∙ ap (λ (b : Bool). end_of_plan (tables (with_header between header) b >>= plan_on)) full
      ∙ ap (λ (r : Result (ℕ × Heap) LimitReached). end_of_plan (((r >>= λ (t : ℕ × Heap). Ok (t.0, record (with_header between header) { heap = t.1 })) >>= λ (t : Taken). Ok (with_table t.1 s (grown_entries (length (children_at tree s))) t.0)) >>= plan_on)) takes_table
      ∙ ap (λ (o : Option NodeParts). end_of_plan (Ok (record {
        placed = with_parts (record (with_header between header) { heap = heap }) s (with_longer_table (parts_or_none o) table (grown_entries (length (children_at tree s))));
        given = table_extents (parts_or_none o).table;
      }))) (its_parts between header)
      ∙ ap (λ (xs : List (Option NodeParts)). end_of_plan (Ok (record { placed = record { parts = xs; heap = heap }; given = table_extents from.table })))
      (set_front p.parts s (Some (record no_parts { header = header })) (Some (with_longer_table from table (grown_entries (length (children_at tree s))))) (there_inside p.parts s from stands))

-- nothing stands behind the end of a list
pub front_in : (xs : List Extent) (e : Extent) → Contains (xs ++ []) e → Contains xs e
front_in xs e c = elim (Contains-append_cases xs [] e c) [ inl x ↦ x | inr y ↦ absurd (none_in e y) ]

abbrev pub placed_by : Placement → Result Placement LimitReached
placed_by q = Ok q

-- ---- the edit

module _ (writable : Bool) (tree after : Tree) (at : NodeId) (name label : List ℕ) (is : IsTree tree) (made : file_step writable tree (Edit.Create at name label) ≡ Ok after) where
  abbrev pub child : Node
  child = new_node name label

  pub grown : with_new tree at.serial child ≡ after
  grown = let s = step_reaches writable tree after (Edit.Create at name label) made in same_Ok (passed (create_tests tree at.serial name label) (Ok (with_new tree at.serial child)) after s.1).1

  pub short_text : length label ≤ 32
  short_text = let s = step_reaches writable tree after (Edit.Create at name label) made in let all = passed (create_tests tree at.serial name label) (Ok (with_new tree at.serial child)) after s.1 in short_label label (not_false _ all.0.1.0)

  pub sound : IsTree (with_new tree at.serial child)
  sound = let s = step_reaches writable tree after (Edit.Create at name label) made in subst IsTree (sym grown) (apply_keeps tree after (Edit.Create at name label) is s.0 s.1)

  pub short : length name ≤ 32
  short = name_short (with_new tree at.serial child) (length tree.nodes) child sound (at_new tree.nodes at.serial (length tree.nodes) _ (Some child) None refl)

module _ (limit : ℕ) (writable : Bool) (old a middle new : List ℕ) (tree after : Tree) (p : Placement) (heap : Heap) (kind : ExtentKind) (at : NodeId) (name label : List ℕ) (header : ℕ) (from : NodeParts) (t : TablePart)
    (l : LaysOut old tree p) (made : file_step writable tree (Edit.Create at name label) ≡ Ok after) (takes : heap_take limit (node_length tree.wide) p.heap ≡ Ok (header, heap)) (near : header < 2 ^ 44)
    (u : IsMidEdit (entry_ranges from t (length (children_at tree at.serial))) p old tree (record p { heap = heap }) (extent kind header (node_length tree.wide) ∷ []) a)
    (text : field a header (node_length tree.wide) ≡ node_text (empty_node tree.wide name label)) (stands : parts_of p at.serial ≡ Some from) (has : from.table ≡ Some t) (room : length (children_at tree at.serial) < t.entries)
    (v : Puts ExtentKind.SubNodes (t.place + 16 + 44 * length (children_at tree at.serial)) 44 (entry_text (text_field 32 name) (To header)) a middle)
    (w : Puts ExtentKind.Node (from.header + 68) 8 (hex_text 8 (suc (length (children_at tree at.serial)))) middle new) where
  abbrev edit : Edit
  edit = Edit.Create at name label

  abbrev done : List (Edit × Tree)
  done = (edit, after) ∷ []

  abbrev touched : List Extent
  touched = touched_extents tree p edit

  abbrev q : Placement
  q = with_new_parts (record p { heap = heap }) header

  abbrev count : ℕ
  count = length (children_at tree at.serial)

  abbrev ranges : List Extent
  ranges = entry_ranges from t count

  h : Holds old tree p []
  h = from_layout old tree p l

  parent : (up : Node) × (node_at tree at.serial ≡ Some up)
  parent = node_too tree p at.serial from h.same_nodes stands

  same_count : count ≡ length parent.0.children
  same_count = ap (λ (o : Option Node). length (children_of o)) parent.1

  width : count ≤ 2 ^ 20
  width = h.is_tree.width at.serial

  its_entries : entry_count from.table ≡ t.entries
  its_entries = ap entry_count has

  placed : place_edit limit tree after (Placed.Create at.serial) p ≡ Ok q
  placed =
      plans_create limit tree after p at name label (as_many tree p h.same_nodes) (let s = step_reaches writable tree after edit made in s.1)
      ∙ new_placed limit tree p at.serial from stands header heap takes (λ e. let f = its_entries in absurd (omega (arith, e, f, room))) (differs (entry_count from.table) count (let f = its_entries in omega (arith, f, room)))

  held : Holds new after q []
  held = subst (λ (x : Tree). Holds new x q []) (grown writable tree after at name label h.is_tree made)
      (entry_joins a middle new tree (record p { heap = heap }) [] kind at.serial header parent.0 name label from t u.holds parent.1 stands has (subst (λ n. n < t.entries) same_count room)
      (let e = same_count in let m = width in omega (arith, e, m)) (few_dims tree at.serial parent.0 h.is_tree parent.1) (short writable tree after at name label h.is_tree made) (short_text writable tree after at name label h.is_tree made) near text
      (subst (λ n. Writes (t.place + 16 + 44 * n) (entry_text (text_field 32 name) (To header)) a middle) same_count v.writes) (subst (λ n. Writes (from.header + 68) (hex_text 8 (suc n)) middle new) same_count w.writes)
      (sound writable tree after at name label h.is_tree made))

  most : count + 1 ≤ most_children tree done at.serial
  most =
      let more = one_child_more tree at.serial (new_node name label) parent.0 parent.1 in
      let same = ap (λ (r : Tree). length (children_at r at.serial)) (grown writable tree after at name label h.is_tree made) in omega (arith, more, same)

  spared : AreSpared ranges touched tree done p q
  spared = both_spared touched tree done p q (extent ExtentKind.Node (from.header + 68) 8 ∷ []) (extent ExtentKind.SubNodes (t.place + 16 + 44 * count) 44 ∷ [])
      (fields_spared tree p q old l at.serial from stands edit after touched (list_has_header tree.wide p at.serial from stands) 8 (omega arith))
      (entry_spared tree p q old l at.serial from stands edit after touched (list_has_header tree.wide p at.serial from stands) t count 1 has
      (list_has_table tree.wide p at.serial from stands (list_part t) (subst (λ (o : Option TablePart). Contains (table_extents o) (list_part t)) (sym has) (0, omega arith, refl))) most (omega (arith, room)))

  joined : IsMidEdit ranges p old after q [] new
  joined = mid_switches ranges p old tree after (record p { heap = heap }) q (extent kind header (node_length tree.wide) ∷ []) [] (extent ExtentKind.SubNodes (t.place + 16 + 44 * count) 44 ∷ extent ExtentKind.Node (from.header + 68) 8 ∷ []) a new u held refl (puts_two v w)
      (λ k some. omega (arith, some)) (λ k some. absurd (omega (arith, some)))

  pub create_whole : IsEditWhole limit writable edit tree p after q old new
  create_whole = mid_ends limit writable edit tree after p q ranges old new l made placed joined spared
      (more_places [] touched tree.wide p q (λ e c. absurd (none_in e c)) (tables_more p (Some (record no_parts { header = header })) heap) (one_more_part tree.wide p (Some (record no_parts { header = header })) heap))

pub create_is_whole : CreateIsWhole
create_is_whole limit writable old a middle new tree after p heap kind at name label header from t l made takes near u text stands has room v w =
    create_whole limit writable old a middle new tree after p heap kind at name label header from t l made takes near u text stands has room v w
