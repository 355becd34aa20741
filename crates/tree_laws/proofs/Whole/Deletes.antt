-- A node is deleted with all below it, whole.
use Rattle.std.proofs.Common.{◌≡◌, inl, ℕ, suc, refl, sym, ◌∙◌, ap, subst, arith, List, [], ◌∷◌, ◌++◌, length, get_or, ◌+◌, ◌-◌, ◌*◌, ◌<◌, ◌≤◌, Bool, true, false, not, if◌then◌else◌}
use Rattle.std.proofs.lemmas.Option.{slice_get_within}
use Rattle.std.proofs.lemmas.List.Elements.{Contains-append_left, Contains-append_right}
use Rattle.std.specs.Prelude.{Option, Some, None, Ok, slice_get, is_some}
use Rattle.std.specs.List.{Contains, flat_map}
use Rattle.adf_format.specs.declared.types.Extent.{Extent}
use Rattle.adf_format.specs.declared.types.ExtentKind.{ExtentKind}
use Rattle.adf_format.specs.Fields.{field}
use Rattle.adf_format.specs.Hex.{hex_text}
use Rattle.adf_format.specs.Tree.{Tree, Node, IsAmong, is_live, children_at, parent_of, is_within, subtree, erased_from}
use Rattle.adf_format.specs.Tiles.{end_of}
use Rattle.adf_format.specs.Placement.{Placement, NodeParts, TablePart, extent, parts_of, extents_of, node_extents, table_extents}
use Rattle.adf_format.specs.LaysOut.{LaysOut}
use Rattle.adf_format.specs.HeapRule.{after_gives}
use Rattle.adf_format.proofs.BehindEnd.{AllLong}
use Rattle.adf_format.proofs.HeapSteps.{cover-append}
use Rattle.adf_model.specs.declared.tree.Edit.{Edit}
use Rattle.adf_model.specs.declared.tree.NodeId.{NodeId}
use Rattle.adf_model.specs.Edits.{apply, file_step}
use Rattle.adf_model.specs.Untouched.{touched_extents, list_of, of_parent}
use Rattle.adf_model.proofs.Basics.{not_there, same_Some}
use Rattle.adf_model.proofs.Keeping.MoveKeeps.{among_live}
use Rattle.adf_model.proofs.Creation.PartExtents.{node_of}
use Rattle.tree_laws.specs.Holding.{Holds}
use Rattle.tree_laws.specs.MidEdit.{IsMidEdit, Puts}
use Rattle.tree_laws.specs.Plans.{plan_deleted}
use Rattle.tree_laws.specs.Spared.{IsSpared, AreSpared, KeepsPlaces, IsEditWhole}
use Rattle.tree_laws.specs.Tables.{ClosesUp}
use Rattle.tree_laws.specs.WholeEdits.{closing_ranges, DeleteIsWhole}
use Rattle.tree_laws.proofs.Holding.Steps.{from_layout}
use Rattle.tree_laws.proofs.Holding.GiftsFolded.{deleted_are_taken, erased_left}
use Rattle.tree_laws.proofs.Deletes.DeletedTree.{deleted_in_its_tree}
use Rattle.tree_laws.proofs.Groups.GroupsGrow.{step_reaches}
use Rattle.tree_laws.proofs.Leaving.ListLeaves.{length-erased, contains_flat, erased_at, erased_was, live_too, room, stays}
use Rattle.tree_laws.proofs.Whole.Mid.{mid_begins, mid_switches, mid_gives}
use Rattle.tree_laws.proofs.Whole.Ends.{mid_ends}
use Rattle.tree_laws.proofs.Whole.Texts.{puts_two}
use Rattle.tree_laws.proofs.Whole.Spares.{both_spared, each_spared, gone_spared, header_of, list_part}
use Rattle.tree_laws.proofs.Whole.Joins.{fields_spared, entry_spared, list_has_header, list_has_table}

module _ (limit : ℕ) (writable : Bool) (old a middle : List ℕ) (tree after : Tree) (p : Placement) (node : NodeId) (parent i : ℕ) (at : NodeParts) (t : TablePart)
    (l : LaysOut old tree p) (made : file_step writable tree (Edit.Delete node) ≡ Ok after) (above : parent_of tree node.serial ≡ Some parent) (listed : slice_get (children_at tree parent) i ≡ Some node.serial)
    (placed : parts_of p parent ≡ Some at) (has : at.table ≡ Some t)
    (v : Puts ExtentKind.SubNodes (t.place + 16 + 44 * i) (44 * (length (children_at tree parent) - suc i)) (field old (t.place + 16 + 44 * (i + 1)) (44 * (length (children_at tree parent) - suc i))) old a)
    (w : Puts ExtentKind.Node (at.header + 68) 8 (hex_text 8 (length (children_at tree parent) - 1)) a middle) where
  abbrev edit : Edit
  edit = Edit.Delete node

  abbrev done : List (Edit × Tree)
  done = (edit, after) ∷ []

  abbrev touched : List Extent
  touched = touched_extents tree p edit

  abbrev count : ℕ
  count = length (children_at tree parent)

  abbrev pub given : List Extent
  given = (plan_deleted after p).given

  abbrev pub r : Placement
  r = (plan_deleted after p).placed

  abbrev pub q : Placement
  q = after_gives r given

  abbrev pub ranges : List Extent
  ranges = closing_ranges at t count i ++ given

  h : Holds old tree p []
  h = from_layout old tree p l

  applied : apply tree edit ≡ Ok after
  applied = let s = step_reaches writable tree after edit made in s.1

  closes : ClosesUp at.header t.place count i old a middle
  closes = record { entries = v.writes; counted = w.writes }

  pub in_list : i < count
  in_list = slice_get_within (children_at tree parent) i node.serial listed

  fits : count ≤ t.entries
  fits = room old a middle tree after p [] node parent i at t h applied above listed placed has closes

  pub taken : AllLong given × Holds middle after r (given ++ [])
  taken = deleted_are_taken old a middle tree after p [] node parent i at t h applied above listed placed has closes

  pub joined : IsMidEdit ranges p old after r (given ++ []) middle
  joined =
      mid_switches ranges p old tree after p r [] (given ++ []) (extent ExtentKind.SubNodes (t.place + 16 + 44 * i) (44 * (count - suc i)) ∷ extent ExtentKind.Node (at.header + 68) 8 ∷ []) old middle (mid_begins ranges tree p old l) (let x = taken in x.1) refl (puts_two v w)
      (λ k some. let s = cover-append (closing_ranges at t count i) given k in omega (arith, s, some))
      (λ k some. let s = cover-append (closing_ranges at t count i) given k in let e = cover-append given [] k in omega (arith, s, some, e))

  -- ---- what is touched

  abbrev gone_parts : List Extent
  gone_parts = flat_map (λ serial. extents_of tree.wide (parts_of p serial)) (subtree tree node.serial)

  touched_is : touched ≡ list_of tree.wide p parent ++ gone_parts
  touched_is = ap (λ o. of_parent (list_of tree.wide p) o ++ gone_parts) above

  in_lists : (e : Extent) → Contains (list_of tree.wide p parent) e → Contains touched e
  in_lists e c = subst (λ xs. Contains xs e) (sym touched_is) (Contains-append_left (list_of tree.wide p parent) gone_parts e c)

  in_gone : (k : ℕ) (ms : NodeParts) (e : Extent) → parts_of p k ≡ Some ms → is_within tree node.serial k ≡ true → Contains (node_extents tree.wide ms) e → Contains touched e
  in_gone k ms e there inside own = subst (λ xs. Contains xs e) (sym touched_is) (Contains-append_right (list_of tree.wide p parent) gone_parts e
      (contains_flat (λ serial. extents_of tree.wide (parts_of p serial)) (subtree tree node.serial) k e
      (subst (λ j. IsAmong (subtree tree node.serial) j) (zero_plus k) (among_live 0 (is_within tree node.serial) tree.nodes k (live_too tree p k ms h.same_nodes there) (ap (is_within tree node.serial) (zero_plus k) ∙ inside)))
      (subst (λ (o : Option NodeParts). Contains (extents_of tree.wide o) e) (sym there) own)))
    where
      zero_plus : (k : ℕ) → 0 + k ≡ k
      zero_plus k = omega arith

  -- a part that is given is one of a node that is gone
  given_spared : (x : Extent) (b : ℕ) → Contains given x → x.place ≤ b → b < end_of x → IsSpared touched tree done p q b
  given_spared x b c low high = by_node (node_of tree.wide (erased_from 0 (λ k. not (is_within tree node.serial k)) p.parts) x (subst (λ xs. Contains xs x) (sym (erased_left tree after p node h.is_tree h.same_nodes applied)) c))
    where
      by_within : (k : ℕ) (ms : NodeParts) → get_or (erased_from 0 (λ j. not (is_within tree node.serial j)) p.parts) k None ≡ Some ms → (inside : Bool) → is_within tree node.serial k ≡ inside → (parts_of p k ≡ Some ms) × (inside ≡ true)
      by_within k ms e true is = (sym (erased_at (λ j. not (is_within tree node.serial j)) p.parts k ∙ ap (λ (y : Bool). if not y then None else parts_of p k) is) ∙ e, refl)
      by_within k ms e false is = absurd (not_there ms (sym (erased_at (λ j. not (is_within tree node.serial j)) p.parts k ∙ ap (λ (y : Bool). if not y then None else parts_of p k) is) ∙ e))

      by_node : (k : ℕ) × (ms : NodeParts) × (get_or (erased_from 0 (λ j. not (is_within tree node.serial j)) p.parts) k None ≡ Some ms) × Contains (node_extents tree.wide ms) x → IsSpared touched tree done p q b
      by_node n =
          let k = n.0 in
          let f = by_within n.0 n.1 n.2 (is_within tree node.serial n.0) refl in
          let gone : parts_of q n.0 ≡ None = erased_at (λ j. not (is_live after j)) p.parts n.0 ∙ ap (λ (o : Option Node). if not (is_some o) then None else parts_of p n.0) ((deleted_in_its_tree tree after node h.is_tree applied).1 n.0 f.1) in
          gone_spared touched tree done p q old l n.0 n.1 f.0 x b gone n.3 (in_gone n.0 n.1 x f.0 f.1 n.3) low high

  pub spared : AreSpared ranges touched tree done p q
  spared =
      both_spared touched tree done p q (closing_ranges at t count i) given
      (both_spared touched tree done p q (extent ExtentKind.Node (at.header + 68) 8 ∷ []) (extent ExtentKind.SubNodes (t.place + 16 + 44 * i) (44 * (count - suc i)) ∷ [])
      (fields_spared tree p q old l parent at placed edit after touched has_header 8 (omega arith))
      (entry_spared tree p q old l parent at placed edit after touched has_header t i (count - suc i) has
      (in_lists (list_part t) (list_has_table tree.wide p parent at placed (list_part t) (subst (λ (o : Option TablePart). Contains (table_extents o) (list_part t)) (sym has) (0, omega arith, refl))))
      (let lt = in_list in omega (arith, lt)) (let lt = in_list in let f = fits in omega (arith, lt, f))))
      (each_spared touched tree done p q given given_spared)
    where
      has_header : Contains touched (header_of tree.wide at)
      has_header = in_lists (header_of tree.wide at) (list_has_header tree.wide p parent at placed)

  pub places : KeepsPlaces touched tree.wide p q
  places = record {
    parts = λ e live free.
        let n = node_of tree.wide p.parts e live in
        stays old a middle tree after p [] node parent i at t h applied above listed placed has closes n.0 n.1 e n.2 n.3 (λ c. free (subst (λ xs. Contains xs e) (sym touched_is) c));
    headers = λ serial from to there last. ap (λ (x : NodeParts). x.header) (same_Some to from (sym (erased_was (λ j. not (is_live after j)) p.parts serial to last) ∙ there));
    drawn = (let e = length-erased 0 (λ j. not (is_live after j)) p.parts in omega (arith, e));
    before = λ serial to lt last. (to, erased_was (λ j. not (is_live after j)) p.parts serial to last);
    tables = λ serial from to there last. inl (ap (λ (x : NodeParts). x.table) (same_Some to from (sym (erased_was (λ j. not (is_live after j)) p.parts serial to last) ∙ there)));
  }

  -- and whatever gives what was taken, the deletion is whole
  pub delete_ends : (new : List ℕ) → IsMidEdit ranges p old after q [] new → IsEditWhole limit writable edit tree p after q old new
  delete_ends new ended = mid_ends limit writable edit tree after p q ranges old new l made refl ended spared places

pub delete_is_whole : DeleteIsWhole
delete_is_whole limit writable old a middle new tree after p node parent i at t l made above listed placed has v w g =
    let all = joined limit writable old a middle tree after p node parent i at t l made above listed placed has v w in
    let x = taken limit writable old a middle tree after p node parent i at t l made above listed placed has v w in
    delete_ends limit writable old a middle tree after p node parent i at t l made above listed placed has v w new
    (mid_gives (closing_ranges at t (length (children_at tree parent)) i ++ (plan_deleted after p).given) p old after (plan_deleted after p).placed (plan_deleted after p).given [] middle new x.0 all g)
