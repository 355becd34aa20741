-- A node that is deleted with all below it, and why it is not, in bytes that are told.
use Rattle.std.proofs.Common.{◌≡◌, ◌⊎◌, inl, inr, ℕ, zero, suc, refl, sym, ◌∙◌, ap, subst, arith, List, [], ◌∷◌, ◌++◌, length, ◌+◌, ◌-◌, ◌*◌, ◌<◌, ◌≤◌, Bool, true, false, not, ◌||◌, Option, None, Some}
use Rattle.std.proofs.lemmas.List.Elements.{recursion_from_All}
use Rattle.std.proofs.lemmas.Option.{slice_get_within}
use Rattle.std.specs.Prelude.{is_some, slice_get, slice_index, Result, Ok, if◌then◌else◌}
use Rattle.std.specs.List.{AllByRecursion, flat_map}
use Rattle.adf_format.specs.declared.types.Extent.{Extent}
use Rattle.adf_format.specs.declared.types.ExtentKind.{ExtentKind}
use Rattle.adf_format.specs.Fields.{field}
use Rattle.adf_format.specs.Hex.{hex_text}
use Rattle.adf_format.specs.HeapRule.{give_all}
use Rattle.adf_format.specs.Parts.{node_length, table_length}
use Rattle.adf_format.specs.Tiles.{cover, end_of}
use Rattle.adf_format.specs.Tree.{Tree, Node, node_at, is_live, children_at, parent_of, subtree}
use Rattle.adf_format.specs.Placement.{Placement, NodeParts, TablePart, extent, parts_of, extents_of, head_extents, live_extents, all_extents}
use Rattle.adf_format.proofs.BehindEnd.{AllLong}
use Rattle.adf_format.proofs.HeapLaws.{in_range}
use Rattle.adf_format.proofs.HeapSteps.{cover-append}
use Rattle.adf_model.specs.declared.error.AdfError.{AdfError}
use Rattle.adf_model.specs.declared.tree.Edit.{Edit}
use Rattle.adf_model.specs.declared.tree.NodeId.{NodeId}
use Rattle.adf_model.specs.Tests.{checked, if_there, first_refusal}
use Rattle.adf_model.specs.Edits.{apply, file_step, without}
use Rattle.adf_model.proofs.Following.StepTests.{step_tests}
use Rattle.adf_model.proofs.Creation.PartsApart.{range_in}
use Rattle.adf_model.proofs.Writes.Reaches.{less_or}
use Rattle.adf_model.proofs.Trees.AncestorLemmas.{live_with_child, parent_tells}
use Rattle.adf_data.specs.Sizes.{MayGiveAll}
use Rattle.file_heap.specs.Heap.{FreeSpace, IsThreaded}
use Rattle.tree_laws.specs.Holding.{Holds}
use Rattle.tree_laws.specs.MidEdit.{Puts}
use Rattle.tree_laws.specs.Plans.{plan_deleted}
use Rattle.tree_laws.specs.Spared.{IsEditWhole}
use Rattle.tree_laws.proofs.Deletes.DeletedTree.{deleted_in_its_tree, deleted_above_it}
use Rattle.tree_laws.proofs.Deletes.SerialOrdered.{given_by_serial}
use Rattle.tree_laws.proofs.Edits.LabelDone.{range_holds}
use Rattle.tree_laws.proofs.Holding.OwnRanges.{own_split, own_live, least}
use Rattle.tree_laws.proofs.Holding.Steps.{from_layout, once}
use Rattle.tree_laws.proofs.Leaving.ListLeaves.{erased_at}
use Rattle.tree_laws.proofs.Whole.Texts.{puts_two}
use Rattle.tree_edits.specs.declared.listed.Listed.{Listed}
use Rattle.tree_edits.specs.declared.memory.Core.{Core}
use Rattle.tree_edits.specs.declared.rows.Row.{Row}
use Rattle.tree_edits.specs.Edits.{memory_of, Refuses, Follows}
use Rattle.tree_edits.specs.Left.{LeavesList, entry_place, length_behind}
use Rattle.tree_edits.specs.Listed.{IsListed, IsUnlisted, NamesNone}
use Rattle.tree_edits.specs.Rows.{Means, IsTable, row_of}
use Rattle.tree_edits.proofs.Leaves.{moves_put}
use Rattle.tree_edits.proofs.Stays.{threads_stay, header_own, table_own}
use Rattle.tree_edits.proofs.Nodes.{TheNode, the_node, its_row, no_node}
use Rattle.tree_edits.proofs.Parents.{the_child, over, has_row, up, here, unbroken, the_table, entry, place_is, count_is, position, none_listed}
use Rattle.tree_deletes.specs.declared.doomed.Doomed.{Doomed}
use Rattle.tree_deletes.specs.Doomed.{IsDoomed, AreDoomed}
use Rattle.tree_deletes.specs.Erased.{serials_of, without_rows}
use Rattle.tree_deletes.specs.Given.{GivesTogether, GivesNodes, MayNotGive, AllStand, parts_extents}
use Rattle.tree_deletes.proofs.DeleteWhole.{delete_whole, taken}
use Rattle.tree_deletes.proofs.Giving.{all_stand_stay}
use Rattle.tree_deletes.proofs.TableErased.{table_erased}

-- ---- the tests

abbrev deleted : Tree → NodeId → Option ℕ → Result Tree AdfError
deleted tree at par = if_there par AdfError.NotAChild (λ from. Ok (without tree from at.serial))

-- all tests at a node that is there or is not, and a parent or none
abbrev tested : Tree → NodeId → Bool → Option Node → Option ℕ → Result Tree AdfError
tested tree at writable o par =
    checked ((not (is_some o) || false, AdfError.NoSuchNode) ∷ (false, AdfError.LinkMissing) ∷ (not writable, AdfError.ReadOnly) ∷ []) (deleted tree at par)

step_is : (tree : Tree) (at : NodeId) (writable w : Bool) (o : Option Node) (par : Option ℕ) → node_at tree at.serial ≡ o → parent_of tree at.serial ≡ par → writable ≡ w → file_step writable tree (Edit.Delete at) ≡ tested tree at w o par
step_is tree at writable w o par here above may =
    step_tests writable tree (Edit.Delete at)
    ∙ ap (λ (x : Option Node). tested tree at writable x (parent_of tree at.serial)) here
    ∙ ap (λ (x : Option ℕ). tested tree at writable o x) above
    ∙ ap (λ x. tested tree at x o par) may

none_of : (n : ℕ) → (0 < n → ⊥) → n ≡ 0
none_of zero h = refl
none_of (suc n) h = absurd (h (omega arith))

-- ---- the parts of the nodes that are deleted

module _ (image : List ℕ) (tree : Tree) (p : Placement) where
  parts_list : (ds : List Doomed) → AllByRecursion (IsDoomed image tree p) ds → List NodeParts
  parts_list [] all = []
  parts_list (d ∷ ds) all = all.0.parts ∷ parts_list ds all.1

  all_stand : (ds : List Doomed) (all : AllByRecursion (IsDoomed image tree p) ds) → AllStand image (parts_list ds all) ds
  unfolding parts_list
  all_stand [] all = tt
  all_stand (d ∷ ds) all = (all.0.stands, all_stand ds all.1)

  extents_are : (wide : Bool) (ds : List Doomed) (all : AllByRecursion (IsDoomed image tree p) ds) → parts_extents wide (parts_list ds all) ≡ flat_map (λ serial. extents_of wide (parts_of p serial)) (serials_of ds)
  unfolding parts_list
  extents_are wide [] all = refl
  extents_are wide (d ∷ ds) all =
      ap (λ (o : Option NodeParts). extents_of wide o ++ parts_extents wide (parts_list ds all.1)) (sym all.0.placed) ∙ ap (λ es. extents_of wide (parts_of p d.serial) ++ es) (extents_are wide ds all.1)

-- ranges whose bytes lie behind the free table and up to an end
all_within : (end : ℕ) (es : List Extent) → AllLong es → ((b : ℕ) → 0 < cover es b → (266 ≤ b) × (b ≤ end)) → AllByRecursion (λ (e : Extent). (266 ≤ e.place) × (end_of e ≤ end + 1)) es
all_within end [] long each = tt
all_within end (e ∷ es) long each = (
  (
    (each e.place (let held = range_in e.place e.length e.place (omega arith) (let l = long.0 in omega (arith, l)) in omega (arith, held))).0,
    (let l = long.0 in let held = range_in e.place e.length (e.place + e.length - 1) (omega (arith, l)) (omega (arith, l)) in let x = each (e.place + e.length - 1) (omega (arith, held)) in let y = x.1 in omega (arith, y, l)),
  ),
  all_within end es long.1 (λ b some. each b (omega (arith, some))),
)

-- ---- of bytes that are told

module _ (image : List ℕ) (core : Core) (node : NodeId) where
  abbrev edit : Edit
  edit = Edit.Delete node

  pub no_row : row_of core.rows.items node.serial ≡ None → Refuses edit core AdfError.NoSuchNode image
  no_row none tree p m = step_is tree node core.writable core.writable None (parent_of tree node.serial) (no_node image (memory_of core) node.serial none tree p m) refl refl

  module _ (row : Row) (found : row_of core.rows.items node.serial ≡ Some row) where
    pub fault : Refuses edit core AdfError.ReadFault image
    fault tree p m =
        let n = the_node image (memory_of core) node.serial row found tree p m in
        ap (λ (o : Option Node). first_refusal ((not (is_some o) || false, AdfError.NoSuchNode) ∷ [])) n.is.live

    pub is_read_only : core.writable ≡ false → Refuses edit core AdfError.ReadOnly image
    is_read_only may tree p m =
        let n = the_node image (memory_of core) node.serial row found tree p m in
        step_is tree node core.writable false (Some n.node) (parent_of tree node.serial) n.is.live refl may

    pub is_root : core.writable ≡ true → row.parent ≡ None → Refuses edit core AdfError.NotAChild image
    is_root may none tree p m =
        let n = the_node image (memory_of core) node.serial row found tree p m in
        let its = its_row image (memory_of core) node.serial row found tree p m in
        step_is tree node core.writable true (Some n.node) None n.is.live (sym its.parent ∙ none) may

    module _ (parent : ℕ) (above : row.parent ≡ Some parent) (may : core.writable ≡ true) where
      pub unlisted : (rule at : ℕ) → IsUnlisted core (Some image) row.place parent rule at → (tree : Tree) (p : Placement) → Means image tree p (memory_of core) → ⊥
      unlisted rule at (inl b) tree p m = unbroken image core node.serial row found parent above tree p m b.above b.found rule at b.breaks
      unlisted rule at (inr n) tree p m = named_none n.2
        where
          named_none : NamesNone core (Some image) row.place parent → ⊥
          named_none (inl none) = has_row image core node.serial row found parent above tree p m none
          named_none (inr t) = none_listed image core node.serial row found parent above tree p m t.1.above t.1.found t.0 t.1.named t.2

      module _ (l : Listed) (is : IsListed core (Some image) row.place parent l) (mid : List ℕ) (left : LeavesList is.table.above.place l image mid) (nodes : List Doomed) (below : (tree : Tree) (p : Placement) → Means image tree p (memory_of core) → AreDoomed image tree p node.serial nodes) where
        module _ (tree : Tree) (p : Placement) (m : Means image tree p (memory_of core)) where
          abbrev child : TheNode image tree p node.serial row.place
          child = the_child image core node.serial row found parent above tree p m

          abbrev after : Tree
          after = without tree parent node.serial

          pub its_parent : parent_of tree node.serial ≡ Some parent
          its_parent = over image core node.serial row found parent above tree p m

          made : file_step core.writable tree edit ≡ Ok after
          made = step_is tree node core.writable true (Some child.node) (Some parent) child.is.live its_parent may

          applied : apply tree edit ≡ Ok after
          applied = ap (λ (o : Option ℕ). deleted tree node o) its_parent

          abbrev above_is : TheNode image tree p parent is.table.above.place
          above_is = up image core node.serial row found parent above tree p m is.table.above is.table.found

          abbrev t : TablePart
          t = (the_table image core node.serial row found parent above tree p m is.table.above is.table.found).0

          has : above_is.parts.table ≡ Some t
          has = (the_table image core node.serial row found parent above tree p m is.table.above is.table.found).1

          same_place : l.table.place ≡ t.place
          same_place = place_is image core node.serial row found parent above tree p m is.table.above is.table.found l.table is.table.named

          kids : children_at tree parent ≡ above_is.node.children
          kids = here image core node.serial row found parent above tree p m is.table.above is.table.found

          same_count : l.table.count ≡ length (children_at tree parent)
          same_count = count_is image core node.serial row found parent above tree p m is.table.above is.table.found l.table is.table.named ∙ sym (ap length kids)

          at_own : slice_get above_is.node.children l.position ≡ Some node.serial
          at_own = position image core node.serial row found parent above tree p m is.table.above is.table.found l.table is.table.named l.position is.first

          at_i : slice_get (children_at tree parent) l.position ≡ Some node.serial
          at_i = subst (λ xs. slice_get xs l.position ≡ Some node.serial) (sym kids) at_own

          abbrev count : ℕ
          count = length (children_at tree parent)

          lt : l.position < count
          lt = slice_get_within (children_at tree parent) l.position node.serial at_i

          fits : (l.table.place + 16 + 44 * l.table.count ≤ length image) × (count ≤ t.entries)
          fits =
              let e = entry image core node.serial row found parent above tree p m is.table.above is.table.found l.position node.serial at_own in
              let w = e.within in let f = e.few in let a = same_place in let b = same_count in let k = ap length kids in (omega (arith, w, f, a, b, k), omega (arith, f, k))

          abbrev a : List ℕ
          a = left.0

          long : length_behind l ≡ 44 * (count - suc l.position)
          long = let c = same_count in omega (arith, c)

          entries : Puts ExtentKind.SubNodes (t.place + 16 + 44 * l.position) (44 * (count - suc l.position)) (field image (t.place + 16 + 44 * (l.position + 1)) (44 * (count - suc l.position))) image a
          entries =
              let s = same_place in
              let c = same_count in
              let f = fits.0 in
              let lt' = lt in
              let to : entry_place l ≡ t.place + 16 + 44 * l.position = omega (arith, s) in
              let from : entry_place l + 44 ≡ t.place + 16 + 44 * (l.position + 1) = omega (arith, s) in
              let far : entry_place l + 44 + length_behind l ≤ length image = omega (arith, f, c, lt') in
              let x = moves_put ExtentKind.SubNodes (entry_place l + 44) (entry_place l) (length_behind l) image a far left.1 in
              subst (λ n. Puts ExtentKind.SubNodes (t.place + 16 + 44 * l.position) n (field image (t.place + 16 + 44 * (l.position + 1)) n) image a) long
              (subst (λ k. Puts ExtentKind.SubNodes (t.place + 16 + 44 * l.position) (length_behind l) (field image k (length_behind l)) image a) from
              (subst (λ k. Puts ExtentKind.SubNodes k (length_behind l) (field image (entry_place l + 44) (length_behind l)) image a) to x))

          counted : Puts ExtentKind.Node (above_is.parts.header + 68) 8 (hex_text 8 (count - 1)) a mid
          counted =
              subst (λ k. Puts ExtentKind.Node (k + 68) 8 (hex_text 8 (count - 1)) a mid) (sym above_is.at)
              (subst (λ k. Puts ExtentKind.Node (is.table.above.place + 68) 8 (hex_text 8 (k - 1)) a mid) same_count left.2)

          abbrev given : List Extent
          given = (plan_deleted after p).given

          abbrev r : Placement
          r = (plan_deleted after p).placed

          now_taken : AllLong given × Holds mid after r (given ++ [])
          now_taken = taken core.heap.limit core.writable image a mid tree after p node parent l.position above_is.parts t m.laid_out made its_parent at_i above_is.is.stands has entries counted

          -- the parts of the nodes that are deleted are those that are given
          abbrev doomed : AreDoomed image tree p node.serial nodes
          doomed = below tree p m

          each : AllByRecursion (IsDoomed image tree p) nodes
          each = recursion_from_All (IsDoomed image tree p) nodes doomed.each

          abbrev parts : List NodeParts
          parts = parts_list image tree p nodes each

          parts_are : parts_extents core.wide parts ≡ flat_map (λ serial. extents_of tree.wide (parts_of p serial)) (subtree tree node.serial)
          parts_are =
              ap (λ w. parts_extents w parts) (sym m.wide) ∙ extents_are image tree p tree.wide nodes each
              ∙ ap (flat_map (λ serial. extents_of tree.wide (parts_of p serial))) doomed.serials

          given_is : parts_extents core.wide parts ≡ given
          given_is = parts_are ∙ sym (given_by_serial tree after p node m.laid_out.is_tree (let h = from_layout image tree p m.laid_out in h.same_nodes) applied)

          one_each : (b : ℕ) → cover given b + (cover head_extents b + cover (live_extents after.wide r) b + cover p.heap.gaps b) ≤ 1
          one_each b = let x = now_taken in let o = once mid after r (given ++ []) x.1 b in let s = cover-append given [] b in omega (arith, o, s)

          in_file : (b : ℕ) → 0 < cover given b → (266 ≤ b) × (b ≤ p.heap.end)
          in_file b some = (low (less_or b 266), high (less_or p.heap.end b))
            where
              low : (b < 266) ⊎ (266 ≤ b) → 266 ≤ b
              low (inr le) = le
              low (inl less) = by_head (less_or b 186)
                where
                  by_head : (b < 186) ⊎ (186 ≤ b) → 266 ≤ b
                  by_head (inl front) = let o = one_each b in let held = range_in 0 186 b (omega arith) (omega (arith, front)) in absurd (omega (arith, o, held, some))
                  by_head (inr back) = let o = one_each b in let held = range_in 186 80 b back (omega (arith, less)) in absurd (omega (arith, o, held, some))

              high : (p.heap.end < b) ⊎ (b ≤ p.heap.end) → b ≤ p.heap.end
              high (inr le) = le
              high (inl past) =
                  let x = now_taken in
                  let none = x.1.tiles.inside b past in
                  let s = cover-append (given ++ []) (all_extents after.wide r) b in
                  let u = cover-append given [] b in absurd (omega (arith, none, s, u, some))

          may_give : MayGiveAll given core.heap.work.heap
          may_give = subst (MayGiveAll given) m.heap (record {
            within = (let x = now_taken in all_within p.heap.end given x.0 in_file);
            once = λ b. let o = one_each b in let s = cover-append given p.heap.gaps b in omega (arith, o, s);
          })

          -- what moves up and the count lie in parts of the parent, which stays
          parent_live : is_live tree parent ≡ true
          parent_live = live_with_child tree parent node.serial (parent_tells tree m.laid_out.is_tree node.serial parent its_parent)

          parent_stays : parts_of r parent ≡ Some above_is.parts
          parent_stays =
              let out = (deleted_above_it tree after node parent m.laid_out.is_tree applied its_parent).1 in
              let live = ((deleted_in_its_tree tree after node m.laid_out.is_tree applied).2 parent parent_live out).0 in
              erased_at (λ k. not (is_live after k)) p.parts parent ∙ ap (λ (x : Bool). if not x then None else parts_of p parent) live ∙ above_is.is.stands

          not_parents : (b : ℕ) → 0 < cover given b → (in_range above_is.parts.header (node_length after.wide) b ≡ 0) × (in_range t.place (table_length t.entries) b ≡ 0)
          not_parents b some =
              let x = now_taken in
              let o = one_each b in
              let mine = own_split mid after r (given ++ []) parent above_is.parts t x.1 parent_stays has b in
              let live = own_live mid after r (given ++ []) parent above_is.parts t x.1 parent_stays has b in
              (omega (arith, o, mine, live, some), omega (arith, o, mine, live, some))

          same_byte : (b : ℕ) → 0 < cover given b → slice_index mid b ≡ slice_index image b
          same_byte b some =
              counted.only.others b (none_of _ (λ in_count.
              let h = range_holds (above_is.parts.header + 68) 8 b (omega (arith, in_count)) in
              let n = (not_parents b some).0 in
              let le = least after.wide in
              let held = range_in above_is.parts.header (node_length after.wide) b (let x = h.0 in omega (arith, x)) (let x = h.1 in omega (arith, x, le)) in absurd (omega (arith, n, held))))
              ∙ entries.only.others b (none_of _ (λ in_entries.
              let h = range_holds (t.place + 16 + 44 * l.position) (44 * (count - suc l.position)) b (omega (arith, in_entries)) in
              let n = (not_parents b some).1 in
              let f = fits.1 in
              let lt' = lt in
              let held = range_in t.place (table_length t.entries) b (let x = h.0 in omega (arith, x)) (let x = h.1 in omega (arith, x, f, lt')) in absurd (omega (arith, n, held))))

          stand_mid : AllStand mid parts nodes
          stand_mid =
              all_stand_stay given image mid (let x = entries.only.longer in let y = counted.only.longer in omega (arith, x, y)) same_byte core.wide parts nodes (λ b. let e = ap (λ es. cover es b) given_is in omega (arith, e)) (all_stand image tree p nodes each)

          abbrev may_parts : MayGiveAll (parts_extents core.wide parts) core.heap.work.heap
          may_parts = subst (λ es. MayGiveAll es core.heap.work.heap) (sym given_is) may_give

          -- the parts that are given: they stand in the bytes, may be given, and are those of the subtree
          pub gift : (all : List NodeParts) × AllStand mid all nodes × MayGiveAll (parts_extents core.wide all) core.heap.work.heap
              × (parts_extents core.wide all ≡ flat_map (λ serial. extents_of tree.wide (parts_of p serial)) (subtree tree node.serial))
          gift = (parts, stand_mid, may_parts, parts_are)

          pub not_given : MayNotGive core.wide nodes core.heap.work.heap (Some mid) → ⊥
          not_given none = none parts stand_mid may_parts

          -- the lists of free chunks stay
          abbrev ranges : List Extent
          ranges = extent ExtentKind.SubNodes (t.place + 16 + 44 * l.position) (44 * (count - suc l.position)) ∷ extent ExtentKind.Node (above_is.parts.header + 68) 8 ∷ []

          own : (b : ℕ) → 0 < cover ranges b → 0 < cover (live_extents tree.wide p) b
          own b some = by_range (less_or 0 (in_range (above_is.parts.header + 68) 8 b))
            where
              by_range : (0 < in_range (above_is.parts.header + 68) 8 b) ⊎ (in_range (above_is.parts.header + 68) 8 b ≤ 0) → 0 < cover (live_extents tree.wide p) b
              by_range (inl one) = header_own image tree p parent above_is.parts m.laid_out above_is.is.stands above_is.parts.header refl 68 8 (omega arith) b (omega (arith, one))
              by_range (inr none) =
                  let h = range_holds (t.place + 16 + 44 * l.position) (44 * (count - suc l.position)) b (omega (arith, some, none)) in
                  let f = fits.1 in
                  let lt' = lt in
                  table_own image tree p parent above_is.parts m.laid_out above_is.is.stands t has b (let x = h.0 in omega (arith, x)) (let x = h.1 in omega (arith, x, f, lt'))

          pub threads_mid : IsThreaded core.heap.work mid
          threads_mid = threads_stay image image mid tree p m.laid_out ranges own core.heap.work m.heap (puts_two entries counted) m.threads

          module _ (new : List ℕ) (now : FreeSpace) (g : GivesNodes core.wide nodes core.heap.work now mid new) where
            gifts : GivesTogether given core.heap.work now mid new
            gifts = subst (λ es. GivesTogether es core.heap.work now mid new) given_is (g parts stand_mid may_parts)

            abbrev placed : Placement
            placed = record r { heap = give_all given p.heap }

            whole : IsEditWhole core.heap.limit core.writable edit tree p after placed image new
            whole = delete_whole core.heap.limit core.writable image a mid tree after p node parent l.position above_is.parts t m.laid_out made its_parent at_i above_is.is.stands has entries counted new core.heap.work now m.heap gifts

            pub follows : (is' : Core) → is'.wide ≡ core.wide → is'.rows.items ≡ without_rows core.rows.items (serials_of nodes) → is'.heap.work ≡ now → Follows core.heap.limit core.writable edit tree p (memory_of is') image new
            follows is' wide rows heap = record {
              after = after;
              placement = placed;
              whole = whole;
              means = record {
                laid_out = whole.laid_out;
                wide = m.wide ∙ sym wide;
                table = subst (IsTable after placed) (sym (rows ∙ ap (without_rows core.rows.items) doomed.serials))
                    (table_erased tree after node parent m.laid_out.is_tree applied its_parent (ap is_some child.is.live) p (give_all given p.heap) core.rows.items m.table);
                heap = ap (give_all given) m.heap ∙ sym gifts.heap ∙ ap (λ (x : FreeSpace). x.heap) (sym heap);
                threads = subst (λ (x : FreeSpace). IsThreaded x new) (sym heap) gifts.threads;
              };
            }
