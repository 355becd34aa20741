-- A deletion that is done makes blocks wait anew only where it may write, of bytes that may be told.
use Rattle.std.proofs.Common.{◌≡◌, ℕ, refl, sym, ◌∙◌, subst, arith, List, [], ◌∷◌, ◌++◌, Bool, Option, None, Some, ◌+◌}
use Rattle.std.proofs.lemmas.List.Elements.{Contains-append_left, Contains-append_right}
use Rattle.std.specs.Prelude.{IfSome}
use Rattle.std.specs.List.{Contains, flat_map}
use Rattle.adf_format.specs.declared.types.Extent.{Extent}
use Rattle.adf_format.specs.Placement.{Placement, NodeParts, parts_of, extents_of, node_extents, live_extents}
use Rattle.adf_format.specs.Tree.{Tree, parent_of, subtree}
use Rattle.adf_model.specs.declared.tree.Edit.{Edit}
use Rattle.adf_model.specs.declared.tree.NodeId.{NodeId}
use Rattle.adf_model.specs.Untouched.{touched_extents, header_extent, table_of, list_of, of_parent}
use Rattle.adf_model.proofs.Basics.{same_Some}
use Rattle.adf_model.proofs.Creation.PartExtents.{of_node}
use Rattle.adf_data.specs.Sizes.{MayGiveAll}
use Rattle.cg_io.specs.Blocks.{Both}
use Rattle.cg_io.specs.Waits.{WaitsOnly}
use Rattle.field_access.specs.Fields.{WaitsWithin, range}
use Rattle.field_access.proofs.WaitLaws.{within_left, within_right}
use Rattle.tree_laws.specs.Reached.{CanReach, LieInTouched}
use Rattle.tree_laws.proofs.Whole.Reached.{none_lie, both_lie, one_lies}
use Rattle.tree_edits.specs.declared.listed.Listed.{Listed}
use Rattle.tree_edits.specs.declared.memory.Core.{Core}
use Rattle.tree_edits.specs.declared.rows.Row.{Row}
use Rattle.tree_edits.specs.Edits.{memory_of}
use Rattle.tree_edits.specs.Left.{LeavesList, entry_place, length_behind}
use Rattle.tree_edits.specs.Rows.{Means}
use Rattle.tree_edits.specs.Waiting.{WaitsInRoom, Reaches, list_ranges}
use Rattle.tree_edits.proofs.Waiting.{own_written, room_then, more_own, list_lies, reaches_at}
use Rattle.tree_edits.proofs.WaitSteps.{left_waits}
use Rattle.tree_deletes.specs.declared.doomed.Doomed.{Doomed}
use Rattle.tree_deletes.specs.Deleted.{IsDeletion}
use Rattle.tree_deletes.specs.Given.{AllStand, parts_extents, NodesWait}
use Rattle.tree_deletes.proofs.Deleting.{its_parent, gift}
use Rattle.tree_deletes.proofs.Done.{left_there}

-- ---- parts that are gone

module _ (touched : List Extent) (wide : Bool) (p : Placement) where
  -- extents that are live and touched
  all_lie : (es : List Extent) → ((e : Extent) → Contains es e → Contains (live_extents wide p) e) → ((e : Extent) → Contains es e → Contains touched e) → LieInTouched es touched wide p
  all_lie [] live open' = none_lie touched wide p
  all_lie (e ∷ es) live open' =
      both_lie touched wide p (e ∷ []) es
      (one_lies touched wide p e (live e (0, omega arith, refl)) (open' e (0, omega arith, refl)) e.kind e.place e.length (omega arith) (omega arith))
      (all_lie es (λ f c. live f (Contains-append_right (e ∷ []) es f c)) (λ f c. open' f (Contains-append_right (e ∷ []) es f c)))

  of_serial : (serial : ℕ) → ((e : Extent) → Contains (extents_of wide (parts_of p serial)) e → Contains touched e) → LieInTouched (extents_of wide (parts_of p serial)) touched wide p
  of_serial serial open' = by_parts (parts_of p serial) refl open'
    where
      by_parts : (o : Option NodeParts) → parts_of p serial ≡ o → ((e : Extent) → Contains (extents_of wide o) e → Contains touched e) → LieInTouched (extents_of wide o) touched wide p
      by_parts None at open' = none_lie touched wide p
      by_parts (Some parts) at open' = all_lie (node_extents wide parts) (λ e c. of_node wide p.parts serial parts e at c) open'

  gone_lie : (serials : List ℕ) → ((e : Extent) → Contains (flat_map (λ serial. extents_of wide (parts_of p serial)) serials) e → Contains touched e) → LieInTouched (flat_map (λ serial. extents_of wide (parts_of p serial)) serials) touched wide p
  gone_lie [] open' = none_lie touched wide p
  gone_lie (s ∷ serials) open' =
      both_lie touched wide p (extents_of wide (parts_of p s)) (flat_map (λ serial. extents_of wide (parts_of p serial)) serials)
      (of_serial s (λ e c. open' e (Contains-append_left (extents_of wide (parts_of p s)) (flat_map (λ serial. extents_of wide (parts_of p serial)) serials) e c)))
      (gone_lie serials (λ e c. open' e (Contains-append_right (extents_of wide (parts_of p s)) (flat_map (λ serial. extents_of wide (parts_of p serial)) serials) e c)))

-- ---- the clause of the edit

module _ (core : Core) (node : NodeId) (up_row : Row) (l : Listed) (nodes : List Doomed) (now : Core) (x y z : List ℕ) where
  abbrev edit : Edit
  edit = Edit.Delete node

  module _ (image mid : List ℕ) (d : IsDeletion core node (Some image) up_row l nodes) (left : LeavesList up_row.place l image mid) (v : WaitsWithin (range (entry_place l) (length_behind l) ∷ range (up_row.place + 68) 8 ∷ []) x y)
      (w : NodesWait core.wide nodes core.heap.work.heap now.heap.work.heap y z mid) (tree : Tree) (p : Placement) (m : Means image tree p (memory_of core)) where
    over : parent_of tree node.serial ≡ Some d.may.parent
    over = its_parent image core node d.may.row d.may.child.found d.may.parent d.may.child.above d.may.allowed l d.is mid (left_there core node up_row l nodes image mid d left) nodes d.below tree p m

    abbrev given : (all : List NodeParts) × AllStand mid all nodes × MayGiveAll (parts_extents core.wide all) core.heap.work.heap
        × (parts_extents core.wide all ≡ flat_map (λ serial. extents_of tree.wide (parts_of p serial)) (subtree tree node.serial))
    given = gift image core node d.may.row d.may.child.found d.may.parent d.may.child.above d.may.allowed l d.is mid (left_there core node up_row l nodes image mid d left) nodes d.below tree p m

    abbrev list : List Extent
    list = list_ranges up_row.place l.table

    abbrev parts : List Extent
    parts = parts_extents core.wide given.0

    abbrev touched : List Extent
    touched = touched_extents tree p edit

    waits : WaitsInRoom (list ++ parts) core.heap.work.heap now.heap.work.heap x z
    waits =
        room_then (list ++ parts) core.heap.work.heap core.heap.work.heap now.heap.work.heap x y z
        (own_written (list ++ parts) list core.heap.work.heap x y (within_left list parts) (left_waits up_row.place l x y d.is.within d.is.few v))
        (more_own parts (list ++ parts) core.heap.work.heap now.heap.work.heap y z (within_right list parts) (w given.0 given.1 given.2))

    in_parent : (e : Extent) → Contains (list_of tree.wide p d.may.parent) e → Contains touched e
    in_parent e c =
        Contains-append_left (of_parent (list_of tree.wide p) (parent_of tree node.serial)) (flat_map (λ serial. extents_of tree.wide (parts_of p serial)) (subtree tree node.serial)) e
        (subst (λ (o : Option ℕ). Contains (of_parent (list_of tree.wide p) o) e) (sym over) c)

    in_list : LieInTouched list touched tree.wide p
    in_list =
        subst (λ (r : Row). LieInTouched (list_ranges r.place l.table) touched tree.wide p) (same_Some d.is.table.above up_row (sym d.is.table.found ∙ d.found))
        (list_lies image core d.may.parent d.is.table.above d.is.table.found tree p m touched l.table d.is.table.named
        (λ e c. in_parent e (Contains-append_right (header_extent tree.wide p d.may.parent ∷ []) (table_of p d.may.parent) e c))
        (in_parent (header_extent tree.wide p d.may.parent) (0, omega arith, refl)))

    in_parts : LieInTouched parts touched tree.wide p
    in_parts =
        subst (λ es. LieInTouched es touched tree.wide p) (sym given.3)
        (gone_lie touched tree.wide p (subtree tree node.serial)
        (λ e c. Contains-append_right (of_parent (list_of tree.wide p) (parent_of tree node.serial)) (flat_map (λ serial. extents_of tree.wide (parts_of p serial)) (subtree tree node.serial)) e c))

    reached : WaitsOnly (CanReach touched tree.wide p now.heap.work.heap.end) x z
    reached = reaches_at edit core now (list ++ parts) x z waits image tree p m (both_lie touched tree.wide p list parts in_list in_parts)

  pub delete_reached : (held mid : Option (List ℕ)) → IsDeletion core node held up_row l nodes → Both (LeavesList up_row.place l) held mid → WaitsWithin (range (entry_place l) (length_behind l) ∷ range (up_row.place + 68) 8 ∷ []) x y
      → IfSome mid (NodesWait core.wide nodes core.heap.work.heap now.heap.work.heap y z) → IfSome held (Reaches edit core now x z)
  delete_reached None mid d left v w = tt
  delete_reached (Some image) None d left v w = absurd left
  delete_reached (Some image) (Some mid) d left v w = λ tree p m. reached image mid d left v w tree p m
