-- Which blocks a move makes wait: those of both lists, and of what the heap takes and is given.
use Rattle.std.proofs.Common.{◌≡◌, ℕ, refl, sym, ap, subst, arith, List, [], ◌∷◌, ◌++◌, Bool, true, false, Option, None, Some, ◌+◌, ◌-◌, ◌*◌, ◌<◌, ◌≤◌}
use Rattle.std.proofs.lemmas.List.Elements.{Contains-append_left, Contains-append_right}
use Rattle.std.specs.Prelude.{IfSome, nat_lt, if◌then◌else◌}
use Rattle.std.specs.List.{Contains}
use Rattle.adf_format.specs.declared.types.Extent.{Extent}
use Rattle.adf_format.specs.declared.types.ExtentKind.{ExtentKind}
use Rattle.adf_format.specs.Parts.{table_length}
use Rattle.adf_format.specs.Placement.{Placement, Heap, extent}
use Rattle.adf_format.specs.Tree.{Tree, parent_of}
use Rattle.adf_model.specs.declared.tree.Edit.{Edit}
use Rattle.adf_model.specs.declared.tree.NodeId.{NodeId}
use Rattle.adf_model.specs.Untouched.{touched_extents, header_extent, table_of, list_of, of_parent}
use Rattle.field_access.specs.Fields.{IsWithin, WaitsWithin, range}
use Rattle.field_access.proofs.WaitLaws.{within_self, within_then, within_none, within_later, within_cons, within_left, within_right, within_both, within_range, waits_then, waits_wider}
use Rattle.node_reads.specs.declared.header.ChildTable.{ChildTable}
use Rattle.tree_laws.specs.Reached.{LieInTouched}
use Rattle.tree_laws.proofs.Whole.Reached.{both_lie}
use Rattle.tree_edits.specs.declared.listed.Listed.{Listed}
use Rattle.tree_edits.specs.declared.memory.Core.{Core}
use Rattle.tree_edits.specs.declared.room.Parent.{Parent}
use Rattle.tree_edits.specs.declared.rows.Row.{Row}
use Rattle.tree_edits.specs.Edits.{memory_of}
use Rattle.tree_edits.specs.Joined.{extents_of_table}
use Rattle.tree_edits.specs.Left.{entry_place, length_behind}
use Rattle.tree_edits.specs.Rows.{Means}
use Rattle.tree_edits.specs.Waiting.{WaitsInRoom, TakesInRoom, IfTold, Reaches, list_ranges, parent_ranges, table_room}
use Rattle.tree_edits.proofs.Waiting.{more_own, own_written, then_own, room_then, taken_then, list_lies, reaches_room}
use Rattle.tree_edits.proofs.WaitSteps.{behind_own, part_of_table}
use Rattle.tree_moves.specs.declared.place.Move.{Move}
use Rattle.tree_moves.specs.Movable.{MayMove}
use Rattle.tree_moves.specs.Relisted.{IsListNear, move_ranges, longer_table, table_in}
use Rattle.tree_moves.proofs.MoveFacts.{over, from_is, l, try}

-- ---- one list

-- an entry becomes the last of its own list
pub last_waits : (listed : Listed) (at n m : ℕ) (x y z : List ℕ) → IsListNear listed → at ≡ entry_place listed → n ≡ length_behind listed → m ≡ 44 → WaitsWithin (range at n ∷ []) x y → WaitsWithin (range (at + n) m ∷ []) y z → WaitsWithin (extents_of_table listed.table) x z
last_waits listed at n m x y z near here behind long v w =
    waits_then (extents_of_table listed.table) x y z
    (waits_wider (range (entry_place listed) (length_behind listed) ∷ []) (extents_of_table listed.table) x y (behind_own listed lt le) (subst (λ k. WaitsWithin (range k (length_behind listed) ∷ []) x y) here (subst (λ k. WaitsWithin (range at k ∷ []) x y) behind v)))
    (waits_wider (range (at + n) m ∷ []) (extents_of_table listed.table) y z
    (part_of_table listed.table (at + n) m (omega (arith, lt, le)) (omega (arith, here)) (omega (arith, here, behind, long, lt, le))) w)
  where
    lt : listed.position < listed.table.count
    lt = near.within

    le : listed.table.count ≤ listed.table.entries
    le = near.few

-- ---- a longer list

-- the bytes of a longer table lie in its room
pub in_opened : (parent : Parent) (room : Option ℕ) → IsWithin (list_ranges parent.row.place (table_in parent room)) (table_room parent room ++ parent_ranges parent)
in_opened parent None = within_self (parent_ranges parent)
in_opened parent (Some place) =
    within_both (range (parent.row.place + 68) 28 ∷ []) (extents_of_table (longer_table parent place)) (table_room parent (Some place) ++ parent_ranges parent)
    (within_then (range (parent.row.place + 68) 28 ∷ []) (parent_ranges parent) (table_room parent (Some place) ++ parent_ranges parent)
    (within_left (range (parent.row.place + 68) 28 ∷ []) (extents_of_table parent.table)) (within_right (table_room parent (Some place)) (parent_ranges parent)))
    (within_then (extents_of_table (longer_table parent place)) (table_room parent (Some place)) (table_room parent (Some place) ++ parent_ranges parent)
    (by_entries (nat_lt 0 (longer_table parent place).entries)) (within_left (table_room parent (Some place)) (parent_ranges parent)))
  where
    by_entries : (b : Bool) → IsWithin (if b then extent ExtentKind.SubNodes place (table_length (longer_table parent place).entries) ∷ [] else []) (table_room parent (Some place))
    by_entries true = λ k none. none
    by_entries false = within_none (table_room parent (Some place))

-- ---- the whole move, behind the take of a longer table

module _ (its : Move) (room : Option ℕ) (table : ChildTable) (is : table ≡ table_in its.to room) (a b c : Heap) (x y z u v : List ℕ) where
  abbrev own : List Extent
  own = move_ranges its

  abbrev from : List Extent
  from = list_ranges its.source.from.place its.source.listed.table

  abbrev all : List Extent
  all = table_room its.to room ++ own

  opens : IsWithin (table_room its.to room ++ parent_ranges its.to) all
  opens =
      within_both (table_room its.to room) (parent_ranges its.to) all (within_left (table_room its.to room) own)
      (within_then (parent_ranges its.to) own all (within_right from (parent_ranges its.to)) (within_right (table_room its.to room) own))

  links : IsWithin (from ++ list_ranges its.to.row.place table) all
  links =
      within_both from (list_ranges its.to.row.place table) all
      (within_then from own all (within_left from (parent_ranges its.to)) (within_right (table_room its.to room) own))
      (subst (λ (t : ChildTable). IsWithin (list_ranges its.to.row.place t) all) (sym is)
      (within_then (list_ranges its.to.row.place (table_in its.to room)) (table_room its.to room ++ parent_ranges its.to) all (in_opened its.to room) opens))

  closes : IsWithin (extents_of_table its.to.table) all
  closes =
      within_then (extents_of_table its.to.table) (parent_ranges its.to) all (within_later (range (its.to.row.place + 68) 28) (extents_of_table its.to.table) (extents_of_table its.to.table) (within_self (extents_of_table its.to.table)))
      (within_then (parent_ranges its.to) (table_room its.to room ++ parent_ranges its.to) all (within_right (table_room its.to room) (parent_ranges its.to)) opens)

  pub move_waits : TakesInRoom (table_room its.to room) a b x y → WaitsWithin (table_room its.to room ++ parent_ranges its.to) y z → WaitsWithin (from ++ list_ranges its.to.row.place table) z u
      → WaitsInRoom (extents_of_table its.to.table) b c u v → WaitsInRoom own a c x v
  move_waits t opened linked closed =
      taken_then (table_room its.to room) own a b c x y v t
      (room_then all b b c y u v
      (then_own all (from ++ list_ranges its.to.row.place table) b b y z u links (own_written all (table_room its.to room ++ parent_ranges its.to) b y z opens opened) linked)
      (more_own (extents_of_table its.to.table) all b c u v closes closed))

-- ---- the clause of the edit

module _ (core : Core) (node at : NodeId) (its : Move) where
  abbrev edit : Edit
  edit = Edit.Move node at

  move_lies : (image : List ℕ) → MayMove core node at (Some image) its → (tree : Tree) (p : Placement) → Means image tree p (memory_of core) → LieInTouched (move_ranges its) (touched_extents tree p edit) tree.wide p
  move_lies image may tree p m =
      both_lie (touched_extents tree p edit) tree.wide p (list_ranges its.source.from.place its.source.listed.table) (parent_ranges its.to)
      (subst (λ (r : Row). LieInTouched (list_ranges r.place its.source.listed.table) (touched_extents tree p edit) tree.wide p) (from_is image core node at its may tree p m)
      (list_lies image core may.parent (l image core node at its may tree p m).table.above (l image core node at its may tree p m).table.found tree p m (touched_extents tree p edit) its.source.listed.table (l image core node at its may tree p m).table.named
      (λ e c. in_from e (Contains-append_right (header_extent tree.wide p may.parent ∷ []) (table_of p may.parent) e c))
      (in_from (header_extent tree.wide p may.parent) (Contains-append_left (header_extent tree.wide p may.parent ∷ []) (table_of p may.parent) (header_extent tree.wide p may.parent) (first (header_extent tree.wide p may.parent))))))
      (list_lies image core at.serial its.to.row (try image core node at its may tree p m).target.node.found tree p m (touched_extents tree p edit) its.to.table (try image core node at its may tree p m).target.named_by
      (λ e c. in_to e (Contains-append_right (header_extent tree.wide p at.serial ∷ []) (table_of p at.serial) e c))
      (in_to (header_extent tree.wide p at.serial) (Contains-append_left (header_extent tree.wide p at.serial ∷ []) (table_of p at.serial) (header_extent tree.wide p at.serial) (first (header_extent tree.wide p at.serial)))))
    where
      first : (e : Extent) → Contains (e ∷ []) e
      first e = (0, omega arith, refl)

      in_from : (e : Extent) → Contains (list_of tree.wide p may.parent) e → Contains (touched_extents tree p edit) e
      in_from e c =
          Contains-append_left (of_parent (list_of tree.wide p) (parent_of tree node.serial)) (list_of tree.wide p at.serial) e
          (subst (λ (o : Option ℕ). Contains (of_parent (list_of tree.wide p) o) e) (sym (over image core node at its may tree p m)) c)

      in_to : (e : Extent) → Contains (list_of tree.wide p at.serial) e → Contains (touched_extents tree p edit) e
      in_to e c = Contains-append_right (of_parent (list_of tree.wide p) (parent_of tree node.serial)) (list_of tree.wide p at.serial) e c

  pub move_reached : (now : Core) (held : Option (List ℕ)) (x y : List ℕ) → MayMove core node at held its → IfTold held (WaitsInRoom (move_ranges its) core.heap.work.heap now.heap.work.heap x y) → IfSome held (Reaches edit core now x y)
  move_reached now None x y may w = tt
  move_reached now (Some image) x y may w = reaches_room edit core now (move_ranges its) x y w image (move_lies image may)
