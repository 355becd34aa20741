-- Edits that are done make blocks wait anew only where they may write, of bytes that may be told.
use Rattle.std.proofs.Common.{◌≡◌, inl, inr, ℕ, refl, sym, subst, arith, List, [], ◌∷◌, Option, None, Some, ◌+◌, ◌*◌}
use Rattle.std.proofs.lemmas.List.Elements.{Contains-append_right}
use Rattle.std.specs.Prelude.{IfSome}
use Rattle.std.specs.List.{Contains}
use Rattle.adf_format.specs.declared.types.Extent.{Extent}
use Rattle.adf_format.specs.Tiles.{cover}
use Rattle.adf_format.specs.Tree.{Tree, parent_of}
use Rattle.adf_format.specs.Placement.{Placement}
use Rattle.adf_model.specs.declared.tree.Edit.{Edit}
use Rattle.adf_model.specs.declared.tree.NodeId.{NodeId}
use Rattle.adf_model.specs.Untouched.{touched_extents, header_extent, table_of, of_parent}
use Rattle.adf_model.proofs.Writes.Reaches.{less_or}
use Rattle.field_access.specs.Fields.{IsWithin, WaitsWithin, range}
use Rattle.field_access.proofs.WaitLaws.{within_self}
use Rattle.tree_laws.specs.Reached.{LieInTouched}
use Rattle.tree_laws.proofs.Whole.Reached.{both_lie}
use Rattle.tree_edits.specs.declared.listed.Listed.{Listed}
use Rattle.tree_edits.specs.declared.memory.Core.{Core}
use Rattle.tree_edits.specs.declared.room.Parent.{Parent}
use Rattle.tree_edits.specs.declared.rows.Row.{Row}
use Rattle.tree_edits.specs.Edits.{memory_of}
use Rattle.tree_edits.specs.Joined.{extents_of_table}
use Rattle.tree_edits.specs.Listed.{IsListed}
use Rattle.tree_edits.specs.Room.{MayCreate}
use Rattle.tree_edits.specs.Rows.{Means, row_of}
use Rattle.tree_edits.specs.Waiting.{WaitsInRoom, IfTold, Reaches, parent_ranges}
use Rattle.tree_edits.proofs.Parents.{over}
use Rattle.tree_edits.proofs.Waiting.{own_written, fields_lie, table_lies, list_lies, reaches_room}
use Rattle.tree_edits.proofs.WaitSteps.{entry_within}

-- ranges within others lie where those do
lie_within : (xs ys touched : List Extent) (tree : Tree) (p : Placement) → IsWithin xs ys → LieInTouched ys touched tree.wide p → LieInTouched xs touched tree.wide p
lie_within xs ys touched tree p within lie b some = elim (less_or 0 (cover ys b)) [
  | inl mine ↦ lie b mine
  | inr none ↦ absurd (let gone = within b (omega (arith, none)) in omega (arith, some, gone))
]

first_of : (e : Extent) (es : List Extent) → Contains (e ∷ es) e
first_of e es = (0, omega arith, refl)

-- ---- labels

pub label_reached : (core : Core) (node : NodeId) (label : List ℕ) (row : Row) → row_of core.rows.items node.serial ≡ Some row → (held : Option (List ℕ)) (x y z : List ℕ) (n : ℕ) → y ≡ x → n ≡ 32
    → WaitsWithin (range (row.place + 36) n ∷ []) y z → IfSome held (Reaches (Edit.SetLabel node label) core core x z)
label_reached core node label row found None x y z n same long w = tt
label_reached core node label row found (Some image) x y z n same long w =
    reaches_room (Edit.SetLabel node label) core core (range (row.place + 36) 32 ∷ []) x z
    (own_written (range (row.place + 36) 32 ∷ []) (range (row.place + 36) 32 ∷ []) core.heap.work.heap x z (within_self (range (row.place + 36) 32 ∷ []))
    (subst (λ (blocks : List ℕ). WaitsWithin (range (row.place + 36) 32 ∷ []) blocks z) same (subst (λ k. WaitsWithin (range (row.place + 36) k ∷ []) y z) long w)))
    image (λ tree p m. fields_lie image core node.serial row found tree p m (touched_extents tree p (Edit.SetLabel node label)) (first_of (header_extent tree.wide p node.serial) []) 36 32 (omega arith))

-- ---- names

module _ (core : Core) (node : NodeId) (name : List ℕ) (row : Row) (found : row_of core.rows.items node.serial ≡ Some row) (parent : ℕ) (above : row.parent ≡ Some parent) (listed : Listed) where
  abbrev edit : Edit
  edit = Edit.Rename node name

  abbrev ranges : List Extent
  ranges = range (row.place + 4) 32 ∷ range (listed.table.place + 16 + 44 * listed.position) 44 ∷ []

  name_lies : (image : List ℕ) → IsListed core (Some image) row.place parent listed → (tree : Tree) (p : Placement) → Means image tree p (memory_of core) → LieInTouched ranges (touched_extents tree p edit) tree.wide p
  name_lies image l tree p m =
      both_lie (touched_extents tree p edit) tree.wide p (range (row.place + 4) 32 ∷ []) (range (listed.table.place + 16 + 44 * listed.position) 44 ∷ [])
      (fields_lie image core node.serial row found tree p m (touched_extents tree p edit) (first_of (header_extent tree.wide p node.serial) (of_parent (table_of p) (parent_of tree node.serial))) 4 32 (omega arith))
      (lie_within (range (listed.table.place + 16 + 44 * listed.position) 44 ∷ []) (extents_of_table listed.table) (touched_extents tree p edit) tree p
      (entry_within listed.table listed.position (let lt = l.within in let le = l.few in omega (arith, lt, le)))
      (table_lies image core parent l.table.above l.table.found tree p m (touched_extents tree p edit) listed.table l.table.named in_parent))
    where
      in_parent : (e : Extent) → Contains (table_of p parent) e → Contains (touched_extents tree p edit) e
      in_parent e c =
          Contains-append_right (header_extent tree.wide p node.serial ∷ []) (of_parent (table_of p) (parent_of tree node.serial)) e
          (subst (λ (o : Option ℕ). Contains (of_parent (table_of p) o) e) (sym (over image core node.serial row found parent above tree p m)) c)

  pub name_reached : (held : Option (List ℕ)) → IsListed core held row.place parent listed → (x y z : List ℕ) (entry : ℕ) → y ≡ x → entry ≡ listed.table.place + 16 + 44 * listed.position
      → WaitsWithin (range (row.place + 4) 32 ∷ range entry 44 ∷ []) y z → IfSome held (Reaches edit core core x z)
  name_reached None l x y z entry same at w = tt
  name_reached (Some image) l x y z entry same at w =
      reaches_room edit core core ranges x z
      (own_written ranges ranges core.heap.work.heap x z (within_self ranges)
      (subst (λ (blocks : List ℕ). WaitsWithin ranges blocks z) same (subst (λ k. WaitsWithin (range (row.place + 4) 32 ∷ range k 44 ∷ []) y z) at w)))
      image (name_lies image l)

-- ---- nodes and links that are made: what is made below a parent lies in its header and its table

module _ (core : Core) (at : NodeId) (name label : List ℕ) (parent : Parent) where
  made_lies : (image : List ℕ) → MayCreate core at name label (Some image) parent → (tree : Tree) (p : Placement) → Means image tree p (memory_of core)
      → LieInTouched (parent_ranges parent) (header_extent tree.wide p at.serial ∷ table_of p at.serial) tree.wide p
  made_lies image may tree p m =
      list_lies image core at.serial parent.row may.asked.may.node.found tree p m (header_extent tree.wide p at.serial ∷ table_of p at.serial) parent.table may.asked.named_by
      (λ e c. Contains-append_right (header_extent tree.wide p at.serial ∷ []) (table_of p at.serial) e c)
      (first_of (header_extent tree.wide p at.serial) (table_of p at.serial))

  pub create_reached : (is : Core) (held : Option (List ℕ)) (x y : List ℕ) → MayCreate core at name label held parent → IfTold held (WaitsInRoom (parent_ranges parent) core.heap.work.heap is.heap.work.heap x y)
      → IfSome held (Reaches (Edit.Create at name label) core is x y)
  create_reached is None x y may w = tt
  create_reached is (Some image) x y may w = reaches_room (Edit.Create at name label) core is (parent_ranges parent) x y w image (made_lies image may)

  pub link_reached : (is : Core) (file path : List ℕ) (held : Option (List ℕ)) (x y : List ℕ) → MayCreate core at name label held parent → IfTold held (WaitsInRoom (parent_ranges parent) core.heap.work.heap is.heap.work.heap x y)
      → IfSome held (Reaches (Edit.Link at name file path) core is x y)
  link_reached is file path None x y may w = tt
  link_reached is file path (Some image) x y may w = reaches_room (Edit.Link at name file path) core is (parent_ranges parent) x y w image (made_lies image may)
