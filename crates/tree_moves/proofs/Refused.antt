-- A move that is refused is refused by its edit: each cause, in bytes that are told.
use Rattle.std.proofs.Common.{◌≡◌, ◌⊎◌, inl, inr, ℕ, refl, sym, ◌∙◌, ap, arith, List, [], ◌∷◌, Bool, true, false, not, ◌||◌, Option, None, Some}
use Rattle.std.specs.Prelude.{is_some, IfSome, Ok, Err}
use Rattle.adf_format.specs.Tree.{Tree, node_at}
use Rattle.adf_format.specs.HeapRule.{Placed, heap_take, grown_entries, place_edit}
use Rattle.adf_format.specs.Parts.{table_length}
use Rattle.adf_format.specs.Placement.{Placement, Heap}
use Rattle.adf_model.specs.declared.error.AdfError.{AdfError}
use Rattle.adf_model.specs.declared.error.AdfError.TheVariants as error
use Rattle.adf_model.specs.declared.tree.Edit.{Edit}
use Rattle.adf_model.specs.declared.tree.NodeId.{NodeId}
use Rattle.adf_model.specs.Tests.{first_refusal}
use Rattle.adf_model.proofs.Basics.{not_true}
use Rattle.adf_model.specs.Edits.{file_step, moved}
use Rattle.tree_laws.specs.Moving.{IsMoved}
use Rattle.tree_laws.specs.Plans.{end_of_plan}
use Rattle.tree_laws.proofs.Edits.Plans.{plans_others}
use Rattle.tree_laws.proofs.Groups.GroupsGrow.{step_reaches}
use Rattle.tree_laws.proofs.Moves.MovedTree.{moved_in_its_tree}
use Rattle.tree_laws.proofs.Moves.PlanMove.{plans_move}
use Rattle.tree_edits.specs.declared.memory.Core.{Core}
use Rattle.tree_edits.specs.Rows.{Means, row_of}
use Rattle.tree_edits.specs.Edits.{memory_of, Refuses}
use Rattle.tree_edits.specs.Joined.{LacksTable}
use Rattle.tree_edits.proofs.Nodes.{no_node}
use Rattle.tree_edits.proofs.Kids as kids
use Rattle.tree_edits.proofs.Tables.{there}
use Rattle.tree_moves.specs.declared.place.Move.{Move}
use Rattle.tree_moves.specs.Movable.{MayMove, MoveBreaks, IsHeld, IsTaken, IsCrowded, IsPlaceCause, IsMoveCause}
use Rattle.tree_moves.proofs.Tested.{known, is_le, is_more, fits_not, deep_too, unbroken, some_live, row_live, link_is, parent_is, within_is, deep_is, count_is, named_is, source_whole}

module _ (image : List ℕ) (core : Core) (node at : NodeId) where
  abbrev edit : Edit
  edit = Edit.Move node at

  module _ (tree : Tree) (p : Placement) (m : Means image tree p (memory_of core)) where
    broken : (rule place : ℕ) → MoveBreaks core node at (Some image) rule place → ⊥
    broken rule place (inl b) = unbroken image core tree p m at.serial b.1.0 b.1.1 rule place b.1.2
    broken rule place (inr b) = source_whole image core tree p m node.serial b.0 b.3.may.found b.2 b.3.leaves.above rule place b.4

    is_held : (e : AdfError) → IsHeld core node at (Some image) e → file_step core.writable tree edit ≡ Err e
    is_held error.NotAChild h =
        known tree node at core.writable (row_live image core tree p m node.serial h.row h.may.found) (row_live image core tree p m at.serial h.to.row h.may.target.node.found) (link_is image core tree p m at false h.to.row h.may.target.node) h.may.target.allowed
        (parent_is image core tree p m node.serial h.row h.may.found None h.lacks) refl refl refl refl
    is_held error.IntoItself h =
        let above = there h.row.parent h.lacks.0 in
        known tree node at core.writable (row_live image core tree p m node.serial h.row h.may.found) (row_live image core tree p m at.serial h.to.row h.may.target.node.found) (link_is image core tree p m at false h.to.row h.may.target.node) h.may.target.allowed
        (parent_is image core tree p m node.serial h.row h.may.found (Some above.0) above.1) (within_is image core tree p m node at h.row h.to h.may ∙ h.lacks.1) refl refl refl
    is_held other h = absurd h.lacks

    is_taken : IsTaken core node at (Some image) → file_step core.writable tree edit ≡ Err AdfError.Duplicate
    is_taken h =
        let may = h.looked.may.may in
        known tree node at core.writable (row_live image core tree p m node.serial h.row may.found) (row_live image core tree p m at.serial h.to.row may.target.node.found) (link_is image core tree p m at false h.to.row may.target.node) may.target.allowed
        (parent_is image core tree p m node.serial h.row may.found (Some h.parent) h.looked.may.leaves.above) (within_is image core tree p m node at h.row h.to may ∙ h.looked.may.leaves.outside)
        (named_is image core tree p m node at h.row h.to h.source h.parent h.last true h.looked) refl refl

    is_crowded : (e : AdfError) → IsCrowded core node at (Some image) e → file_step core.writable tree edit ≡ Err e
    is_crowded error.TooManyChildren h =
        let may = h.looked.may.may in
        known tree node at core.writable (row_live image core tree p m node.serial h.row may.found) (row_live image core tree p m at.serial h.to.row may.target.node.found) (link_is image core tree p m at false h.to.row may.target.node) may.target.allowed
        (parent_is image core tree p m node.serial h.row may.found (Some h.parent) h.looked.may.leaves.above) (within_is image core tree p m node at h.row h.to may ∙ h.looked.may.leaves.outside)
        (named_is image core tree p m node at h.row h.to h.source h.parent h.last false h.looked) (is_le _ _ (let n = count_is image core tree p m node at h.row h.to may in let lt = h.lacks in omega (arith, n, lt))) refl
    is_crowded error.TooDeep h =
        let may = h.looked.may.may in
        known tree node at core.writable (row_live image core tree p m node.serial h.row may.found) (row_live image core tree p m at.serial h.to.row may.target.node.found) (link_is image core tree p m at false h.to.row may.target.node) may.target.allowed
        (parent_is image core tree p m node.serial h.row may.found (Some h.parent) h.looked.may.leaves.above) (within_is image core tree p m node at h.row h.to may ∙ h.looked.may.leaves.outside)
        (named_is image core tree p m node at h.row h.to h.source h.parent h.last false h.looked) (is_more _ _ (let n = count_is image core tree p m node at h.row h.to may in let lt = h.lacks.0 in omega (arith, n, lt)))
        (deep_is image core tree p m node at h.row h.to may h.lacks.1.0 h.lacks.1.1 true (λ d e. deep_too h.to.row.depth h.row.depth h.lacks.1.0 d h.lacks.1.1.least h.lacks.1.2 e))
    is_crowded other h = absurd h.lacks

    -- ---- a node that may move

    module _ (its : Move) (may : MayMove core node at (Some image) its) where
      pub made : file_step core.writable tree edit ≡ Ok (moved tree may.parent at.serial node.serial)
      made =
          let try = may.looked.may.may in
          known tree node at core.writable (row_live image core tree p m node.serial its.row try.found) (row_live image core tree p m at.serial its.to.row try.target.node.found) (link_is image core tree p m at false its.to.row try.target.node) try.target.allowed
          (parent_is image core tree p m node.serial its.row try.found (Some may.parent) may.looked.may.leaves.above) (within_is image core tree p m node at its.row its.to try ∙ may.looked.may.leaves.outside)
          (named_is image core tree p m node at its.row its.to its.source may.parent its.last false may.looked)
          (is_more _ _ (let n = count_is image core tree p m node at its.row its.to try in let lt = may.room.few in omega (arith, n, lt)))
          (deep_is image core tree p m node at its.row its.to try may.room.deepest may.room.is false (λ d e. fits_not its.to.row.depth its.row.depth may.room.deepest d may.room.is.least may.room.fits e))

      pub in_its_tree : IsMoved tree (moved tree may.parent at.serial node.serial) may.parent node.serial at.serial
      in_its_tree =
          let s = step_reaches core.writable tree (moved tree may.parent at.serial node.serial) edit made in
          moved_in_its_tree tree (moved tree may.parent at.serial node.serial) node at may.parent m.laid_out.is_tree s.0 s.1
          (parent_is image core tree p m node.serial its.row may.looked.may.may.found (Some may.parent) may.looked.may.leaves.above)

      no_room : (asked end : ℕ) → LacksTable core.heap.limit its.to core.heap.work.heap asked end
          → place_edit core.heap.limit tree (moved tree may.parent at.serial node.serial) (Placed.Move at.serial) p ≡ Err (record { asked = asked; end = end })
      no_room asked end lacks =
          let try = may.looked.may.may in
          let up = kids.own image core at.serial its.to.row try.target.node.found tree p m its.to.table try.target.named_by in
          let count = count_is image core tree p m node at its.row its.to try in
          (plans_others core.heap.limit tree (moved tree may.parent at.serial node.serial) p).2 at.serial
          ∙ ap end_of_plan ((plans_move core.heap.limit tree (moved tree may.parent at.serial node.serial) p at.serial up.parts up.is.stands).2
          (sym (kids.entries_are image core at.serial its.to.row try.target.node.found tree p m its.to.table try.target.named_by) ∙ lacks.0 ∙ sym count) (record { asked = asked; end = end })
          (ap (λ n. heap_take core.heap.limit (table_length (grown_entries n)) p.heap) count ∙ ap (λ (h : Heap). heap_take core.heap.limit (table_length (grown_entries its.to.table.count)) h) m.heap ∙ lacks.1))

  -- ---- each cause

  dead : (tree : Tree) → (is_some (node_at tree node.serial) ≡ false) ⊎ (is_some (node_at tree at.serial) ≡ false) → file_step core.writable tree edit ≡ Err AdfError.NoSuchNode
  dead tree h = by_live (is_some (node_at tree node.serial)) (is_some (node_at tree at.serial)) refl refl h
    where
      by_live : (a b : Bool) → is_some (node_at tree node.serial) ≡ a → is_some (node_at tree at.serial) ≡ b → (a ≡ false) ⊎ (b ≡ false) → file_step core.writable tree edit ≡ Err AdfError.NoSuchNode
      by_live true true e f (inl x) = absurd (not_true (sym x))
      by_live true true e f (inr x) = absurd (not_true (sym x))
      by_live true false e f x = known tree node at core.writable e f refl refl refl refl refl refl refl
      by_live false b e f x = known tree node at core.writable e f refl refl refl refl refl refl refl

  none_dead : (tree : Tree) (p : Placement) → Means image tree p (memory_of core) → (row_of core.rows.items node.serial ≡ None) ⊎ (row_of core.rows.items at.serial ≡ None) → (is_some (node_at tree node.serial) ≡ false) ⊎ (is_some (node_at tree at.serial) ≡ false)
  none_dead tree p m (inl e) = inl (ap is_some (no_node image (memory_of core) node.serial e tree p m))
  none_dead tree p m (inr e) = inr (ap is_some (no_node image (memory_of core) at.serial e tree p m))

  no_dead : (a b : Bool) → a ≡ true → b ≡ true → first_refusal ((not a || (not b || false), AdfError.NoSuchNode) ∷ []) ≡ None
  no_dead true true e f = refl
  no_dead true false e f = absurd (not_true f)
  no_dead false b e f = absurd (not_true e)

  fault : (tree : Tree) (p : Placement) (m : Means image tree p (memory_of core)) → is_some (row_of core.rows.items node.serial) ≡ true → is_some (row_of core.rows.items at.serial) ≡ true
      → first_refusal ((not (is_some (node_at tree node.serial)) || (not (is_some (node_at tree at.serial)) || false), AdfError.NoSuchNode) ∷ []) ≡ None
  fault tree p m some other = no_dead (is_some (node_at tree node.serial)) (is_some (node_at tree at.serial)) (some_live image core tree p m node.serial some) (some_live image core tree p m at.serial other)

  pub refuses : (before now : ℕ) (e : AdfError) → IsMoveCause core node at (Some image) before now e → Refuses edit core e image
  refuses before now error.Memory h = λ tree p m. tt
  refuses before now error.ReadFault h = λ tree p m. fault tree p m h.0 h.1
  refuses before now (error.Layout rule place) (inl b) = λ tree p m. absurd (broken tree p m rule place b)
  refuses before now (error.Layout rule place) (inr b) = absurd b.2
  refuses before now (error.Full asked end) h = λ tree p m. (refl, (moved tree h.1.parent at.serial node.serial, made tree p m h.0 h.1, no_room tree p m h.0 h.1 asked end h.2))
  refuses before now error.NoSuchNode h = λ tree p m. dead tree (none_dead tree p m h)
  refuses before now error.LinkMissing h = λ tree p m.
      known tree node at core.writable (some_live image core tree p m node.serial h.0) (row_live image core tree p m at.serial h.1.0 h.1.1.found) (link_is image core tree p m at true h.1.0 h.1.1) refl refl refl refl refl refl
  refuses before now error.ReadOnly h = λ tree p m.
      known tree node at core.writable (some_live image core tree p m node.serial h.0) (row_live image core tree p m at.serial h.1.0 h.1.1.found) (link_is image core tree p m at false h.1.0 h.1.1) h.2 refl refl refl refl refl
  refuses before now error.NotAChild h = λ tree p m. is_held tree p m error.NotAChild h
  refuses before now error.IntoItself h = λ tree p m. is_held tree p m error.IntoItself h
  refuses before now error.Duplicate h = λ tree p m. is_taken tree p m h
  refuses before now error.TooManyChildren h = λ tree p m. is_crowded tree p m error.TooManyChildren h
  refuses before now error.TooDeep h = λ tree p m. is_crowded tree p m error.TooDeep h
  refuses before now other h = absurd h

pub refuses_held : (core : Core) (node at : NodeId) (held : Option (List ℕ)) (before now : ℕ) (e : AdfError) → IsMoveCause core node at held before now e → IfSome held (Refuses (Edit.Move node at) core e)
refuses_held core node at None before now e h = tt
refuses_held core node at (Some image) before now e h = refuses image core node at before now e h

pub place_is_cause : (core : Core) (node at : NodeId) (held : Option (List ℕ)) (before now : ℕ) (e : AdfError) → IsPlaceCause core node at held before now e → IsMoveCause core node at held before now e
place_is_cause core node at held before now error.Memory h = absurd h
place_is_cause core node at held before now (error.Full asked end) h = absurd h
place_is_cause core node at held before now (error.Layout rule place) h = inl h
place_is_cause core node at held before now other h = h
