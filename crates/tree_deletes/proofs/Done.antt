-- A deletion over bytes that may be told: what is required on the way, what is done, why it is refused.
use Rattle.std.proofs.Common.{◌≡◌, inl, inr, ℕ, sym, ◌∙◌, ap, subst, List, ◌+◌, ◌≤◌, ◌^◌, true, false, Option, None, Some}
use Rattle.std.specs.Prelude.{IfSome, Result, Ok, Err, IfErr}
use Rattle.adf_format.specs.RecordFields.{node_length}
use Rattle.adf_format.specs.Tree.{Tree}
use Rattle.adf_format.specs.Placement.{Placement}
use Rattle.adf_model.specs.declared.error.AdfError.{AdfError}
use Rattle.adf_model.specs.declared.error.AdfError.TheVariants as error
use Rattle.adf_model.specs.declared.tree.Edit.{Edit}
use Rattle.adf_model.specs.declared.tree.NodeId.{NodeId}
use Rattle.adf_model.proofs.Basics.{same_Some}
use Rattle.cg_io.specs.Answers.{IsRefusal}
use Rattle.cg_io.specs.Blocks.{Both}
use Rattle.cg_io.proofs.ReadLaws.{rose_later}
use Rattle.file_heap.specs.Heap.{FreeSpace, IsThreaded}
use Rattle.node_reads.specs.Reads.{IsUnread}
use Rattle.tree_edits.specs.declared.listed.Listed.{Listed}
use Rattle.tree_edits.specs.declared.memory.Core.{Core}
use Rattle.tree_edits.specs.declared.rows.Row.{Row}
use Rattle.tree_edits.specs.Edits.{memory_of, Does, Refuses}
use Rattle.tree_edits.specs.Left.{LeavesList}
use Rattle.tree_edits.specs.Listed.{IsUnlisted}
use Rattle.tree_edits.specs.Rows.{Means, AreNear, row_of}
use Rattle.tree_deletes.specs.declared.doomed.Doomed.{Doomed}
use Rattle.tree_deletes.specs.Deleted.{MayLook, IsDeletion, IsDeleteCause}
use Rattle.tree_deletes.specs.Doomed.{MeansNone}
use Rattle.tree_deletes.specs.Erased.{without_rows, serials_of, ErasesOnly}
use Rattle.tree_deletes.specs.Given.{GivesNodes, MayNotGive}
use Rattle.tree_deletes.proofs.Erasing.{still_each}
use Rattle.tree_deletes.proofs.Deleting.{no_row, fault, is_read_only, is_root, unlisted, threads_mid, not_given, follows}

module _ (core : Core) (node : NodeId) where
  abbrev RefusedIn : AdfError → Option (List ℕ) → Type 0
  RefusedIn e held = IfSome held (Refuses (Edit.Delete node) core e)

  for_all : (e : AdfError) → ((image : List ℕ) → Refuses (Edit.Delete node) core e image) → (held : Option (List ℕ)) → RefusedIn e held
  for_all e all None = tt
  for_all e all (Some image) = all image

  pub refused_none : (held : Option (List ℕ)) → row_of core.rows.items node.serial ≡ None → RefusedIn AdfError.NoSuchNode held
  refused_none held none = for_all AdfError.NoSuchNode (λ image. no_row image core node none) held

  module _ (row : Row) (found : row_of core.rows.items node.serial ≡ Some row) where
    pub refused_read_only : (held : Option (List ℕ)) → core.writable ≡ false → RefusedIn AdfError.ReadOnly held
    refused_read_only held may = for_all AdfError.ReadOnly (λ image. is_read_only image core node row found may) held

    pub refused_root : (held : Option (List ℕ)) → core.writable ≡ true → row.parent ≡ None → RefusedIn AdfError.NotAChild held
    refused_root held may none = for_all AdfError.NotAChild (λ image. is_root image core node row found may none) held

    -- where a refusal has no cause in the tree
    pub refused_else : (held : Option (List ℕ)) (before now : ℕ) (e : AdfError) → IsRefusal (MeansNone core held) before now e → RefusedIn e held
    refused_else None before now e h = tt
    refused_else (Some image) before now error.Memory h = λ tree p m. tt
    refused_else (Some image) before now error.ReadFault h = fault image core node row found
    refused_else (Some image) before now (error.Layout rule at) h = λ tree p m. absurd (h.1 tree p m)
    refused_else (Some image) before now other h = absurd h

    module _ (parent : ℕ) (above : row.parent ≡ Some parent) (may : core.writable ≡ true) where
      abbrev looked : MayLook core node
      looked = record { row = row; parent = parent; child = record { found = found; above = above }; allowed = may }

      pub refused_unlisted : (held : Option (List ℕ)) (before now : ℕ) (e : AdfError) → IsUnread (IsUnlisted core held row.place parent) before now e → RefusedIn e held
      refused_unlisted None before now e h = tt
      refused_unlisted (Some image) before now error.ReadFault h = fault image core node row found
      refused_unlisted (Some image) before now (error.Layout rule at) h = λ tree p m. absurd (unlisted image core node row found parent above may rule at h tree p m)
      refused_unlisted (Some image) before now other h = absurd h

      pub unlisted_cause : (held : Option (List ℕ)) (before now : ℕ) (e : AdfError) → IsUnread (IsUnlisted core held row.place parent) before now e → IsDeleteCause core node held before now e
      unlisted_cause held before now error.ReadFault h = (looked, h)
      unlisted_cause held before now (error.Layout rule at) h = (looked, inl h)
      unlisted_cause held before now other h = absurd h

      pub else_cause : (held : Option (List ℕ)) (before middle now : ℕ) (e : AdfError) → before ≤ middle → IsRefusal (MeansNone core held) middle now e → IsDeleteCause core node held before now e
      else_cause held before middle now error.Memory le h = looked
      else_cause held before middle now error.ReadFault le h = (looked, rose_later before middle now le h)
      else_cause held before middle now (error.Layout rule at) le h = (looked, inr h)
      else_cause held before middle now other le h = absurd h

module _ (core : Core) (node : NodeId) (up_row : Row) (l : Listed) (nodes : List Doomed) where
  abbrev Is : Option (List ℕ) → Type 0
  Is held = IsDeletion core node held up_row l nodes

  -- the row of the parent is the one that the table was found by
  pub left_there : (image mid : List ℕ) (d : Is (Some image)) → LeavesList up_row.place l image mid → LeavesList d.is.table.above.place l image mid
  left_there image mid d left = subst (λ k. LeavesList k l image mid) (ap (λ (x : Row). x.place) (same_Some up_row d.is.table.above (sym d.found ∙ d.is.table.found))) left

  pub threads_then : (held mid : Option (List ℕ)) → Is held → IfSome held (λ bytes. (tree : Tree) × (p : Placement) × Means bytes tree p (memory_of core)) → Both (LeavesList up_row.place l) held mid → IfSome mid (IsThreaded core.heap.work)
  threads_then None None d means left = tt
  threads_then None (Some mid) d means left = absurd left
  threads_then (Some image) None d means left = tt
  threads_then (Some image) (Some mid) d means left =
      threads_mid image core node d.may.row d.may.child.found d.may.parent d.may.child.above d.may.allowed l d.is mid (left_there image mid d left) nodes d.below means.0 means.1 means.2

  -- parts that may not be given stand in bytes that mean no tree
  pub none_given_up : (held mid : Option (List ℕ)) → Is held → Both (LeavesList up_row.place l) held mid → MayNotGive core.wide nodes core.heap.work.heap mid → MeansNone core held
  none_given_up None mid d left not = tt
  none_given_up (Some image) None d left not = absurd left
  none_given_up (Some image) (Some mid) d left not = λ tree p m.
      not_given image core node d.may.row d.may.child.found d.may.parent d.may.child.above d.may.allowed l d.is mid (left_there image mid d left) nodes d.below tree p m not

  pub done : (held mid new : Option (List ℕ)) (now : FreeSpace) (is' : Core) → Is held → Both (LeavesList up_row.place l) held mid → Both (GivesNodes core.wide nodes core.heap.work now) mid new
      → is'.wide ≡ core.wide → is'.rows.items ≡ without_rows core.rows.items (serials_of nodes) → is'.heap.work ≡ now → Both (Does (Edit.Delete node) core is') held new
  done None None None now is' d left g wide rows heap = tt
  done None None (Some new) now is' d left g wide rows heap = absurd g
  done None (Some mid) new now is' d left g wide rows heap = absurd left
  done (Some image) None new now is' d left g wide rows heap = absurd left
  done (Some image) (Some mid) None now is' d left g wide rows heap = absurd g
  done (Some image) (Some mid) (Some new) now is' d left g wide rows heap = λ tree p m.
      follows image core node d.may.row d.may.child.found d.may.parent d.may.child.above d.may.allowed l d.is mid (left_there image mid d left) nodes d.below tree p m new now g is' wide rows heap

  -- ---- refusals after the subtree is known

  pub fault_after : (held : Option (List ℕ)) → Is held → (before middle now : ℕ) (e : AdfError) → before ≤ middle → IsRefusal (MeansNone core held) middle now e → IfSome held (Refuses (Edit.Delete node) core e) × IsDeleteCause core node held before now e
  fault_after held d before middle now e le h = (
    refused_else core node d.may.row d.may.child.found held middle now e h,
    else_cause core node d.may.row d.may.child.found d.may.parent d.may.child.above d.may.allowed held before middle now e le h,
  )

  pub all_after : {T : Type 0} (r : Result T AdfError) (held : Option (List ℕ)) → Is held → (before middle now : ℕ) → before ≤ middle → IfErr r (IsRefusal (MeansNone core held) middle now)
      → IfErr r (λ e. IfSome held (Refuses (Edit.Delete node) core e)) × IfErr r (IsDeleteCause core node held before now)
  all_after (Ok x) held d before middle now le h = (tt, tt)
  all_after (Err e) held d before middle now le h = fault_after held d before middle now e le h

-- each header of the rows that are left ends below the greatest place
pub near_left : (was now : Core) (rows : List (Option Row)) → AreNear was.wide was.rows.items → ErasesOnly was.rows.items rows → now.rows.items ≡ rows → now.wide ≡ was.wide → AreNear now.wide now.rows.items
near_left was now rows near only same wide =
    subst (λ w. AreNear w now.rows.items) (sym wide) (subst (AreNear was.wide) (sym same) (still_each (λ (row : Row). row.place + node_length was.wide ≤ 2 ^ 44) was.rows.items rows only near))
