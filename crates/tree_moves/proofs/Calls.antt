-- What the calls of a move require, and why they refuse it.
use Rattle.std.proofs.Common.{◌≡◌, inr, ℕ, sym, subst, arith, List, ◌+◌, ◌^◌, ◌≤◌, Bool, true, false, Option, None, Some}
use Rattle.std.specs.Prelude.{IfSome, option_map, Result, IfErr}
use Rattle.std.proofs.lemmas.Result.{IfErr-weaker}
use Rattle.adf_format.specs.RecordFields.{node_length}
use Rattle.adf_model.specs.declared.error.AdfError.{AdfError}
use Rattle.adf_model.specs.declared.error.AdfError.TheVariants as error
use Rattle.adf_model.specs.declared.tree.Edit.{Edit}
use Rattle.adf_model.specs.declared.tree.NodeId.{NodeId}
use Rattle.cg_io.specs.Answers.{IsUntold}
use Rattle.cg_io.proofs.ReadLaws.{rose_later}
use Rattle.tree_edits.specs.declared.memory.Core.{Core}
use Rattle.tree_edits.specs.declared.rows.Row.{Row}
use Rattle.tree_edits.specs.Rows.{AreNear, row_of}
use Rattle.tree_edits.specs.Edits.{Refuses}
use Rattle.tree_edits.specs.Joined.{LacksTable}
use Rattle.tree_edits.specs.Taken.{IsRoomless}
use Rattle.tree_edits.proofs.Causes.{row_there}
use Rattle.tree_moves.specs.declared.place.Move.{Move}
use Rattle.tree_moves.specs.Below.{FitsBelow, SamePlaces}
use Rattle.tree_moves.specs.Movable.{MayMove, IsMoveNear, IsMoveCause}
use Rattle.tree_moves.specs.Relisted.{IsListNear}
use Rattle.tree_moves.proofs.Refused.{refuses_held}

least : (wide : Bool) → 246 ≤ node_length wide
least true = omega arith
least false = omega arith

pub near_row : (wide : Bool) (rows : List (Option Row)) (k : ℕ) (row : Row) → AreNear wide rows → row_of rows k ≡ Some row → row.place + 246 ≤ 2 ^ 44
near_row wide rows k row near found = let h = subst (λ (o : Option Row). IfSome o (λ (r : Row). r.place + node_length wide ≤ 2 ^ 44)) found (near k) in let l = least wide in omega (arith, h, l)

pub near_again : (wide : Bool) (old new : List (Option Row)) → SamePlaces old new → AreNear wide old → AreNear wide new
near_again wide old new same near k = by_rows (row_of old k) (row_of new k) (same k) (near k)
  where
    same_place : (a b : ℕ) → ◌≡◌ {A = Option ℕ} (Some a) (Some b) → a ≡ b
    same_place a b e = cc

    by_rows : (o n : Option Row) → option_map (λ (r : Row). r.place) n ≡ option_map (λ (r : Row). r.place) o → IfSome o (λ (r : Row). r.place + node_length wide ≤ 2 ^ 44) → IfSome n (λ (r : Row). r.place + node_length wide ≤ 2 ^ 44)
    by_rows o None e h = tt
    by_rows None (Some n) e h = cc
    by_rows (Some o) (Some n) e h = let p = same_place n.place o.place e in omega (arith, h, p)

module _ (core : Core) (node at : NodeId) (held : Option (List ℕ)) (its : Move) (may : MayMove core node at held its) where
  pub fits_all : (k : ℕ) → FitsBelow core.rows.items node.serial its.row.depth (its.to.row.depth + 1) k
  fits_all k t = by_row (row_of core.rows.items k) (may.room.is.all k t)
    where
      by_row : (o : Option Row) → IfSome o (λ r. r.depth ≤ may.room.deepest) → IfSome o (λ r. r.depth + (its.to.row.depth + 1) ≤ 255 + its.row.depth)
      by_row None h = tt
      by_row (Some r) h = let f = may.room.fits in omega (arith, h, f)

  pub list_near : IsMoveNear its → IsListNear its.source.listed
  list_near near = record { table = near.from; within = may.looked.source_is.listed.within; few = may.looked.source_is.listed.few }

  pub relist_cause : (mid : Option (List ℕ)) → mid ≡ held → (before middle now : ℕ) (e : AdfError) → before ≤ middle → IsRoomless (LacksTable core.heap.limit its.to core.heap.work.heap) (IsUntold mid) middle now e → IsMoveCause core node at held before now e
  relist_cause mid same before middle now error.Memory le h = (its, may)
  relist_cause mid same before middle now error.ReadFault le h = (row_there _ its.row may.looked.may.may.found, row_there _ its.to.row may.looked.may.may.target.node.found, rose_later before middle now le h)
  relist_cause mid same before middle now (error.Layout rule place) le h = inr ((its, may), h.0, subst IsUntold same h.1)
  relist_cause mid same before middle now (error.Full asked end) le h = (its, may, h)
  relist_cause mid same before middle now other le h = absurd h

  memory_cause : (before now : ℕ) (e : AdfError) → e ≡ AdfError.Memory → IsMoveCause core node at held before now e
  memory_cause before now e is = subst (IsMoveCause core node at held before now) (sym is) (its, may)

  pub memory_causes : {T : Type 0} (r : Result T AdfError) (before now : ℕ) → IfErr r (λ e. e ≡ AdfError.Memory) → IfErr r (IsMoveCause core node at held before now)
  memory_causes r before now h = IfErr-weaker r (λ e. e ≡ AdfError.Memory) (IsMoveCause core node at held before now) (λ e is. memory_cause before now e is) h

  pub memory_refuses : {T : Type 0} (r : Result T AdfError) → IfErr r (λ e. e ≡ AdfError.Memory) → IfErr r (λ e. IfSome held (Refuses (Edit.Move node at) core e))
  memory_refuses r h = IfErr-weaker r (λ e. e ≡ AdfError.Memory) (λ e. IfSome held (Refuses (Edit.Move node at) core e)) (λ e is. refuses_held core node at held 0 0 e (memory_cause 0 0 e is)) h
