-- Rows that can be undone.
use Rattle.std.specs.Prelude.{ℕ, ◌<◌, ◌≤◌, List, [], ◌∷◌, length, take, Option, slice_set}
use Rattle.std.specs.List.{AllByRecursion}
use Rattle.tree_edits.specs.declared.rows.Row.{Row}
use Rattle.tree_edits.specs.declared.rows.Undone.{Undone}

-- the rows in work, and those that were last accepted
pub record RowsState : Type 0 where
  pub items : List (Option Row)
  pub kept : List (Option Row)

-- the rows with those that were set put back, the latest first
abbrev pub put_back : List (Option Row) → List Undone → List (Option Row)
put_back rows [] = rows
put_back rows (u ∷ us) = slice_set (put_back rows us) u.serial u.row

-- the rows as they were accepted
abbrev pub kept_of : List (Option Row) → List Undone → ℕ → List (Option Row)
kept_of rows undone kept = take kept (put_back rows undone)

-- what was set was accepted, and no accepted row is gone
pub record AreUndone (rows : List (Option Row)) (undone : List Undone) (kept : ℕ) : Type 0 where
  pub within : kept ≤ length rows
  pub each : AllByRecursion (λ (u : Undone). u.serial < kept) undone
