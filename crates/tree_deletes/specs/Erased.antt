-- Rows that become none.
use Rattle.std.specs.Prelude.{◌≡◌, ◌⊎◌, ℕ, List, [], ◌∷◌, map, Option, None, slice_set}
use Rattle.tree_edits.specs.declared.rows.Row.{Row}
use Rattle.tree_edits.specs.Rows.{row_of}
use Rattle.tree_deletes.specs.declared.doomed.Doomed.{Doomed}

-- the rows of these serials are none
abbrev pub without_rows : List (Option Row) → List ℕ → List (Option Row)
without_rows rows [] = rows
without_rows rows (serial ∷ serials) = without_rows (slice_set rows serial None) serials

abbrev pub serials_of : List Doomed → List ℕ
serials_of nodes = map (λ (d : Doomed). d.serial) nodes

-- each row is as it was, or none
abbrev pub ErasesOnly : List (Option Row) → List (Option Row) → Type 0
ErasesOnly old new = (serial : ℕ) → (row_of new serial ≡ None) ⊎ (row_of new serial ≡ row_of old serial)
