-- The serial of the node whose header stands at a place.
use Rattle.std.specs.Prelude.{◌≡◌, ℕ, ◌==◌, Bool, true, false, List, Option, Some, None}
use Rattle.tree_edits.specs.declared.rows.Row.{Row}
use Rattle.tree_edits.specs.Rows.{row_of}

-- whether a row is there and names a place
abbrev pub stands_at : ℕ → Option Row → Bool
stands_at place None = false
stands_at place (Some row) = row.place == place

-- whether the row of a serial does
abbrev pub is_placed : List (Option Row) → ℕ → ℕ → Bool
is_placed rows place serial = stands_at place (row_of rows serial)

-- a serial whose row names a place: none where no row does
abbrev pub IsSerialAt : List (Option Row) → ℕ → Option ℕ → Type 0
IsSerialAt rows place None = (serial : ℕ) → is_placed rows place serial ≡ false
IsSerialAt rows place (Some serial) = is_placed rows place serial ≡ true
