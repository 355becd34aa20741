-- Who stands below whom, as the rows of the nodes tell it.
use Rattle.std.specs.Prelude.{◌≡◌, ◌⊎◌, ℕ, zero, suc, ◌+◌, ◌-◌, ◌≤◌, ◌==◌, nat_lt, Bool, true, false, if◌then◌else◌, List, length, Option, Some, None, option_map, IfSome}
use Rattle.tree_edits.specs.declared.rows.Row.{Row}
use Rattle.tree_edits.specs.Rows.{row_of}

-- who stands above the node of a row: none above the root, or where there is no row
abbrev pub above_of : Option Row → Option ℕ
above_of None = None
above_of (Some row) = row.parent

-- the serial so many steps up from another
abbrev pub climb_rows : ℕ → List (Option Row) → Option ℕ → Option ℕ
climb_rows zero rows o = o
climb_rows (suc n) rows None = None
climb_rows (suc n) rows (Some serial) = climb_rows n rows (above_of (row_of rows serial))

abbrev pub is_there : ℕ → Option ℕ → Bool
is_there top None = false
is_there top (Some serial) = serial == top

-- whether a serial with this row is another one, at a depth, or stands below it: by as many steps up as it stands deeper
abbrev pub is_below_by : List (Option Row) → ℕ → ℕ → ℕ → Option Row → Bool
is_below_by rows top depth serial None = false
is_below_by rows top depth serial (Some row) =
    if nat_lt row.depth depth then false else is_there top (climb_rows (row.depth - depth) rows (Some serial))

unfoldable pub is_below : List (Option Row) → ℕ → ℕ → ℕ → Bool
is_below rows top depth serial = is_below_by rows top depth serial (row_of rows serial)

-- a depth at which a node stands below another
pub record IsDepthBelow (rows : List (Option Row)) (top depth deep : ℕ) : Type 0 where
  pub serial : ℕ
  pub row : Row
  pub found : row_of rows serial ≡ Some row
  pub below : is_below rows top depth serial ≡ true
  pub deep_is : row.depth ≡ deep

-- a serial does not stand deeper below a node
abbrev pub NoneDeeper : List (Option Row) → ℕ → ℕ → ℕ → ℕ → Type 0
NoneDeeper rows top depth deep serial = is_below rows top depth serial ≡ true → IfSome (row_of rows serial) (λ row. row.depth ≤ deep)

-- the greatest depth of a node and of those below it
pub record IsDeepest (rows : List (Option Row)) (top depth deep : ℕ) : Type 0 where
  pub all : (serial : ℕ) → NoneDeeper rows top depth deep serial
  pub least : depth ≤ deep
  pub one : (deep ≡ depth) ⊎ IsDepthBelow rows top depth deep

-- ---- rows that move

-- a row as far below one depth as it was below another
abbrev pub deeper_row : ℕ → ℕ → Row → Row
deeper_row from to row = record row { depth = row.depth - from + to }

-- the row of a serial, where a node moves from a depth to another with all below it
abbrev pub shifted_row : List (Option Row) → ℕ → ℕ → ℕ → ℕ → Option Row
shifted_row rows top from to serial =
    if is_below rows top from serial then option_map (deeper_row from to) (row_of rows serial) else row_of rows serial

-- one row is another, or none, and all others stay
pub record SetsRow (old new : List (Option Row)) (serial : ℕ) (row : Option Row) : Type 0 where
  pub count : length new ≡ length old
  pub each : (k : ℕ) → row_of new k ≡ (if k == serial then row else row_of old k)

-- A node stands below another parent, and all below it as far below it as before.
pub record Shifts (old new : List (Option Row)) (top from parent to : ℕ) (row : Row) : Type 0 where
  pub count : length new ≡ length old
  pub each : (k : ℕ) → row_of new k ≡ (if k == top then Some (record row { parent = Some parent; depth = to }) else shifted_row old top from to k)

-- a serial that stands below a node has room as far below another depth
abbrev pub FitsBelow : List (Option Row) → ℕ → ℕ → ℕ → ℕ → Type 0
FitsBelow rows top from to serial = is_below rows top from serial ≡ true → IfSome (row_of rows serial) (λ row. row.depth + to ≤ 255 + from)

-- all rows stand where they stood
abbrev pub SamePlaces : List (Option Row) → List (Option Row) → Type 0
SamePlaces old new = (k : ℕ) → option_map (λ (row : Row). row.place) (row_of new k) ≡ option_map (λ (row : Row). row.place) (row_of old k)
