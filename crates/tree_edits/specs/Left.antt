-- A child leaves the list of its parent: the entries behind its own move up, and the count is one less.
use Rattle.std.specs.Prelude.{◌≡◌, ℕ, suc, ◌+◌, ◌-◌, ◌*◌, ◌<◌, ◌≤◌, List, [], ◌∷◌, length, slice_index}
use Rattle.adf_format.specs.declared.types.ExtentKind.{ExtentKind}
use Rattle.adf_format.specs.HeapBytes.{ChangesOnly}
use Rattle.adf_format.specs.Hex.{hex_text}
use Rattle.adf_format.specs.Placement.{extent}
use Rattle.cg_io.specs.Answers.{Then}
use Rattle.cg_io.specs.Blocks.{blocks_of}
use Rattle.tree_laws.specs.MidEdit.{Puts}
use Rattle.tree_edits.specs.declared.listed.Listed.{Listed}

-- The bytes at a place are, read with zeros past the end, those that stood at another place before the call; nothing else
-- changes.
pub record MovesUp (from to count : ℕ) (old new : List ℕ) : Type 0 where
  pub bytes : (k : ℕ) → k < count → slice_index new (to + k) ≡ slice_index old (from + k)
  pub reaches : 0 < count → to + count ≤ length new
  pub only : ChangesOnly (extent ExtentKind.Node to count ∷ []) old new

-- the entry of a child in a table, and how many bytes the entries in use behind it have
abbrev pub entry_place : Listed → ℕ
entry_place listed = listed.table.place + 16 + 44 * listed.position

abbrev pub length_behind : Listed → ℕ
length_behind listed = 44 * (listed.table.count - suc listed.position)

-- the entries behind a child's own move up by one, and the header of the parent counts one child less
abbrev pub LeavesList : ℕ → Listed → List ℕ → List ℕ → Type 0
LeavesList header listed =
    Then (MovesUp (entry_place listed + 44) (entry_place listed) (length_behind listed))
    (Puts ExtentKind.Node (header + 68) 8 (hex_text 8 (listed.table.count - 1)))

-- the blocks that may wait
abbrev pub leave_cost : Listed → ℕ
leave_cost listed = blocks_of (entry_place listed) (length_behind listed) + 2
