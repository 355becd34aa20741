-- What memory alone answers of a node, also where the bytes are not told.
use Rattle.std.specs.Prelude.{◌≡◌, ℕ, length, Some, ⊤}
use Rattle.adf_model.specs.declared.tree.NodeId.{NodeId}
use Rattle.adf_model.specs.declared.tree.Query.{Query}
use Rattle.adf_model.specs.declared.tree.Query.TheVariants.{Next, Parent, Target}
use Rattle.adf_model.specs.declared.tree.Reply.{Reply}
use Rattle.tree_edits.specs.declared.memory.Core.{Core}
use Rattle.tree_edits.specs.declared.rows.Row.{Row}
use Rattle.tree_asks.specs.Causes.{AtRow}

-- the serials of the next node and of the parent, and the node itself; the replies to other queries are read
abbrev pub IsOfRow : Core → NodeId → Query → Reply → Row → Type 0
IsOfRow core at (Next node) reply row = reply ≡ Reply.Node (record { file = at.file; serial = length core.rows.items })
IsOfRow core at (Parent node) reply row = (serial : ℕ) × (row.parent ≡ Some serial) × (reply ≡ Reply.Node (record { file = at.file; serial = serial }))
IsOfRow core at (Target node) reply row = reply ≡ Reply.Node at
IsOfRow core at query reply row = ⊤

-- a reply is of a node that has a row, and is what memory knows of it
abbrev pub IsKnown : Core → NodeId → Query → Reply → Type 0
IsKnown core at query reply = AtRow core at.serial (IsOfRow core at query reply)
