-- When a node gets a new child, and why it does not: causes that hold also where the bytes are not told.
use Rattle.std.specs.Prelude.{◌≡◌, ◌⊎◌, ℕ, ◌+◌, List, Option, IsSome, Ok}
use Rattle.adf_format.specs.RecordFields.{node_length}
use Rattle.adf_format.specs.HeapRule.{heap_take}
use Rattle.adf_format.specs.Placement.{Heap}
use Rattle.adf_format.specs.RuleNumbers.{IsRule}
use Rattle.adf_model.specs.declared.error.AdfError.{AdfError}
use Rattle.adf_model.specs.declared.error.AdfError.TheVariants as error
use Rattle.adf_model.specs.declared.tree.NodeId.{NodeId}
use Rattle.cg_io.specs.Answers.{IsUntold}
use Rattle.cg_io.specs.Cause.{Rose}
use Rattle.node_reads.specs.declared.header.ChildTable.{ChildTable}
use Rattle.tree_edits.specs.declared.memory.Core.{Core}
use Rattle.tree_edits.specs.declared.room.Parent.{Parent}
use Rattle.tree_edits.specs.Causes.{named_row}
use Rattle.tree_edits.specs.Listed.{IsTableOf}
use Rattle.tree_edits.specs.Room.{MayCreate, IsRoomCause}
use Rattle.tree_edits.specs.Taken.{LacksBytes}
use Rattle.tree_edits.specs.Joined.{LacksTable, join_cost}

-- a node that gets a child
abbrev pub IsCreatable : Core → NodeId → List ℕ → List ℕ → Option (List ℕ) → Type 0
IsCreatable core at name label held = (parent : Parent) × MayCreate core at name label held parent

-- the limit leaves no room for the header, or for a longer table behind it
abbrev pub LacksChild : ℕ → Core → Parent → ℕ → ℕ → Type 0
LacksChild n core parent asked end =
    LacksBytes core.heap.limit n core.heap.work.heap asked end
    ⊎ ((place : ℕ) × (between : Heap) × (heap_take core.heap.limit n core.heap.work.heap ≡ Ok (place, between))
    × LacksTable core.heap.limit parent between asked end)

-- of a new child: a node that may not have one; want of memory, no room, or a rule that bytes break that are not told
abbrev pub IsCreateCause : Core → NodeId → List ℕ → List ℕ → Option (List ℕ) → ℕ → ℕ → AdfError → Type 0
IsCreateCause core at name label held before now error.Memory = IsCreatable core at name label held
IsCreateCause core at name label held before now error.ReadFault = IsSome (named_row core at) × Rose before now
IsCreateCause core at name label held before now (error.Full asked end) =
    (parent : Parent) × MayCreate core at name label held parent × LacksChild (node_length core.wide) core parent asked end
IsCreateCause core at name label held before now (error.Layout rule place) =
    IsRoomCause core at name label held before now (error.Layout rule place)
    ⊎ (IsCreatable core at name label held × IsRule rule × IsUntold held)
IsCreateCause core at name label held before now other = IsRoomCause core at name label held before now other

-- the blocks that may wait: none before the table is known, and then those of the header and of the table
abbrev pub CreatesWithin : Core → NodeId → Option (List ℕ) → ℕ → Type 0
CreatesWithin core at held n =
    (n ≡ 0) ⊎ ((table : ChildTable) × IsTableOf core held at.serial table × (n ≡ 11 + join_cost table))
