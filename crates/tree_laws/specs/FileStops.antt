-- Where a group of edits on one file stops: as its tree refuses it, or where the heap has no room.
use Rattle.std.specs.Prelude.{◌≡◌, ◌⊎◌, ℕ, suc, ◌+◌, ◌*◌, ◌<◌, List, length, take, Err}
use Rattle.adf_format.specs.Tree.{IsTree}
use Rattle.adf_model.specs.declared.error.AdfError.{AdfError}
use Rattle.adf_model.specs.declared.tree.Edit.{Edit}
use Rattle.adf_model.specs.Edits.{file_group}
use Rattle.adf_model.specs.Placing.{place_group}
use Rattle.adf_model.specs.Slots.{Open, Slot, Device}
use Rattle.adf_model.specs.Slots.Slot.{Live}
use Rattle.adf_model.specs.FileGroup.{done_in, IsFileGroup}
use Rattle.tree_laws.specs.Groups.{group_need}

-- the answers that are not the tree's: want of memory, failed reads and writes, and want of room
abbrev pub IsNotOfTree : AdfError → Type 0
IsNotOfTree AdfError.Memory = Unit {0}
IsNotOfTree AdfError.ReadFault = Unit {0}
IsNotOfTree AdfError.WriteFault = Unit {0}
IsNotOfTree (AdfError.Full asked end) = Unit {0}
IsNotOfTree error = ⊥

-- each other refusal is the tree's, at the same edit
abbrev pub StopsAsTree : Type 0
StopsAsTree =
    (opened : Open) (before now : Device) (edits : List Edit) (at : ℕ) (error : AdfError) (after : Slot)
    → IsFileGroup (Live opened) before edits (Err (record { at = at; error = error })) now after
    → IsNotOfTree error ⊎ (file_group opened.writable opened.tree edits ≡ Err (record { at = at; error = error }))

-- want of room is the heap's, of the take with these numbers, and the edits up to it need more than is left
abbrev pub StopsFull : Type 0
StopsFull =
    (opened : Open) (before now : Device) (edits : List Edit) (at asked end : ℕ) (after : Slot) → IsTree opened.tree
    → length before.placement.parts ≡ length opened.tree.nodes
    → IsFileGroup (Live opened) before edits (Err (record { at = at; error = AdfError.Full asked end })) now after
    → (place_group opened.limit opened.tree before.placement (done_in opened (take (suc at) edits)) ≡ Err (record { asked = asked; end = end }))
    × (opened.limit * 4096 < before.placement.heap.end + 1 + group_need opened.tree (done_in opened (take (suc at) edits)))
