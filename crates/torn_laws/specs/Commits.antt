-- Changed blocks of which some were written, and the block of the next has any bytes.
use Rattle.std.specs.Prelude.{◌≡◌, ℕ, ◌≤◌, ◌/◌, Bool, List, length, Option, Some, Ok}
use Rattle.std.specs.List.{AllByRecursion}
use Rattle.std.specs.Map.{keys_of}
use Rattle.adf_format.specs.declared.types.Extent.{Extent}
use Rattle.adf_format.specs.Tree.{Tree}
use Rattle.adf_format.specs.Placement.{Placement}
use Rattle.adf_format.specs.LaysOut.{LaysOut}
use Rattle.adf_model.specs.Counts.{raised_by}
use Rattle.adf_model.specs.declared.tree.Edit.{Edit}
use Rattle.adf_model.specs.Placing.{place_group}
use Rattle.adf_model.specs.Torn.{TornAt, TornGroup}
use Rattle.adf_model.specs.Untouched.{KeepsRest, KeepsTail, MayWrite, group_touched}
use Rattle.cg_io.specs.Cause.{Rose}
use Rattle.cg_io.specs.Waits.{Waits}
use Rattle.block_draft.specs.Changes.{with_changes, IsPartWritten, AreChanges}

-- they are torn at a block, as a write of the bytes that were wanted
abbrev pub PartIsTorn : Type 0
PartIsTorn =
    (old new : List ℕ) (writes now : ℕ) (changes : List (ℕ × List ℕ))
    → AreChanges changes → IsPartWritten (Some old) writes changes (Some new) now
    → (number : ℕ) × TornAt number old (with_changes old changes) new

-- each changed block has a byte that may be written
abbrev pub AreReached : List Extent → Bool → Placement → ℕ → List (ℕ × List ℕ) → Type 0
AreReached touched wide p end changes =
    AllByRecursion (λ n. (b : ℕ) × (b / 4096 ≡ n) × MayWrite touched wide p end b) (keys_of changes)

-- so it is where each block that waits has such a byte
abbrev pub WaitsAreReached : Type 0
WaitsAreReached =
    (touched : List Extent) (wide : Bool) (p : Placement) (end : ℕ) (changes : List (ℕ × List ℕ))
    → ((n : ℕ) → Waits (keys_of changes) n → (b : ℕ) × (b / 4096 ≡ n) × MayWrite touched wide p end b)
    → AreReached touched wide p end changes

-- Where the changed blocks make a layout of the tree that a group was to leave, placed by the rule of the heap, and other
-- than before only as a done group may make it, the commit that failed left what the failed commit of a group leaves.
abbrev pub GroupIsTorn : Type 0
GroupIsTorn =
    (limit : ℕ) (tree after : Tree) (p q : Placement) (done : List (Edit × Tree)) (old new : List ℕ)
    (writes now : ℕ) (changes : List (ℕ × List ℕ))
    → AreChanges changes → IsPartWritten (Some old) writes changes (Some new) now
    → LaysOut (with_changes old changes) after q → KeepsTail q.heap.end old (with_changes old changes)
    → place_group limit tree p done ≡ Ok q → KeepsRest limit tree p done q old (with_changes old changes)
    → AreReached (group_touched limit tree p done) tree.wide p q.heap.end changes
    → TornGroup limit tree p done after old new

-- the writes of such a commit are counted, one for each block at most
abbrev pub PartIsCounted : Type 0
PartIsCounted =
    (held new : Option (List ℕ)) (writes now : ℕ) (changes : List (ℕ × List ℕ))
    → IsPartWritten held writes changes new now → Rose writes now × (now ≤ raised_by (length changes) writes)
