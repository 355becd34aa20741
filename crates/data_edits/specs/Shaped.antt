-- When a node gets a shape, what becomes of its data, and why it does not.
use Rattle.std.specs.Prelude.{◌≡◌, ◌⊎◌, ℕ, ◌+◌, ◌*◌, ◌<◌, ◌≤◌, Bool, true, false, not, ◌&&◌, ◌||◌, ◌==◌, nat_lt, if◌then◌else◌, List, ◌/◌, Option, Some, None, option_map}
use Rattle.adf_format.specs.HeapRule.{chunk_length_for}
use Rattle.adf_format.specs.Names.{is_same_type, is_lk, data_size}
use Rattle.adf_format.specs.Placement.{Heap}
use Rattle.adf_format.specs.RuleNumbers.{IsRule}
use Rattle.adf_model.specs.declared.error.AdfError.{AdfError}
use Rattle.adf_model.specs.declared.error.AdfError.TheVariants as error
use Rattle.adf_model.specs.declared.tree.NodeId.{NodeId}
use Rattle.adf_model.specs.declared.tree.Shape.{Shape}
use Rattle.adf_model.specs.Edits.{resized, size_limit}
use Rattle.adf_model.specs.Need.{growth}
use Rattle.adf_model.specs.Shapes.{is_shape, dims_of}
use Rattle.adf_data.specs.Growing.{room_of_table}
use Rattle.adf_records.specs.declared.NodeHeader.{NodeHeader}
use Rattle.cg_io.specs.Waits.{how_many}
use Rattle.tree_asks.specs.Headers.{dims_of as dims_in}
use Rattle.tree_edits.specs.declared.memory.Core.{Core}
use Rattle.tree_edits.specs.declared.rows.Row.{Row}
use Rattle.data_edits.specs.Found.{MayEdit, IsNodeCause}
use Rattle.data_edits.specs.Becomes.{NoneOwned}

-- the bytes of data of a shape
abbrev pub size_of_shape : Shape → ℕ
size_of_shape shape = data_size shape.kind (dims_of shape)

-- whether the data of a node stay when it gets a shape, by its header: the type and the rank are the same, and there are data
abbrev pub keeps : NodeHeader → Shape → Bool
keeps h shape = is_same_type h.kind shape.kind && (h.rank == shape.rank) && not (h.chunks == 0)

-- what the data become: cut or filled up with zeros where they stay, else none
abbrev pub reshaped : NodeHeader → Shape → Option (List ℕ) → Option (List ℕ)
reshaped h shape bytes = if keeps h shape then option_map (λ b. resized b (size_of_shape shape)) bytes else None

-- whether a shape is a good one of a node, and its data are small enough
abbrev pub is_good : Bool → Shape → Bool
is_good wide shape = is_shape wide shape && not (is_lk shape.kind)

abbrev pub is_too_large : Bool → NodeHeader → Shape → Bool
is_too_large wide h shape = nat_lt size_limit (size_of_shape shape) && (not wide || keeps h shape)

-- a node that gets a shape
pub record MayReshape (core : Core) (node : NodeId) (shape : Shape) (held : Option (List ℕ)) (row : Row) (h : NodeHeader) : Type 0 where
  pub may : MayEdit core node held row h
  pub good : is_good core.wide shape ≡ true
  pub small : is_too_large core.wide h shape ≡ false

-- a shape that is set: the node may get it
abbrev pub MaySetDims : Core → NodeId → Shape → Option (List ℕ) → Type 0
MaySetDims core node shape held = (row : Row) × (h : NodeHeader) × MayReshape core node shape held row h

-- the most blocks that wait anew: those of the header and of the heap, some for each chunk, and those that are added
abbrev pub kept_size : NodeHeader → Shape → Option ℕ
kept_size h shape = if keeps h shape then Some (size_of_shape shape) else None

abbrev pub shape_cost : NodeHeader → Shape → ℕ
shape_cost h shape = 64 * (1 + h.chunks) + (growth h.chunks (data_size h.kind (dims_in h)) (kept_size h shape) + 4095) / 4096

-- no more wait where it is set
abbrev pub WaitsForShape : Core → NodeId → Shape → Option (List ℕ) → List ℕ → List ℕ → Type 0
WaitsForShape core node shape held before now =
    (row : Row) × (h : NodeHeader) × MayReshape core node shape held row h × (how_many now ≤ how_many before + shape_cost h shape)

-- why it is refused by itself
abbrev pub IsShapeRefusal : Bool → NodeHeader → Shape → AdfError → Type 0
IsShapeRefusal wide h shape error.BadShape = is_good wide shape ≡ false
IsShapeRefusal wide h shape error.TooLarge = (is_good wide shape ≡ true) × (is_too_large wide h shape ≡ true)
IsShapeRefusal wide h shape other = ⊥

-- the limit leaves no room for what is added to data that stay
pub record LacksSize (limit : ℕ) (h : NodeHeader) (shape : Shape) (heap : Heap) (asked end : ℕ) : Type 0 where
  pub stay : keeps h shape ≡ true
  pub none : limit * 4096 < heap.end + 1 + chunk_length_for (size_of_shape shape) + room_of_table h.chunks

-- of a shape: no such node; a link; a file that may not be written; no shape; too large; no room; want of memory, a failed read,
-- or chunks that do not hold the data that the header names
abbrev pub IsShapeCause : Core → NodeId → Shape → Option (List ℕ) → ℕ → ℕ → AdfError → Type 0
IsShapeCause core node shape held before now error.Memory = MaySetDims core node shape held
IsShapeCause core node shape held before now error.BadShape =
    ((row : Row) × (h : NodeHeader) × MayEdit core node held row h) × (is_good core.wide shape ≡ false)
IsShapeCause core node shape held before now error.TooLarge =
    (row : Row) × (h : NodeHeader) × MayEdit core node held row h × (is_good core.wide shape ≡ true)
    × (is_too_large core.wide h shape ≡ true)
IsShapeCause core node shape held before now (error.Full asked end) =
    (row : Row) × (h : NodeHeader) × MayReshape core node shape held row h
    × LacksSize core.heap.limit h shape core.heap.work.heap asked end
IsShapeCause core node shape held before now (error.Layout rule at) =
    IsNodeCause core node held before now (error.Layout rule at)
    ⊎ ((row : Row) × (h : NodeHeader) × MayReshape core node shape held row h × IsRule rule
    × NoneOwned h core.heap.work.heap held)
IsShapeCause core node shape held before now other = IsNodeCause core node held before now other
