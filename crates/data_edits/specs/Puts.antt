-- When data are put, what becomes of those of the node, and why they are not.
use Rattle.std.specs.Prelude.{◌≡◌, ◌≢◌, ◌⊎◌, ℕ, ◌+◌, ◌*◌, ◌^◌, ◌<◌, ◌≤◌, Bool, true, false, List, length, replicate, Option, Some, unwrap_or, ◌/◌}
use Rattle.adf_format.specs.HeapRule.{chunk_length_for}
use Rattle.adf_format.specs.Names.{is_mt, data_size, element_size}
use Rattle.adf_format.specs.Placement.{Heap}
use Rattle.adf_format.specs.RuleNumbers.{IsRule}
use Rattle.adf_model.specs.declared.error.AdfError.{AdfError}
use Rattle.adf_model.specs.declared.error.AdfError.TheVariants as error
use Rattle.adf_model.specs.declared.tree.Edit.{Edit}
use Rattle.adf_model.specs.declared.tree.NodeId.{NodeId}
use Rattle.adf_model.specs.declared.tree.Selection.{Selection}
use Rattle.adf_model.specs.Selection.{selection_fits, elements, with_elements}
use Rattle.adf_model.specs.Shapes.{is_shape}
use Rattle.adf_records.specs.declared.NodeHeader.{NodeHeader}
use Rattle.cg_io.specs.Waits.{how_many}
use Rattle.tree_asks.specs.Headers.{dims_of, data_shape_of}
use Rattle.tree_edits.specs.declared.memory.Core.{Core}
use Rattle.tree_edits.specs.declared.rows.Row.{Row}
use Rattle.tree_edits.specs.Edits.{Refuses}
use Rattle.tree_edits.specs.Taken.{LacksBytes}
use Rattle.data_edits.specs.Found.{MayEdit, IsNodeCause}
use Rattle.data_edits.specs.Becomes.{NoneOwned}

-- elements that are set over data, or over zeros where there are none
abbrev pub put_on : ℕ → ℕ → List ℕ → List ℕ → Option (List ℕ) → Option (List ℕ)
put_on size element chosen given bytes = Some (with_elements element chosen given (unwrap_or bytes (replicate size 0)))

-- elements that are set keep the length of data of a size
abbrev pub KeepsLength : ℕ → ℕ → List ℕ → List ℕ → Type 0
KeepsLength size element chosen given = (old : List ℕ) → length old ≡ size → length (with_elements element chosen given old) ≡ size

-- what an edit puts: all data of a node, or the elements of a selection
pub data Part : Type 0 where
  Whole : Part
  Chosen : (selection : Selection) → Part

-- the edit that puts it
abbrev pub edit_of : NodeId → Part → List ℕ → Edit
edit_of node Whole given = Edit.PutAll node given
edit_of node (Chosen selection) given = Edit.PutPart node selection given

-- all these edits are refused in each tree that is meant, whatever they put
abbrev pub RefusesPuts : Core → NodeId → AdfError → List ℕ → Type 0
RefusesPuts core node e old = (part : Part) (given : List ℕ) → Refuses (edit_of node part given) core e old

-- whether it fits the dimensions that a header says
abbrev pub fits : Part → NodeHeader → Bool
fits Whole h = true
fits (Chosen selection) h = selection_fits (dims_of h) selection

-- how many bytes it has
abbrev pub part_length : Part → NodeHeader → ℕ
part_length Whole h = data_size h.kind (dims_of h)
part_length (Chosen selection) h = element_size h.kind * length (elements (dims_of h) selection)

-- a node that may have data, and not too many
pub record MayPut (core : Core) (node : NodeId) (held : Option (List ℕ)) (row : Row) (h : NodeHeader) : Type 0 where
  pub may : MayEdit core node held row h
  pub filled : is_mt h.kind ≡ false
  pub small : data_size h.kind (dims_of h) ≤ 2 ^ 30

-- and as many bytes as its part has
pub record Fills (core : Core) (node : NodeId) (part : Part) (given : List ℕ) (held : Option (List ℕ)) (row : Row) (h : NodeHeader) : Type 0 where
  pub put : MayPut core node held row h
  pub fit : fits part h ≡ true
  pub long : length given ≡ part_length part h

-- data that are put: the node may have them
abbrev pub MayPutData : Core → NodeId → Part → List ℕ → Option (List ℕ) → Type 0
MayPutData core node part given held = (row : Row) × (h : NodeHeader) × Fills core node part given held row h

-- the dimensions that a header says are no shape (rule 21)
abbrev pub NoShape : NodeHeader → ℕ → ℕ → ℕ → Type 0
NoShape h place rule at = (rule ≡ 21) × (at ≡ place + 128) × (is_shape true (data_shape_of h) ≡ false)

-- why a node may not have data
abbrev pub IsDataRefusal : NodeHeader → ℕ → AdfError → Type 0
IsDataRefusal h place error.NoData = is_mt h.kind ≡ true
IsDataRefusal h place error.TooLarge = (is_mt h.kind ≡ false) × (2 ^ 30 < data_size h.kind (dims_of h))
IsDataRefusal h place (error.Layout rule at) =
    (is_mt h.kind ≡ false) × (data_size h.kind (dims_of h) ≤ 2 ^ 30) × NoShape h place rule at
IsDataRefusal h place other = ⊥

-- of a node that is to have data: no such node; a link; a file that may not be written; no data; too large; dimensions that are none
abbrev pub IsDataCause : Core → NodeId → Option (List ℕ) → ℕ → ℕ → AdfError → Type 0
IsDataCause core node held before now error.NoData =
    (row : Row) × (h : NodeHeader) × MayEdit core node held row h × IsDataRefusal h row.place error.NoData
IsDataCause core node held before now error.TooLarge =
    (row : Row) × (h : NodeHeader) × MayEdit core node held row h × IsDataRefusal h row.place error.TooLarge
IsDataCause core node held before now (error.Layout rule at) =
    IsNodeCause core node held before now (error.Layout rule at)
    ⊎ ((row : Row) × (h : NodeHeader) × MayEdit core node held row h × IsDataRefusal h row.place (error.Layout rule at))
IsDataCause core node held before now other = IsNodeCause core node held before now other

-- there are no data, and the limit leaves no room for a chunk of them
abbrev pub LacksData : ℕ → NodeHeader → Heap → ℕ → ℕ → Type 0
LacksData limit h heap asked end =
    (h.chunks ≡ 0) × LacksBytes limit (chunk_length_for (data_size h.kind (dims_of h))) heap asked end

-- the most blocks that wait anew: those of the header and of the heap, some for each chunk, and those that the data fill
abbrev pub put_cost : NodeHeader → ℕ
put_cost h = 64 * (1 + h.chunks) + (data_size h.kind (dims_of h) + 4095) / 4096

-- no more wait where they are put
abbrev pub WaitsToPut : Core → NodeId → Part → List ℕ → Option (List ℕ) → List ℕ → List ℕ → Type 0
WaitsToPut core node part given held before now =
    (row : Row) × (h : NodeHeader) × Fills core node part given held row h × (how_many now ≤ how_many before + put_cost h)

-- of data that are put, beside: no range; another length; no room; want of memory, or chunks that do not hold the data that the
-- header names
abbrev pub IsPutCause : Core → NodeId → Part → List ℕ → Option (List ℕ) → ℕ → ℕ → AdfError → Type 0
IsPutCause core node part given held before now error.Memory = (row : Row) × (h : NodeHeader) × MayPut core node held row h
IsPutCause core node part given held before now error.BadRange =
    (row : Row) × (h : NodeHeader) × MayPut core node held row h × (fits part h ≡ false)
IsPutCause core node part given held before now (error.WrongLength want got) =
    (row : Row) × (h : NodeHeader) × MayPut core node held row h × (fits part h ≡ true)
    × (want ≡ part_length part h) × (got ≡ length given) × (got ≢ want)
IsPutCause core node part given held before now (error.Full asked end) =
    (row : Row) × (h : NodeHeader) × Fills core node part given held row h
    × LacksData core.heap.limit h core.heap.work.heap asked end
IsPutCause core node part given held before now (error.Layout rule at) =
    IsDataCause core node held before now (error.Layout rule at)
    ⊎ ((row : Row) × (h : NodeHeader) × Fills core node part given held row h × IsRule rule
    × NoneOwned h core.heap.work.heap held)
IsPutCause core node part given held before now other = IsDataCause core node held before now other
