-- The node of an edit of data, found with its header, and why it is not.
use Rattle.std.specs.Prelude.{◌≡◌, ℕ, ◌+◌, ◌≤◌, true, false, List, [], ◌∷◌, Option, Some, None, IfSome, IsSome}
use Rattle.adf_format.specs.Names.{is_lk}
use Rattle.adf_format.specs.Placement.{Placement}
use Rattle.adf_format.specs.RecordFields.{node_length}
use Rattle.adf_format.specs.Tree.{Tree}
use Rattle.adf_model.specs.declared.error.AdfError.{AdfError}
use Rattle.adf_model.specs.declared.error.AdfError.TheVariants as error
use Rattle.adf_model.specs.declared.tree.Edit.{Edit}
use Rattle.adf_model.specs.declared.tree.NodeId.{NodeId}
use Rattle.adf_model.specs.Edits.{named_nodes, followed}
use Rattle.adf_model.specs.Need.{cost}
use Rattle.adf_model.specs.Placing.{chunk_number}
use Rattle.adf_records.specs.declared.NodeHeader.{NodeHeader}
use Rattle.cg_io.specs.Cause.{Rose}
use Rattle.cg_io.specs.Waits.{how_many}
use Rattle.node_reads.specs.Reads.{ReadAt}
use Rattle.node_reads.specs.Headers.{IsHeader}
use Rattle.tree_edits.specs.declared.memory.Core.{Core}
use Rattle.tree_edits.specs.declared.rows.Row.{Row}
use Rattle.tree_edits.specs.Causes.{named_row, HeaderBreaks}
use Rattle.tree_edits.specs.Edits.{memory_of, Refuses}
use Rattle.tree_edits.specs.Rows.{Means}

-- what was read of the header of the node that an edit names
pub record ReadsNode (core : Core) (node : NodeId) (held : Option (List ℕ)) (row : Row) (header : NodeHeader) : Type 0 where
  pub found : named_row core node ≡ Some row
  pub read : ReadAt held row.place (node_length core.wide) (IsHeader core.wide row.place None header)

-- a node that is no link, in a file that may be written
pub record MayEdit (core : Core) (node : NodeId) (held : Option (List ℕ)) (row : Row) (header : NodeHeader) : Type 0 where
  pub reads : ReadsNode core node held row header
  pub plain : is_lk header.kind ≡ false
  pub allowed : core.writable ≡ true

-- the edits that name one node, and reach it through links
pub record IsOfNode (edit : Edit) (node : NodeId) : Type 0 where
  pub named : named_nodes edit ≡ node ∷ []
  pub reached : followed edit ≡ Some node

-- all these edits are refused in each tree that is meant
abbrev pub RefusesEach : Core → NodeId → AdfError → List ℕ → Type 0
RefusesEach core node e old = (edit : Edit) → IsOfNode edit node → Refuses edit core e old

-- no more blocks wait anew than the edit costs in each tree and placement that is meant
abbrev pub WaitsAtMost : Edit → Core → List ℕ → List ℕ → List ℕ → Type 0
WaitsAtMost edit was before now old =
    (tree : Tree) (p : Placement) → Means old tree p (memory_of was) → how_many now ≤ how_many before + cost tree (chunk_number p) edit

-- of the node of an edit: no such node; a link; a file that may not be written
abbrev pub IsNodeCause : Core → NodeId → Option (List ℕ) → ℕ → ℕ → AdfError → Type 0
IsNodeCause core node held before now error.ReadFault = IsSome (named_row core node) × Rose before now
IsNodeCause core node held before now (error.Layout rule at) =
    IsSome (named_row core node) × IfSome (named_row core node) (λ row. HeaderBreaks core.wide held row.place rule at)
IsNodeCause core node held before now error.NoSuchNode = named_row core node ≡ None
IsNodeCause core node held before now error.LinkMissing =
    (row : Row) × (header : NodeHeader) × ReadsNode core node held row header × (is_lk header.kind ≡ true)
IsNodeCause core node held before now error.ReadOnly =
    ((row : Row) × (header : NodeHeader) × ReadsNode core node held row header × (is_lk header.kind ≡ false))
    × (core.writable ≡ false)
IsNodeCause core node held before now other = ⊥
