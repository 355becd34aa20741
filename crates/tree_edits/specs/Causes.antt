-- Why an edit is refused, also where the bytes are not told: each refusal names what is so of the call, of the table of nodes and
-- of the bytes that were read.
use Rattle.std.specs.Prelude.{◌≡◌, ℕ, Bool, true, false, List, Option, None, IfSome, IsSome, ⊤}
use Rattle.adf_format.specs.declared.fields.TheConstants.{NODE_TYPE}
use Rattle.adf_format.specs.Names.{is_label, is_lk}
use Rattle.adf_format.specs.RecordFields.{field_in, node_length}
use Rattle.adf_format.specs.FirstFault.{type_or_mt}
use Rattle.adf_model.specs.declared.error.AdfError.{AdfError}
use Rattle.adf_model.specs.declared.error.AdfError.TheVariants as error
use Rattle.adf_model.specs.declared.tree.NodeId.{NodeId}
use Rattle.cg_io.specs.Cause.{Rose}
use Rattle.node_reads.specs.Reads.{ReadAt, Breaks}
use Rattle.node_reads.specs.Headers.{header_rows}
use Rattle.tree_edits.specs.declared.memory.Core.{Core}
use Rattle.tree_edits.specs.declared.rows.Row.{Row}
use Rattle.tree_edits.specs.Rows.{row_of}

-- the row of the node that an edit names
abbrev pub named_row : Core → NodeId → Option Row
named_row core node = row_of core.rows.items node.serial

-- what was read of the header at a place says that it is a link, or that it is none
abbrev pub SaysLink : Bool → Bool → Option (List ℕ) → ℕ → Type 0
SaysLink link wide held place = ReadAt held place (node_length wide) (λ bytes. is_lk (type_or_mt (field_in bytes NODE_TYPE)) ≡ link)

-- the header at a place breaks a rule
abbrev pub HeaderBreaks : Bool → Option (List ℕ) → ℕ → ℕ → ℕ → Type 0
HeaderBreaks wide held place rule at = Breaks held place (node_length wide) (header_rows wide place None) rule at

-- of a label: no such node; a link; a file that may not be written; no label
abbrev pub IsLabelCause : Core → NodeId → List ℕ → Option (List ℕ) → ℕ → ℕ → AdfError → Type 0
IsLabelCause core node label held before now error.Memory = ⊤
IsLabelCause core node label held before now error.ReadFault = IsSome (named_row core node) × Rose before now
IsLabelCause core node label held before now (error.Layout rule at) =
    IfSome (named_row core node) (λ row. HeaderBreaks core.wide held row.place rule at)
IsLabelCause core node label held before now error.NoSuchNode = named_row core node ≡ None
IsLabelCause core node label held before now error.LinkMissing =
    IfSome (named_row core node) (λ row. SaysLink true core.wide held row.place)
IsLabelCause core node label held before now error.ReadOnly =
    IfSome (named_row core node) (λ row. SaysLink false core.wide held row.place) × (core.writable ≡ false)
IsLabelCause core node label held before now error.BadLabel =
    IfSome (named_row core node) (λ row. SaysLink false core.wide held row.place) × (core.writable ≡ true)
    × (is_label label ≡ false)
IsLabelCause core node label held before now other = ⊥

-- a label that is set: the node is there and no link, the file may be written, and it is a label
pub record MaySetLabel (core : Core) (node : NodeId) (label : List ℕ) (held : Option (List ℕ)) : Type 0 where
  pub there : IfSome (named_row core node) (λ row. SaysLink false core.wide held row.place)
  pub live : IsSome (named_row core node)
  pub allowed : core.writable ≡ true
  pub good : is_label label ≡ true
