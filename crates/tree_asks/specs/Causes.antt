-- Why a question is refused, also where the bytes are not told: each refusal names what is so of the question, of the table of
-- nodes and of the bytes that were read.
use Rattle.std.specs.Prelude.{◌≡◌, ◌≢◌, ◌⊎◌, ℕ, ◌+◌, ◌^◌, ◌<◌, Bool, true, false, List, get_or, Option, Some, None, ⊤}
use Rattle.adf_format.specs.Names.{is_lk, data_size}
use Rattle.adf_format.specs.Links.{is_link_text}
use Rattle.adf_format.specs.RuleNumbers.{IsRule}
use Rattle.adf_model.specs.declared.error.AdfError.{AdfError}
use Rattle.adf_model.specs.declared.error.AdfError.TheVariants as error
use Rattle.adf_model.specs.declared.tree.NodeId.{NodeId}
use Rattle.adf_model.specs.declared.tree.Query.{Query}
use Rattle.adf_model.specs.declared.tree.Query.TheVariants.{Name, LabelOf, ShapeOf, ChildrenOf, LinkText, ReadAll, ReadPart, Find, Next, FormatOf, Parent, Target}
use Rattle.adf_model.specs.declared.tree.Selection.{Selection}
use Rattle.adf_model.specs.Selection.{selection_fits}
use Rattle.adf_model.specs.Shapes.{is_shape}
use Rattle.adf_records.specs.declared.NodeHeader.{NodeHeader}
use Rattle.cg_io.specs.Answers.{OnlyReads}
use Rattle.cg_io.specs.Blocks.{ReadsFew}
use Rattle.cg_io.specs.Cause.{Rose}
use Rattle.cg_io.specs.Device.{DeviceState}
use Rattle.node_reads.specs.Reads.{ReadAt}
use Rattle.tree_edits.specs.declared.memory.Core.{Core}
use Rattle.tree_edits.specs.declared.rows.Row.{Row}
use Rattle.tree_edits.specs.Causes.{HeaderBreaks}
use Rattle.tree_edits.specs.Listed.{TableBreaks, IsTableOf, ReadsTable}
use Rattle.tree_edits.specs.Rows.{row_of}
use Rattle.tree_asks.specs.Headers.{HeaderSays, dims_of, data_shape_of}
use Rattle.tree_asks.specs.Entries.{ChildFails}

-- ---- one header

-- of a header that is read, and a text of it that may want memory
abbrev pub IsHeaderCause : Bool → Bool → Option (List ℕ) → ℕ → ℕ → ℕ → AdfError → Type 0
IsHeaderCause takes wide held place before now error.Memory = takes ≡ true
IsHeaderCause takes wide held place before now error.ReadFault = Rose before now
IsHeaderCause takes wide held place before now (error.Layout rule at) = HeaderBreaks wide held place rule at
IsHeaderCause takes wide held place before now other = ⊥

-- ---- the letter of the file's format

-- the byte at place 100 is neither letter (rule 4)
abbrev pub NoFormat : Option (List ℕ) → ℕ → ℕ → Type 0
NoFormat held rule at = (rule ≡ 4) × (at ≡ 100) × ReadAt held 100 1 (λ bytes. (get_or bytes 0 0 ≢ 76) × (get_or bytes 0 0 ≢ 66))

abbrev pub IsFormatCause : Option (List ℕ) → ℕ → ℕ → AdfError → Type 0
IsFormatCause held before now error.ReadFault = Rose before now
IsFormatCause held before now (error.Layout rule at) = NoFormat held rule at
IsFormatCause held before now other = ⊥

-- ---- children

-- of the children of the node at a place, which take memory where there are some
abbrev pub IsChildrenCause : Core → Option (List ℕ) → ℕ → ℕ → ℕ → AdfError → Type 0
IsChildrenCause core held place before now error.Memory = ChildFails core held place error.Memory
IsChildrenCause core held place before now error.ReadFault = Rose before now
IsChildrenCause core held place before now (error.Layout rule at) = TableBreaks core.wide held place rule at ⊎ ChildFails core held place (error.Layout rule at)
IsChildrenCause core held place before now other = ⊥

-- of the child of a name, which takes no memory
abbrev pub IsChildCause : Core → Option (List ℕ) → ℕ → ℕ → ℕ → AdfError → Type 0
IsChildCause core held place before now error.ReadFault = Rose before now
IsChildCause core held place before now (error.Layout rule at) = TableBreaks core.wide held place rule at ⊎ ChildFails core held place (error.Layout rule at)
IsChildCause core held place before now other = ⊥

-- ---- data

-- the bytes of the data of a node at a place, or of a selection of them: the chunks that its header names do not hold them
abbrev pub ChunksFail : Core → Option (List ℕ) → ℕ → ℕ → Type 0
ChunksFail core held place rule = IsRule rule × HeaderSays core.wide held place (λ h. h.chunks ≢ 0)

abbrev pub is_large : NodeHeader → Type 0
is_large h = 2 ^ 30 < data_size h.kind (dims_of h)

abbrev pub fits_none : Option Selection → NodeHeader → Type 0
fits_none None h = ⊥
fits_none (Some selection) h = selection_fits (dims_of h) selection ≡ false

-- why there is no shape of data that may be read
abbrev pub IsShapeRefusal : NodeHeader → ℕ → AdfError → Type 0
IsShapeRefusal h place error.NoData = h.chunks ≡ 0
IsShapeRefusal h place error.TooLarge = (h.chunks ≢ 0) × is_large h
IsShapeRefusal h place (error.Layout rule at) =
    (rule ≡ 21) × (at ≡ place + 128) × (h.chunks ≢ 0) × (is_large h → ⊥) × (is_shape true (data_shape_of h) ≡ false)
IsShapeRefusal h place other = ⊥

abbrev pub IsDataCause : Core → Option Selection → Option (List ℕ) → ℕ → ℕ → ℕ → AdfError → Type 0
IsDataCause core selection held place before now error.Memory = HeaderSays core.wide held place (λ h. (h.chunks ≢ 0) × (is_large h → ⊥))
IsDataCause core selection held place before now error.ReadFault = Rose before now
IsDataCause core selection held place before now (error.Layout rule at) = HeaderBreaks core.wide held place rule at ⊎ ChunksFail core held place rule
IsDataCause core selection held place before now error.NoData = HeaderSays core.wide held place (λ h. h.chunks ≡ 0)
IsDataCause core selection held place before now error.TooLarge = HeaderSays core.wide held place (λ h. (h.chunks ≢ 0) × is_large h)
IsDataCause core selection held place before now error.BadRange =
    HeaderSays core.wide held place (λ h. (h.chunks ≢ 0) × (is_large h → ⊥) × fits_none selection h)
IsDataCause core selection held place before now other = ⊥

-- ---- link texts

-- a header of a link, whose data are no link's text (rule 28), or do not stand in its chunks
abbrev pub TextFails : Core → Option (List ℕ) → ℕ → ℕ → Type 0
TextFails core held place rule = IsRule rule × HeaderSays core.wide held place (λ h. is_lk h.kind ≡ true)

abbrev pub IsTextCause : Core → Option (List ℕ) → ℕ → ℕ → ℕ → AdfError → Type 0
IsTextCause core held place before now error.Memory = HeaderSays core.wide held place (λ h. is_lk h.kind ≡ true)
IsTextCause core held place before now error.ReadFault = Rose before now
IsTextCause core held place before now (error.Layout rule at) = HeaderBreaks core.wide held place rule at ⊎ TextFails core held place rule
IsTextCause core held place before now other = ⊥

-- why a text is not cut in two: want of memory, or it is no link's text (rule 28)
abbrev pub IsNoText : List ℕ → ℕ → AdfError → Type 0
IsNoText text place error.Memory = ⊤
IsNoText text place (error.Layout rule at) = (rule ≡ 28) × (at ≡ place + 96) × (is_link_text text ≡ false)
IsNoText text place other = ⊥

-- and where the node is none
abbrev pub IsLinkCause : Core → Option (List ℕ) → ℕ → ℕ → ℕ → AdfError → Type 0
IsLinkCause core held place before now error.NotALink = HeaderSays core.wide held place (λ h. is_lk h.kind ≡ false)
IsLinkCause core held place before now e = IsTextCause core held place before now e

-- ---- all queries

-- of a node that has a row
abbrev pub IsRowCause : Core → Option (List ℕ) → Query → Row → ℕ → ℕ → AdfError → Type 0
IsRowCause core held (Name node) row before now e = IsHeaderCause true core.wide held row.place before now e
IsRowCause core held (LabelOf node) row before now e = IsHeaderCause true core.wide held row.place before now e
IsRowCause core held (ShapeOf node) row before now e = IsHeaderCause false core.wide held row.place before now e
IsRowCause core held (ChildrenOf node) row before now e = IsChildrenCause core held row.place before now e
IsRowCause core held (LinkText node) row before now e = IsLinkCause core held row.place before now e
IsRowCause core held (ReadAll node) row before now e = IsDataCause core None held row.place before now e
IsRowCause core held (ReadPart node selection) row before now e = IsDataCause core (Some selection) held row.place before now e
IsRowCause core held (Find node path) row before now e = e ≡ error.NotFound
IsRowCause core held (Next node) row before now e = ⊥
IsRowCause core held (FormatOf node) row before now e = IsFormatCause held before now e
IsRowCause core held (Parent node) row before now e = (e ≡ error.NotAChild) × (row.parent ≡ None)
IsRowCause core held (Target node) row before now e = ⊥

-- something is so of the row of a serial
pub record AtRow (core : Core) (serial : ℕ) (P : Row → Type 0) : Type 0 where
  pub row : Row
  pub found : row_of core.rows.items serial ≡ Some row
  pub is : P row

-- no such node, and that is the refusal; or a row, and why a node there is not answered
abbrev pub IsAskCause : Core → Option (List ℕ) → NodeId → Query → ℕ → ℕ → AdfError → Type 0
IsAskCause core held at query before now e =
    ((row_of core.rows.items at.serial ≡ None) × (e ≡ error.NoSuchNode)) ⊎ AtRow core at.serial (λ row. IsRowCause core held query row before now e)

-- how often the device is read: not at all, for one header of two blocks, for the pieces of a table, or for the data
abbrev pub AskReads : Core → Option (List ℕ) → NodeId → Query → DeviceState → DeviceState → Type 0
AskReads core held at (Name node) = ReadsFew 2
AskReads core held at (LabelOf node) = ReadsFew 2
AskReads core held at (ShapeOf node) = ReadsFew 2
AskReads core held at (ChildrenOf node) = ReadsTable (IsTableOf core held at.serial) 1 2
AskReads core held at (LinkText node) = OnlyReads
AskReads core held at (ReadAll node) = OnlyReads
AskReads core held at (ReadPart node selection) = OnlyReads
AskReads core held at (Find node path) = ReadsFew 0
AskReads core held at (Next node) = ReadsFew 0
AskReads core held at (FormatOf node) = ReadsFew 1
AskReads core held at (Parent node) = ReadsFew 0
AskReads core held at (Target node) = ReadsFew 0
