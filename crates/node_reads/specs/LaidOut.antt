-- What is read of a node in an image that lays out a tree: its header breaks no rule, its table neither, and its entries are its children.
use Rattle.std.specs.Prelude.{◌≡◌, ℕ, ◌+◌, ◌≤◌, List, length, slice_get, Some, None}
use Rattle.adf_format.specs.Fields.{text_field}
use Rattle.adf_format.specs.Pointer.{PointsTo}
use Rattle.adf_format.specs.RecordFields.{node_length, table_length}
use Rattle.adf_format.specs.Checks.{first_broken}
use Rattle.adf_format.specs.FirstFault.{entry_name, entry_pointer}
use Rattle.adf_format.specs.Tree.{Tree, Node, node_at}
use Rattle.adf_format.specs.Placement.{Placement, NodeParts, TablePart, parts_of}
use Rattle.adf_format.specs.LaysOut.{LaysOut, fields_of}
use Rattle.adf_records.specs.declared.NodeHeader.{NodeHeader}
use Rattle.node_reads.specs.Reads.{ReadAt, Breaks}
use Rattle.node_reads.specs.Headers.{header_rows, IsHeader, table_rows, SaysFields}

-- a node of an image that lays out a tree, and its parts
pub record IsNodeOf (image : List ℕ) (tree : Tree) (p : Placement) (serial : ℕ) (node : Node) (parts : NodeParts) : Type 0 where
  pub laid_out : LaysOut image tree p
  pub live : node_at tree serial ≡ Some node
  pub stands : parts_of p serial ≡ Some parts

-- its header lies within the image, and what is read of it says its fields
abbrev pub HeaderIsRead : Type 0
HeaderIsRead =
    (image : List ℕ) (tree : Tree) (p : Placement) (serial : ℕ) (node : Node) (parts : NodeParts)
    (header : NodeHeader) → IsNodeOf image tree p serial node parts
    → ReadAt (Some image) parts.header (node_length tree.wide) (IsHeader tree.wide parts.header None header)
    → SaysFields header (fields_of node parts)

-- it breaks no rule
abbrev pub HeaderBreaksNone : Type 0
HeaderBreaksNone =
    (image : List ℕ) (tree : Tree) (p : Placement) (serial : ℕ) (node : Node) (parts : NodeParts)
    (rule at : ℕ) → IsNodeOf image tree p serial node parts
    → Breaks (Some image) parts.header (node_length tree.wide) (header_rows tree.wide parts.header None) rule at → ⊥

-- nor does its table, as far as the header tells
abbrev pub TableBreaksNone : Type 0
TableBreaksNone =
    (image : List ℕ) (tree : Tree) (p : Placement) (serial : ℕ) (node : Node) (parts : NodeParts)
    (header : NodeHeader) → IsNodeOf image tree p serial node parts → SaysFields header (fields_of node parts)
    → first_broken (table_rows header parts.header) ≡ None

-- the entries of its table in use lie within the image, and are those of its children
abbrev pub EntriesAreChildren : Type 0
EntriesAreChildren =
    (image : List ℕ) (tree : Tree) (p : Placement) (serial : ℕ) (node : Node) (parts : NodeParts) (t : TablePart)
    (i child : ℕ) (its : Node) (at : NodeParts) → IsNodeOf image tree p serial node parts → parts.table ≡ Some t
    → slice_get node.children i ≡ Some child → IsNodeOf image tree p child its at
    → (entry_name image t.place i ≡ text_field 32 its.name) × PointsTo (entry_pointer image t.place i) at.header
    × (t.place + table_length t.entries ≤ length image) × (length node.children ≤ t.entries)
