-- The node of a row, and what is read of its header.
use Rattle.std.proofs.Common.{◌≡◌, ℕ, List, sym, subst, None, Some}
use Rattle.adf_format.specs.RecordFields.{node_length}
use Rattle.adf_format.specs.Tree.{Tree, Node, node_at}
use Rattle.adf_format.specs.Placement.{Placement, NodeParts}
use Rattle.adf_format.specs.LaysOut.{fields_of}
use Rattle.adf_records.specs.declared.NodeHeader.{NodeHeader}
use Rattle.node_reads.specs.Reads.{ReadAt, Breaks}
use Rattle.node_reads.specs.Headers.{IsHeader, header_rows, SaysFields}
use Rattle.node_reads.specs.LaidOut.{IsNodeOf}
use Rattle.node_reads.proofs.LaidOut.{header_is_read, header_breaks_none}
use Rattle.tree_edits.specs.declared.rows.Row.{Row}
use Rattle.tree_edits.specs.Rows.{Memory, Means, SaysRow, row_of}
use Rattle.tree_edits.proofs.Tables.{says, says_none, node_of_row, parts_of_row}

-- the node of a serial, whose header stands at a place
pub record TheNode (image : List ℕ) (tree : Tree) (p : Placement) (serial place : ℕ) : Type 0 where
  pub node : Node
  pub parts : NodeParts
  pub is : IsNodeOf image tree p serial node parts
  pub at : parts.header ≡ place

module _ (image : List ℕ) (memory : Memory) (serial : ℕ) (row : Row) (found : row_of memory.rows serial ≡ Some row) (tree : Tree) (p : Placement) (m : Means image tree p memory) where
  pub its_row : SaysRow tree p serial row
  its_row = says tree p serial (row_of memory.rows serial) row found (m.table.each serial)

  pub the_node : TheNode image tree p serial row.place
  the_node =
      let node = node_of_row tree p serial row its_row in
      let parts = parts_of_row image tree p serial row m.laid_out its_row in
      record { node = node.0; parts = parts.0; is = record { laid_out = m.laid_out; live = node.1; stands = parts.1 }; at = parts.2 }

  pub header_says : (header : NodeHeader) → ReadAt (Some image) row.place (node_length memory.wide) (IsHeader memory.wide row.place None header) → SaysFields header (fields_of the_node.node the_node.parts)
  header_says header r =
      header_is_read image tree p serial the_node.node the_node.parts header the_node.is
      (subst (λ w. ReadAt (Some image) the_node.parts.header (node_length w) (IsHeader w the_node.parts.header None header)) (sym m.wide)
      (subst (λ k. ReadAt (Some image) k (node_length memory.wide) (IsHeader memory.wide k None header)) (sym the_node.at) r))

  pub no_break : (rule at : ℕ) → Breaks (Some image) row.place (node_length memory.wide) (header_rows memory.wide row.place None) rule at → ⊥
  no_break rule at r =
      header_breaks_none image tree p serial the_node.node the_node.parts rule at the_node.is
      (subst (λ w. Breaks (Some image) the_node.parts.header (node_length w) (header_rows w the_node.parts.header None) rule at) (sym m.wide)
      (subst (λ k. Breaks (Some image) k (node_length memory.wide) (header_rows memory.wide k None) rule at) (sym the_node.at) r))

-- no row: no node
pub no_node : (image : List ℕ) (memory : Memory) (serial : ℕ) → row_of memory.rows serial ≡ None → (tree : Tree) (p : Placement) → Means image tree p memory → node_at tree serial ≡ None
no_node image memory serial none tree p m = says_none tree p serial (row_of memory.rows serial) none (m.table.each serial)
