-- What the header of a node says, and what the node has of it.
use Rattle.std.specs.Prelude.{◌≡◌, ℕ, ◌-◌, Bool, List, [], ◌++◌, take, map, replicate, slice_index_or, Option, None, unwrap_or}
use Rattle.adf_format.specs.Hex.{hex_value}
use Rattle.adf_format.specs.RecordFields.{node_length, dimension_digits}
use Rattle.adf_format.specs.FirstFault.{count_up}
use Rattle.adf_format.specs.Tree.{Tree, Node}
use Rattle.adf_format.specs.Placement.{Placement, NodeParts}
use Rattle.adf_format.specs.LaysOut.{fields_of}
use Rattle.adf_model.specs.declared.tree.Shape.{Shape}
use Rattle.adf_records.specs.declared.NodeHeader.{NodeHeader}
use Rattle.node_reads.specs.Reads.{ReadAt}
use Rattle.node_reads.specs.Headers.{IsHeader, SaysFields}
use Rattle.node_reads.specs.LaidOut.{IsNodeOf}

-- the dimensions of a header as numbers
abbrev pub numbers_of : NodeHeader → List ℕ
numbers_of h = map (λ i. unwrap_or (hex_value (take (dimension_digits h.wide) (slice_index_or h.dims i []))) 0) (count_up 12)

-- those that count
abbrev pub dims_of : NodeHeader → List ℕ
dims_of h = take h.rank (numbers_of h)

-- the shape of a node by its header, with 0 past the rank
abbrev pub shape_of : NodeHeader → Shape
shape_of h = record { kind = h.kind; rank = h.rank; dims = dims_of h ++ replicate (12 - h.rank) 0 }

-- the shape of its data, by all its numbers
abbrev pub data_shape_of : NodeHeader → Shape
data_shape_of h = record { kind = h.kind; rank = h.rank; dims = numbers_of h }

-- the node of a serial in an image that lays out a tree, and its header
pub record IsItsHeader (image : List ℕ) (tree : Tree) (p : Placement) (serial place : ℕ) (header : NodeHeader) : Type 0 where
  pub node : Node
  pub parts : NodeParts
  pub is : IsNodeOf image tree p serial node parts
  pub at : parts.header ≡ place
  pub fields : SaysFields header (fields_of node parts)
  pub dims : dims_of header ≡ node.dims

-- what was read of the header at a place is this, and something holds of it
pub record HeaderSays (wide : Bool) (held : Option (List ℕ)) (place : ℕ) (P : NodeHeader → Type 0) : Type 0 where
  pub header : NodeHeader
  pub read : ReadAt held place (node_length wide) (IsHeader wide place None header)
  pub says : P header
