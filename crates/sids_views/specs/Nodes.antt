-- What is looked at of a node before its data are read.
use Rattle.std.specs.Prelude.{ℕ, Bool, List, is_some}
use Rattle.adf_format.specs.declared.types.DataType.{DataType}
use Rattle.adf_format.specs.Tree.{Node}

-- the type and the dimensions of a node, and whether it has data
pub record View : Type 0 where
  pub kind : DataType
  pub dims : List ℕ
  pub has_data : Bool

abbrev pub view_of : Node → View
view_of node = record { kind = node.kind; dims = node.dims; has_data = is_some node.bytes }
