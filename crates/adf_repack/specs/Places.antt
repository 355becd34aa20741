-- Where the nodes of a packed file stand, by the numbers of their children and the lengths of their data.
use Rattle.std.specs.Prelude.{◌≡◌, ℕ, ◌+◌, ◌-◌, ◌^◌, ◌==◌, min, Bool, cond, List, [], ◌∷◌, length, take, Option, Some, None, option_map}
use Rattle.std.specs.List.{sum_by}
use Rattle.adf_format.specs.Tree.{Tree, Node}
use Rattle.adf_format.specs.Parts.{node_length, table_length}
use Rattle.adf_format.specs.Packed.{packed_length}
use Rattle.adf_format.specs.HeapRule.{chunk_length_for}
use Rattle.adf_repack.specs.declared.places.NodeShape.{NodeShape}

abbrev pub table_room : ℕ → ℕ
table_room count = cond (count == 0) 0 (table_length count)

abbrev pub data_room : Option ℕ → ℕ
data_room None = 0
data_room (Some size) = chunk_length_for size

-- the bytes of its parts
abbrev pub room_of : Bool → NodeShape → ℕ
room_of wide shape = node_length wide + table_room shape.children + data_room shape.size

-- where the header of the k-th node stands: behind the parts of all before it
abbrev pub place_of : Bool → List NodeShape → ℕ → ℕ
place_of wide shapes k = 266 + sum_by (room_of wide) (take k shapes)

-- the bytes of the file
abbrev pub length_of : Bool → List NodeShape → ℕ
length_of wide shapes = 266 + sum_by (room_of wide) shapes

abbrev pub shape_of : Node → NodeShape
shape_of node = record { children = length node.children; size = option_map (λ (bytes : List ℕ). length bytes) node.bytes }

-- the live nodes of a tree
abbrev pub shapes_of : List (Option Node) → List NodeShape
shapes_of [] = []
shapes_of (None ∷ nodes) = shapes_of nodes
shapes_of (Some node ∷ nodes) = shape_of node ∷ shapes_of nodes

-- by the numbers of a tree the length is that of its packed file
abbrev pub LengthIsPacked : Type 0
LengthIsPacked = (tree : Tree) → length_of tree.wide (shapes_of tree.nodes) ≡ packed_length tree

-- at most the greatest number of 64 bits
abbrev pub limited : ℕ → ℕ
limited n = min n (2 ^ 64 - 1)
