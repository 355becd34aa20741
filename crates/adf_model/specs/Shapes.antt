-- Shapes of nodes, of which the first `rank` dimensions count.
use Rattle.std.specs.Prelude.{ℕ, ◌-◌, ◌^◌, min, Bool, ◌&&◌, nat_le, List, take}
use Rattle.adf_model.specs.declared.tree.Shape.{Shape}
use Rattle.adf_format.specs.Names.{data_size, is_shape_of}

-- the dimensions that count
abbrev pub dims_of : Shape → List ℕ
dims_of shape = take shape.rank shape.dims

-- a shape of a narrow or a wide file
abbrev pub is_shape : Bool → Shape → Bool
is_shape wide shape = nat_le shape.rank 12 && is_shape_of wide shape.kind (dims_of shape)

-- the bytes of data of a shape, as far as a number of 64 bits can tell
abbrev pub shape_size : Shape → ℕ
shape_size shape = min (data_size shape.kind (dims_of shape)) (2 ^ 64 - 1)
