-- One dimension of a shape, and what a selection takes of it.
use Rattle.std.specs.Prelude.{ℕ, ◌+◌, ◌-◌, ◌*◌, ◌≤◌, ◌^◌, Bool, ◌&&◌, ◌||◌, ◌==◌, nat_le, List, map}
use Rattle.adf_model.specs.declared.lists.Run.{Run}
use Rattle.adf_model.specs.Selection.{indices}
use Rattle.strided.specs.declared.axis.Axis.{Axis}

-- the indices lie within the dimension
abbrev pub axis_fits : Axis → Bool
axis_fits axis = nat_le 1 axis.start && nat_le axis.start axis.end && nat_le axis.end axis.dim && nat_le 1 axis.stride

-- the same
pub record Fits (axis : Axis) : Type 0 where
  pub start : 1 ≤ axis.start
  pub ordered : axis.start ≤ axis.end
  pub end : axis.end ≤ axis.dim
  pub stride : 1 ≤ axis.stride

-- all indices of the dimension are taken
abbrev pub is_whole : Axis → Bool
is_whole axis = (axis.start == 1) && (axis.end == axis.dim) && ((axis.stride == 1) || (axis.dim == 1))

-- the elements that are taken of one row
abbrev pub row_of : Axis → ℕ → List ℕ
row_of axis row = map (λ index. (index - 1) + axis.dim * row) (indices axis.start axis.end axis.stride)

-- a run of rows as a run of elements, where rows are taken whole
abbrev pub whole_rows : ℕ → Run → Run
whole_rows dim run = record { first = dim * run.first; count = dim * run.count }

-- all elements of a run's rows are within what a file may hold
abbrev pub HasRoom : ℕ → Run → Type 0
HasRoom dim run = dim * (run.first + run.count) ≤ 2 ^ 30
