-- The children of one followed node that a walk has still to come to.
use Rattle.std.specs.Prelude.{ℕ, Bool, List, [], Option, Some, None, slice_get}
use Rattle.adf_model.specs.declared.tree.Child.{Child}
use Rattle.adf_model.specs.declared.tree.NodeId.{NodeId}

-- that node, the nearest base and zone above its children, whether these stand below an entered link, the name of the child given last, and the children that wait
pub record Level : Type 0 where
  pub at : NodeId
  pub base : Option NodeId
  pub zone : Option NodeId
  pub inside : Bool
  pub given : List ℕ
  pub rest : List Child

abbrev pub name_in : Option Child → List ℕ
name_in None = []
name_in (Some child) = child.name

-- the name of a child by its place; none behind the last
abbrev pub name_at : List Child → ℕ → List ℕ
name_at children k = name_in (slice_get children k)
