-- The children of one node that a walk has still to come to.
use Rattle.std.specs.Prelude.{ℕ, List}
use Rattle.adf_model.specs.declared.tree.Child.{Child}

-- the way to that node, and the children that wait
pub record Level : Type 0 where
  pub way : List ℕ
  pub rest : List Child
