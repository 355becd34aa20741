-- Each side of a fork has fewer slots than the fork.
use Rattle.std.specs.Prelude.{◌≤◌, max, ◌∷◌, length}
use Rattle.std.proofs.Common.{arith, length-append}
use Rattle.gap_tree.specs.declared.tree.Node.{Node}
use Rattle.gap_tree.specs.declared.tree.Node.TheVariants.{Leaf, Fork}
use Rattle.gap_tree.specs.declared.tree.Tree.TheDeep.{deep-Node}
use Rattle.gap_tree.specs.Nodes.{slots_of_node}

-- no side is deeper than the node has slots
pub depth_le-length-slots : (n : Node) → max (deep-Node n) 0 ≤ length (slots_of_node n)
depth_le-length-slots Leaf = omega arith
depth_le-length-slots (Fork l s longest count height r) = omega (arith, length-append l.value (s ∷ r.value))
