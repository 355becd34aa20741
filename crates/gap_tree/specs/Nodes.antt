-- What a node of the tree is seen as.
use Rattle.std.specs.Prelude.{◌≡◌, ◌≤◌, ◌^◌, List, [], ◌∷◌, ◌++◌, length, ⊤}
use Rattle.gap_tree.specs.declared.slot.Slot.{Slot}
use Rattle.gap_tree.specs.declared.tree.Node.{Node}
use Rattle.gap_tree.specs.declared.tree.Node.TheVariants.{Leaf, Fork}
use Rattle.gap_tree.specs.Slots.{longest_of}

-- the slots in order
abbrev pub slots_of_node : Node → List Slot
slots_of_node Leaf = []
slots_of_node (Fork l s longest count height r) = l.value ++ s ∷ r.value

-- the longest free chunk and the number of slots are known
abbrev pub IsNode : Node → Type 0
IsNode Leaf = ⊤
IsNode (Fork l s longest count height r) = (longest ≡ longest_of (l.value ++ s ∷ r.value)) × (count ≡ length (l.value ++ s ∷ r.value)) × (count ≤ 2 ^ 62)
