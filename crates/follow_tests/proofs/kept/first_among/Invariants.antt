use Rattle.std.proofs.Common.{◌≡◌, drop}
use Rattle.adf_format.specs.Tree.{first_named, child_named}
use Rattle.follow_tests.specs.Kept.{tree_of}
use Rattle.follow_tests.proofs.kept.first_among.Given as goal

abbrev pub invariant-children : goal.invariant-children
invariant-children l = child_named (tree_of l.nodes) l.serial l.name ≡ first_named (tree_of l.nodes) (drop l.child-index l.children) l.name
