use Rattle.std.proofs.Common.{◌≡◌, map, take}
use Rattle.kept_asks.specs.Named.{kept_child}
use Rattle.kept_asks.proofs.lists.listed.Given as goal

-- the first children are kept
abbrev pub invariant-loop-child : goal.invariant-loop-child
invariant-loop-child l = l.list ≡ map kept_child (take l.child-index l.children)
