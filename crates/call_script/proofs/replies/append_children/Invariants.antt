use Rattle.std.proofs.Common.{◌≡◌, ◌++◌, flat_map, length, take}
use Rattle.call_script.specs.Replies.{number_field, child_field}
use Rattle.call_script.proofs.replies.append_children.Given as goal

abbrev pub invariant-loop-child : goal.invariant-loop-child
invariant-loop-child l =
    l.line.items ≡ l.fn.line.items ++ (number_field (length l.children) ++ flat_map child_field (take l.child-index l.children))
