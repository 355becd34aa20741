use Rattle.std.proofs.Common.{◌≡◌, ◌++◌, flat_map, take}
use Rattle.call_script.specs.Replies.{node_field}
use Rattle.call_script.proofs.replies.append_nodes.Given as goal

abbrev pub invariant-loop-node : goal.invariant-loop-node
invariant-loop-node l = l.line.items ≡ l.fn.line.items ++ flat_map node_field (take l.node-index l.nodes)
