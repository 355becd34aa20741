use Rattle.std.proofs.Common.{◌≡◌, ◌++◌, ◌∷◌, flat_map, take, decimal}
use Rattle.call_script.specs.Replies.{number_field}
use Rattle.call_script.proofs.replies.append_sizes.Given as goal

abbrev pub invariant-loop-size : goal.invariant-loop-size
invariant-loop-size l = l.line.items ≡ l.fn.line.items ++ (number_field l.first ++ flat_map (λ n. 44 ∷ decimal n) (take l.size-index l.others))
