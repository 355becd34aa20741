use Rattle.std.proofs.Common.{◌≡◌, ◌++◌, ◌∷◌, flat_map, decimal, arith}
use Rattle.std.proofs.lemmas.Grind.{common_steps}
use Rattle.call_script.specs.Replies.{number_field}
use Rattle.call_script.proofs.ReplyLaws.{dims_appended}
use Rattle.call_script.proofs.replies.append_sizes.Goals as goal

pub returns-clause-done : goal.returns-clause-done
returns-clause-done c =
    let all : c.loop-size.line.items ≡ c.args.line.now.items ++ (number_field c.args.first ++ flat_map (λ n. 44 ∷ decimal n) c.args.others.now) = grind (arith, common_steps) in
    dims_appended _ _ c.args.first c.args.others.now all
