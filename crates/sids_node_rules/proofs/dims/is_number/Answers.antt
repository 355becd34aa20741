use Rattle.std.proofs.Common.{◌≡◌, subst, rules, pos}
use Rattle.std.specs.Int.{w128}
use Rattle.std.specs.Bool.{Decides}
use Rattle.std.specs.Ordering.{int_eq}
use Rattle.std.proofs.lemmas.Int.{to_z-of_z}
use Rattle.std.proofs.lemmas.Bool.Decides.{same_from_decides, Decides-int_eq}
use Rattle.sids_node_rules.proofs.dims.is_number.Goals as goal

pub returns : goal.returns
returns c =
    same_from_decides _ (int_eq (pos c.args.dim) c.args.sum)
    (subst (λ sum. Decides c.is_same.result (pos c.args.dim ≡ sum)) (to_z-of_z w128 c.args.sum (search rules)) c.is_same.ensures)
    (Decides-int_eq (pos c.args.dim) c.args.sum)
