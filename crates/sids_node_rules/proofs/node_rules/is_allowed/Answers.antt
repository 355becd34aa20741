use Rattle.std.proofs.lemmas.Bool.Decides.{same_from_decides}
use Rattle.sids_tables.specs.Labels.{children_of}
use Rattle.sids_tables.specs.contracts.labels.LabelKindPartialEq.TheImpl as kind_eq
use Rattle.sids_tables.proofs.Tables.{listed, same_kind}
use Rattle.sids_node_rules.proofs.node_rules.is_allowed.Goals as goal

pub returns : goal.returns
returns c =
    same_from_decides _ _ c.allowed.ensures (listed (λ kind. kind_eq.ghosts.eq kind c.args.kind) (children_of c.args.place) c.args.kind (λ kind. same_kind kind c.args.kind))
