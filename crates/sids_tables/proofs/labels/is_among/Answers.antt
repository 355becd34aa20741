use Rattle.std.proofs.lemmas.Bool.Decides.{Decides-at}
use Rattle.sids_tables.proofs.Tables.{listed, same_kind}
use Rattle.sids_tables.proofs.labels.is_among.Goals as goal

pub returns : goal.returns
returns c = Decides-at _ _ c.contains.ensures.value (listed _ c.args.kinds.now c.args.kind (λ kind. same_kind kind c.args.kind))
