use Rattle.std.proofs.Common.{sym, subst}
use Rattle.sids_views.specs.Asks.{IsPlain}
use Rattle.sids_views.proofs.Plain.{told_before}
use Rattle.sids_views.proofs.asks.view_of.Goals as goal

pub has_data-requires-clause-plain : goal.has_data-requires-clause-plain
has_data-requires-clause-plain g c told =
    let only = c.shape_of_node.ensures.only in
    subst (λ fs. IsPlain fs c.args.at) (sym only.files_stay) (c.requires.plain (told_before _ _ _ _ only told))
