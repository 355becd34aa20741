use Rattle.std.proofs.Common.{sym, subst}
use Rattle.std.specs.Prelude.{IfSome, codes}
use Rattle.sids_views.specs.Asks.{IsPlain}
use Rattle.sids_views.proofs.Plain.{told_before}
use Rattle.sids_views.proofs.ChildrenPlain.{called_plain}
use Rattle.sids_node_rules.proofs.conditions.are_points_bad.Goals as goal

pub is_bad_range-requires-clause-plain : goal.is_bad_range-requires-clause-plain
is_bad_range-requires-clause-plain g c told =
    let files = g.C.TreeCalls.files c.args.calls.now in
    subst (λ o. IfSome o (λ found. IsPlain files found.0)) (sym c.first_called.ensures) (called_plain files (codes "PointRange") c.args.children.now (c.requires.plain told))

pub is_bad_list-requires-clause-plain : goal.is_bad_list-requires-clause-plain
is_bad_list-requires-clause-plain g c told =
    let files = g.C.TreeCalls.files c.args.calls.now in
    let only = c.is_bad_range.ensures.only in
    let plain = called_plain files (codes "PointList") c.args.children.now (c.requires.plain (told_before _ _ _ _ only told)) in
    subst (λ fs. IfSome c.first_called-in-Ok-false.result (λ found. IsPlain fs found.0)) (sym only.files_stay)
    (subst (λ o. IfSome o (λ found. IsPlain files found.0)) (sym c.first_called-in-Ok-false.ensures) plain)
