use Rattle.std.proofs.Common.{sym, subst}
use Rattle.std.specs.Prelude.{IfSome}
use Rattle.sids_views.specs.Asks.{IsPlain}
use Rattle.sids_views.proofs.Plain.{told_before}
use Rattle.sids_views.proofs.children.see.Goals as goal

pub kind_of_node-requires-clause-plain : goal.kind_of_node-requires-clause-plain
kind_of_node-requires-clause-plain g c told =
    let files = g.C.TreeCalls.files c.args.calls.now in
    let only = c.target_of.ensures.only in
    let before = told_before _ _ _ _ only told in
    subst (λ fs. IsPlain fs c.in-Ok-Some.target) (sym only.files_stay)
    (subst (λ o. IfSome o (IsPlain files)) c.in-Ok-Some.field-0-is (c.in-Ok-Some.ensures.plain before))
