use Rattle.std.proofs.Common.{sym, subst}
use Rattle.std.specs.Prelude.{IfSome}
use Rattle.sids_tables.specs.declared.labels.LabelKind.TheVariants.{ZoneType}
use Rattle.sids_views.specs.Asks.{IsPlain}
use Rattle.sids_views.proofs.Plain.{told_before}
use Rattle.sids_views.proofs.ChildrenPlain.{ArePlain, first_plain}
use Rattle.sids_readings.proofs.limits.limit_in.Goals as goal

pub kind_by-requires-clause-plain : goal.kind_by-requires-clause-plain
kind_by-requires-clause-plain g c told =
    let files = g.C.TreeCalls.files c.args.calls.now in
    subst (λ o. IfSome o (IsPlain files)) (sym c.first_of.ensures) (first_plain files ZoneType c.args.children.now (c.requires.plain told))

pub has_rind-requires-clause-plain : goal.has_rind-requires-clause-plain
has_rind-requires-clause-plain g c told =
    let only = c.kind_by.ensures.only in
    subst (λ fs. ArePlain fs c.args.children.now) (sym only.files_stay) (c.requires.plain (told_before _ _ _ _ only told))
