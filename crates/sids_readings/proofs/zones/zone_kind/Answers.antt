use Rattle.std.proofs.Common.{sym, subst}
use Rattle.std.specs.Prelude.{IfSome}
use Rattle.sids_tables.specs.declared.labels.LabelKind.TheVariants.{ZoneType}
use Rattle.sids_views.specs.Asks.{IsPlain}
use Rattle.sids_views.proofs.Plain.{told_before}
use Rattle.sids_views.proofs.ChildrenPlain.{ArePlain, first_plain}
use Rattle.sids_readings.proofs.zones.zone_kind.Goals as goal

pub kind_by-requires-clause-plain : goal.kind_by-requires-clause-plain
kind_by-requires-clause-plain g c told =
    let files = g.C.TreeCalls.files c.args.calls.now in
    let only = c.children_of.ensures.only in
    let plain = c.in-Ok.ensures.plain (told_before _ _ _ _ only told) in
    subst (λ fs. IfSome c.first_of.result (IsPlain fs)) (sym only.files_stay)
    (subst (λ o. IfSome o (IsPlain files)) (sym c.first_of.ensures) (first_plain files ZoneType _ (subst (ArePlain files) (sym c.items.ensures) plain)))
