use Rattle.std.proofs.Common.{sym, subst}
use Rattle.sids_views.proofs.Plain.{told_before}
use Rattle.sids_views.proofs.ChildrenPlain.{ArePlain}
use Rattle.sids_readings.proofs.sections.section_range.Goals as goal

pub range_in-requires-clause-plain : goal.range_in-requires-clause-plain
range_in-requires-clause-plain g c told =
    let only = c.children_of.ensures.only in
    let plain = c.in-Ok.ensures.plain (told_before _ _ _ _ only told) in
    subst (λ fs. ArePlain fs c.items.result.now) (sym only.files_stay)
    (subst (ArePlain (g.C.TreeCalls.files c.args.calls.now)) (sym c.items.ensures) plain)
