use Rattle.std.proofs.Common.{sym, subst}
use Rattle.std.specs.Prelude.{IfSome, codes}
use Rattle.sids_tables.specs.declared.labels.LabelKind.TheVariants.{DataArray}
use Rattle.sids_views.specs.Asks.{IsPlain}
use Rattle.sids_views.proofs.ChildrenPlain.{ArePlain, kind_plain}
use Rattle.sids_views.proofs.Gathered.{told_after}
use Rattle.sids_section_rules.proofs.part_rules.section_parts.Goals as goal

pub returns-in-Ok-range_in-clause-plain : goal.returns-in-Ok-range_in-clause-plain
returns-in-Ok-range_in-clause-plain g c told =
    let files = g.C.TreeCalls.files c.args.calls.now in
    let only = c.section_head.ensures.only in
    let plain = subst (λ fs. ArePlain fs c.in-Ok-children_of.children) only.files_stay (c.in-Ok-children_of.ensures.plain (told_after _ _ _ _ only told)) in
    subst (λ o. IfSome o (IsPlain files)) (sym c.connectivity_in.ensures)
    (kind_plain files (codes "ElementConnectivity") DataArray c.items-in-Ok-range_in.result.now (subst (ArePlain files) (sym c.items-in-Ok-range_in.ensures) plain))
