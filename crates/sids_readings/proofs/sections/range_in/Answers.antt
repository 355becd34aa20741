use Rattle.std.proofs.Common.{◌≡◌, ◌∙◌, sym, subst}
use Rattle.std.specs.Prelude.{IfSome, codes}
use Rattle.sids_tables.specs.declared.labels.LabelKind.TheVariants.{IndexRange}
use Rattle.sids_views.specs.Asks.{IsPlain}
use Rattle.sids_views.proofs.ChildrenPlain.{kind_plain}
use Rattle.sids_readings.proofs.sections.range_in.Goals as goal

pub range_at-requires-clause-plain : goal.range_at-requires-clause-plain
range_at-requires-clause-plain g c told =
    let files = g.C.TreeCalls.files c.args.calls.now in
    subst (λ o. IfSome o (IsPlain files)) (sym c.child_of_kind.ensures ∙ c.in-Some.is)
    (kind_plain files (codes "ElementRange") IndexRange c.args.children.now (c.requires.plain told))
