use Rattle.std.proofs.Common.{◌≡◌, ◌∙◌, sym, subst}
use Rattle.std.specs.Prelude.{IfSome, codes}
use Rattle.sids_tables.specs.declared.labels.LabelKind.TheVariants.{DataArray}
use Rattle.sids_views.specs.Asks.{IsPlain}
use Rattle.sids_views.proofs.ChildrenPlain.{kind_plain}
use Rattle.sids_offset_rules.proofs.offset_rules.offsets_in.Goals as goal

pub offsets_at-requires-clause-plain : goal.offsets_at-requires-clause-plain
offsets_at-requires-clause-plain g c told =
    let files = g.C.TreeCalls.files c.args.calls.now in
    subst (λ o. IfSome o (IsPlain files)) (sym c.child_of_kind.ensures ∙ c.in-Some.is)
    (kind_plain files (codes "ElementStartOffset") DataArray c.args.children.now (c.requires.plain told))
