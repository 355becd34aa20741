use Rattle.std.proofs.Common.{sym, subst}
use Rattle.std.specs.Prelude.{IfSome}
use Rattle.sids_tables.specs.declared.labels.LabelKind.TheVariants.{ZoneType}
use Rattle.sids_views.specs.Asks.{IsPlain}
use Rattle.sids_views.proofs.ChildrenPlain.{first_plain}
use Rattle.sids_node_rules.proofs.zone_rules.with_counted_rules.Goals as goal

pub kind_by-requires-clause-plain : goal.kind_by-requires-clause-plain
kind_by-requires-clause-plain g c told =
    let files = g.C.TreeCalls.files c.args.calls.now in
    subst (λ o. IfSome o (IsPlain files)) (sym c.first_of.ensures) (first_plain files ZoneType c.args.children.now (c.requires.plain told))
