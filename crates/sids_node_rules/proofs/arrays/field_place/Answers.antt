use Rattle.std.proofs.Common.{sym, subst}
use Rattle.std.specs.Prelude.{IfSome}
use Rattle.sids_tables.specs.declared.labels.LabelKind.TheVariants.{GridLocation}
use Rattle.sids_views.specs.Asks.{IsPlain}
use Rattle.sids_views.proofs.ChildrenPlain.{first_plain}
use Rattle.sids_node_rules.proofs.arrays.field_place.Goals as goal

pub place_by-requires-clause-plain : goal.place_by-requires-clause-plain
place_by-requires-clause-plain g c told =
    let files = g.C.TreeCalls.files c.args.calls.now in
    subst (λ o. IfSome o (IsPlain files)) (sym c.first_of-3.ensures) (first_plain files GridLocation c.args.children.now (c.requires.plain told))
