use Rattle.std.proofs.Common.{◌∙◌, sym, ap, subst, refl}
use Rattle.std.specs.Prelude.{Some}
use Rattle.std.specs.List.{AllByRecursion}
use Rattle.adf_model.specs.declared.tree.Child.{Child}
use Rattle.adf_model.specs.Slots.{Files}
use Rattle.sids_tables.specs.declared.labels.LabelKind.{LabelKind}
use Rattle.sids_views.specs.Asks.{IsThere}
use Rattle.sids_views.specs.Views.{entries_there}
use Rattle.sids_views.proofs.Gathered.{told_after}
use Rattle.cgns_check.specs.declared.look.Sight.{Sight}
use Rattle.cgns_check.specs.Looks.{is_entered_by}
use Rattle.cgns_check.proofs.LookLaws.{noted, entered}
use Rattle.cgns_check.proofs.look.look_at.Goals as goal

pub returns-then-alone-clause-look : goal.returns-then-alone-clause-look
returns-then-alone-clause-look g c told =
    let alone = c.look_alone-alone in
    noted (g.C.TreeCalls.files c.args.calls.now) c.args.stop (c.requires.seen told).there c.args.at (sym (c.requires.target told)) (c.requires.plain told)
    alone.result alone.ensures.seen alone.ensures.note alone.ensures.below c.if-alone.true

pub returns-in-Ok-children_below-clause-look : goal.returns-in-Ok-children_below-clause-look
returns-in-Ok-children_below-clause-look g c told =
    let files = g.C.TreeCalls.files c.args.calls.now in
    let stop = c.args.stop in
    let at = c.args.at in
    let alone = c.look_alone-alone in
    let below = c.in-Ok-children_below in
    let only = c.kind_of_node.ensures.only in
    let asked = told_after _ _ _ _ only told in
    let kind = c.in-Ok.ensures.value told in
    let sight : Sight = record { seen = alone.result.seen; note = alone.result.note; below = Some below.frame } in
    entered files stop (c.requires.seen told).there at (sym (c.requires.target told)) (c.requires.plain told) c.in-Ok.kind kind below.frame below.ensures.above (c.requires.seen told)
    sight alone.ensures.seen alone.ensures.note c.if-alone.false refl
    (sym (ap (λ (k : LabelKind). is_entered_by stop.parent k) kind) ∙ sym c.is_entered.ensures ∙ c.if-not-is_entered.false)
    (below.ensures.value asked ∙ ap (λ (fs : Files). entries_there fs at) only.files_stay)
    (subst (λ (fs : Files). AllByRecursion (λ (entry : Child). IsThere fs entry.node) below.frame.rest) only.files_stay (below.ensures.there asked))
