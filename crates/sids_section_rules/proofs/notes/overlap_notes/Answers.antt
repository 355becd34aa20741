use Rattle.std.proofs.Common.{◌∙◌, ap, subst}
use Rattle.std.specs.Prelude.{List}
use Rattle.adf_model.specs.Slots.{Files}
use Rattle.sids_views.specs.declared.child.SeenChild.{SeenChild}
use Rattle.sids_views.specs.Views.{children_there}
use Rattle.sids_views.proofs.Gathered.{told_after}
use Rattle.sids_section_rules.specs.Noted.{AreNotes}
use Rattle.sids_section_rules.proofs.notes.overlap_notes.Goals as goal

pub returns-in-Ok-clause-notes : goal.returns-in-Ok-clause-notes
returns-in-Ok-clause-notes g c told =
    let files = g.C.TreeCalls.files c.args.calls.now in
    let only = c.children_of.ensures.only in
    let found = c.items.ensures ∙ c.in-Ok.ensures.value told in
    subst (λ (children : List SeenChild). AreNotes files children c.notes_of.result) found
    (subst (λ (fs : Files). AreNotes fs c.items.result.now c.notes_of.result) only.files_stay (c.notes_of.ensures.notes (told_after _ _ _ _ only told)))
