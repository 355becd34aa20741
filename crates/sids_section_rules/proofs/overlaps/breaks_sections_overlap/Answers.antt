use Rattle.std.proofs.Common.{◌∙◌, sym, ap, subst}
use Rattle.adf_model.specs.Slots.{Files}
use Rattle.sids_views.specs.Asks.{IsValueOr}
use Rattle.sids_views.proofs.Gathered.{told_after}
use Rattle.sids_section_rules.specs.Overlaps.{overlaps_in}
use Rattle.sids_section_rules.proofs.OverlapLaws.{overlap_is}
use Rattle.sids_section_rules.proofs.overlaps.breaks_sections_overlap.Goals as goal

pub returns-in-Ok-clause-value : goal.returns-in-Ok-clause-value
returns-in-Ok-clause-value g c told =
    let files = g.C.TreeCalls.files c.args.calls.now in
    let node = c.args.node in
    let range = c.args.range.now in
    let only = c.children_of.ensures.only in
    let found = c.items.ensures ∙ c.in-Ok.ensures.value told in
    subst (λ b. IsValueOr b c.overlaps_in.result)
    (ap (λ (fs : Files). overlaps_in fs node range c.items.result.now) only.files_stay ∙ ap (overlaps_in files node range) found ∙ sym (overlap_is files c.args.zone node range))
    (c.overlaps_in.ensures.value (told_after _ _ _ _ only told))
