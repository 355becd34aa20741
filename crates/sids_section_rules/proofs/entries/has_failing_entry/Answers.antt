use Rattle.std.proofs.Common.{◌≡◌, ◌∙◌, sym, ap, subst, []}
use Rattle.std.specs.Prelude.{unwrap_or}
use Rattle.std.specs.List.{list_any}
use Rattle.adf_format.specs.declared.types.Format.{Format}
use Rattle.adf_model.specs.Slots.{Files}
use Rattle.sids_views.specs.Asks.{IsValueOr}
use Rattle.sids_views.specs.Nodes.{View}
use Rattle.sids_views.specs.Views.{node_there}
use Rattle.sids_views.proofs.Gathered.{told_after}
use Rattle.sids_rules.specs.Rules.{first_dimension}
use Rattle.sids_rules.specs.Values.{ints_of}
use Rattle.sids_readings.specs.Reading.{numbers_of}
use Rattle.sids_section_rules.specs.Entries.{fails}
use Rattle.sids_section_rules.proofs.PartLaws.{ints_are}
use Rattle.sids_section_rules.proofs.entries.has_failing_entry.Goals as goal

pub returns-in-Ok-view_of-clause-value : goal.returns-in-Ok-view_of-clause-value
returns-in-Ok-view_of-clause-value g c told =
    let files = g.C.TreeCalls.files c.args.calls.now in
    let p = fails c.args.test.now in
    let at = c.args.at in
    let wide = c.args.wide in
    let format = c.in-Ok.format in
    let entries = c.first_dimension.result in
    let node = node_there files at in
    let only = c.format_of.ensures.only in
    let later = c.view_of.ensures.only in
    let told_then = told_after _ _ _ _ only told in
    let there : first_dimension node.dims ≡ entries =
    sym (c.first_dimension.ensures ∙ ap (λ (v : View). first_dimension v.dims) (c.in-Ok-view_of.ensures.value told_then) ∙ ap (λ (fs : Files). first_dimension (node_there fs at).dims) only.files_stay) in
    subst (λ b. IsValueOr b c.has_failing_part.result)
    (ap (λ (fs : Files). list_any p (numbers_of format wide entries (unwrap_or (node_there fs at).bytes []))) (later.files_stay ∙ only.files_stay)
    ∙ ap (list_any p) (ints_are node format wide entries (c.requires.list told) (c.requires.width told) there ∙ ap (λ (f : Format). ints_of f node) (c.in-Ok.ensures.value told)))
    (c.has_failing_part.ensures.value (told_after _ _ _ _ later told_then))
