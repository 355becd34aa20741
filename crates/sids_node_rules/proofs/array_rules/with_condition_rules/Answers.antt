use Rattle.std.proofs.Common.{◌∙◌, ap, subst, Bool, [], ◌∷◌, ◌++◌, not, ◌&&◌}
use Rattle.std.specs.Prelude.{codes, bytes_eq}
use Rattle.adf_model.specs.Slots.{Files}
use Rattle.sids_tables.specs.declared.labels.LabelKind.TheVariants.{FamilyName}
use Rattle.sids_tables.specs.Words.{bc_types}
use Rattle.sids_views.specs.Asks.{IsValueOr}
use Rattle.sids_views.specs.Views.{given, node_there}
use Rattle.sids_views.proofs.Gathered.{told_after}
use Rattle.sids_rules.specs.Values.{text_of}
use Rattle.sids_rules.specs.Terms.{has_child}
use Rattle.sids_rules.specs.Rules.{is_no_word, are_points_off}
use Rattle.sids_readings.specs.Held.{held}
use Rattle.sids_readings.proofs.HeldLaws.{three_held}
use Rattle.sids_node_rules.proofs.array_rules.with_condition_rules.Goals as goal

pub returns-in-Ok-with_rule-2-clause-value : goal.returns-in-Ok-with_rule-2-clause-value
returns-in-Ok-with_rule-2-clause-value g c told =
    let files = g.C.TreeCalls.files c.args.calls.now in
    let at = c.args.at in
    let sizes = c.args.sizes.now in
    let rules = c.args.rules in
    let only = c.is_no_word.ensures.only in
    let later = c.are_points_off.ensures.only in
    let told_then = told_after _ _ _ _ only told in
    let first = c.in-Ok.is_broken in
    let second = c.in-Ok-are_points_off.is_broken in
    let off : Files → Bool = λ fs. given sizes (λ s. are_points_off s.index fs at) in
    let lacks : Files → Bool = λ fs. bytes_eq (text_of (node_there fs at)) (codes "FamilySpecified") && not (has_child fs at FamilyName) in
    subst (λ numbers. IsValueOr numbers c.with_family_rule.result)
    (ap (λ fs. c.in-Ok-with_rule-2.rules ++ held ((33, lacks fs) ∷ [])) (later.files_stay ∙ only.files_stay)
    ∙ ap (λ numbers. numbers ++ held ((33, lacks files) ∷ [])) (c.in-Ok-with_rule-2.ensures.value ∙ ap (λ numbers. numbers ++ held ((32, second) ∷ [])) c.in-Ok-with_rule.ensures.value)
    ∙ three_held rules (31, first) (32, second) (33, lacks files)
    ∙ ap (λ b. rules ++ held ((31, b) ∷ (32, second) ∷ (33, lacks files) ∷ [])) (c.in-Ok.ensures.value told)
    ∙ ap (λ b. rules ++ held ((31, is_no_word bc_types files at) ∷ (32, b) ∷ (33, lacks files) ∷ [])) (c.in-Ok-are_points_off.ensures.value told_then ∙ ap off only.files_stay))
    (c.with_family_rule.ensures.value (told_after _ _ _ _ later told_then))
