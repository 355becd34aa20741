use Rattle.std.proofs.Common.{◌∙◌, sym, ap, subst}
use Rattle.adf_model.specs.Slots.{Files}
use Rattle.sids_views.specs.Asks.{IsPlain, IsValueOr}
use Rattle.sids_views.proofs.Plain.{told_before}
use Rattle.sids_views.proofs.Gathered.{told_after}
use Rattle.tree_report.specs.declared.fields.Fields.TheVariants as tells
use Rattle.tree_report.specs.Sights.{plain_sight, sight_of}
use Rattle.tree_report.proofs.FieldLaws.{plain_is}
use Rattle.tree_report.proofs.SightLaws.{seen, link_seen, plain_seen, value_as}
use Rattle.tree_report.proofs.sight.look.Goals as goal

pub look_at_node-requires-clause-plain : goal.look_at_node-requires-clause-plain
look_at_node-requires-clause-plain g c told =
    let files = g.C.TreeCalls.files c.args.calls.now in
    let only = c.link_of.ensures.only in
    let before = told_before _ _ _ _ only told in
    let trees = c.link_of.ensures.trees before in
    subst (λ (fs : Files). IsPlain fs c.args.at) (sym only.files_stay)
    (plain_is files trees c.args.at (c.requires.there before trees) (sym (c.in-Ok-None.ensures.value before) ∙ c.in-Ok-None.field-0-is))

pub returns-in-Ok-Some-clause-value : goal.returns-in-Ok-Some-clause-value
returns-in-Ok-Some-clause-value g c told =
    let files = g.C.TreeCalls.files c.args.calls.now in
    let trees = c.link_of.ensures.trees told in
    let link = c.in-Ok-Some.link in
    ap (seen (tells.Link link)) (c.new-in-Ok-Some.ensures ∙ c.new.ensures.items)
    ∙ link_seen files trees c.args.at (c.requires.there told trees) link (sym c.in-Ok-Some.field-0-is ∙ c.in-Ok-Some.ensures.value told)

pub returns-in-Ok-None-clause-value : goal.returns-in-Ok-None-clause-value
returns-in-Ok-None-clause-value g c told =
    let files = g.C.TreeCalls.files c.args.calls.now in
    let only = c.link_of.ensures.only in
    value_as (plain_sight files c.args.at) (sight_of files c.args.at) (plain_seen files c.args.at (sym c.in-Ok-None.field-0-is ∙ c.in-Ok-None.ensures.value told)) c.look_at_node.result
    (subst (λ (fs : Files). IsValueOr (plain_sight fs c.args.at) c.look_at_node.result) only.files_stay (c.look_at_node.ensures.value (told_after _ _ _ _ only told)))
