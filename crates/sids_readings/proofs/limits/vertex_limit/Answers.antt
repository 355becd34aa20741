use Rattle.std.proofs.Common.{◌∙◌, sym, ap, subst}
use Rattle.adf_model.specs.Slots.{Files}
use Rattle.sids_views.specs.Asks.{IsValueOr}
use Rattle.sids_views.proofs.Gathered.{told_after}
use Rattle.sids_readings.specs.Limits.{limit_in}
use Rattle.sids_readings.proofs.LimitLaws.{limit_is}
use Rattle.sids_views.proofs.Plain.{told_before}
use Rattle.sids_views.proofs.ChildrenPlain.{ArePlain}
use Rattle.sids_readings.proofs.limits.vertex_limit.Goals as goal

pub limit_in-requires-clause-plain : goal.limit_in-requires-clause-plain
limit_in-requires-clause-plain g c told =
    let only = c.children_of.ensures.only in
    let plain = c.in-Ok.ensures.plain (told_before _ _ _ _ only told) in
    subst (λ fs. ArePlain fs c.items.result.now) (sym only.files_stay)
    (subst (ArePlain (g.C.TreeCalls.files c.args.calls.now)) (sym c.items.ensures) plain)

pub returns-in-Ok-clause-value : goal.returns-in-Ok-clause-value
returns-in-Ok-clause-value g c told =
    let files = g.C.TreeCalls.files c.args.calls.now in
    let sizes = c.args.sizes.now in
    let only = c.children_of.ensures.only in
    let found = c.items.ensures ∙ c.in-Ok.ensures.value told in
    subst (λ b. IsValueOr b c.limit_in.result)
    (ap (λ (fs : Files). limit_in fs sizes c.items.result.now) only.files_stay ∙ ap (limit_in files sizes) found ∙ sym (limit_is files c.args.at sizes))
    (c.limit_in.ensures.value (told_after _ _ _ _ only told))
