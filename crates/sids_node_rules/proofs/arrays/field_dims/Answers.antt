use Rattle.std.proofs.Common.{◌∙◌, sym, ap, subst}
use Rattle.adf_model.specs.Slots.{Files}
use Rattle.sids_views.specs.Asks.{IsValueOr}
use Rattle.sids_views.proofs.Gathered.{told_after}
use Rattle.sids_node_rules.specs.Fields.{dims_in}
use Rattle.sids_node_rules.proofs.FieldLaws.{dims_are}
use Rattle.sids_node_rules.proofs.arrays.field_dims.Goals as goal

pub returns-in-Ok-clause-value : goal.returns-in-Ok-clause-value
returns-in-Ok-clause-value g c told =
    let files = g.C.TreeCalls.files c.args.calls.now in
    let sizes = c.args.sizes.now in
    let only = c.children_of.ensures.only in
    let found = c.items.ensures ∙ c.in-Ok.ensures.value told in
    subst (λ dims. IsValueOr dims c.dims_in.result)
    (ap (λ (fs : Files). dims_in fs c.items.result.now sizes) only.files_stay ∙ ap (λ children. dims_in files children sizes) found ∙ sym (dims_are files c.args.solution sizes))
    (c.dims_in.ensures.value (told_after _ _ _ _ only told))
