use Rattle.std.proofs.Common.{◌≡◌, ◌∙◌, ap}
use Rattle.sids_readings.specs.declared.around.Surroundings.{Surroundings}
use Rattle.sids_readings.specs.Around.{sizes_around}
use Rattle.sids_readings.proofs.Keeping.{kept}
use Rattle.sids_node_rules.specs.Fields.{dims_under}
use Rattle.sids_broken.specs.NodeTests.{dims_beside}
use Rattle.sids_broken.proofs.broken_rules.broken_around.Goals as goal

pub broken_by-requires-clause-dims : goal.broken_by-requires-clause-dims
broken_by-requires-clause-dims g c =
    let files = g.C.TreeCalls.files c.args.calls.now in
    let seen = c.args.seen.now in
    kept (λ fs. c.in-Ok.dims ≡ dims_beside fs seen) _ _ _ _ c.dims_under.ensures.only (λ told.
    c.in-Ok.ensures.value told
    ∙ ap (λ sizes. dims_under files sizes seen.parent) (c.sizes_around-sizes.ensures ∙ ap (λ (around : Surroundings). sizes_around around.zone) (c.requires.around told)))
