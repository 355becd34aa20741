use Rattle.std.proofs.Common.{◌≡◌, ◌∙◌, sym, ap}
use Rattle.sids_readings.specs.Around.{sizes_around}
use Rattle.sids_node_rules.specs.Fields.{dims_of, dims_under}
use Rattle.cgns_check.proofs.KeptLaws.{dims_none, dims_same, none_of}
use Rattle.cgns_check.proofs.rule_finder.keep_dims.Goals as goal

pub returns-then-is_same_place-clause-kept : goal.returns-then-is_same_place-clause-kept
returns-then-is_same_place-clause-kept g c told =
    dims_same (g.C.TreeCalls.files c.args.calls.now) _ _ (c.requires.recalls told) (sym c.is_same_place.ensures ∙ c.if-is_same_place.true)

pub returns-else-holds_arrays-clause-kept : goal.returns-else-holds_arrays-clause-kept
returns-else-holds_arrays-clause-kept g c told =
    let files = g.C.TreeCalls.files c.args.calls.now in
    let sizes = sizes_around c.args.finder.now.around.zone in
    let at = c.in-Some.at in
    dims_none files c.args.finder.now c.args.parent (sym c.is_same_place.ensures ∙ c.if-is_same_place.false)
    (ap (dims_under files sizes) c.in-Some.is
    ∙ ap (λ k. dims_of k files at sizes) (sym (c.in-Ok.ensures.value told))
    ∙ none_of c.in-Ok.kind files at sizes (sym c.holds_arrays.ensures ∙ c.if-holds_arrays.false))

pub returns-in-None-clause-kept : goal.returns-in-None-clause-kept
returns-in-None-clause-kept g c told =
    let files = g.C.TreeCalls.files c.args.calls.now in
    dims_none files c.args.finder.now c.args.parent (sym c.is_same_place.ensures ∙ c.if-is_same_place.false) (ap (dims_under files (sizes_around c.args.finder.now.around.zone)) c.in-None.is)
