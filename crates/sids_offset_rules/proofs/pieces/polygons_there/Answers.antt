use Rattle.std.proofs.Common.{◌∙◌, sym}
use Rattle.sids_rules.specs.Values.{ints_there}
use Rattle.sids_offset_rules.proofs.PieceLaws.{polygon_found, polygon_clean}
use Rattle.sids_offset_rules.proofs.pieces.polygons_there.Goals as goal

pub returns-in-Ok-true-clause-value : goal.returns-in-Ok-true-clause-value
returns-in-Ok-true-clause-value g c told =
    let entries = ints_there (g.C.TreeCalls.files c.args.calls.now) c.args.at in
    polygon_found entries c.args.offsets.now c.args.limit _ c.in-Some.is (c.requires.offsets told) (sym (c.in-Ok-true.ensures.value told) ∙ c.in-Ok-true.field-0-test)

pub returns-in-Ok-false-clause-value : goal.returns-in-Ok-false-clause-value
returns-in-Ok-false-clause-value g c told =
    let entries = ints_there (g.C.TreeCalls.files c.args.calls.now) c.args.at in
    polygon_clean entries c.args.offsets.now c.args.limit _ c.in-Some.is (c.requires.offsets told) (sym (c.in-Ok-false.ensures.value told) ∙ c.in-Ok-false.field-0-test)
