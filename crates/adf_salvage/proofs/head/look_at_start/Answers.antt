use Rattle.std.proofs.Common.{◌∙◌, ◌≤◌, arith, length}
use Rattle.layout_lint.proofs.HeadLaws.{first_group, header_group}
use Rattle.layout_lint.proofs.RowSteps.{kept_then}
use Rattle.adf_salvage.proofs.StartLaws.{start_said}
use Rattle.adf_salvage.proofs.head.look_at_start.Goals as goal

pub returns-clause-says : goal.returns-clause-says
returns-clause-says g c = λ image told.
    let n = c.in_ok-length.ensures.told image told in
    let long : 266 ≤ length image = omega (arith, c.in_ok-length.ensures.bounds, n) in
    let told_then = c.length_of.ensures.effect.held ∙ told in
    start_said image c.in_ok-header.header c.span_of.result c.place_of.result c.in_ok-length.length (c.in_ok-header.ensures.says image told_then long)
    (kept_then (first_group image) (header_group image) _ (c.in_ok-length.ensures.rows image told) (c.in_ok-header.ensures.rows image told_then long))
    c.span_of.ensures c.place_of.ensures.value n (omega (arith, c.in_ok-length.ensures.bounds))
