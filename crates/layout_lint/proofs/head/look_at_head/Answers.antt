use Rattle.std.proofs.Common.{◌∙◌, ◌≤◌, sym, arith, length}
use Rattle.layout_lint.proofs.HeadLaws.{breaks_length, breaks_header, breaks_end, breaks_free, keeps_head, end_tested, head_said}
use Rattle.layout_lint.proofs.RowSteps.{ended_by}
use Rattle.layout_lint.proofs.head.look_at_head.Goals as goal

pub returns-in_err-length-clause-rows : goal.returns-in_err-length-clause-rows
returns-in_err-length-clause-rows g c = λ image told. rw (ended_by _ _ c.from_residual.ensures.1)
    (breaks_length image c.in_err-length.field-0.0 (c.in_err-length.ensures.rows image told))

pub returns-in_err-header-clause-rows : goal.returns-in_err-header-clause-rows
returns-in_err-header-clause-rows g c = λ image told. rw (ended_by _ _ c.from_residual-in_err-header.ensures.1)
    (let long : 266 ≤ length image = let n = c.in_ok-length.ensures.told image told in omega (arith, c.in_ok-length.ensures.bounds) in
    breaks_header image c.in_err-header.field-0.0 (c.in_ok-length.ensures.rows image told) (c.in_err-header.ensures.rows image (c.length_of.ensures.effect.held ∙ told) long))

pub returns-then-not-is_end-clause-rows : goal.returns-then-not-is_end-clause-rows
returns-then-not-is_end-clause-rows g c = λ image told.
    let n = c.in_ok-length.ensures.told image told in
    let long : 266 ≤ length image = omega (arith, c.in_ok-length.ensures.bounds) in
    let told_then = c.length_of.ensures.effect.held ∙ told in
    let tested = end_tested image c.in_ok-header.header (c.in_ok-header.ensures.says image told_then long) c.span_of-span.result c.in_ok-length.length c.span_of-span.ensures n in
    rw c.halt_at.ensures (breaks_end image (c.in_ok-length.ensures.rows image told) (c.in_ok-header.ensures.rows image told_then long) (sym tested ∙ sym c.is_end.ensures.value ∙ c.if-not-is_end.true))

pub returns-in_err-lists-clause-rows : goal.returns-in_err-lists-clause-rows
returns-in_err-lists-clause-rows g c = λ image told. rw (ended_by _ _ c.from_residual-in_err-lists.ensures.1)
    (let n = c.in_ok-length.ensures.told image told in
    let long : 266 ≤ length image = omega (arith, c.in_ok-length.ensures.bounds) in
    let told_then = c.length_of.ensures.effect.held ∙ told in
    let tested = end_tested image c.in_ok-header.header (c.in_ok-header.ensures.says image told_then long) c.span_of-span.result c.in_ok-length.length c.span_of-span.ensures n in
    breaks_free image c.in_err-lists.field-0.0 (c.in_ok-length.ensures.rows image told) (c.in_ok-header.ensures.rows image told_then long) (sym tested ∙ sym c.is_end.ensures.value ∙ c.if-not-is_end.false)
    (c.in_err-lists.ensures.rows image (c.header_at.ensures.effect.held ∙ told_then) long))

pub returns-clause-rows : goal.returns-clause-rows
returns-clause-rows g c = λ image told.
    let n = c.in_ok-length.ensures.told image told in
    let long : 266 ≤ length image = omega (arith, c.in_ok-length.ensures.bounds) in
    let told_then = c.length_of.ensures.effect.held ∙ told in
    let tested = end_tested image c.in_ok-header.header (c.in_ok-header.ensures.says image told_then long) c.span_of-span.result c.in_ok-length.length c.span_of-span.ensures n in
    keeps_head image (c.in_ok-length.ensures.rows image told) (c.in_ok-header.ensures.rows image told_then long) (sym tested ∙ sym c.is_end.ensures.value ∙ c.if-not-is_end.false)
    (c.in_ok-lists.ensures.rows image (c.header_at.ensures.effect.held ∙ told_then) long)

pub returns-clause-says : goal.returns-clause-says
returns-clause-says g c = λ image told.
    let n = c.in_ok-length.ensures.told image told in
    let long : 266 ≤ length image = omega (arith, c.in_ok-length.ensures.bounds) in
    let told_then = c.length_of.ensures.effect.held ∙ told in
    let says = c.in_ok-header.ensures.says image told_then long in
    let tested = end_tested image c.in_ok-header.header says c.span_of-span.result c.in_ok-length.length c.span_of-span.ensures n in
    let kept = keeps_head image (c.in_ok-length.ensures.rows image told) (c.in_ok-header.ensures.rows image told_then long) (sym tested ∙ sym c.is_end.ensures.value ∙ c.if-not-is_end.false)
    (c.in_ok-lists.ensures.rows image (c.header_at.ensures.effect.held ∙ told_then) long) in
    head_said image c.in_ok-header.header says c.span_of-span.result c.place_of.result c.in_ok-length.length c.in_ok-lists.lists c.span_of-span.ensures kept c.place_of.ensures.value
    (c.is_end.ensures.bounds c.if-not-is_end.false).1 n (c.in_ok-lists.ensures.says image (c.header_at.ensures.effect.held ∙ told_then) long)
