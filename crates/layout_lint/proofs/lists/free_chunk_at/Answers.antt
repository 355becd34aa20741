use Rattle.std.proofs.Common.{◌∙◌, ◌+◌, ◌-◌, refl, ap, arith}
use Rattle.layout_lint.proofs.RowSteps.{no_value, some_value, ended_by}
use Rattle.layout_lint.proofs.FreeLaws.{free_tail_said, no_pointer, some_pointer, next_said, breaks_free_start, breaks_free_pointer, breaks_free_next, breaks_free_end, keeps_free_bytes}
use Rattle.layout_lint.proofs.lists.free_chunk_at.Goals as goal

pub returns-in_err-head-clause-rows : goal.returns-in_err-head-clause-rows
returns-in_err-head-clause-rows g c = λ image told long. rw (ended_by _ _ c.from_residual.ensures.1)
    (breaks_free_start image c.args.span.end c.args.at c.in_err-head.field-0.0 (c.in_err-head.ensures.rows image told long))

pub returns-in-None-clause-rows : goal.returns-in-None-clause-rows
returns-in-None-clause-rows g c = λ image told long.
    let none = no_value _ _ _ (c.in-None.ensures.said ∙ free_tail_said image c.args.span.end c.args.at c.in_ok-head.head (c.in_ok-head.ensures.says image told long)) refl in
    rw c.halt_at.ensures (breaks_free_pointer image c.args.span.end c.args.at (c.in_ok-head.ensures.rows image told long) none)

pub returns-in-None-pointer_at-clause-rows : goal.returns-in-None-pointer_at-clause-rows
returns-in-None-pointer_at-clause-rows g c = λ image told long.
    let some = some_value _ _ _ _ (c.in-Some.ensures.said ∙ free_tail_said image c.args.span.end c.args.at c.in_ok-head.head (c.in_ok-head.ensures.says image told long)) refl in
    let next = no_pointer image c.args.at c.in_ok-head.head (c.in_ok-head.ensures.says image told long) c.pointer_at.result c.pointer_at.ensures.value c.in-None-pointer_at.is in
    rw c.halt_at-in-None-pointer_at.ensures (breaks_free_next image c.args.span.end c.args.at (c.in_ok-head.ensures.rows image told long) some.0 next)

pub returns-in-Err-clause-rows : goal.returns-in-Err-clause-rows
returns-in-Err-clause-rows g c = λ image told long.
    let some = some_value _ _ _ _ (c.in-Some.ensures.said ∙ free_tail_said image c.args.span.end c.args.at c.in_ok-head.head (c.in_ok-head.ensures.says image told long)) refl in
    let next = some_pointer image c.args.at c.in_ok-head.head (c.in_ok-head.ensures.says image told long) c.pointer_at.result c.pointer_at.ensures.value c.in-Some-pointer_at.next c.in-Some-pointer_at.is in
    breaks_free_end image c.args.span.end c.args.at (c.in_ok-head.ensures.rows image told long) c.in-Err.halt some.0 next
    (rw some.1 at (c.in-Err.ensures.rows image (c.look_at_start.ensures.effect.held ∙ told) (omega (arith, c.in-Some.ensures.bounds))))

pub returns-in-Ok-clause-rows : goal.returns-in-Ok-clause-rows
returns-in-Ok-clause-rows g c = λ image told long.
    let some = some_value _ _ _ _ (c.in-Some.ensures.said ∙ free_tail_said image c.args.span.end c.args.at c.in_ok-head.head (c.in_ok-head.ensures.says image told long)) refl in
    let next = some_pointer image c.args.at c.in_ok-head.head (c.in_ok-head.ensures.says image told long) c.pointer_at.result c.pointer_at.ensures.value c.in-Some-pointer_at.next c.in-Some-pointer_at.is in
    keeps_free_bytes image c.args.span.end c.args.at (c.in_ok-head.ensures.rows image told long) some.0 next
    (rw some.1 at (c.in-Ok.ensures.rows image (c.look_at_start.ensures.effect.held ∙ told) (omega (arith, c.in-Some.ensures.bounds))))

pub returns-in-Ok-clause-length : goal.returns-in-Ok-clause-length
returns-in-Ok-clause-length g c = λ image told long.
    let some = some_value _ _ _ _ (c.in-Some.ensures.said ∙ free_tail_said image c.args.span.end c.args.at c.in_ok-head.head (c.in_ok-head.ensures.says image told long)) refl in
    ap (λ t. t + 4 - c.args.at) some.1

pub returns-in-Ok-clause-next : goal.returns-in-Ok-clause-next
returns-in-Ok-clause-next g c = λ image told long.
    c.place.ensures ∙ next_said image c.args.at c.in_ok-head.head (c.in_ok-head.ensures.says image told long) c.pointer_at.result c.pointer_at.ensures.value c.in-Some-pointer_at.next c.in-Some-pointer_at.is
