use Rattle.std.proofs.Common.{◌∙◌, ◌+◌, ◌-◌, refl, sym, ap, arith}
use Rattle.adf_format.specs.FirstFault.{has_room}
use Rattle.layout_lint.specs.Chunks.{visit_of}
use Rattle.layout_lint.proofs.RowSteps.{no_value, some_value, ended_by}
use Rattle.layout_lint.proofs.ChunkLaws.{chunk_tail_said, breaks_chunk_start, breaks_chunk_pointer, breaks_chunk_tail, breaks_chunk_room, keeps_chunk}
use Rattle.layout_lint.proofs.chunks.look_at_chunk.Goals as goal

pub returns-in_err-head-clause-rows : goal.returns-in_err-head-clause-rows
returns-in_err-head-clause-rows g c = λ image told long. rw (ended_by _ _ c.from_residual.ensures.1)
    (breaks_chunk_start image c.args.span.end c.args.used (visit_of c.args.chunk) c.in_err-head.field-0.0 (c.in_err-head.ensures.rows image told long))

pub returns-in-None-clause-rows : goal.returns-in-None-clause-rows
returns-in-None-clause-rows g c = λ image told long.
    let v = visit_of c.args.chunk in
    let none = no_value _ _ _ (c.in-None.ensures.said ∙ chunk_tail_said image c.args.span.end v c.in_ok-head.head (c.in_ok-head.ensures.says image told long)) refl in
    rw c.halt_at.ensures (breaks_chunk_pointer image c.args.span.end c.args.used v (c.in_ok-head.ensures.rows image told long) none)

pub returns-in_err-look_at_tail-clause-rows : goal.returns-in_err-look_at_tail-clause-rows
returns-in_err-look_at_tail-clause-rows g c = λ image told long. rw (ended_by _ _ c.from_residual-in_err-look_at_tail.ensures.1)
    (let v = visit_of c.args.chunk in
    let some = some_value _ _ _ _ (c.in-Some.ensures.said ∙ chunk_tail_said image c.args.span.end v c.in_ok-head.head (c.in_ok-head.ensures.says image told long)) refl in
    breaks_chunk_tail image c.args.span.end c.args.used v (c.in_ok-head.ensures.rows image told long) c.in_err-look_at_tail.field-0.0 some.0
    (rw some.1 at (c.in_err-look_at_tail.ensures.rows image (c.look_at_start.ensures.effect.held ∙ told) (omega (arith, c.in-Some.ensures.bounds)))))

pub returns-then-not-has_room-clause-rows : goal.returns-then-not-has_room-clause-rows
returns-then-not-has_room-clause-rows g c = λ image told long.
    let v = visit_of c.args.chunk in
    let some = some_value _ _ _ _ (c.in-Some.ensures.said ∙ chunk_tail_said image c.args.span.end v c.in_ok-head.head (c.in_ok-head.ensures.says image told long)) refl in
    rw c.halt_at-then-not-has_room.ensures (breaks_chunk_room image c.args.span.end c.args.used v (c.in_ok-head.ensures.rows image told long) some.0
    (rw some.1 at (c.in_ok-look_at_tail.ensures.rows image (c.look_at_start.ensures.effect.held ∙ told) (omega (arith, c.in-Some.ensures.bounds))))
    (ap (λ t. has_room c.args.span.end c.args.used (t + 4 - c.args.chunk.place)) (sym some.1) ∙ sym c.has_room.ensures ∙ c.if-not-has_room.true))

pub returns-clause-rows : goal.returns-clause-rows
returns-clause-rows g c = λ image told long.
    let v = visit_of c.args.chunk in
    let some = some_value _ _ _ _ (c.in-Some.ensures.said ∙ chunk_tail_said image c.args.span.end v c.in_ok-head.head (c.in_ok-head.ensures.says image told long)) refl in
    keeps_chunk image c.args.span.end c.args.used v (c.in_ok-head.ensures.rows image told long) some.0
    (rw some.1 at (c.in_ok-look_at_tail.ensures.rows image (c.look_at_start.ensures.effect.held ∙ told) (omega (arith, c.in-Some.ensures.bounds))))
    (ap (λ t. has_room c.args.span.end c.args.used (t + 4 - c.args.chunk.place)) (sym some.1) ∙ sym c.has_room.ensures ∙ c.if-not-has_room.false)

pub returns-clause-says : goal.returns-clause-says
returns-clause-says g c = λ image told long.
    let v = visit_of c.args.chunk in
    let some = some_value _ _ _ _ (c.in-Some.ensures.said ∙ chunk_tail_said image c.args.span.end v c.in_ok-head.head (c.in_ok-head.ensures.says image told long)) refl in
    ap (λ t. t + 4 - c.args.chunk.place) some.1
