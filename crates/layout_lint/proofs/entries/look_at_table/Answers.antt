use Rattle.std.proofs.Common.{◌∙◌, sym, arith}
use Rattle.layout_lint.proofs.TableLaws.{head_pointer, breaks_pointer, breaks_tail, breaks_room, keeps_table}
use Rattle.layout_lint.proofs.RowSteps.{ended_by}
use Rattle.layout_lint.proofs.entries.look_at_table.Goals as goal

pub returns-then-not-points_to-clause-rows : goal.returns-then-not-points_to-clause-rows
returns-then-not-points_to-clause-rows g c = λ image told long.
    let t = c.args.table.place in
    let points = sym (head_pointer image t 16 4 c.tail-tail.result c.in_ok-head.head (omega arith) (c.in_ok-head.ensures.says image told long)) ∙ sym c.points_to.ensures ∙ c.if-not-points_to.true in
    rw c.halt_at.ensures (breaks_pointer image c.args.span.end c.args.used t c.args.table.entries (rw c.length-length.ensures at (c.in_ok-head.ensures.rows image told long)) (rw c.tail-tail.ensures at points))

pub returns-in_err-look_at_tail-clause-rows : goal.returns-in_err-look_at_tail-clause-rows
returns-in_err-look_at_tail-clause-rows g c = λ image told long. rw (ended_by _ _ c.from_residual-in_err-look_at_tail.ensures.1)
    (let t = c.args.table.place in
    let points = sym (head_pointer image t 16 4 c.tail-tail.result c.in_ok-head.head (omega arith) (c.in_ok-head.ensures.says image told long)) ∙ sym c.points_to.ensures ∙ c.if-not-points_to.false in
    breaks_tail image c.args.span.end c.args.used t c.args.table.entries c.in_err-look_at_tail.field-0.0 (rw c.length-length.ensures at (c.in_ok-head.ensures.rows image told long)) (rw c.tail-tail.ensures at points)
    (rw c.tail-tail.ensures at (c.in_err-look_at_tail.ensures.rows image (c.look_at_start.ensures.effect.held ∙ told) (omega (arith, c.in_ok-head.ensures.fits)))))

pub returns-then-not-has_room-clause-rows : goal.returns-then-not-has_room-clause-rows
returns-then-not-has_room-clause-rows g c = λ image told long.
    let t = c.args.table.place in
    let points = sym (head_pointer image t 16 4 c.tail-tail.result c.in_ok-head.head (omega arith) (c.in_ok-head.ensures.says image told long)) ∙ sym c.points_to.ensures ∙ c.if-not-points_to.false in
    rw c.halt_at-then-not-has_room.ensures (breaks_room image c.args.span.end c.args.used t c.args.table.entries (rw c.length-length.ensures at (c.in_ok-head.ensures.rows image told long)) (rw c.tail-tail.ensures at points)
    (rw c.tail-tail.ensures at (c.in_ok-look_at_tail.ensures.rows image (c.look_at_start.ensures.effect.held ∙ told) (omega (arith, c.in_ok-head.ensures.fits)))) (rw c.length-length.ensures at (sym c.has_room.ensures ∙ c.if-not-has_room.true)))

pub returns-clause-rows : goal.returns-clause-rows
returns-clause-rows g c = λ image told long.
    let t = c.args.table.place in
    let points = sym (head_pointer image t 16 4 c.tail-tail.result c.in_ok-head.head (omega arith) (c.in_ok-head.ensures.says image told long)) ∙ sym c.points_to.ensures ∙ c.if-not-points_to.false in
    keeps_table image c.args.span.end c.args.used t c.args.table.entries (rw c.length-length.ensures at (c.in_ok-head.ensures.rows image told long)) (rw c.tail-tail.ensures at points)
    (rw c.tail-tail.ensures at (c.in_ok-look_at_tail.ensures.rows image (c.look_at_start.ensures.effect.held ∙ told) (omega (arith, c.in_ok-head.ensures.fits)))) (rw c.length-length.ensures at (sym c.has_room.ensures ∙ c.if-not-has_room.false))
