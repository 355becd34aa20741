use Rattle.std.proofs.Common.{◌∙◌, sym, arith}
use Rattle.layout_lint.proofs.TableLaws.{head_pointer}
use Rattle.layout_lint.proofs.ChunkLaws.{breaks_list_start, breaks_list_pointer, breaks_list_entries, breaks_list_tail, breaks_list_room, keeps_list}
use Rattle.layout_lint.proofs.RowSteps.{ended_by}
use Rattle.layout_lint.proofs.chunks.look_at_chunk_table.Goals as goal

pub returns-in_err-head-clause-rows : goal.returns-in_err-head-clause-rows
returns-in_err-head-clause-rows g c = λ image told long. rw (ended_by _ _ c.from_residual.ensures.1)
    (breaks_list_start image c.args.span.end c.args.used c.args.chunks.place c.args.chunks.count c.in_err-head.field-0.0 (rw c.table_length-length.ensures at (c.in_err-head.ensures.rows image told long)))

pub returns-then-not-points_to-clause-rows : goal.returns-then-not-points_to-clause-rows
returns-then-not-points_to-clause-rows g c = λ image told long.
    let t = c.args.chunks.place in
    let points = sym (head_pointer image t 16 4 c.tail-tail.result c.in_ok-head.head (omega arith) (c.in_ok-head.ensures.says image told long)) ∙ sym c.points_to.ensures ∙ c.if-not-points_to.true in
    rw c.halt_at.ensures (breaks_list_pointer image c.args.span.end c.args.used t c.args.chunks.count (rw c.table_length-length.ensures at (c.in_ok-head.ensures.rows image told long)) (rw c.tail-tail.ensures at points))

pub returns-in_err-list-clause-rows : goal.returns-in_err-list-clause-rows
returns-in_err-list-clause-rows g c = λ image told long. rw (ended_by _ _ c.from_residual-in_err-list.ensures.1)
    (let t = c.args.chunks.place in
    let points = sym (head_pointer image t 16 4 c.tail-tail.result c.in_ok-head.head (omega arith) (c.in_ok-head.ensures.says image told long)) ∙ sym c.points_to.ensures ∙ c.if-not-points_to.false in
    breaks_list_entries image c.args.span.end c.args.used t c.args.chunks.count (rw c.table_length-length.ensures at (c.in_ok-head.ensures.rows image told long)) (rw c.tail-tail.ensures at points)
    c.in_err-list.field-0.0 (c.in_err-list.ensures.rows image (c.look_at_start.ensures.effect.held ∙ told) (omega (arith, c.in_ok-head.ensures.fits))))

pub returns-in_err-look_at_tail-clause-rows : goal.returns-in_err-look_at_tail-clause-rows
returns-in_err-look_at_tail-clause-rows g c = λ image told long. rw (ended_by _ _ c.from_residual-in_err-look_at_tail.ensures.1)
    (let t = c.args.chunks.place in
    let points = sym (head_pointer image t 16 4 c.tail-tail.result c.in_ok-head.head (omega arith) (c.in_ok-head.ensures.says image told long)) ∙ sym c.points_to.ensures ∙ c.if-not-points_to.false in
    let told_then = c.look_at_start.ensures.effect.held ∙ told in
    breaks_list_tail image c.args.span.end c.args.used t c.args.chunks.count (rw c.table_length-length.ensures at (c.in_ok-head.ensures.rows image told long)) (rw c.tail-tail.ensures at points)
    c.in_err-look_at_tail.field-0.0 (c.in_ok-list.ensures.rows image told_then (omega (arith, c.in_ok-head.ensures.fits)))
    (rw c.tail-tail.ensures at (c.in_err-look_at_tail.ensures.rows image (c.look_at_chunk_entries.ensures.effect.held ∙ told_then) (omega (arith, c.in_ok-head.ensures.fits)))))

pub returns-then-not-has_room-clause-rows : goal.returns-then-not-has_room-clause-rows
returns-then-not-has_room-clause-rows g c = λ image told long.
    let t = c.args.chunks.place in
    let points = sym (head_pointer image t 16 4 c.tail-tail.result c.in_ok-head.head (omega arith) (c.in_ok-head.ensures.says image told long)) ∙ sym c.points_to.ensures ∙ c.if-not-points_to.false in
    let told_then = c.look_at_start.ensures.effect.held ∙ told in
    rw c.halt_at-then-not-has_room.ensures (breaks_list_room image c.args.span.end c.args.used t c.args.chunks.count (rw c.table_length-length.ensures at (c.in_ok-head.ensures.rows image told long)) (rw c.tail-tail.ensures at points)
    (c.in_ok-list.ensures.rows image told_then (omega (arith, c.in_ok-head.ensures.fits)))
    (rw c.tail-tail.ensures at (c.in_ok-look_at_tail.ensures.rows image (c.look_at_chunk_entries.ensures.effect.held ∙ told_then) (omega (arith, c.in_ok-head.ensures.fits))))
    (rw c.table_length-length.ensures at (sym c.has_room.ensures ∙ c.if-not-has_room.true)))

pub returns-clause-rows : goal.returns-clause-rows
returns-clause-rows g c = λ image told long.
    let t = c.args.chunks.place in
    let points = sym (head_pointer image t 16 4 c.tail-tail.result c.in_ok-head.head (omega arith) (c.in_ok-head.ensures.says image told long)) ∙ sym c.points_to.ensures ∙ c.if-not-points_to.false in
    let told_then = c.look_at_start.ensures.effect.held ∙ told in
    keeps_list image c.args.span.end c.args.used t c.args.chunks.count (rw c.table_length-length.ensures at (c.in_ok-head.ensures.rows image told long)) (rw c.tail-tail.ensures at points)
    (c.in_ok-list.ensures.rows image told_then (omega (arith, c.in_ok-head.ensures.fits)))
    (rw c.tail-tail.ensures at (c.in_ok-look_at_tail.ensures.rows image (c.look_at_chunk_entries.ensures.effect.held ∙ told_then) (omega (arith, c.in_ok-head.ensures.fits))))
    (rw c.table_length-length.ensures at (sym c.has_room.ensures ∙ c.if-not-has_room.false))

pub returns-clause-says : goal.returns-clause-says
returns-clause-says g c = λ image told long. c.in_ok-list.ensures.says image (c.look_at_start.ensures.effect.held ∙ told) (omega (arith, c.in_ok-head.ensures.fits))
