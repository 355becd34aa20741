use Rattle.std.proofs.Common.{◌∙◌, sym, ap}
use Rattle.adf_format.specs.FirstFault.{has_room}
use Rattle.layout_lint.proofs.FreeLaws.{breaks_known, breaks_bytes, breaks_free_room, breaks_free_last, keeps_free}
use Rattle.layout_lint.proofs.ShapeLaws.{adds_more}
use Rattle.layout_lint.proofs.RowSteps.{ended_by}
use Rattle.layout_lint.proofs.lists.look_at_free.Goals as goal

pub returns-then-contains-clause-rows : goal.returns-then-contains-clause-rows
returns-then-contains-clause-rows g c = λ image told number long is.
    rw c.halt_at.ensures (breaks_known image c.args.span.end _ c.args.frees.now.used number c.args.at (sym c.contains.ensures ∙ c.if-contains.true))

pub returns-in_err-chunk-clause-rows : goal.returns-in_err-chunk-clause-rows
returns-in_err-chunk-clause-rows g c = λ image told number long is. rw (ended_by _ _ c.from_residual.ensures.1)
    (breaks_bytes image c.args.span.end _ c.args.frees.now.used number c.args.at (sym c.contains.ensures ∙ c.if-contains.false) c.in_err-chunk.field-0.0 (c.in_err-chunk.ensures.rows image told long))

pub returns-then-not-has_room-clause-rows : goal.returns-then-not-has_room-clause-rows
returns-then-not-has_room-clause-rows g c = λ image told number long is.
    rw c.halt_at-then-not-has_room.ensures (breaks_free_room image c.args.span.end _ c.args.frees.now.used number c.args.at (sym c.contains.ensures ∙ c.if-contains.false) (c.in_ok-chunk.ensures.rows image told long)
    (ap (has_room c.args.span.end c.args.frees.now.used) (sym (c.in_ok-chunk.ensures.length image told long)) ∙ sym c.has_room.ensures ∙ c.if-not-has_room.true))

pub returns-then-not-agrees-clause-rows : goal.returns-then-not-agrees-clause-rows
returns-then-not-agrees-clause-rows g c = λ image told number long is.
    rw c.halt_at-then-not-agrees.ensures (breaks_free_last image c.args.span.end _ c.args.frees.now.used number c.args.at (sym c.contains.ensures ∙ c.if-contains.false) (c.in_ok-chunk.ensures.rows image told long)
    (ap (has_room c.args.span.end c.args.frees.now.used) (sym (c.in_ok-chunk.ensures.length image told long)) ∙ sym c.has_room.ensures ∙ c.if-not-has_room.false)
    c.args.list c.in_ok-chunk.chunk.next is (c.in_ok-chunk.ensures.next image told long) (sym c.agrees.ensures ∙ c.if-not-agrees.true))

pub returns-in-Ok-clause-rows : goal.returns-in-Ok-clause-rows
returns-in-Ok-clause-rows g c = λ image told number long is.
    keeps_free image c.args.span.end _ c.args.frees.now.used number c.args.at (sym c.contains.ensures ∙ c.if-contains.false) (c.in_ok-chunk.ensures.rows image told long)
    (ap (has_room c.args.span.end c.args.frees.now.used) (sym (c.in_ok-chunk.ensures.length image told long)) ∙ sym c.has_room.ensures ∙ c.if-not-has_room.false)
    c.args.list c.in_ok-chunk.chunk.next is (c.in_ok-chunk.ensures.next image told long) (sym c.agrees.ensures ∙ c.if-not-agrees.false)

pub returns-in-Ok-clause-adds : goal.returns-in-Ok-clause-adds
returns-in-Ok-clause-adds g c = adds_more _ _ _ c.in-Ok.ensures.extents
