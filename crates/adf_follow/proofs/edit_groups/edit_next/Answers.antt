use Rattle.std.proofs.Common.{refl, inr}
use Rattle.adf_follow.proofs.Dropped.{waits_on, waits_no_more, waits_refused, of_none, cause_later}
use Rattle.adf_follow.proofs.edit_groups.edit_next.Goals as goal

pub returns-in-Ok-keep_made-clause-waiting : goal.returns-in-Ok-keep_made-clause-waiting
returns-in-Ok-keep_made-clause-waiting g c =
    waits_on c.args.group _ _ _ _ _ _ c.requires.waiting c.edit_one.ensures.waits.placed c.edit_one.ensures.kept c.in-Ok.number c.in-Ok.ensures.anyway.own c.in-Ok.ensures.anyway.left c.in-Ok.ensures.anyway.others

pub returns-in-Err-keep_made-clause-dropped : goal.returns-in-Err-keep_made-clause-dropped
returns-in-Err-keep_made-clause-dropped g c =
    let waits = waits_on c.args.group _ _ _ _ _ _ c.requires.waiting c.edit_one.ensures.waits.placed c.edit_one.ensures.kept c.in-Ok.number c.in-Ok.ensures.anyway.own c.in-Ok.ensures.anyway.left c.in-Ok.ensures.anyway.others in
    waits_no_more _ _ _ _ _ _ _ waits c.undo.ensures.waits.placed c.undo.ensures.kept c.in-Ok.number (inr refl) c.undo.ensures.undone.0 c.undo.ensures.undone.1 c.undo.ensures.others

pub returns-in-Some-clause-dropped : goal.returns-in-Some-clause-dropped
returns-in-Some-clause-dropped g c =
    let waits = waits_refused c.args.group _ _ _ _ _ _ c.requires.waiting c.edit_one.ensures.waits.placed c.edit_one.ensures.kept c.in-Err.ensures.undone in
    waits_no_more _ _ _ _ _ _ _ waits c.undo-in-Some.ensures.waits.placed c.undo-in-Some.ensures.kept c.in-Some.number (inr c.in-Some.is) c.undo-in-Some.ensures.undone.0 c.undo-in-Some.ensures.undone.1 c.undo-in-Some.ensures.others

pub returns-in-Some-clause-cause : goal.returns-in-Some-clause-cause
returns-in-Some-clause-cause g c = cause_later _ _ _ _ c.args.edit.now c.in-Err.error c.undo-in-Some.ensures.waits.devices c.in-Err.ensures.cause

pub returns-in-None-clause-dropped : goal.returns-in-None-clause-dropped
returns-in-None-clause-dropped g c =
    of_none c.args.group _ _ _ c.in-None.is (waits_refused c.args.group _ _ _ _ _ _ c.requires.waiting c.edit_one.ensures.waits.placed c.edit_one.ensures.kept c.in-Err.ensures.undone)
