use Rattle.std.proofs.Common.{◌∙◌, sym, ap, refl, inl}
use Rattle.adf_model.specs.Edits.{named_nodes}
use Rattle.adf_model.specs.Calls.{tests_at_entry}
use Rattle.adf_follow.specs.Groups.{Pending}
use Rattle.adf_follow.proofs.Entered.{passes_refused}
use Rattle.adf_follow.proofs.DoneEdit.{all_there, entered_open, open_there, one_done}
use Rattle.adf_follow.proofs.RefusedEdit.{entry_refuses, link_refuses, other_refuses, step_refuses, trees_or_own, told_refusal, group_own, group_opens, entry_anyway, link_anyway, other_anyway, step_anyway, step_undone, done_anyway}
use Rattle.adf_follow.proofs.edits.edit_one.Goals as goal

pub lead-requires-clause-entered : goal.lead-requires-clause-entered
lead-requires-clause-entered g c = passes_refused (tests_at_entry (g.F.OpenFiles.files c.args.files.now) (named_nodes c.args.edit.now)) c.in-Ok.ensures

pub step-requires-clause-opened : goal.step-requires-clause-opened
step-requires-clause-opened g c =
    open_there _ _ c.args.edit.now c.in-Ok-lead.there c.group_file-number.result c.lead.ensures.leaves.files_stay (c.in-Ok-lead.ensures.opens (entered_open _ (named_nodes c.args.edit.now) c.in-Ok.ensures))
    (sym c.is_elsewhere.ensures ∙ c.if-is_elsewhere.false)

-- ---- refused at the entry

pub returns-in-Err-clause-refused : goal.returns-in-Err-clause-refused
returns-in-Err-clause-refused g c = λ told. entry_refuses _ _ c.args.group c.args.edit.now c.in-Err.error c.in-Err.ensures

pub returns-in-Err-clause-cause : goal.returns-in-Err-clause-cause
returns-in-Err-clause-cause g c = entry_anyway _ _ _ c.args.edit.now c.in-Err.error c.in-Err.ensures

pub returns-in-Err-clause-undone : goal.returns-in-Err-clause-undone
returns-in-Err-clause-undone g c = inl (refl, refl)

-- ---- refused by links

pub returns-in-Err-lead-clause-kept : goal.returns-in-Err-lead-clause-kept
returns-in-Err-lead-clause-kept g c = ap (λ (p : Pending). p.kept) c.lead.ensures.pending

pub returns-in-Err-lead-clause-refused : goal.returns-in-Err-lead-clause-refused
returns-in-Err-lead-clause-refused g c = link_refuses _ _ c.args.group c.args.edit.now c.in-Ok.ensures _ _ _ c.in-Err-lead.error c.in-Err-lead.ensures.found

pub returns-in-Err-lead-clause-cause : goal.returns-in-Err-lead-clause-cause
returns-in-Err-lead-clause-cause g c = link_anyway _ _ _ c.args.edit.now _ _ c.in-Err-lead.error c.in-Ok.ensures c.in-Err-lead.ensures.follows c.in-Err-lead.ensures.found

pub returns-in-Err-lead-clause-undone : goal.returns-in-Err-lead-clause-undone
returns-in-Err-lead-clause-undone g c = inl (c.lead.ensures.leaves.files_stay, c.lead.ensures.pending)

-- ---- refused for another file

pub returns-then-is_elsewhere-clause-kept : goal.returns-then-is_elsewhere-clause-kept
returns-then-is_elsewhere-clause-kept g c = ap (λ (p : Pending). p.kept) c.lead.ensures.pending

pub returns-then-is_elsewhere-clause-refused : goal.returns-then-is_elsewhere-clause-refused
returns-then-is_elsewhere-clause-refused g c = λ told.
    other_refuses _ (g.F.OpenFiles.pending c.args.files.now).work c.args.group c.args.edit.now c.in-Ok.ensures c.in-Ok-lead.there c.group_file-number.result (c.in-Ok-lead.ensures.found told) c.group_file-number.ensures
    (group_opens _ c.args.group c.args.edit.now c.in-Ok-lead.there c.group_file-number.result c.group_file-number.ensures c.requires.own (c.in-Ok-lead.ensures.opens (entered_open _ (named_nodes c.args.edit.now) c.in-Ok.ensures)))
    (sym c.is_elsewhere.ensures ∙ c.if-is_elsewhere.true)

pub returns-then-is_elsewhere-clause-cause : goal.returns-then-is_elsewhere-clause-cause
returns-then-is_elsewhere-clause-cause g c = other_anyway _ _ _ c.args.edit.now c.in-Ok.ensures

pub returns-then-is_elsewhere-clause-undone : goal.returns-then-is_elsewhere-clause-undone
returns-then-is_elsewhere-clause-undone g c = inl (c.lead.ensures.leaves.files_stay, c.lead.ensures.pending)

-- ---- refused by its file

pub returns-in-Err-step-clause-kept : goal.returns-in-Err-step-clause-kept
returns-in-Err-step-clause-kept g c = c.step.ensures.kept ∙ ap (λ (p : Pending). p.kept) c.lead.ensures.pending

pub returns-in-Err-step-clause-refused : goal.returns-in-Err-step-clause-refused
returns-in-Err-step-clause-refused g c = λ told.
    let led = c.in-Ok-lead.ensures.found told in
    let stands = all_there c.group_file-number.result _ (sym c.is_elsewhere.ensures ∙ c.if-is_elsewhere.false) in
    step_refuses _ _ c.args.group c.args.edit.now c.in-Ok.ensures c.in-Ok-lead.there c.group_file-number.result led (group_own c.args.group _ c.group_file-number.result c.group_file-number.ensures) stands
    (trees_or_own _ _ c.args.edit.now c.in-Ok.ensures c.in-Ok-lead.there c.group_file-number.result led stands told) c.in-Err-step.error
    (told_refusal _ _ _ _ _ _ c.args.edit.now c.in-Ok.ensures c.in-Ok-lead.there c.group_file-number.result c.in-Err-step.error c.lead.ensures.leaves (ap (λ (p : Pending). p.work) c.lead.ensures.pending) led stands c.in-Err-step.ensures.refused told)

pub returns-in-Err-step-clause-cause : goal.returns-in-Err-step-clause-cause
returns-in-Err-step-clause-cause g c = step_anyway _ _ _ c.args.edit.now _ _ c.group_file-number.result c.in-Err-step.error c.lead.ensures.leaves c.in-Ok.ensures c.in-Err-step.ensures.cause

pub returns-in-Err-step-clause-undone : goal.returns-in-Err-step-clause-undone
returns-in-Err-step-clause-undone g c =
    step_undone _ _ _ _ _ _ _ c.args.group c.group_file-number.result c.lead.ensures.leaves.files_stay c.lead.ensures.pending (group_own c.args.group _ c.group_file-number.result c.group_file-number.ensures) c.in-Err-step.ensures.undone c.step.ensures.kept c.step.ensures.others

-- ---- done

pub returns-in-Ok-step-clause-kept : goal.returns-in-Ok-step-clause-kept
returns-in-Ok-step-clause-kept g c = c.step.ensures.kept ∙ ap (λ (p : Pending). p.kept) c.lead.ensures.pending

pub returns-in-Ok-step-clause-anyway : goal.returns-in-Ok-step-clause-anyway
returns-in-Ok-step-clause-anyway g c =
    done_anyway _ _ _ _ _ _ c.args.group c.args.edit.now c.in-Ok-lead.there c.group_file-number.result c.lead.ensures.leaves.files_stay c.lead.ensures.pending c.in-Ok.ensures (group_own c.args.group _ c.group_file-number.result c.group_file-number.ensures)
    (sym c.is_elsewhere.ensures ∙ c.if-is_elsewhere.false) c.in-Ok-step.ensures.editing c.step.ensures.only c.step.ensures.others

pub returns-in-Ok-step-clause-done : goal.returns-in-Ok-step-clause-done
returns-in-Ok-step-clause-done g c =
    one_done _ _ c.args.edit.now c.in-Ok.ensures _ _ _ _ _ _ c.args.group c.in-Ok-lead.there c.group_file-number.result c.in-Ok-step.serial c.lead.ensures.leaves (ap (λ (p : Pending). p.work) c.lead.ensures.pending) c.in-Ok-lead.ensures.found
    (group_own c.args.group _ c.group_file-number.result c.group_file-number.ensures)
    (sym c.is_elsewhere.ensures ∙ c.if-is_elsewhere.false) c.in-Ok-step.ensures.done
