use Rattle.std.proofs.Common.{◌∙◌, sym}
use Rattle.tool_commands.proofs.CheckLaws.{check_told, first_told, refusals_named}
use Rattle.tool_commands.proofs.OpeningLaws.{first_is}
use Rattle.tool_commands.proofs.checks.check_files.Goals as goal

pub closed_text-requires-clause-rules : goal.closed_text-requires-clause-rules
closed_text-requires-clause-rules g c =
    let opens = c.in-Ok.ensures.opens in
    refusals_named c.args.set c.args.files.now _ _ _ _ opens.0 opens.1 c.deref-outcomes.result.now (c.deref-outcomes.ensures.value ∙ opens.2.0)

pub check_first-requires-clause-open_file : goal.check_first-requires-clause-open_file
check_first-requires-clause-open_file g c =
    let opens = c.in-Ok.ensures.opens in
    (first_told c.args.set c.args.files.now _ _ _ _ opens.0 opens.1 c.requires.files c.deref-outcomes.result.now c.first-item.result.number (c.deref-outcomes.ensures.value ∙ opens.2.0)
    (sym c.is_first_open.ensures ∙ c.if-is_first_open.true) (first_is c.args.files.now c.first-item.result c.requires.files c.first-item.is)).0

pub check_first-requires-clause-whole : goal.check_first-requires-clause-whole
check_first-requires-clause-whole g c =
    let opens = c.in-Ok.ensures.opens in
    (first_told c.args.set c.args.files.now _ _ _ _ opens.0 opens.1 c.requires.files c.deref-outcomes.result.now c.first-item.result.number (c.deref-outcomes.ensures.value ∙ opens.2.0)
    (sym c.is_first_open.ensures ∙ c.if-is_first_open.true) (first_is c.args.files.now c.first-item.result c.requires.files c.first-item.is)).1

pub returns-in-Ok-print-clause-checked : goal.returns-in-Ok-print-clause-checked
returns-in-Ok-print-clause-checked g c =
    let opens = c.in-Ok.ensures.opens in
    check_told c.args.set c.args.files.now _ _ _ _ opens.0 opens.1 opens.2.1 c.deref-outcomes.result.now c.first-item.result.number c.deref.result.now _ _ _ _ _ _
    (c.deref-outcomes.ensures.value ∙ opens.2.0) (sym c.is_first_open.ensures ∙ c.if-is_first_open.true) (first_is c.args.files.now c.first-item.result c.requires.files c.first-item.is)
    (c.deref.ensures.value ∙ c.in-Ok-closed_text.ensures) c.in-Ok-print.ensures.whole c.in-Ok-print.ensures.cause.later c.check_first.ensures.stay c.check_first.ensures.checks
