use Rattle.std.proofs.Common.{◌∙◌, length}
use Rattle.layout_lint.proofs.ChildrenLaws.{no_table, breaks_table, breaks_entries, keeps_children, entries_within}
use Rattle.layout_lint.proofs.RowSteps.{ended_by}
use Rattle.layout_lint.proofs.look.look_at_children.Goals as goal

pub returns-then-table-eq0-clause-rows : goal.returns-then-table-eq0-clause-rows
returns-then-table-eq0-clause-rows g c = λ image told long.
    no_table image c.args.span.end c.args.used c.args.header.now c.table_of-table.result c.table_of-table.ensures.value c.if-table-eq0.true c.requires.fewer

pub returns-in_err-look_at_table-clause-rows : goal.returns-in_err-look_at_table-clause-rows
returns-in_err-look_at_table-clause-rows g c = λ image told long. rw (ended_by _ _ c.from_residual.ensures.1)
    (breaks_table image c.args.span.end c.args.used c.args.header.now c.table_of-table.result c.table_of-table.ensures.value c.if-table-eq0.false c.in_err-look_at_table.field-0.0 (c.in_err-look_at_table.ensures.rows image told long))

pub returns-in_err-look_at_entries-clause-rows : goal.returns-in_err-look_at_entries-clause-rows
returns-in_err-look_at_entries-clause-rows g c = λ image told long. rw (ended_by _ _ c.from_residual-in_err-look_at_entries.ensures.1)
    (let within = entries_within c.args.span.end (length image) c.args.header.now c.table_of-table.result c.table_of-table.ensures.value c.requires.fewer c.in_ok-look_at_table.ensures.fits.1 long in
    breaks_entries image c.args.span.end c.args.used c.args.header.now c.table_of-table.result c.table_of-table.ensures.value c.if-table-eq0.false c.in_err-look_at_entries.field-0.0 (c.in_ok-look_at_table.ensures.rows image told long)
    (c.in_err-look_at_entries.ensures.rows image (c.look_at_table.ensures.effect.held ∙ told) within))

pub returns-in-Ok-clause-rows : goal.returns-in-Ok-clause-rows
returns-in-Ok-clause-rows g c = λ image told long.
    let within = entries_within c.args.span.end (length image) c.args.header.now c.table_of-table.result c.table_of-table.ensures.value c.requires.fewer c.in_ok-look_at_table.ensures.fits.1 long in
    keeps_children image c.args.span.end c.args.used c.args.header.now c.table_of-table.result c.table_of-table.ensures.value c.if-table-eq0.false (c.in_ok-look_at_table.ensures.rows image told long)
    (c.in_ok-look_at_entries.ensures.rows image (c.look_at_table.ensures.effect.held ∙ told) within)
