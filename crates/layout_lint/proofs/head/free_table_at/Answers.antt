use Rattle.std.proofs.Common.{◌≡◌, ◌+◌, subst, None, Some}
use Rattle.adf_format.specs.Checks.{first_broken}
use Rattle.adf_format.specs.FirstFault.{free_table_rows}
use Rattle.layout_lint.proofs.HeadLaws.{free_kept, free_broken}
use Rattle.layout_laws.proofs.RuleRows.{free_table_rule}
use Rattle.layout_lint.proofs.head.free_table_at.Goals as goal

pub returns-in-Ok-clause-rows : goal.returns-in-Ok-clause-rows
returns-in-Ok-clause-rows g c = λ image told long.
    subst (λ bytes. first_broken (free_table_rows 186 bytes) ≡ None) (c.in_ok-bytes.ensures.told image told long) (free_kept c.in_ok-bytes.bytes c.in-Ok.ensures.sound)

pub returns-in-Err-clause-rows : goal.returns-in-Err-clause-rows
returns-in-Err-clause-rows g c = λ image told long.
    rw (c.halt_at.ensures, c.from.ensures) (subst (λ bytes. first_broken (free_table_rows 186 bytes) ≡ Some (record { rule = c.in-Err.bad.rule; place = 186 + c.in-Err.bad.offset }))
    (c.in_ok-bytes.ensures.told image told long) (free_broken c.in_ok-bytes.bytes c.in-Err.bad c.in-Err.ensures.bad))

pub returns-in-Err-clause-cause : goal.returns-in-Err-clause-cause
returns-in-Err-clause-cause g c = rw c.halt_at.ensures (free_table_rule 0 _ _ c.in-Err.ensures.bad)
