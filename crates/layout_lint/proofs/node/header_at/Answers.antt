use Rattle.std.proofs.Common.{◌∙◌, ap, sym, arith}
use Rattle.adf_format.specs.Checks.{first_broken}
use Rattle.layout_lint.proofs.NodeLaws.{node_kept, node_broken, rows_read}
use Rattle.layout_laws.proofs.RuleRows.{node_rule}
use Rattle.layout_lint.proofs.node.header_at.Goals as goal

pub returns-in-Ok-clause-rows : goal.returns-in-Ok-clause-rows
returns-in-Ok-clause-rows g c = λ image told within.
    let bytes = c.in_ok-bytes.ensures.told image told (omega (arith, c.requires.long)) in
    ap first_broken (sym (rows_read image c.args.wide c.is_named-named.result c.args.met.now.place g.row.N c.args.met.now.entry c.in_ok-bytes.bytes c.requires.long bytes c.is_named-named.ensures))
    ∙ node_kept c.args.wide c.is_named-named.result c.args.met.now.place c.in_ok-bytes.bytes c.in-Ok.ensures.sound

pub returns-in-Err-clause-rows : goal.returns-in-Err-clause-rows
returns-in-Err-clause-rows g c = λ image told within.
    let bytes = c.in_ok-bytes.ensures.told image told (omega (arith, c.requires.long)) in
    rw (c.halt_at.ensures, c.from.ensures) (ap first_broken (sym (rows_read image c.args.wide c.is_named-named.result c.args.met.now.place g.row.N c.args.met.now.entry c.in_ok-bytes.bytes c.requires.long bytes c.is_named-named.ensures))
    ∙ node_broken c.args.wide c.is_named-named.result c.args.met.now.place c.in_ok-bytes.bytes c.in-Err.bad c.in-Err.ensures.bad)

pub returns-in-Err-clause-cause : goal.returns-in-Err-clause-cause
returns-in-Err-clause-cause g c = rw c.halt_at.ensures (node_rule _ _ _ _ _ c.in-Err.ensures.bad)
