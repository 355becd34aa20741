use Rattle.std.proofs.Common.{◌+◌, ◌++◌, ◌∷◌, [], arith}
use Rattle.std.proofs.lemmas.Result.{IfOk-from_err}
use Rattle.tool_commands.proofs.OpeningLaws.{first_at, next_is, then_on_way, then_opens}
use Rattle.tool_commands.proofs.checks.open_files.Goals as goal

pub returns-in_err-open_file-clause-opens : goal.returns-in_err-open_file-clause-opens
returns-in_err-open_file-clause-opens g c =
    let opened = c.open_file.ensures.opens in
    (opened.outcome ∷ [], first_at c.args.files.now c.first-item.result _ _ _ _ opened.outcome c.requires.files c.first-item.is opened.made, IfOk-from_err c.from_residual.result _ c.from_residual.ensures.0)

pub returns-in_err-open_file-2-clause-opens : goal.returns-in_err-open_file-2-clause-opens
returns-in_err-open_file-2-clause-opens g c =
    let opened = c.open_file-in-loop-file.ensures.opens in (
      c.loop-file.outcomes.items ++ opened.outcome ∷ [],
      then_opens c.args.files.now (c.loop-file.file-index + 1) c.file-item.result c.loop-file.outcomes.items _ _ _ _ _ _ opened.outcome c.loop-file.invariant.way
          (next_is c.args.files.now c.loop-file.file-index c.file-item.result (let t = c.loop-file-test.true in let e = c.loop-file.auto.file-index-end in omega (arith, t, e)) c.file-item.is) (let t = c.loop-file-test.true in let e = c.loop-file.auto.file-index-end in omega (arith, t, e)) opened.made,
      IfOk-from_err c.from_residual-in_err-open_file-2.result _ c.from_residual-in_err-open_file-2.ensures.0,
    )

pub loop-file-preserved : goal.loop-file-preserved
loop-file-preserved g c =
    let opened = c.in_ok-open_file-2.ensures.opens in record {
      ready = c.open_file-in-loop-file.ensures.ready;
      way = then_on_way c.args.files.now (c.loop-file.file-index + 1) c.file-item.result c.loop-file.outcomes.items c.open_file-in-loop-file.new.outcomes.items _ _ _ _ _ _ opened.outcome c.loop-file.invariant.way
          (next_is c.args.files.now c.loop-file.file-index c.file-item.result (let t = c.loop-file-test.true in let e = c.loop-file.auto.file-index-end in omega (arith, t, e)) c.file-item.is) (let t = c.loop-file-test.true in let e = c.loop-file.auto.file-index-end in omega (arith, t, e)) opened.made opened.added.memory opened.added.behind;
    }
