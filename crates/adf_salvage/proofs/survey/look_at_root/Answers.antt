use Rattle.std.proofs.Common.{refl, false}
use Rattle.std.specs.Prelude.{None}
use Rattle.layout_lint.proofs.RowSteps.{refused}
use Rattle.adf_salvage.proofs.GoingLaws.{root_going}
use Rattle.adf_salvage.proofs.StepLaws.{root_kept, root_out, no_rule}
use Rattle.adf_salvage.proofs.survey.look_at_root.Goals as goal

pub returns-in_err-next-clause-stops : goal.returns-in_err-next-clause-stops
returns-in_err-next-clause-stops g c = refused _ _ _ c.from_residual.ensures.1 (λ image told start.
    root_out image c.args.start.now start false 266 c.in_err-next.field-0.0 refl refl (c.in_err-next.ensures.rows image told start.span.inside))

pub returns-in-Ok-clause-begun : goal.returns-in-Ok-clause-begun
returns-in-Ok-clause-begun g c = λ image told start.
    root_kept image c.args.start.now start c.begin-progress.result c.keep.new.progress false 266 c.in_ok-next.next c.begin-progress.ensures refl refl
    (c.in_ok-next.ensures.rows image told start.span.inside) (c.in_ok-next.ensures.leads image told start.span.inside) c.in-Ok.ensures.kept

pub returns-in-Ok-clause-going : goal.returns-in-Ok-clause-going
returns-in-Ok-clause-going g c =
    root_going c.args.start.now.span.wide c.args.start.now.span.end c.begin-progress.result c.keep.new.progress (record { place = c.args.start.now.root; entry = None; parent = 0; position = 0; depth = 0 }) 266 c.in_ok-next.next c.begin-progress.ensures
    (record { parent = refl; position = refl; depth = refl }) c.in_ok-next.ensures.next c.in_ok-next.ensures.inside c.in-Ok.ensures.kept

pub returns-clause-stops : goal.returns-clause-stops
returns-clause-stops g c = λ image told start. no_rule image c.in-Err.halt c.in-Err.ensures.want
