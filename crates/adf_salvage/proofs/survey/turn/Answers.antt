use Rattle.std.proofs.Common.{refl, subst}
use Rattle.std.proofs.lemmas.Result.{on_ok_weaker}
use Rattle.adf_format.specs.FirstFault.{node_rows_at}
use Rattle.layout_lint.specs.Halts.{Breaks, MayLackMemory}
use Rattle.adf_salvage.specs.Surveys.{Keeps, Omits}
use Rattle.adf_salvage.proofs.GoingLaws.{kept_going, omitted_going}
use Rattle.adf_salvage.proofs.StepLaws.{keeps_so, omits_so}
use Rattle.adf_salvage.proofs.survey.turn.Goals as goal

pub returns-in-Ok-clause-goes_on : goal.returns-in-Ok-clause-goes_on
returns-in-Ok-clause-goes_on g c = on_ok_weaker c.keep.result (λ (keeps : Keeps c.args.met.now c.in-Ok.next c.enter.new.progress c.keep.new.progress). λ image told reach next.
    keeps_so image c.args.span.wide c.args.span.end reach.wide reach.end c.args.progress.now c.enter.new.progress c.keep.new.progress c.args.met.now c.args.name.now c.contains-known.result c.args.progress.now.used c.in-Ok.next next
    c.contains-known.ensures refl (c.in-Ok.ensures.rows image told reach.inside) (c.in-Ok.ensures.leads image told reach.inside) c.requires.named c.in_ok-enter-in-Ok.ensures.entered keeps) c.keep.ensures.kept

pub returns-in-Ok-clause-going : goal.returns-in-Ok-clause-going
returns-in-Ok-clause-going g c = on_ok_weaker c.keep.result (λ (keeps : Keeps c.args.met.now c.in-Ok.next c.enter.new.progress c.keep.new.progress).
    kept_going c.args.span.wide c.args.span.end c.args.progress.now c.enter.new.progress c.keep.new.progress c.args.met.now c.args.name.now c.args.progress.now.used c.in-Ok.next
    c.requires.going c.requires.deep c.requires.named c.requires.follows refl c.in-Ok.ensures.next c.in-Ok.ensures.inside c.in_ok-enter-in-Ok.ensures.entered keeps) c.keep.ensures.kept

pub returns-in-Err-Broken-clause-goes_on : goal.returns-in-Err-Broken-clause-goes_on
returns-in-Err-Broken-clause-goes_on g c = on_ok_weaker c.omit.result (λ (omits : Omits c.args.name.now c.in-Err-Broken.fault c.args.progress.now c.omit.new.progress). λ image told reach next.
    omits_so image c.args.span.wide c.args.span.end reach.wide reach.end c.args.progress.now c.omit.new.progress c.args.met.now c.args.name.now c.contains-known.result c.args.progress.now.used c.in-Err-Broken.fault next
    c.contains-known.ensures refl
    (subst (Breaks (node_rows_at image c.args.span.wide c.args.span.end c.contains-known.result c.args.progress.now.used c.args.met.now.place c.args.met.now.entry c.args.met.now.depth)) c.in-Err-Broken.field-0-is
    (c.in-Err-Broken.ensures.rows image told reach.inside)) omits) c.omit.ensures.omitted

pub returns-in-Err-Broken-clause-going : goal.returns-in-Err-Broken-clause-going
returns-in-Err-Broken-clause-going g c = on_ok_weaker c.omit.result (λ (omits : Omits c.args.name.now c.in-Err-Broken.fault c.args.progress.now c.omit.new.progress).
    omitted_going c.args.span.wide c.args.span.end c.args.progress.now c.omit.new.progress c.args.name.now c.in-Err-Broken.fault c.requires.going omits
    (subst (MayLackMemory (g.B.Blocks.state c.args.blocks.now).faults (g.B.Blocks.state c.look.new.blocks).faults) c.in-Err-Broken.field-0-is c.in-Err-Broken.ensures.cause)) c.omit.ensures.omitted
