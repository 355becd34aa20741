use Rattle.std.proofs.lemmas.Result.{IfErr-weaker}
use Rattle.layout_lint.specs.Halts.{IsWant}
use Rattle.layout_lint.proofs.GapLaws.{want_hole, want_cause, filled_more}
use Rattle.layout_lint.proofs.gaps.fill.Goals as goal

pub returns-clause-gaps : goal.returns-clause-gaps
returns-clause-gaps g c = rw (← filled_more c.args.gaps.now.items c.args.from c.args.to c.if-from-to.false) c.add_extent.ensures.added

pub returns-clause-hole : goal.returns-clause-hole
returns-clause-hole g c = IfErr-weaker c.add_extent.result IsWant _ (λ h w. λ image told within. want_hole image c.args.from c.args.to h w) c.add_extent.ensures.want

pub returns-clause-cause : goal.returns-clause-cause
returns-clause-cause g c = IfErr-weaker c.add_extent.result IsWant _ (λ h w. want_cause _ _ h w) c.add_extent.ensures.want
