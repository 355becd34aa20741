use Rattle.std.proofs.Common.{◌∙◌, sym, ap}
use Rattle.layout_lint.proofs.GapLaws.{want_stops, want_cause, passed_then, passed_else}
use Rattle.layout_lint.proofs.gaps.pass.Goals.{then-is_free+in_ok-add_extent, else-is_free}
use Rattle.layout_lint.proofs.RowSteps.{refused}
use Rattle.layout_lint.proofs.gaps.pass.Goals as goal

pub returns-in_err-add_extent-clause-stops : goal.returns-in_err-add_extent-clause-stops
returns-in_err-add_extent-clause-stops g c = refused _ _ _ c.from_residual-in_err-add_extent.ensures.1 (λ image told within. want_stops image c.args.reach c.args.extent c.in_err-add_extent.field-0.0 c.in_err-add_extent.ensures.want)

pub returns-in_err-add_extent-clause-cause : goal.returns-in_err-add_extent-clause-cause
returns-in_err-add_extent-clause-cause g c = refused _ _ _ c.from_residual-in_err-add_extent.ensures.1 (want_cause _ _ c.in_err-add_extent.field-0.0 c.in_err-add_extent.ensures.want)

pub returns-clause-gaps : goal.returns-clause-gaps
returns-clause-gaps g c = elim c.if-is_free.branch [
  | then-is_free+in_ok-add_extent w ↦ passed_then c.args.gaps.now.items c.fill.new.gaps.items c.if-is_free.gaps.items c.args.reach c.args.extent (sym c.is_free.ensures ∙ w.if-is_free.true) c.in_ok-fill.ensures.gaps (ap (λ v. v.items) w.gaps-is ∙ w.in_ok-add_extent.ensures.added)
  | else-is_free w ↦ ap (λ v. v.items) w.gaps-is ∙ passed_else c.args.gaps.now.items c.fill.new.gaps.items c.args.reach c.args.extent (sym c.is_free.ensures ∙ w.if-is_free.false) c.in_ok-fill.ensures.gaps
]
