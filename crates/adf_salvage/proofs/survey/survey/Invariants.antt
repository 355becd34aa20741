use Rattle.adf_model.specs.Counts.{OnlyReads}
use Rattle.cg_io.specs.Answers.{Told}
use Rattle.cg_io.specs.Pages.{IsReady}
use Rattle.layout_lint.specs.Walks.{waiting_in}
use Rattle.adf_salvage.specs.Surveys.{IsStart, IsGoing, IsSurvey, ahead}
use Rattle.adf_salvage.proofs.survey.survey.Given as goal

abbrev pub invariant-walk : goal.invariant-walk
invariant-walk g l = record {
  ready : IsReady (g.B.Blocks.is_sound l.blocks) (g.B.Blocks.state l.blocks).held l.page;
  reads : OnlyReads (g.B.Blocks.state l.fn.blocks) (g.B.Blocks.state l.blocks);
  going : IsGoing l.start.span.wide l.start.span.end l.progress;
  survey : Told (g.B.Blocks.state l.fn.blocks).held (λ image. IsStart image l.start → IsSurvey image (waiting_in image l.progress.families.items) l.progress);
}

abbrev pub decreases-walk : goal.decreases-walk
decreases-walk g l = ahead l.start.span.end l.progress
