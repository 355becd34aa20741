use Rattle.adf_model.specs.Counts.{OnlyReads}
use Rattle.cg_io.specs.Pages.{IsReady}
use Rattle.adf_repack.specs.Measures.{AllFit, AreMeasured}
use Rattle.adf_repack.proofs.measuring.measure.Given as goal

abbrev pub invariant-loop-number : goal.invariant-loop-number
invariant-loop-number g l = record {
  ready : IsReady (g.B.Blocks.is_sound l.blocks) (g.B.Blocks.state l.blocks).held l.page;
  reads : OnlyReads (g.B.Blocks.state l.initial.blocks) (g.B.Blocks.state l.blocks);
  shapes : AreMeasured (g.B.Blocks.state l.initial.blocks).held l.wide l.nodes l.number l.shapes.items;
  fit : AllFit (g.B.Blocks.state l.initial.blocks).held l.wide l.to l.nodes l.number;
}
