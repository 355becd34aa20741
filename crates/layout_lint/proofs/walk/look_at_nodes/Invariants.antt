use Rattle.std.proofs.Common.{◌+◌, ◌-◌}
use Rattle.cg_io.specs.Blocks.{ReadsFew}
use Rattle.cg_io.specs.Answers.{Told}
use Rattle.cg_io.specs.Pages.{IsReady}
use Rattle.layout_lint.specs.Heads.{IsHead}
use Rattle.layout_lint.specs.Walks.{IsSearch, waiting_in, spare}
use Rattle.layout_lint.specs.Shapes.{IsGoing}
use Rattle.layout_lint.proofs.walk.look_at_nodes.Given as goal

abbrev pub invariant-walk : goal.invariant-walk
invariant-walk g l = record {
  ready : IsReady (g.B.Blocks.is_sound l.blocks) (g.B.Blocks.state l.blocks).held l.page;
  effect : ReadsFew (spare l.search) (g.B.Blocks.state l.fn.blocks) (g.B.Blocks.state l.blocks);
  going : IsGoing l.head.span.wide l.head.span.end l.search;
  search : Told (g.B.Blocks.state l.fn.blocks).held (λ image. IsHead image l.head → IsSearch image (waiting_in image l.search.families.items) l.search);
}

abbrev pub decreases-walk : goal.decreases-walk
decreases-walk g l = l.head.span.end + 1 - l.search.used
