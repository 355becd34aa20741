use Rattle.std.proofs.Common.{length, ◌+◌, ◌<◌, ◌≤◌}
use Rattle.cg_io.specs.Blocks.{ReadsFew}
use Rattle.cg_io.specs.Answers.{Told}
use Rattle.cg_io.specs.Pages.{IsReady}
use Rattle.layout_lint.proofs.SetLaws.{blanks}
use Rattle.layout_lint.proofs.TilingLaws.{IsAt}
use Rattle.layout_lint.proofs.gaps.look_at_tiling.Given as goal

abbrev pub invariant-loop-k : goal.invariant-loop-k
invariant-loop-k g l = record {
  ready : IsReady (g.B.Blocks.is_sound l.blocks) (g.B.Blocks.state l.blocks).held l.page;
  effect : ReadsFew l.reach (g.B.Blocks.state l.initial.blocks) (g.B.Blocks.state l.blocks);
  near : l.reach ≤ l.span.end + 1;
  at : Told (g.B.Blocks.state l.initial.blocks).held (λ image. l.span.end < length image → IsAt image l.extents.items l.k l.reach l.gaps.items);
  plain : IsAt (blanks (l.span.end + 1)) l.extents.items l.k l.reach l.gaps.items;
}
