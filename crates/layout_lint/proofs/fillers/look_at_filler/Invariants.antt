use Rattle.std.proofs.Common.{length, ◌-◌, ◌≡◌, ◌⊎◌, ◌%◌, ◌≤◌}
use Rattle.cg_io.specs.Blocks.{ReadsFew, blocks_of}
use Rattle.layout_laws.specs.TilePass.{AreBlank}
use Rattle.cg_io.specs.Answers.{Told}
use Rattle.cg_io.specs.Pages.{IsReady}
use Rattle.layout_lint.proofs.fillers.look_at_filler.Given as goal

abbrev pub invariant-loop-at : goal.invariant-loop-at
invariant-loop-at g l = record {
  above : l.from ≤ l.at;
  inside : l.at ≤ l.to;
  ready : IsReady (g.B.Blocks.is_sound l.blocks) (g.B.Blocks.state l.blocks).held l.page;
  blank : Told (g.B.Blocks.state l.initial.blocks).held (λ image. l.to ≤ length image → AreBlank image l.from l.at);
  effect : ReadsFew (blocks_of l.from (l.at - l.from)) (g.B.Blocks.state l.initial.blocks) (g.B.Blocks.state l.blocks);
  edge : (l.at ≡ l.from) ⊎ ((l.at ≡ l.to) ⊎ (l.at % 4096 ≡ 0));
}

abbrev pub decreases-loop-at : goal.decreases-loop-at
decreases-loop-at g l = l.to - l.at
