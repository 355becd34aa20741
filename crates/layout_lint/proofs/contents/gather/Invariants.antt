use Rattle.std.proofs.Common.{◌≡◌, ◌-◌, ◌≤◌, ◌<◌, ◌++◌, ℕ, List, map, length, take, drop}
use Rattle.std.specs.List.{All}
use Rattle.cg_io.specs.Blocks.{ReadsFew}
use Rattle.adf_format.specs.FirstFault.{ChunkVisit, payloads_in}
use Rattle.cg_io.specs.Answers.{Told}
use Rattle.cg_io.specs.Pages.{IsReady}
use Rattle.layout_lint.specs.Chunks.{data_extent, IsChunk}
use Rattle.layout_lint.proofs.contents.gather.Given as goal

abbrev pub invariant-loop-chunk : goal.invariant-loop-chunk
invariant-loop-chunk g l = record {
  inside : l.done ≤ length l.into;
  ready : IsReady (g.B.Blocks.is_sound l.blocks) (g.B.Blocks.state l.blocks).held l.page;
  effect : ReadsFew l.done (g.B.Blocks.state l.initial.blocks) (g.B.Blocks.state l.blocks);
  taken : Told (g.B.Blocks.state l.initial.blocks).held (λ image. (end : ℕ) (visits : List ChunkVisit) → end < length image → All (IsChunk end) l.chunks → l.chunks ≡ map (data_extent image) visits
      → take (length l.initial.into) (payloads_in image visits) ≡ take l.done l.into ++ take (length l.initial.into - l.done) (payloads_in image (drop l.chunk-index visits)));
}
