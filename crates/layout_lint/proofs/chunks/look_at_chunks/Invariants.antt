use Rattle.std.proofs.Common.{◌≡◌, ◌+◌, ◌-◌, ◌*◌, ◌≤◌, ◌<◌, ◌++◌, ℕ, List, map, length}
use Rattle.std.specs.List.{range_with_len}
use Rattle.cg_io.specs.Blocks.{ReadsFew}
use Rattle.adf_format.specs.Tiles.{total_length}
use Rattle.adf_format.specs.Checks.{first_broken}
use Rattle.adf_format.specs.FirstFault.{ChunkVisit, chunk_rows, payload_total}
use Rattle.cg_io.specs.Answers.{Told}
use Rattle.cg_io.specs.Pages.{IsReady}
use Rattle.layout_lint.specs.Chunks.{AreListed, chunk_visit, chunk_list, data_extent, AddsChunks}
use Rattle.layout_lint.proofs.chunks.look_at_chunks.Given as goal

abbrev pub invariant-loop-position : goal.invariant-loop-position
invariant-loop-position g l =
    let left : List ℕ → List ChunkVisit = λ image. map (chunk_visit image l.chunks.place l.chunks.count) (range_with_len l.position (l.chunks.count - l.position)) in
    record {
      ready : IsReady (g.B.Blocks.is_sound l.blocks) (g.B.Blocks.state l.blocks).held l.page;
      effect : ReadsFew (4 * l.position) (g.B.Blocks.state l.initial.blocks) (g.B.Blocks.state l.blocks);
      low : l.sums.used ≡ l.used + 20 * l.position + l.sums.payload;
      room : l.sums.used ≤ l.span.end + 1;
      adds : AddsChunks l.span.end l.position l.initial.extents.items l.extents.items;
      rest : Told (g.B.Blocks.state l.initial.blocks).held (λ image. l.span.end < length image → AreListed image l.chunks.place l.chunks.count l.list
          → first_broken (chunk_rows image l.span.end l.used (chunk_list image l.chunks.place l.chunks.count)) ≡ first_broken (chunk_rows image l.span.end l.sums.used (left image)));
      all : Told (g.B.Blocks.state l.initial.blocks).held (λ image. l.span.end < length image → AreListed image l.chunks.place l.chunks.count l.list
          → l.used + total_length (map (data_extent image) (chunk_list image l.chunks.place l.chunks.count)) ≡ l.sums.used + total_length (map (data_extent image) (left image)));
      payload : Told (g.B.Blocks.state l.initial.blocks).held (λ image. l.span.end < length image → AreListed image l.chunks.place l.chunks.count l.list
          → payload_total image (chunk_list image l.chunks.place l.chunks.count) ≡ l.sums.payload + payload_total image (left image));
      extents : Told (g.B.Blocks.state l.initial.blocks).held (λ image. l.span.end < length image → AreListed image l.chunks.place l.chunks.count l.list
          → l.initial.extents.items ++ map (data_extent image) (chunk_list image l.chunks.place l.chunks.count) ≡ l.extents.items ++ map (data_extent image) (left image));
    }
