use Rattle.std.proofs.Common.{◌≡◌, ◌+◌, ◌-◌, ◌*◌, ◌≤◌, map, length}
use Rattle.std.specs.List.{All, range_with_len}
use Rattle.cg_io.specs.Blocks.{ReadsFew}
use Rattle.adf_format.specs.Checks.{first_broken}
use Rattle.adf_format.specs.FirstFault.{count_up}
use Rattle.cg_io.specs.Answers.{Told}
use Rattle.cg_io.specs.Pages.{IsReady}
use Rattle.layout_lint.specs.Chunks.{chunk_entry_row, entry_visit, listed_chunks, IsNear}
use Rattle.layout_lint.proofs.chunks.look_at_chunk_entries.Given as goal

abbrev pub invariant-loop-position : goal.invariant-loop-position
invariant-loop-position g l = record {
  ready : IsReady (g.B.Blocks.is_sound l.blocks) (g.B.Blocks.state l.blocks).held l.page;
  effect : ReadsFew (2 * l.position) (g.B.Blocks.state l.initial.blocks) (g.B.Blocks.state l.blocks);
  rest : Told (g.B.Blocks.state l.initial.blocks).held (λ image. l.chunks.place + 16 + 24 * l.chunks.count ≤ length image
      → first_broken (map (λ i. chunk_entry_row image (l.chunks.place + 16 + 24 * i)) (count_up l.chunks.count)) ≡ first_broken (map (λ i. chunk_entry_row image (l.chunks.place + 16 + 24 * i)) (range_with_len l.position (l.chunks.count - l.position))));
  said : Told (g.B.Blocks.state l.initial.blocks).held (λ image. l.chunks.place + 16 + 24 * l.chunks.count ≤ length image → map entry_visit l.list.items ≡ listed_chunks image l.chunks.place l.position);
  count : length l.list.items ≡ l.position;
  near : All IsNear l.list.items;
}
