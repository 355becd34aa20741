use Rattle.std.proofs.Common.{◌≡◌, ◌+◌, ◌-◌, ◌*◌, ◌≤◌, ℕ, List, map, length}
use Rattle.std.specs.List.{range_with_len}
use Rattle.std.specs.Ordering.{nat_cmp}
use Rattle.std.specs.Cmp.Lexicographic.{slice_cmp}
use Rattle.layout_lint.specs.Keys.{contains}
use Rattle.cg_io.specs.Blocks.{ReadsFew}
use Rattle.adf_format.specs.Checks.{first_broken}
use Rattle.adf_format.specs.FirstFault.{entry_rows}
use Rattle.cg_io.specs.Answers.{Told}
use Rattle.cg_io.specs.Pages.{IsReady}
use Rattle.layout_lint.specs.Entries.{is_repeated, entry_row}
use Rattle.layout_lint.proofs.entries.look_at_entries.Given as goal

abbrev pub invariant-loop-position : goal.invariant-loop-position
invariant-loop-position g l = record {
  ready : IsReady (g.B.Blocks.is_sound l.blocks) (g.B.Blocks.state l.blocks).held l.page;
  effect : ReadsFew (2 * l.position) (g.B.Blocks.state l.initial.blocks) (g.B.Blocks.state l.blocks);
  rest : Told (g.B.Blocks.state l.initial.blocks).held (λ image. l.table.place + 16 + 44 * l.children ≤ length image
      → first_broken (entry_rows image l.table.place l.children) ≡ first_broken (map (entry_row image l.table.place) (range_with_len l.position (l.children - l.position))));
  names : Told (g.B.Blocks.state l.initial.blocks).held (λ image. l.table.place + 16 + 44 * l.children ≤ length image
      → (q : List ℕ) → contains (slice_cmp nat_cmp) l.names q ≡ is_repeated image l.table.place l.position q);
}
