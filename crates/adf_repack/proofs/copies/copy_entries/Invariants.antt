use Rattle.std.proofs.Common.{◌+◌, ◌*◌, ◌≤◌, ◌≡◌, ℕ, List, Some, take, drop}
use Rattle.adf_model.specs.Counts.{OnlyReads}
use Rattle.layout_lint.specs.Nodes.{table_of}
use Rattle.adf_repack.specs.Families.{children_of, IsChain}
use Rattle.cg_io.specs.Pages.{IsReady}
use Rattle.adf_repack.specs.Copies.{copied_entries}
use Rattle.adf_repack.specs.Writers.{IsWriter, appended_in, with_more, count_in, blocks_in, state_under, WritesBlocks, OnlyWrites}
use Rattle.adf_repack.proofs.copies.copy_entries.Given as goal

abbrev pub invariant-loop-done : goal.invariant-loop-done
invariant-loop-done g l = record {
  ready : IsReady (g.B.Blocks.is_sound l.blocks) (g.B.Blocks.state l.blocks).held l.page;
  reads : OnlyReads (g.B.Blocks.state l.initial.blocks) (g.B.Blocks.state l.blocks);
  sound : IsWriter g.E.Device.state l.writer;
  list : IsChain l.families.next.items l.child (drop l.done (children_of l.nodes l.number));
  appended : (image : List ℕ) → (g.B.Blocks.state l.initial.blocks).held ≡ Some image
      → appended_in g.E.Device.state l.writer ≡ with_more (appended_in g.E.Device.state l.initial.writer) (copied_entries image (table_of l.header) l.nodes l.headers (take l.done (children_of l.nodes l.number)));
  count : count_in l.writer ≡ count_in l.initial.writer + 44 * l.done;
  wrote : WritesBlocks (blocks_in l.initial.writer) (blocks_in l.writer) (state_under g.E.Device.state l.initial.writer) (state_under g.E.Device.state l.writer);
  effect : OnlyWrites (state_under g.E.Device.state l.initial.writer) (state_under g.E.Device.state l.writer);
  later : (state_under g.E.Device.state l.initial.writer).faults ≤ (state_under g.E.Device.state l.writer).faults;
  lost : (state_under g.E.Device.state l.initial.writer).lost ≤ (state_under g.E.Device.state l.writer).lost;
}
