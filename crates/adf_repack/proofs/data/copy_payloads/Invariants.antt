use Rattle.std.proofs.Common.{◌+◌, ◌-◌, ◌≤◌, ◌≡◌, ℕ, List, Some, take, length}
use Rattle.adf_model.specs.Counts.{OnlyReads}
use Rattle.adf_records.specs.View.{record_of}
use Rattle.adf_repack.specs.Payloads.{payloads_until}
use Rattle.cg_io.specs.Pages.{IsReady}
use Rattle.adf_repack.specs.Writers.{IsWriter, appended_in, with_more, count_in, blocks_in, state_under, WritesBlocks, OnlyWrites}
use Rattle.adf_repack.proofs.data.copy_payloads.Given as goal

abbrev pub invariant-loop-number : goal.invariant-loop-number
invariant-loop-number g l = record {
  inside : l.left ≤ l.size;
  ready : IsReady (g.B.Blocks.is_sound l.blocks) (g.B.Blocks.state l.blocks).held l.page;
  reads : OnlyReads (g.B.Blocks.state l.initial.blocks) (g.B.Blocks.state l.blocks);
  sound : IsWriter g.E.Device.state l.writer;
  appended : (image : List ℕ) → (g.B.Blocks.state l.initial.blocks).held ≡ Some image
      → appended_in g.E.Device.state l.writer ≡ with_more (appended_in g.E.Device.state l.initial.writer) (take l.size (payloads_until image (record_of l.header) l.number));
  rest : (image : List ℕ) → (g.B.Blocks.state l.initial.blocks).held ≡ Some image → l.left ≡ l.size - length (payloads_until image (record_of l.header) l.number);
  count : count_in l.writer + l.left ≡ count_in l.initial.writer + l.size;
  wrote : WritesBlocks (blocks_in l.initial.writer) (blocks_in l.writer) (state_under g.E.Device.state l.initial.writer) (state_under g.E.Device.state l.writer);
  effect : OnlyWrites (state_under g.E.Device.state l.initial.writer) (state_under g.E.Device.state l.writer);
  later : (state_under g.E.Device.state l.initial.writer).faults ≤ (state_under g.E.Device.state l.writer).faults;
  lost : (state_under g.E.Device.state l.initial.writer).lost ≤ (state_under g.E.Device.state l.writer).lost;
}
