use Rattle.std.proofs.Common.{◌≡◌, ℕ, List, Option, ◌≤◌, ◌+◌, length}
use Rattle.std.specs.BTreeMap.{btree_map_len}
use Rattle.adf_model.specs.Counts.{raised_by}
use Rattle.block_draft.specs.Changes.{image_of, IsPartWritten}
use Rattle.block_draft.proofs.draft.write_all.Given as goal

abbrev pub invariant-loop-number : goal.invariant-loop-number
invariant-loop-number g l = record {
  sound : g.B.Blocks.is_sound l.blocks;
  written : image_of (g.B.Blocks.state l.blocks).held l.changes.entries ≡ image_of (g.B.Blocks.state l.initial.blocks).held l.initial.changes.entries;
  count : raised_by (length l.changes.entries) (g.B.Blocks.state l.blocks).writes ≡ raised_by (length l.initial.changes.entries) (g.B.Blocks.state l.initial.blocks).writes;
  torn : (new : Option (List ℕ)) (now : ℕ) → IsPartWritten (g.B.Blocks.state l.blocks).held (g.B.Blocks.state l.blocks).writes l.changes.entries new now
      → IsPartWritten (g.B.Blocks.state l.initial.blocks).held (g.B.Blocks.state l.initial.blocks).writes l.initial.changes.entries new now;
  few : (g.B.Blocks.state l.blocks).writes + length l.changes.entries ≤ (g.B.Blocks.state l.initial.blocks).writes + length l.initial.changes.entries;
  reads : (g.B.Blocks.state l.blocks).reads ≡ (g.B.Blocks.state l.initial.blocks).reads;
  faults : (g.B.Blocks.state l.initial.blocks).faults ≤ (g.B.Blocks.state l.blocks).faults;
  lost : (g.B.Blocks.state l.initial.blocks).lost ≤ (g.B.Blocks.state l.blocks).lost;
}

abbrev pub decreases-loop-number : goal.decreases-loop-number
decreases-loop-number g l = btree_map_len l.changes
