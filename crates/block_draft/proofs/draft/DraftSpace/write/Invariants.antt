use Rattle.std.proofs.Common.{length, ◌-◌, ◌≡◌, ◌⊎◌, ◌+◌, ◌%◌, ◌≤◌, take}
use Rattle.cg_io.specs.Blocks.{ReadsFew, blocks_of, Both, Wrote}
use Rattle.block_draft.specs.Changes.{image_of, ChangesWithin}
use Rattle.block_draft.proofs.draft.DraftSpace.write.Given as goal

abbrev pub invariant-loop-done : goal.invariant-loop-done
invariant-loop-done g l = record {
  inside : l.done ≤ length l.from;
  sound : g.B.Blocks.is_sound l.self.blocks;
  wrote : Both (Wrote l.place (take l.done l.from)) (image_of (g.B.Blocks.state l.initial.self.blocks).held l.initial.self.changed) (image_of (g.B.Blocks.state l.self.blocks).held l.self.changed);
  effect : ReadsFew (blocks_of l.place l.done) (g.B.Blocks.state l.initial.self.blocks) (g.B.Blocks.state l.self.blocks);
  within : ChangesWithin l.place l.done l.initial.self.changed l.self.changed;
  edge : (l.done ≡ 0) ⊎ (l.done ≡ length l.from) ⊎ ((l.place + l.done) % 4096 ≡ 0);
}

abbrev pub decreases-loop-done : goal.decreases-loop-done
decreases-loop-done g l = length l.from - l.done
