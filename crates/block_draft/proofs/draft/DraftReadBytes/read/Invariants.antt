use Rattle.std.proofs.Common.{length, ◌-◌, ◌≡◌, ◌⊎◌, ◌+◌, ◌%◌, ◌<◌, ◌≤◌, ℕ}
use Rattle.std.specs.Prelude.{IfSome, get_or}
use Rattle.cg_io.specs.Blocks.{ReadsFew, blocks_of}
use Rattle.block_draft.specs.Changes.{image_of}
use Rattle.block_draft.proofs.draft.DraftReadBytes.read.Given as goal

abbrev pub invariant-loop-done : goal.invariant-loop-done
invariant-loop-done g l = record {
  inside : l.done ≤ length l.into;
  sound : g.B.Blocks.is_sound l.self.blocks;
  changed : l.self.changed ≡ l.initial.self.changed;
  taken : IfSome (image_of (g.B.Blocks.state l.initial.self.blocks).held l.initial.self.changed) (λ bytes. (k : ℕ) → k < l.done → get_or l.into k 0 ≡ get_or bytes (l.place + k) 0);
  effect : ReadsFew (blocks_of l.place l.done) (g.B.Blocks.state l.initial.self.blocks) (g.B.Blocks.state l.self.blocks);
  edge : (l.done ≡ 0) ⊎ (l.done ≡ length l.into) ⊎ ((l.place + l.done) % 4096 ≡ 0);
}

abbrev pub decreases-loop-done : goal.decreases-loop-done
decreases-loop-done g l = length l.into - l.done
