use Rattle.std.proofs.Common.{length, ◌-◌, ◌≡◌, ◌⊎◌, ◌+◌, ◌%◌, ◌<◌, ◌≤◌, ℕ}
use Rattle.std.specs.Prelude.{IfSome, get_or}
use Rattle.cg_io.specs.Blocks.{ReadsFew, blocks_of}
use Rattle.cg_io.specs.Pages.{IsReady}
use Rattle.cg_io.proofs.pages.read_at.Given as goal

abbrev pub invariant-loop-done : goal.invariant-loop-done
invariant-loop-done g l = record {
  inside : l.done ≤ length l.into;
  ready : IsReady (g.B.Blocks.is_sound l.blocks) (g.B.Blocks.state l.blocks).held l.page;
  taken : IfSome (g.B.Blocks.state l.initial.blocks).held (λ bytes. (k : ℕ) → k < l.done → get_or l.into k 0 ≡ get_or bytes (l.place + k) 0);
  effect : ReadsFew (blocks_of l.place l.done) (g.B.Blocks.state l.initial.blocks) (g.B.Blocks.state l.blocks);
  edge : (l.done ≡ 0) ⊎ (l.done ≡ length l.into) ⊎ ((l.place + l.done) % 4096 ≡ 0);
}

abbrev pub decreases-loop-done : goal.decreases-loop-done
decreases-loop-done g l = length l.into - l.done
