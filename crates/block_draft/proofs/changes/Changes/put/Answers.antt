use Rattle.std.proofs.Common.{◌∙◌, ap, length, List, ℕ}
use Rattle.block_draft.proofs.Image.{puts, sized-insert}
use Rattle.block_draft.proofs.changes.Changes.put.Goals as goal

pub invariant_of-self : goal.invariant_of-self
invariant_of-self c = record {
  sizes = rw c.in-Ok.ensures.entries (sized-insert c.self.inside.blocks.entries c.args.n c.in_ok-bytes.bytes.value c.self.invariant.sizes (ap (λ (b : List ℕ). length b) c.in_ok-bytes.ensures.ok ∙ c.told-block));
  ascend = c.insert.ensures.ordered;
}

pub returns-in-Ok-clause-ok : goal.returns-in-Ok-clause-ok
returns-in-Ok-clause-ok c = rw (← c.self.view_is) (puts c.self.inside.blocks c.insert.new.self c.args.n c.in_ok-bytes.bytes.value c.args.block.now c.in_ok-bytes.ensures.ok c.in-Ok.ensures.updates c.in-Ok.ensures.entries)

pub returns-in-Ok-clause-valid : goal.returns-in-Ok-clause-valid
returns-in-Ok-clause-valid c = invariant_of-self c
