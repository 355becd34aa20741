use Rattle.std.proofs.Common.{◌≡◌, Some, List, ℕ, sym, subst}
use Rattle.std.specs.Ordering.{nat_cmp}
use Rattle.std.specs.BTreeMap.{is_at}
use Rattle.block_draft.specs.Changes.{Puts, block_in}
use Rattle.block_draft.proofs.Image.{patches, patched_size, sized-set}
use Rattle.block_draft.proofs.changes.Changes.patch.Goals as goal

pub invariant_of-self : goal.invariant_of-self
invariant_of-self c = rw c.get_mut.follows.holds-at-none c.self.invariant

pub invariant_of-self-2 : goal.invariant_of-self-2
invariant_of-self-2 c = let writes = c.get_mut.follows.holds c.patch.new.self in record {
  sizes = rw writes.0 (sized-set c.self.inside.blocks.entries (is_at (nat_cmp c.args.n)) c.patch.new.self c.self.invariant.sizes
      (patched_size c.self.inside.blocks.entries c.args.n c.args.start c.in-Some.block.now c.args.from.now c.patch.new.self c.self.invariant.sizes (sym c.in-Some.ensures.value) c.requires c.patch.ensures));
  ascend = writes.4;
}

pub returns-clause-patched : goal.returns-clause-patched
returns-clause-patched c = let found : block_in c.self.inside.blocks.entries c.args.n ≡ Some c.in-Some.block.now = sym c.in-Some.ensures.value in
    λ _. rw (← c.self.view_is, found) (subst (λ (b : List ℕ). Puts c.args.n b c.self.inside.blocks.entries (c.get_mut.follows.lender c.patch.new.self).entries) c.patch.ensures
    (patches c.self.inside.blocks (c.get_mut.follows.lender c.patch.new.self) c.args.n c.in-Some.block.now c.patch.new.self c.self.invariant.sizes found (c.get_mut.follows.holds c.patch.new.self)))

pub returns-clause-valid : goal.returns-clause-valid
returns-clause-valid c = invariant_of-self-2 c
