use Rattle.std.proofs.Common.{inl}
use Rattle.block_cache.specs.Cache.{IsTouched}
use Rattle.block_cache.proofs.Copies.{bounded_touched, copies_touched, distinct_touched}
use Rattle.block_cache.proofs.cache.BlockCacheBlocks.read_block.Goals as goal

pub returns-then-recall-clause-sound : goal.returns-then-recall-clause-sound
returns-then-recall-clause-sound g c = let touched : IsTouched c.args.self.now.blocks.cap (c.args.n, c.recall.new.into) c.args.self.now.blocks.entries c.recall.new.self.entries = inl (c.recall.ensures.first c.if-recall.true) in record {
  copies = copies_touched _ _ c.args.n c.recall.new.into _ _ c.requires.copies (c.requires.copies.copies c.args.n c.recall.new.into (c.recall.ensures.found c.if-recall.true)) touched;
  distinct = distinct_touched _ _ _ _ c.requires.distinct touched;
  bounded = rw c.recall.ensures.cap (bounded_touched _ _ _ _ c.requires.bounded touched);
}

pub returns-in-Ok-clause-sound : goal.returns-in-Ok-clause-sound
returns-in-Ok-clause-sound g c =
    let missed = (c.recall.ensures.missed c.if-recall.false).1 in
    let touched : IsTouched c.args.self.now.blocks.cap (c.args.n, c.read_block.new.into) c.args.self.now.blocks.entries c.keep.new.self.entries = rw missed at c.keep.ensures.touched in record {
      copies = rw c.in-Ok.ensures.effect.held (copies_touched (g.D.Device.state c.args.self.now.device).held _ c.args.n c.read_block.new.into _ _ c.requires.copies c.in-Ok.ensures.told touched);
      distinct = distinct_touched _ _ _ _ c.requires.distinct touched;
      bounded = rw (c.keep.ensures.cap, c.recall.ensures.cap) (bounded_touched _ _ _ _ c.requires.bounded touched);
    }
