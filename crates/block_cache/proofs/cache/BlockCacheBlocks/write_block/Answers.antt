use Rattle.std.proofs.Common.{arith}
use Rattle.block_cache.proofs.Kept.{distinct-removed, removed_fits}
use Rattle.block_cache.proofs.Copies.{bounded_touched, copies_torn, copies_written, distinct_touched}
use Rattle.block_cache.proofs.cache.BlockCacheBlocks.write_block.Goals as goal

pub returns-in-Ok-clause-sound : goal.returns-in-Ok-clause-sound
returns-in-Ok-clause-sound g c = record {
  copies = copies_written _ _ _ c.args.n c.args.from.now _ _ c.told-from c.requires.copies c.in-Ok.ensures.written c.keep.ensures.touched;
  distinct = distinct_touched _ _ _ _ c.requires.distinct c.keep.ensures.touched;
  bounded = rw c.keep.ensures.cap (bounded_touched _ _ _ _ c.requires.bounded c.keep.ensures.touched);
}

pub returns-in-Err-clause-sound : goal.returns-in-Err-clause-sound
returns-in-Err-clause-sound g c = record {
  copies = copies_torn _ _ c.args.n _ _ c.requires.copies c.in-Err.ensures.torn c.forget.ensures.others c.forget.ensures.gone;
  distinct = rw c.forget.ensures.others (distinct-removed c.args.n c.args.self.now.blocks.entries c.requires.distinct);
  bounded = let fits = removed_fits c.args.n c.args.self.now.blocks.entries in let within = c.requires.bounded in rw (c.forget.ensures.cap, c.forget.ensures.others) (omega arith);
}
