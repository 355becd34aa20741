use Rattle.std.proofs.Common.{inl}
use Rattle.block_cache.proofs.Kept.{put_first}
use Rattle.block_cache.proofs.entries.put_first.Goals as goal

pub returns-in-Ok-Some-clause-touched : goal.returns-in-Ok-Some-clause-touched
returns-in-Ok-Some-clause-touched c = inl (rw c.in-Ok-Some.ensures.entries (put_first c.args.blocks.now c.args.n c.args.block c.len.ensures.valid.1 c.len.ensures.valid.2))

pub returns-in-Ok-None-clause-touched : goal.returns-in-Ok-None-clause-touched
returns-in-Ok-None-clause-touched c = inl (rw c.in-Ok-None.ensures.entries (put_first c.args.blocks.now c.args.n c.args.block c.len.ensures.valid.1 c.len.ensures.valid.2))
