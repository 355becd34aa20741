use Rattle.block_cache.proofs.Kept.{lookup-gone}
use Rattle.block_cache.proofs.entries.Kept.forget.Goals as goal

pub returns-clause-gone : goal.returns-clause-gone
returns-clause-gone c = rw c.pop.ensures.entries (lookup-gone c.args.n c.self.inside.blocks.entries c.len.ensures.valid.0)
