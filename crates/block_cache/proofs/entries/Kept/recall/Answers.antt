use Rattle.std.proofs.Common.{sym}
use Rattle.block_cache.proofs.Kept.{promoted_first}
use Rattle.block_cache.proofs.entries.Kept.recall.Goals as goal

pub returns-in-Some-clause-first : goal.returns-in-Some-clause-first
returns-in-Some-clause-first c = λ _. rw (← c.self.view_is, c.promote.ensures.entries, c.bytes.ensures) (promoted_first c.args.n c.self.inside.blocks.cap c.in-Some.block.now c.self.inside.blocks.entries c.len.ensures.valid.1 (sym c.in-Some.ensures))
