use Rattle.std.proofs.Common.{sym}
use Rattle.block_cache.proofs.Kept.{written_first}
use Rattle.block_cache.proofs.entries.Kept.replace.Goals as goal

pub returns-clause-first : goal.returns-clause-first
returns-clause-first c = λ _. rw (← c.self.view_is, c.promote.ensures.entries, c.write.ensures)
    (written_first c.args.n c.self.inside.blocks.cap c.in-Some.block.now c.args.from.now c.self.inside.blocks.entries c.len.ensures.valid.1 (sym c.in-Some.ensures.value))
