use Rattle.block_draft.proofs.Spaces.{loads_changed, loads_below}
use Rattle.block_draft.proofs.draft.Draft.load.Goals as goal

pub returns-then-copy-clause-told : goal.returns-then-copy-clause-told
returns-then-copy-clause-told g c = loads_changed (g.B.Blocks.state c.args.self.now.blocks).held c.args.self.now.changed c.args.n c.copy.new.into c.copy.ensures.valid (c.copy.ensures.found c.if-copy.true)

pub returns-in-Ok-clause-told : goal.returns-in-Ok-clause-told
returns-in-Ok-clause-told g c = loads_below (g.B.Blocks.state c.args.self.now.blocks).held c.args.self.now.changed c.args.n c.read_block.new.into c.copy.ensures.valid (c.copy.ensures.missed c.if-copy.false).0 c.in-Ok.ensures.told
