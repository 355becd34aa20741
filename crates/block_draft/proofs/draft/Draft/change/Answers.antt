use Rattle.std.proofs.Common.{length, refl}
use Rattle.block_draft.proofs.Spaces.{changes_part, patches_part, loads_below, unequal}
use Rattle.block_draft.proofs.draft.Draft.change.Goals as goal

pub returns-then-patch-clause-written : goal.returns-then-patch-clause-written
returns-then-patch-clause-written g c = (patches_part (g.B.Blocks.state c.args.self.now.blocks).held _ c.args.self.now.changed c.patch.new.self c.args.n c.args.start c.args.from.now
    c.patch.ensures.was c.patch.ensures.valid c.requires.some c.requires.within refl (c.patch.ensures.found c.if-patch.true) (c.patch.ensures.patched c.if-patch.true)).0

pub returns-then-patch-clause-only : goal.returns-then-patch-clause-only
returns-then-patch-clause-only g c = (patches_part (g.B.Blocks.state c.args.self.now.blocks).held _ c.args.self.now.changed c.patch.new.self c.args.n c.args.start c.args.from.now
    c.patch.ensures.was c.patch.ensures.valid c.requires.some c.requires.within refl (c.patch.ensures.found c.if-patch.true) (c.patch.ensures.patched c.if-patch.true)).1

pub returns-in-Ok-put-clause-written : goal.returns-in-Ok-put-clause-written
returns-in-Ok-put-clause-written g c = let missed = c.patch.ensures.missed c.if-patch.false in
    rw c.in-Ok.ensures.effect.held (changes_part (g.B.Blocks.state c.args.self.now.blocks).held c.args.self.now.changed c.put.new.self c.args.n c.args.start c.args.from.now c.fetch.new.into c.patch-2.new.block
    c.patch.ensures.was c.put.ensures.valid c.requires.some c.requires.within c.fetch.array_long
    (λ part. loads_below (g.B.Blocks.state c.args.self.now.blocks).held c.args.self.now.changed c.args.n c.fetch.new.into c.patch.ensures.was missed.0 (c.in-Ok.ensures.told (unequal (length c.args.from.now) 4096 part)))
    c.patch-2.ensures (rw (c.in-Ok.ensures.changed, missed.1) at c.in-Ok-put.ensures.ok))
