use Rattle.std.proofs.Common.{◌≡◌, ◌+◌, ◌*◌, ◌∙◌, ap, sym, subst, arith, List, ℕ, length, take_all, IfSome, Option}
use Rattle.adf_repack.specs.Writers.{with_more}
use Rattle.adf_repack.proofs.WriterLaws.{more_none, written_behind, longer_by_block}
use Rattle.adf_repack.proofs.writer.BlockWriter.write_block.Goals as goal

written : goal.returns-in-Ok-clause-held
written g c = c.in-Ok.ensures.written ∙ written_behind (g.E.Device.state c.args.self.now.device).held c.args.self.now.blocks c.args.self.now.tail.block c.requires.whole
    ∙ ap (with_more (g.E.Device.state c.args.self.now.device).held) (sym (take_all c.args.self.now.tail.filled c.args.self.now.tail.block (omega arith)))

pub returns-in-Ok-clause-held : goal.returns-in-Ok-clause-held
returns-in-Ok-clause-held g c = written g c

pub returns-in-Ok-clause-appended : goal.returns-in-Ok-clause-appended
returns-in-Ok-clause-appended g c = more_none (g.E.Device.state c.write_block.new.self).held ∙ written g c

pub returns-in-Ok-clause-whole : goal.returns-in-Ok-clause-whole
returns-in-Ok-clause-whole g c = subst (λ (h : Option (List ℕ)). IfSome h (λ held. length held ≡ (c.args.self.now.blocks + 1) * 4096))
    (sym (c.in-Ok.ensures.written ∙ written_behind (g.E.Device.state c.args.self.now.device).held c.args.self.now.blocks c.args.self.now.tail.block c.requires.whole))
    (longer_by_block (g.E.Device.state c.args.self.now.device).held c.args.self.now.blocks c.args.self.now.tail.block (omega arith) c.requires.whole)
