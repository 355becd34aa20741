use Rattle.std.proofs.Common.{◌≡◌, ◌∙◌, ap, sym, subst, arith, List, ℕ, length, take, Option, OnOk, length-take, ◌<◌}
use Rattle.std.specs.Option.{option_map}
use Rattle.adf_repack.specs.Writers.{with_more, tail_bytes, in_blocks}
use Rattle.adf_repack.proofs.WriterLaws.{more_none, whole_blocks, zeros_behind}
use Rattle.adf_repack.proofs.writer.BlockWriter.finish.Goals as goal

pub returns-then-self-eq0-clause-held : goal.returns-then-self-eq0-clause-held
returns-then-self-eq0-clause-held g c =
    let held : Option (List ℕ) = (g.E.Device.state c.args.self.now.device).held in
    whole_blocks held c.args.self.now.blocks c.requires.sound.whole
    ∙ ap (option_map in_blocks) (sym (ap (λ (n : ℕ). with_more held (take n c.args.self.now.tail.block)) c.if-self-eq0.true ∙ more_none held))

pub returns-clause-held : goal.returns-clause-held
returns-clause-held g c =
    let held : Option (List ℕ) = (g.E.Device.state c.args.self.now.device).held in
    let some : 0 < c.args.self.now.tail.filled = omega arith in
    let long : length (tail_bytes c.args.self.now.tail) ≡ c.args.self.now.tail.filled = omega (arith, length-take c.args.self.now.tail.filled c.args.self.now.tail.block) in
    subst (λ (x : Option (List ℕ)). OnOk c.write_block.result ((g.E.Device.state c.write_block.new.self.device).held ≡ x))
    (ap (with_more held) c.put_zeros.ensures.bytes ∙ zeros_behind held c.args.self.now.blocks c.args.self.now.tail.filled (tail_bytes c.args.self.now.tail) c.requires.sound.whole long some (omega arith))
    c.write_block.ensures.held
