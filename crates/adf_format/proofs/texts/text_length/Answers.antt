use Rattle.std.proofs.Common.{sym, ◌∙◌, ◌-◌, arith}
use Rattle.adf_format.proofs.TextLaws.{cut_space, kept_end}
use Rattle.adf_format.proofs.texts.text_length.Goals as goal

pub returns-then-bytes-n-ne32-clause-text : goal.returns-then-bytes-n-ne32-clause-text
returns-then-bytes-n-ne32-clause-text c =
    sym (kept_end c.args.bytes.now c.loop-n.n (c.loop-n.n - 1) (omega arith) (omega arith) c.if-bytes-n-ne32.true) ∙ c.loop-n.invariant.same

pub loop-n-preserved : goal.loop-n-preserved
loop-n-preserved c = record {
  within = omega arith;
  same = sym (cut_space c.args.bytes.now c.loop-n.n (c.loop-n.n - 1) (omega arith) (omega arith) c.if-bytes-n-ne32.false) ∙ c.loop-n.invariant.same;
}
