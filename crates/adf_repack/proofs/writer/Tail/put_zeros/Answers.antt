use Rattle.std.proofs.Common.{◌-◌, arith, refl, replicate}
use Rattle.adf_repack.proofs.WriterLaws.{zeros_put}
use Rattle.adf_repack.proofs.writer.Tail.put_zeros.Goals as goal

pub returns-clause-bytes : goal.returns-clause-bytes
returns-clause-bytes c = zeros_put _ _ (replicate 4096 0) 4096 c.put.result (4096 - c.args.self.now.filled) refl c.put.ensures.count (omega arith) c.put.ensures.bytes
