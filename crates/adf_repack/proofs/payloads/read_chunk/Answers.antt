use Rattle.std.proofs.Common.{arith}
use Rattle.adf_records.specs.View.{record_of}
use Rattle.adf_repack.proofs.PayloadLaws.{chunk_listed}
use Rattle.adf_repack.proofs.payloads.read_chunk.Goals as goal

pub returns-in-Some-clause-told : goal.returns-in-Some-clause-told
returns-in-Some-clause-told g c =
    chunk_listed (g.B.Blocks.state c.args.blocks.now).held (record_of c.args.header.now) c.args.number _ c.in-Some.chunk c.in-Ok.entry c.if-header-eq1.false (omega arith) c.in-Ok.ensures.told c.in-Ok.ensures.long c.in-Some.ensures.value.1
