use Rattle.adf_repack.proofs.VerdictLaws.{headers_near, parents_there}
use Rattle.repack_tests.proofs.copies.pack_found.Goals as goal

pub write_packed-requires-clause-near : goal.write_packed-requires-clause-near
write_packed-requires-clause-near g c = headers_near c.in-Ok-Sound.nodes _ _ c.in-Ok-Sound.wide (rw c.in-Ok-Sound.field-0-is at c.in-Ok-Sound.ensures.shape)

pub write_packed-requires-clause-parents : goal.write_packed-requires-clause-parents
write_packed-requires-clause-parents g c = parents_there c.in-Ok-Sound.nodes _ _ c.in-Ok-Sound.wide (rw c.in-Ok-Sound.field-0-is at c.in-Ok-Sound.ensures.shape)
