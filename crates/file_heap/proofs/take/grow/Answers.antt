use Rattle.std.proofs.Common.{◌+◌}
use Rattle.file_heap.proofs.SpaceLaws.{grown_threads}
use Rattle.file_heap.proofs.take.grow.Goals as goal

pub returns-clause-threads : goal.returns-clause-threads
returns-clause-threads g c = grown_threads (c.args.end.now + c.args.n) (g.S.ReadBytes.image c.args.space.now) (g.S.ReadBytes.image c.write_link.new.space) c.in_ok-write_link.ensures.written
