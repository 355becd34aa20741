use Rattle.std.proofs.Common.{◌*◌, ◌∙◌, ap}
use Rattle.node_reads.specs.Entries.{chunk_said}
use Rattle.node_reads.proofs.EntryLaws.{sliced}
use Rattle.node_reads.proofs.chunks.chunk_in.Goals as goal

pub returns-clause-value : goal.returns-clause-value
returns-clause-value c = c.chunk_of.ensures.value ∙ ap chunk_said (sliced c.args.piece.now (24 * c.args.i) 24)
