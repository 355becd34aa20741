use Rattle.node_reads.proofs.HeaderLaws.{fields_read}
use Rattle.node_reads.proofs.laws.fields_are_read.Goals as goal

pub returns : goal.returns
returns c = fields_read
