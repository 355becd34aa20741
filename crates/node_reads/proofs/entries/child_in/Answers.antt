use Rattle.std.proofs.Common.{◌*◌, ◌∙◌, ap}
use Rattle.node_reads.specs.Entries.{child_said}
use Rattle.node_reads.proofs.EntryLaws.{sliced}
use Rattle.node_reads.proofs.entries.child_in.Goals as goal

pub returns-clause-value : goal.returns-clause-value
returns-clause-value c = c.child_of.ensures.value ∙ ap child_said (sliced c.args.piece.now (44 * c.args.i) 44)
