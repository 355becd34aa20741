use Rattle.tree_laws.proofs.Data.DataFields.{shape_written, chunks_written}
use Rattle.tree_laws.proofs.data_laws.data_fields_written.Goals as goal

pub returns-clause-shape : goal.returns-clause-shape
returns-clause-shape c = shape_written

pub returns-clause-chunks : goal.returns-clause-chunks
returns-clause-chunks c = chunks_written
